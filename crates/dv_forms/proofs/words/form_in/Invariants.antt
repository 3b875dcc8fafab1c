use Rattle.std.proofs.Common.{◌≡◌, ℕ, true, drop, map}
use Rattle.dv_forms.specs.Words.{wants_in, has_word, seen}
use Rattle.dv_forms.proofs.words.form_in.Given as goal

abbrev pub invariant-loop-form : goal.invariant-loop-form
invariant-loop-form g l =
    (wants_in (map seen (drop l.form-index l.forms)) l.word l.given ≡ wants_in (map seen l.forms) l.word l.given)
    × ((version : ℕ) → has_word (map seen (drop l.form-index l.forms)) l.word version ≡ true
    → has_word (map seen l.forms) l.word version ≡ true)
