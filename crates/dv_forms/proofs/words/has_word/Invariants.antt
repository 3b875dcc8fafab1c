use Rattle.std.proofs.Common.{◌≡◌, drop, map}
use Rattle.dv_forms.specs.Words.{has_word, seen}
use Rattle.dv_forms.proofs.words.has_word.Given as goal

abbrev pub invariant-loop-form : goal.invariant-loop-form
invariant-loop-form g l =
    has_word (map seen (drop l.form-index l.forms)) l.word l.version ≡ has_word (map seen l.forms) l.word l.version
