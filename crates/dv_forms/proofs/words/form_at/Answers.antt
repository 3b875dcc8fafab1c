use Rattle.std.proofs.Common.{◌≡◌, ℕ, true, nat_eq, length, refl, sym, arith}
use Rattle.std.proofs.lemmas.Bool.{ltb-true}
use Rattle.std.proofs.lemmas.Bool.Decides.{nat_tests}
use Rattle.dv_forms.specs.Words.{seen}
use Rattle.dv_forms.proofs.RowLemmas.{row_stands, row_wants}
use Rattle.dv_forms.proofs.words.form_at.Goals as goal

same_number : (n : ℕ) → nat_eq n n ≡ true
same_number n = grind (arith, nat_tests)

pub returns-then-eq-clause-wants : goal.returns-then-eq-clause-wants
returns-then-eq-clause-wants g c =
    let form = c.in_ok-form.form.now in
    let lookup = c.in_ok-form.ensures.lookup in
    let given : nat_eq (length form.2.now) c.args.given ≡ true = rw c.if-form-given.true (same_number c.args.given) in
    row_wants seen c.args.forms.now c.args.row form c.args.word.now c.args.given c.requires.apart
    (ltb-true c.args.row (length c.args.forms.now) (sym lookup.0)) lookup.1 (rw (← c.if-eq.ensures, given) refl)

pub returns-then-eq-clause-since : goal.returns-then-eq-clause-since
returns-then-eq-clause-since g c =
    let form = c.in_ok-form.form.now in
    let lookup = c.in_ok-form.ensures.lookup in
    λ version late. row_stands seen c.args.forms.now c.args.row form c.args.word.now version
    (ltb-true c.args.row (length c.args.forms.now) (sym lookup.0)) lookup.1 (sym c.if-eq.ensures) late
