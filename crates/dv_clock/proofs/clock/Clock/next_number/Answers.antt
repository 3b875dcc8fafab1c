use Rattle.std.proofs.Common.{◌≡◌, ◌<◌, ◌≤◌, true, false, sym, subst}
use Rattle.dv_clock.specs.Clock.{Clock, IsIndexOf}
use Rattle.dv_clock.proofs.NextLemmas.{none_is_next, next_is_later, next_is_due}
use Rattle.dv_clock.proofs.clock.Clock.next_number.Goals as goal

pub returns-in-None : goal.returns-in-None
returns-in-None c =
    let ok = subst (λ (v : Clock). IsIndexOf c.self.inside.waiting v.calls) c.self.view_is c.self.invariant.1 in
    sym (none_is_next c.args.self.now c.self.inside.waiting ok (λ h. let e : false ≡ true =
    c.in-None.ensures.variant.1 h in absurd cc))

pub returns-then-self-due : goal.returns-then-self-due
returns-then-self-due c =
    let ok = subst (λ (v : Clock). IsIndexOf c.self.inside.waiting v.calls) c.self.view_is c.self.invariant.1 in
    let late = subst (λ (v : Clock). v.time < c.in-Some.field-0.now.0) c.self.view_is c.if-self-due.true in
    sym (next_is_later c.args.self.now c.self.inside.waiting c.in-Some.field-0.now ok c.in-Some.ensures.member
    c.in-Some.ensures.least late)

pub returns-else-self-due : goal.returns-else-self-due
returns-else-self-due c =
    let ok = subst (λ (v : Clock). IsIndexOf c.self.inside.waiting v.calls) c.self.view_is c.self.invariant.1 in
    let soon = subst (λ (v : Clock). c.in-Some.field-0.now.0 ≤ v.time) c.self.view_is c.if-self-due.false in
    sym (next_is_due c.args.self.now c.self.inside.waiting c.in-Some.field-0.now ok c.in-Some.ensures.member
    c.in-Some.ensures.least soon)
