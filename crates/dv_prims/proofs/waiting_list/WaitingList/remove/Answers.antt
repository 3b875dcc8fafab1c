use Rattle.std.proofs.Common.{◌≡◌, ℕ, List, true, false, ap, sym, ◌∙◌, subst}
use Rattle.dv_prims.specs.Tokens.{is_waiting, without}
use Rattle.dv_prims.specs.Tickets.{AreBelow, waiting_of}
use Rattle.dv_prims.proofs.WaitingLemmas.{IsAway, IsLeaving, away_is, below_without, holds_it, kept_less, leaving_is}
use Rattle.dv_prims.proofs.waiting_list.WaitingList.remove.Goals as goal

pub returns-in_default-clause-waited : goal.returns-in_default-clause-waited
returns-in_default-clause-waited c =
    let kept = c.self.inside in
    let away = subst (λ (n : ℕ). IsAway n (waiting_of kept.order.entries)) c.number-number.ensures
    (away_is kept.order kept.tickets kept.given c.number-number.result c.self.invariant c.in_default.ensures) in
    subst (λ (ws : List ℕ). false ≡ is_waiting c.args.id ws) c.self.view_is (sym away.waits)

pub returns-in_default-clause-rest : goal.returns-in_default-clause-rest
returns-in_default-clause-rest c =
    let kept = c.self.inside in
    let away = subst (λ (n : ℕ). IsAway n (waiting_of kept.order.entries)) c.number-number.ensures
    (away_is kept.order kept.tickets kept.given c.number-number.result c.self.invariant c.in_default.ensures) in
    subst (λ (ws : List ℕ). ws ≡ without c.args.id ws) c.self.view_is (sym away.left)

pub invariant_of-self : goal.invariant_of-self
invariant_of-self c =
    let kept = c.self.inside in
    let held = holds_it kept.order kept.tickets kept.given c.number-number.result c.in-Some.ticket c.self.invariant
    c.in-Some.ensures.0 in
    let below = subst (AreBelow kept.given) (sym c.remove-2.ensures.entries)
    (below_without kept.given c.in-Some.ticket kept.order.entries c.self.invariant.below) in
    kept_less kept.order c.remove-2.new.self kept.tickets c.remove.new.self kept.given c.number-number.result
    c.in-Some.ticket c.self.invariant below held c.remove-2.ensures.ordered c.remove-2.ensures.updates.0
    c.remove.ensures.updates.0

pub returns-clause-waited : goal.returns-clause-waited
returns-clause-waited c =
    let kept = c.self.inside in
    let leaving = subst (λ (n : ℕ). IsLeaving n c.in-Some.ticket kept.order.entries) c.number-number.ensures (leaving_is
    kept.order kept.tickets kept.given c.number-number.result c.in-Some.ticket c.self.invariant c.in-Some.ensures) in
    subst (λ (ws : List ℕ). true ≡ is_waiting c.args.id ws) c.self.view_is (sym leaving.waits)

pub returns-clause-rest : goal.returns-clause-rest
returns-clause-rest c =
    let kept = c.self.inside in
    let leaving = subst (λ (n : ℕ). IsLeaving n c.in-Some.ticket kept.order.entries) c.number-number.ensures (leaving_is
    kept.order kept.tickets kept.given c.number-number.result c.in-Some.ticket c.self.invariant c.in-Some.ensures) in
    ap waiting_of c.remove-2.ensures.entries ∙ leaving.left ∙ ap (without c.args.id) c.self.view_is
