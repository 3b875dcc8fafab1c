use Rattle.std.proofs.Common.{◌≡◌, ℕ, Some, List, sym, ap, ◌∙◌, subst}
use Rattle.dv_clock.specs.Clock.{Clock, due_of, moved}
use Rattle.dv_clock.specs.declared.call.Call.{Call}
use Rattle.dv_clock.proofs.CallsLemmas.{waits_for, moved_index, moved_calls, moved_same, on_ok}
use Rattle.dv_clock.proofs.clock.Clock.move_call.Goals as goal

pub invariant_of-self-else-before-due : goal.invariant_of-self-else-before-due
invariant_of-self-else-before-due c =
    let before = c.in-Some.before in
    let waits = waits_for c.self.inside.calls.items c.args.number before c.index_mut.result.now
    (subst (λ (v : Clock). Some before ≡ due_of c.args.number v.calls) (sym c.self.view_is) c.in-Some.ensures)
    c.index_mut.ensures.value in (
      c.self.invariant.0,
      moved_index c.self.inside.waiting c.join.new.waiting c.remove.new.self c.self.inside.calls.items c.args.number
          before c.args.due c.index_mut.result.now waits (λ e. c.if-before-due.false (sym e))
          c.self.invariant.1 c.in_ok-join-in-Some.ensures.joined c.remove.ensures.updates.0,
    )

pub returns-then-before-due-clause-moved : goal.returns-then-before-due-clause-moved
returns-then-before-due-clause-moved c =
    on_ok c.tell-then-before-due.result _
    (moved_same c.args.self.now c.args.number c.args.due (subst
    (λ (d : ℕ). Some d ≡ due_of c.args.number c.args.self.now.calls)
    c.if-before-due.true c.in-Some.ensures))

pub returns-in_ok-join-in-Some-clause-moved : goal.returns-in_ok-join-in-Some-clause-moved
returns-in_ok-join-in-Some-clause-moved c =
    let before = c.in-Some.before in
    let waits = waits_for c.self.inside.calls.items c.args.number before c.index_mut.result.now
    (subst (λ (v : Clock). Some before ≡ due_of c.args.number v.calls) (sym c.self.view_is) c.in-Some.ensures)
    c.index_mut.ensures.value in
    ap (λ (xs : List Call). let k : Clock = record { time = c.self.inside.time; calls = xs } in k)
    (sym (moved_calls c.self.inside.calls.items c.args.number before c.args.due c.index_mut.result.now waits))
    ∙ ap (moved c.args.number c.args.due) c.self.view_is
