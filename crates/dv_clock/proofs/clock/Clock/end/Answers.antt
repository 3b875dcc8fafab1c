use Rattle.std.proofs.Common.{◌≡◌, Some, List, sym, ap, ◌∙◌, subst, slice_set, get_or}
use Rattle.dv_clock.specs.Clock.{Clock, is_waiting, due_of, ended}
use Rattle.dv_clock.specs.declared.call.Call.{Call}
use Rattle.dv_clock.proofs.CallsLemmas.{waits_for, ended_index, ended_calls, ended_what}
use Rattle.dv_clock.proofs.clock.Clock.end.Goals as goal

pub invariant_of-self : goal.invariant_of-self
invariant_of-self c =
    let waits = waits_for c.self.inside.calls.items c.args.number c.in_ok-due.due c.index_mut.result.now
    (subst (λ (v : Clock). Some c.in_ok-due.due ≡ due_of c.args.number v.calls)
    (sym c.self.view_is) c.in_ok-due.ensures) c.index_mut.ensures.value in
    let over = ap (λ (k : Call). is_waiting k.state) c.take_what.ensures.rest ∙ c.requires.over in (
      c.self.invariant.0,
      ended_index c.self.inside.waiting c.remove.new.self c.self.inside.calls.items c.args.number c.in_ok-due.due
          c.index_mut.result.now c.take_what.new.call waits over c.self.invariant.1 c.remove.ensures.updates.0,
    )

pub returns-clause-what : goal.returns-clause-what
returns-clause-what c =
    let waits = waits_for c.args.self.now.calls c.args.number c.in_ok-due.due c.index_mut.result.now c.in_ok-due.ensures
    (subst (λ (v : Clock). c.index_mut.result.now ≡ get_or v.calls c.args.number c.index_mut.result.now) c.self.view_is
    c.index_mut.ensures.value) in
    c.take_what.ensures.what
    ∙ sym (ended_what c.args.self.now.calls c.args.number c.in_ok-due.due c.index_mut.result.now waits)

pub returns-clause-rest : goal.returns-clause-rest
returns-clause-rest c =
    let waits = waits_for c.self.inside.calls.items c.args.number c.in_ok-due.due c.index_mut.result.now
    (subst (λ (v : Clock). Some c.in_ok-due.due ≡ due_of c.args.number v.calls)
    (sym c.self.view_is) c.in_ok-due.ensures) c.index_mut.ensures.value in
    let calls = ap (slice_set c.self.inside.calls.items c.args.number) c.take_what.ensures.rest ∙ sym
    (ended_calls c.self.inside.calls.items c.args.number c.in_ok-due.due c.index_mut.result.now c.args.state waits) in
    ap (λ (xs : List Call). let k : Clock = record { time = c.self.inside.time; calls = xs } in k) calls
    ∙ ap (ended c.args.number c.args.state) c.self.view_is
