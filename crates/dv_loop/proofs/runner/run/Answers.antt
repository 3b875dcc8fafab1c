use Rattle.dv_loop.proofs.Stopped.{loop_emptied}
use Rattle.dv_loop.proofs.Turns.{turn_leads, turn_falls, turn_bounded}
use Rattle.dv_loop.proofs.runner.run.Goals as goal

pub turns-smaller : goal.turns-smaller
turns-smaller g c =
    turn_falls c.turns.turn.stack c.in-Some.frame (record c.turns.turn { stack = c.pop.new.self }) c.go_on_with.new.turn
    c.in-Some.ensures c.in_ok-go_on_with.ensures.turned

pub turns-preserved : goal.turns-preserved
turns-preserved g c =
    let old = record c.turns.turn { stack = c.pop.new.self } in
    record {
      leads =
          λ q v h. c.turns.invariant.leads q v (turn_leads c.turns.turn.stack c.in-Some.frame old c.go_on_with.new.turn
          c.in-Some.ensures c.in_ok-go_on_with.ensures.turned q v h);
      bounded =
          turn_bounded c.in-Some.frame old c.go_on_with.new.turn c.in_ok-go_on_with.ensures.turned
          c.turns.invariant.bounded;
      jobs = c.in_ok-go_on_with.ensures.jobs;
    }

pub returns-in_default-clause-ends : goal.returns-in_default-clause-ends
returns-in_default-clause-ends g c =
    loop_emptied _ c.turns.turn.stack _ c.turns.turn.performed _ c.turns.turn.world c.in_default.ensures.0
    c.turns.invariant.leads
