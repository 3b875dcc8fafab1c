use Rattle.std.proofs.Common.{◌≡◌, map}
use Rattle.dv_clock.proofs.turns.Turns.to_items.Given as goal

abbrev pub invariant-loop-task : goal.invariant-loop-task
invariant-loop-task l = l.tasks ≡ map (λ t. t.now) l.yielded
