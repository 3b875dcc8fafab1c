use Rattle.dv_pool.specs.Parts.{IsOrderly, HasPlaced, Keeps}
use Rattle.dv_pool.proofs.pool.closing.help_all.Given as goal

abbrev pub invariant-loop : goal.invariant-loop
invariant-loop g l = IsOrderly l.parts × HasPlaced l.works l.parts × Keeps l.initial.parts l.parts
