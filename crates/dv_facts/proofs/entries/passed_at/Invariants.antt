use Rattle.std.proofs.Common.{◌≤◌}
use Rattle.dv_facts.specs.Events.{passed_at}
use Rattle.dv_facts.proofs.entries.passed_at.Given as goal

-- the marks before it are passed
abbrev pub invariant-loop-place : goal.invariant-loop-place
invariant-loop-place l = l.place ≤ passed_at l.marks l.number
