use Rattle.std.proofs.Common.{◌≡◌, length}
use Rattle.dv_threads.specs.Threading.{GoesOn}
use Rattle.dv_threads.proofs.submissions.Submissions.submit_all.Given as goal

-- so many are submitted, and they are the first of the works
abbrev pub invariant-loop-number : goal.invariant-loop-number
invariant-loop-number g l = record {
  first : GoesOn l.self l.works.works;
  count : length l.self ≡ l.number;
}
