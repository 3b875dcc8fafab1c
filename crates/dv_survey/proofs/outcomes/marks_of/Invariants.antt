use Rattle.std.proofs.Common.{take}
use Rattle.dv_survey.specs.Outcomes.{Marks}
use Rattle.dv_survey.proofs.outcomes.marks_of.Given as goal

-- the places so far are marked
abbrev pub invariant-loop-place : goal.invariant-loop-place
invariant-loop-place l = Marks l.marks.items (take l.place-index l.places) l.len
