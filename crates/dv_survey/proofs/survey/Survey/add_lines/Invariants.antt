use Rattle.std.proofs.Common.{◌≡◌, ◌++◌, drop}
use Rattle.dv_survey.specs.Outcomes.{places_after}
use Rattle.dv_survey.specs.Survey.{with_lines}
use Rattle.dv_survey.proofs.survey.Survey.add_lines.Given as goal

-- with the lines that are left it is the survey with all, and their places follow those so far
abbrev pub invariant-loop-line : goal.invariant-loop-line
invariant-loop-line l = record {
  added : with_lines l.batches (drop l.line-index l.lines) l.self ≡ with_lines l.batches l.lines l.initial.self;
  places : l.places.items ++ places_after l.self.lines (drop l.line-index l.lines)
      ≡ places_after l.initial.self.lines l.lines;
}
