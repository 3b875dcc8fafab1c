use Rattle.std.proofs.Common.{◌≡◌, ◌++◌, drop}
use Rattle.dv_survey.specs.Lines.{lines_from}
use Rattle.dv_survey.proofs.lines.lines_in.Given as goal

-- the lines that are left follow those that were made
abbrev pub invariant-loop-number : goal.invariant-loop-number
invariant-loop-number l =
    l.lines ++ lines_from l.format l.classes l.labels l.number (drop l.number l.outcomes)
    ≡ lines_from l.format l.classes l.labels 0 l.outcomes
