use Rattle.std.proofs.Common.{drop}
use Rattle.dv_survey.proofs.MetLemmas.{HasLabeled}
use Rattle.dv_survey.proofs.lines.labels_of.Given as goal

-- the names so far are counted, and the labels that are left follow those that were made
abbrev pub invariant-loop-outcome : goal.invariant-loop-outcome
invariant-loop-outcome l = HasLabeled l.format l.met l.labels (drop l.outcome-index l.outcomes) l.outcomes
