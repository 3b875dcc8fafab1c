use Rattle.dv_reader.proofs.Documents.{one_at_most, says_or_is_refused, refused_says_none}
use Rattle.dv_reader.proofs.Reasons.{for_one_reason}
use Rattle.dv_reader.proofs.laws.documents_say_one_script_or_are_refused.Goals as goal

pub returns-clause-one : goal.returns-clause-one
returns-clause-one c = one_at_most

pub returns-clause-either : goal.returns-clause-either
returns-clause-either c = says_or_is_refused

pub returns-clause-never_both : goal.returns-clause-never_both
returns-clause-never_both c = refused_says_none

pub returns-clause-reason : goal.returns-clause-reason
returns-clause-reason c = for_one_reason
