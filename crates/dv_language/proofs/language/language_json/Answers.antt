use Rattle.serde_json.specs.View.{view}
use Rattle.dv_language.proofs.Whole.{with_lines}
use Rattle.dv_language.proofs.language.language_json.Goals as goal

pub returns : goal.returns
returns c = with_lines (view c.in_ok-lines.lines) c.language_with.result c.in_ok-lines.ensures c.language_with.ensures
