use Rattle.std.proofs.Common.{◌∙◌}
use Rattle.serde_json.specs.View.{view}
use Rattle.dv_why.proofs.Counting.{after_word}
use Rattle.dv_why.proofs.find.part_of_call.Goals as goal

pub returns-else-number-eq0 : goal.returns-else-number-eq0
returns-else-number-eq0 c =
    c.argument_at.ensures ∙ after_word c.args.call (view c.args.json.now) c.args.number c.if-number-eq0.false
