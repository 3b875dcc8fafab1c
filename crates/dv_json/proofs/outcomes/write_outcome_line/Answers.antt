use Rattle.dv_json.proofs.Parts.{shown_added}
use Rattle.dv_json.proofs.outcomes.write_outcome_line.Goals as goal

pub returns : goal.returns
returns c =
    shown_added c.write_quoted.result c.args.classes.now c.args.number c.args.outcome.now _ _ _ _ _ _
    c.write_quoted.ensures.text c.new-line.ensures.bytes c.in_ok-write_line.ensures c.take_newline.ensures
    c.as_str.ensures.value
