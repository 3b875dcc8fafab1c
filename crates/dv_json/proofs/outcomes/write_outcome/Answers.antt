use Rattle.std.proofs.Common.{refl}
use Rattle.dv_facts.proofs.Added.{adds_next, adds_nothing}
use Rattle.dv_json.proofs.Parts.{outcome_added}
use Rattle.dv_json.proofs.outcomes.write_outcome.Goals as goal

pub returns : goal.returns
returns c =
    outcome_added c.write_state.result c.args.classes.now c.args.number c.args.outcome.now _ _ _ _ _ _
    c.write_state.ensures
    (adds_next _ (adds_nothing _) c.in_ok-write_index_or_null.ensures.part refl) c.in_ok-write_outcome_line.ensures
    (adds_next _ (adds_nothing _) c.in_ok-write_quoted_or_null.ensures refl) c.in_ok-write_number.ensures.text
