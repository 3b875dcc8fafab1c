use Rattle.std.proofs.Common.{ap, length}
use Rattle.dv_json.proofs.Parts.{totals_added}
use Rattle.dv_json.proofs.printing.write_totals.Goals as goal

pub returns : goal.returns
returns c =
    totals_added c.write_text.result _ _ _ _ _ _ _ c.args.time _ _ _ _ _ _ _ _ _ c.write_text.ensures
    c.limit.ensures c.ending-ending.ensures c.is_at_limit.ensures (ap length c.entries.ensures) c.weight.ensures
    c.in_ok-write_number.ensures.text c.in_ok-write_bool.ensures.text c.in_ok-write_number-2.ensures.text
    c.in_ok-write_unmet.ensures c.in_ok-write_number-3.ensures.text
