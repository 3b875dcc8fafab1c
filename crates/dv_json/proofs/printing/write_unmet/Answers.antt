use Rattle.std.proofs.Common.{codes}
use Rattle.dv_json.proofs.Parts.{told_as}
use Rattle.dv_json.proofs.printing.write_unmet.Goals as goal

pub returns : goal.returns
returns c =
    told_as c.write_number_or_null.result _ _ (codes ",\"type\":\"end\",\"unmet\":") _ _
    c.write_number_or_null.ensures.text c.unmet_entry-unmet.ensures
