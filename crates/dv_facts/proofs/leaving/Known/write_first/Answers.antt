use Rattle.dv_facts.proofs.Added.{adds_end, adds_nothing}
use Rattle.dv_facts.proofs.Visible.{visible_json}
use Rattle.dv_facts.proofs.leaving.Known.write_first.Goals as goal

pub returns-in-Some : goal.returns-in-Some
returns-in-Some c = adds_end c.write_json.result _ _ _ _ c.write_json.ensures (adds_nothing _) (visible_json _ _)
