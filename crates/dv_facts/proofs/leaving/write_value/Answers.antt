use Rattle.dv_facts.proofs.Added.{adds_end, adds_nothing}
use Rattle.dv_facts.proofs.Visible.{visible_json}
use Rattle.dv_facts.proofs.leaving.write_value.Goals as goal

pub returns-in-Fired : goal.returns-in-Fired
returns-in-Fired c = adds_end c.write_json.result _ _ _ _ c.write_json.ensures (adds_nothing _) (visible_json _ _)
