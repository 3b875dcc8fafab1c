use Rattle.std.proofs.Common.{refl}
use Rattle.dv_facts.proofs.Added.{adds_end, adds_text}
use Rattle.dv_facts.proofs.Visible.{visible_failure, visible_json}
use Rattle.dv_facts.proofs.entries.write_shown.Goals as goal

pub returns-in_ok-write_text-in-Value : goal.returns-in_ok-write_text-in-Value
returns-in_ok-write_text-in-Value c =
    adds_end c.write_json.result _ _ _ _ c.write_json.ensures (adds_text _ _ _ c.in_ok-write_text-in-Value.ensures refl)
    (visible_json _ _)

pub returns-in_ok-write_text-in-Failure : goal.returns-in_ok-write_text-in-Failure
returns-in_ok-write_text-in-Failure c =
    adds_end c.write_failure_json.result _ _ _ _ c.write_failure_json.ensures
    (adds_text _ _ _ c.in_ok-write_text-in-Failure.ensures refl) (visible_failure _ _)
