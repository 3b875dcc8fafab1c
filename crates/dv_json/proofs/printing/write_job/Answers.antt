use Rattle.std.proofs.Common.{refl}
use Rattle.dv_facts.proofs.Added.{adds_both, adds_end, adds_next, adds_nothing, adds_text}
use Rattle.dv_facts.proofs.Visible.{visible_json}
use Rattle.dv_json.proofs.printing.write_job.Goals as goal

pub returns : goal.returns
returns c =
    adds_end c.write_text-2.result _ _ _ _ c.write_text-2.ensures
    (adds_both _ _ _ (adds_both _ _ _ (adds_next _ (adds_nothing _) c.in_ok-write_number.ensures.part refl)
    (adds_text _ _ _ c.in_ok-write_text.ensures refl))
    (adds_text _ _ _ c.in_ok-write_json.ensures (visible_json _ _))) refl
