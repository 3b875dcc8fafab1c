use Rattle.std.proofs.Common.{refl}
use Rattle.dv_facts.proofs.Added.{adds_end, adds_next, adds_nothing}
use Rattle.dv_facts.proofs.leaving.Known.write_delivery.Goals as goal

pub returns : goal.returns
returns c =
    adds_end c.write_text.result _ _ _ _ c.write_text.ensures
    (adds_next _ (adds_next _ (adds_next _ (adds_nothing _) c.in_ok-id.ensures refl) c.in_ok-write_number.ensures.part
    refl) c.in_ok-object.ensures refl) refl
