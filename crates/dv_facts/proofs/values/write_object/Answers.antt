use Rattle.std.proofs.Common.{refl}
use Rattle.dv_facts.proofs.Added.{adds_end, adds_next, adds_nothing}
use Rattle.dv_facts.proofs.values.write_object.Goals as goal

pub returns : goal.returns
returns c =
    adds_end c.write_text.result _ _ _ _ c.write_text.ensures
    (adds_next _ (adds_next _ (adds_next _ (adds_nothing _) c.in_ok-write_quoted.ensures.part refl)
    c.in_ok-write_quoted_or_null.ensures refl) c.in_ok-write_index_or_null.ensures.part refl) refl
