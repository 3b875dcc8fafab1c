use Rattle.std.proofs.Common.{refl}
use Rattle.dv_facts.proofs.Added.{adds_last, adds_next}
use Rattle.dv_facts.proofs.entries.Story.write_before.Goals as goal

pub returns : goal.returns
returns c =
    adds_last c.write_index_or_null.result _ _ _ _ c.write_index_or_null.ensures.part
    (adds_next _ (adds_next _ c.in_ok-write_deferreds.ensures c.in_ok-write_number.ensures.part refl)
    c.in_ok-write_number_or_null.ensures.part refl) refl
