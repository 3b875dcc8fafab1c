use Rattle.std.proofs.Common.{refl}
use Rattle.dv_facts.proofs.Added.{adds_both, adds_end, adds_nothing, adds_text}
use Rattle.dv_facts.proofs.entries.Story.write_deferreds.Goals as goal

pub returns : goal.returns
returns c =
    adds_end c.write_text-2.result _ _ _ _ c.write_text-2.ensures
    (adds_both _ _ _ (adds_both _ _ _ (adds_both _ _ _ (adds_both _ _ _ (adds_nothing _)
    (adds_text _ _ _ c.in_ok-write_text.ensures refl)) c.in_ok-write_first.ensures) c.in_ok-write_further.ensures)
    c.in_ok-write_further-2.ensures) refl
