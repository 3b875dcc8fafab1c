use Rattle.std.proofs.Common.{refl, string_bytes}
use Rattle.dv_facts.proofs.Added.{adds_both, adds_end, adds_next}
use Rattle.dv_facts.specs.Parts.{Adds}
use Rattle.dv_facts.proofs.entries.Story.write_after.Goals as goal

pub returns : goal.returns
returns c =
    let placed : Adds (string_bytes c.args.out.now) (string_bytes c.write_index_or_null-2.new.out) =
    adds_next _ (adds_next _ (adds_next _ c.in_ok-write_objects.ensures c.in_ok-write_index_or_null.ensures.part refl)
    c.in_ok-write_number.ensures.part refl) c.in_ok-write_index_or_null-2.ensures.part refl in
    adds_end c.write_text.result _ _ _ _ c.write_text.ensures
    (adds_next _ (adds_both _ _ _ placed c.in_ok-write_shown.ensures) c.in_ok-write_number-2.ensures.part refl) refl
