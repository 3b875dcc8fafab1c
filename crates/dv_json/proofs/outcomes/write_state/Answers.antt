use Rattle.std.proofs.Common.{refl, string_bytes}
use Rattle.dv_facts.proofs.Added.{adds_both, adds_end, adds_next, adds_nothing, adds_text}
use Rattle.dv_facts.specs.Parts.{Adds}
use Rattle.dv_json.proofs.outcomes.write_state.Goals as goal

pub returns : goal.returns
returns c =
    let valued : Adds (string_bytes c.args.out.now) (string_bytes c.write_value.new.out) =
    adds_both _ _ _ (adds_both _ _ _ (adds_next _ (adds_next _ (adds_nothing _) c.in_ok-write_number.ensures.part refl)
    c.in_ok-write_quoted.ensures.part refl) (adds_text _ _ _ c.in_ok-write_text.ensures refl))
    c.in_ok-write_value.ensures in
    adds_end c.write_text-3.result _ _ _ _ c.write_text-3.ensures
    (adds_both _ _ _
    (adds_both _ _ _ valued (adds_text _ _ _ c.in_ok-write_text-2.ensures refl)) c.in_ok-write_waits_for.ensures) refl
