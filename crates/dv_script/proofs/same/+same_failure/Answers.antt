use Rattle.std.proofs.Common.{◌≡◌, ap, sym, ◌∙◌}
use Rattle.dv_value.specs.declared.failure.Sub.{Sub, out-Sub, roll-Sub, roll-out-Sub}
use Rattle.dv_script.proofs.same.+same_failure.Goals as goal

-- what is inside is its place and its failure
same_sub : (s t : Sub) → (out-Sub s).index ≡ (out-Sub t).index → (out-Sub s).failure ≡ (out-Sub t).failure → s ≡ t
same_sub s t index failure =
    sym (roll-out-Sub s) ∙ ap roll-Sub (λ i. record { index = index i; failure = failure i }) ∙ roll-out-Sub t

pub is_same_sub-returns-then-first-second : goal.is_same_sub-returns-then-first-second
is_same_sub-returns-then-first-second t c = (
  (λ h. same_sub _ _ c.if-first-second.true
      (sym c.get.ensures ∙ c.is_same_failure.ensures.0 h ∙ c.get-then-first-second.ensures)),
  (λ e. c.is_same_failure.ensures.1
      (c.get.ensures ∙ ap (λ (s : Sub). (out-Sub s).failure) e ∙ sym c.get-then-first-second.ensures)),
)
