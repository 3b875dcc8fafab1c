use Rattle.std.proofs.Common.{sym, ◌∙◌, arith}
use Rattle.dv_document.proofs.Finding.{found_later, found_next}
use Rattle.dv_document.proofs.places.Json.get.Goals as goal

pub returns-then-eq-clause-value : goal.returns-then-eq-clause-value
returns-then-eq-clause-value c = found_next _ _ _ _ _ c.in-Some.ensures.value (sym c.if-eq.ensures) ∙ c.loop-name.invariant.0

pub loop-name-preserved : goal.loop-name-preserved
loop-name-preserved c = (
  found_later _ _ _ _ _ c.in-Some.ensures.value (sym c.if-eq.ensures) ∙ c.loop-name.invariant.0,
  omega (arith, c.in-Some.ensures.shorter, c.loop-name.invariant.1),
)
