use Rattle.std.proofs.Common.{arith, ap, ◌∙◌, length, suc}
use Rattle.dv_pool.proofs.pool.crew.Crew.join.Goals as goal

pub loop-handle-preserved : goal.loop-handle-preserved
loop-handle-preserved g c =
    let i = c.loop-handle.invariant in
    let steps = c.in-Some.ensures.steps.0 in
    let all = rw steps at i.3 in
    let len = ap length steps in
    let sum = i.2 in
    let s = c.absorb.ensures.same in
    let grown = c.absorb.ensures.parts in (
      c.absorb.ensures.orderly,
      (s.0 ∙ i.1.0, s.1 ∙ i.1.1, (let a = s.2 in let b = i.1.2 in omega arith)),
      omega arith,
      (λ k d low. all (suc k) d (omega (arith, low))),
      λ ws h. c.absorb.ensures.placed ws (i.4 ws h),
    )
