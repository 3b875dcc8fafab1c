use Rattle.std.proofs.Common.{◌≡◌, arith, ap, ◌∙◌, replicate}
use Rattle.dv_script.specs.declared.work.TheConstants.{MOST_JOBS}
use Rattle.dv_pool.specs.Parts.{no_work}
use Rattle.dv_pool.proofs.pool.parts.no_works.Goals as goal

pub returns : goal.returns
returns c =
    let e : c.loop.counter ≡ MOST_JOBS = omega (arith, c.loop-test.false, c.loop.auto.counter-end) in
    c.loop.invariant.0 ∙ ap (λ k. replicate k no_work) e
