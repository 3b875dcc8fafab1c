use Rattle.std.proofs.Common.{rules}
use Rattle.dv_pool.proofs.Kept.{empty_pool}
use Rattle.dv_pool.proofs.pool.Pool.open.Goals as goal

pub invariant_of-result : goal.invariant_of-result
invariant_of-result g c =
    let e = empty_pool c.in_ok-works.works.items c.in_ok-parts.parts c.start.new.parts c.in_ok-works.ensures
    c.in_ok-parts.ensures.placed c.start.ensures.placed c.start.ensures.same c.in_ok-parts.ensures.fresh in (
      e.0,
      e.1,
      c.in_ok-crew.ensures.handles,
      record {
        orderly = c.start.ensures.orderly;
        placed = e.2;
        submitted = e.3;
        ours = search rules;
        whole = c.in_ok-crew.ensures.whole;
      },
    )
