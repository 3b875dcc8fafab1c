use Rattle.std.proofs.Common.{◌≡◌, ◌++◌, List, length, take}
use Rattle.dv_posts.specs.declared.posted.Posted.{Posted}
use Rattle.dv_posts.specs.Taking.{Counted}
use Rattle.dv_posts.proofs.batches.count_all.Given as goal

-- the posts so far are counted, whatever was before
abbrev pub invariant-loop-posted : goal.invariant-loop-posted
invariant-loop-posted l =
    (length l.counts.items ≡ length l.initial.counts.items)
    × ((before : List Posted) → Counted l.callers l.initial.counts.items before
    → Counted l.callers l.counts.items (before ++ take l.posted-index l.batch))
