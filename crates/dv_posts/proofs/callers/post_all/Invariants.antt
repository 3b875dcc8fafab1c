use Rattle.dv_posts.specs.Callers.{HasPosted}
use Rattle.dv_posts.proofs.callers.post_all.Given as goal

-- so many were posted
abbrev pub invariant-loop-index : goal.invariant-loop-index
invariant-loop-index l = HasPosted l.initial.poster l.index l.poster
