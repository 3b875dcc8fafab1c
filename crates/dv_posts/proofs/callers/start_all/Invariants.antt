use Rattle.std.proofs.Common.{◌≡◌, ◌++◌, ◌≤◌, length}
use Rattle.std.specs.Prelude.{vec_capacity}
use Rattle.std.specs.Vec.Iter.{into_iter_items}
use Rattle.dv_posts.proofs.CallerLemmas.{Made, Started}
use Rattle.dv_posts.proofs.callers.start_all.Given as goal

-- so many were started, and there is room for the others
abbrev pub invariant-loop-poster : goal.invariant-loop-poster
invariant-loop-poster g l = record {
  made : Made (Started l.bodies) l.yielded l.callers.items;
  all : l.yielded ++ into_iter_items l.poster-iterator ≡ l.fn.posters.items;
  room : length l.fn.posters.items ≤ vec_capacity l.callers;
}
