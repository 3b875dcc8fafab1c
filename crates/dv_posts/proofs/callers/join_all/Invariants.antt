use Rattle.std.proofs.Common.{◌≡◌, ◌++◌, ◌≤◌, length}
use Rattle.std.specs.Prelude.{vec_capacity}
use Rattle.std.specs.Vec.Iter.{into_iter_items}
use Rattle.dv_posts.proofs.CallerLemmas.{Made, Ended}
use Rattle.dv_posts.proofs.callers.join_all.Given as goal

-- so many have ended, and there is room for the others
abbrev pub invariant-loop-caller : goal.invariant-loop-caller
invariant-loop-caller g l = record {
  made : Made Ended l.yielded l.posters.items;
  all : l.yielded ++ into_iter_items l.caller-iterator ≡ l.fn.callers.items;
  room : length l.fn.callers.items ≤ vec_capacity l.posters;
}
