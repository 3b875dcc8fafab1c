use Rattle.std.proofs.Common.{ℕ, ◌<◌, ◌≤◌}
use Rattle.serde_json.specs.Find.{as_array}
use Rattle.serde_json.specs.View.{view}
use Rattle.dv_script.specs.declared.limits.TheConstants.{MOST_POSTS}
use Rattle.dv_why.specs.Counts.{count_at}
use Rattle.dv_why.specs.Documents.{or_no_items}
use Rattle.dv_why.proofs.counts.busy_caller.Given as goal

-- each caller before has few posts
abbrev pub invariant-loop-number : goal.invariant-loop-number
invariant-loop-number l = (k : ℕ) → k < l.number → count_at k (or_no_items (as_array (view l.callers))) ≤ MOST_POSTS
