use Rattle.std.proofs.Common.{ℕ, ◌<◌}
use Rattle.serde_json.specs.View.{items_view}
use Rattle.dv_why.specs.Documents.{IsNew}
use Rattle.dv_why.proofs.cooperators.in_cooperators.Given as goal

-- the name of each Cooperator before is new
abbrev pub invariant-loop-number : goal.invariant-loop-number
invariant-loop-number l = (k : ℕ) → k < l.number → IsNew k (items_view l.items.items)
