use Rattle.std.proofs.Common.{◌≡◌, length, ap, ◌∙◌, arith}
use Rattle.serde_json.specs.Find.{as_array}
use Rattle.serde_json.specs.View.{view, items_view}
use Rattle.serde_json.proofs.Views.{view-Array}
use Rattle.dv_why.specs.Documents.{or_no_items}
use Rattle.dv_document.specs.View.{count}
use Rattle.dv_why.proofs.Counting.{count_items}
use Rattle.dv_why.proofs.Few.{few_all}
use Rattle.dv_why.proofs.counts.busy_caller.Goals as goal

pub returns-clause-none : goal.returns-clause-none
returns-clause-none c = λ none.
    let same : or_no_items (as_array (view c.args.callers.now)) ≡ items_view c.in-Array.items.items =
    ap (λ d. or_no_items (as_array d)) (ap view c.in-Array.is ∙ view-Array c.in-Array.items) in
    let all : count (or_no_items (as_array (view c.args.callers.now))) ≡ length c.in-Array.items.items =
    ap count same ∙ count_items c.in-Array.items.items in
    few_all _ (λ n less. c.loop-number.invariant n (omega (arith, less, all, c.len-number-end.ensures)))
