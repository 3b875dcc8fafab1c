use Rattle.std.proofs.Common.{◌≡◌, length, ap, ◌∙◌, nat_lt, arith}
use Rattle.serde_json.specs.View.{view}
use Rattle.serde_json.proofs.Views.{view-Array}
use Rattle.dv_why.proofs.Counting.{count_items}
use Rattle.dv_why.proofs.counts.is_busy.Goals as goal

pub returns-in-Array : goal.returns-in-Array
returns-in-Array c =
    let same = ap view c.in-Array.is ∙ view-Array c.in-Array.items in
    let all : c.len.result ≡ length c.in-Array.items.items = omega (arith, c.len.ensures, c.in-Array.items.ok.0) in
    rw same (rw count_items (ap (nat_lt 256) all))
