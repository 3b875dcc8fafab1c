use Rattle.std.proofs.Common.{arith, ◌≡◌, ◌-◌, ◌^◌, ◌∙◌, ◌/◌, ◌%◌, ℕ, Option, Some, None, List, IfOk, min, slice_get}
use Rattle.std.proofs.Common.{ap, sym, subst}
use Rattle.dv_script.specs.declared.body.Body.{Body}
use Rattle.dv_script.specs.declared.event.Event.{Event}
use Rattle.dv_posts.specs.Batches.{Batch}
use Rattle.dv_orders.specs.Numbers.{number_of_cuts}
use Rattle.dv_orders.specs.Orders.{counts_of, cuts, orders, posts_from, sequences, total}
use Rattle.dv_orders.proofs.NumberLemmas.{cuts_some}
use Rattle.dv_orders.proofs.RankingLemmas.{divided, order_none, order_some}
use Rattle.dv_orders.proofs.ranking.order_of.Goals as goal

pub nonzero_div-number : goal.nonzero_div-number
nonzero_div-number c =
    let some = cuts_some c.as_slice-events.result.now c.in_ok-posts.posts in omega (arith, some, c.in_ok-cuts.ensures)

pub nonzero_rem-number : goal.nonzero_rem-number
nonzero_rem-number c =
    let some = cuts_some c.as_slice-events.result.now c.in_ok-posts.posts in omega (arith, some, c.in_ok-cuts.ensures)

pub returns-in-Some : goal.returns-in-Some
returns-in-Some c =
    let script = c.args.script.now in
    let number = c.args.number in
    let k = c.in_ok-cuts.cuts in
    let ways = number_of_cuts script.events (total (counts_of script.callers)) in
    let posts : c.in_ok-posts.posts ≡ total (counts_of script.callers) =
    c.in_ok-posts.ensures.0 ∙ ap (λ (l : List (List Body)). total (counts_of l)) c.as_slice-callers.ensures in
    let capped : k ≡ min ways (2 ^ 64 - 1) =
    c.in_ok-cuts.ensures
    ∙ ap (λ (l : List Event). min (number_of_cuts l c.in_ok-posts.posts) (2 ^ 64 - 1)) c.as_slice-events.ensures
    ∙ ap (λ (n : ℕ). min (number_of_cuts script.events n) (2 ^ 64 - 1)) posts in
    let parts = divided number ways k c.requires capped (cuts_some script.events (total (counts_of script.callers))) in
    let sequence = c.in-Some.sequence.items in
    let there : slice_get (sequences (total (counts_of script.callers)) (posts_from 0 script.callers)) (number / k)
    ≡ Some sequence =
    sym (rw c.in-Some.is at (c.in_ok-sequence.ensures ∙ ap (λ (l : List (List Body)).
    slice_get (sequences (total (counts_of l)) (posts_from 0 l)) (number / k)) c.as_slice-callers.ensures)) in
    let same : slice_get (cuts c.as_slice-events.result.now c.as_slice.result.now) (number % k)
    ≡ slice_get (orders script) number =
    ap (λ (l : List Event). slice_get (cuts l c.as_slice.result.now) (number % k)) c.as_slice-events.ensures
    ∙ ap (λ (l : Batch). slice_get (cuts script.events l) (number % k)) c.as_slice.ensures.value
    ∙ sym (order_some script (number / k) (number % k) number sequence parts.0 parts.1 there) in
    subst (λ (o : Option (List Batch)). IfOk c.cut_of.result (λ order. order ≡ o)) same c.cut_of.ensures

pub returns-in-None : goal.returns-in-None
returns-in-None c =
    let script = c.args.script.now in
    let number = c.args.number in
    let k = c.in_ok-cuts.cuts in
    let ways = number_of_cuts script.events (total (counts_of script.callers)) in
    let posts : c.in_ok-posts.posts ≡ total (counts_of script.callers) =
    c.in_ok-posts.ensures.0 ∙ ap (λ (l : List (List Body)). total (counts_of l)) c.as_slice-callers.ensures in
    let capped : k ≡ min ways (2 ^ 64 - 1) =
    c.in_ok-cuts.ensures
    ∙ ap (λ (l : List Event). min (number_of_cuts l c.in_ok-posts.posts) (2 ^ 64 - 1)) c.as_slice-events.ensures
    ∙ ap (λ (n : ℕ). min (number_of_cuts script.events n) (2 ^ 64 - 1)) posts in
    let parts = divided number ways k c.requires capped (cuts_some script.events (total (counts_of script.callers))) in
    let there : slice_get (sequences (total (counts_of script.callers)) (posts_from 0 script.callers)) (number / k)
    ≡ None =
    sym (rw c.in-None.is at (c.in_ok-sequence.ensures ∙ ap (λ (l : List (List Body)).
    slice_get (sequences (total (counts_of l)) (posts_from 0 l)) (number / k)) c.as_slice-callers.ensures)) in
    sym (order_none script (number / k) (number % k) number parts.1 there)
