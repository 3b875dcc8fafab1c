-- That the list of orders is right: what `dv_posts` says of batches is all of it, each once.
use Rattle.std.specs.Prelude.{◌≡◌, ◌≢◌, ◌↔◌, ◌<◌, List, [], ◌∷◌, length, AllPairs, Contains}
use Rattle.dv_script.specs.declared.script.Script.{Script}
use Rattle.dv_posts.specs.Batches.{AreComplete, AreLawful, Batch}
use Rattle.dv_orders.specs.Numbers.{number_of_orders}
use Rattle.dv_orders.specs.Orders.{counts_of, empty_batches, orders, total}

-- a run of the script may have taken these batches, and they hold all its posts
pub record AreOrder (script : Script) (batches : List Batch) : Type 0 where
  pub lawful : AreLawful script batches
  pub complete : AreComplete script batches

-- no order is left out, and nothing else is listed
abbrev pub EveryOrderIsListed : Type 0
EveryOrderIsListed =
    (script : Script) (batches : List Batch) → AreOrder script batches ↔ Contains (orders script) batches

-- no order is listed twice
abbrev pub NoOrderIsListedTwice : Type 0
NoOrderIsListedTwice = (script : Script) → AllPairs (λ one another. one ≢ another) (orders script)

-- there are as many as follows from the numbers of posts and the drains
abbrev pub OrdersAreCounted : Type 0
OrdersAreCounted = (script : Script) → length (orders script) ≡ number_of_orders script

-- there is one at least
abbrev pub ThereIsAnOrder : Type 0
ThereIsAnOrder = (script : Script) → 0 < length (orders script)

-- where nobody posts, there is one order, whose batches are empty
abbrev pub OneOrderWithoutPosts : Type 0
OneOrderWithoutPosts =
    (script : Script) → total (counts_of script.callers) ≡ 0 → orders script ≡ empty_batches script.events ∷ []
