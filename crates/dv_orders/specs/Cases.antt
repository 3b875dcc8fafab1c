-- The orders of small scripts, worked out by hand.
use Rattle.std.specs.Prelude.{◌≡◌, ℕ, List, [], ◌∷◌, ◌++◌}
use Rattle.dv_script.specs.declared.action.Action.{Action}
use Rattle.dv_script.specs.declared.body.Body.{Body}
use Rattle.dv_script.specs.declared.event.Event.TheVariants.{Action as Act, Advance, Drain}
use Rattle.dv_posts.specs.Batches.{Batch}
use Rattle.dv_posts.specs.Posts.{post}
use Rattle.dv_posts.specs.declared.posted.Posted.{Posted}
use Rattle.dv_orders.specs.Orders.{orders_of}

-- the posts of the first caller, and of the second
abbrev pub a0 : Posted
a0 = post 0 0

abbrev pub a1 : Posted
a1 = post 0 1

abbrev pub b0 : Posted
b0 = post 1 0

abbrev pub b1 : Posted
b1 = post 1 1

-- four posts, where a drain takes none of them, the first, or the first two
abbrev pub drained : Posted → Posted → Posted → Posted → List (List Batch)
drained p q r s =
    ([] ∷ (p ∷ q ∷ r ∷ s ∷ []) ∷ [])
    ∷ ((p ∷ []) ∷ (q ∷ r ∷ s ∷ []) ∷ [])
    ∷ ((p ∷ q ∷ []) ∷ (r ∷ s ∷ []) ∷ [])
    ∷ []

-- two callers of two posts each, and one drain of two at most: six sequences, each cut in three ways
abbrev pub TwoCallersHaveEighteenOrders : Type 0
TwoCallersHaveEighteenOrders =
    (body : Body) (lock note : Action)
    → orders_of ((body ∷ body ∷ []) ∷ (body ∷ body ∷ []) ∷ []) (Act lock ∷ Drain 2 ∷ Act note ∷ [])
    ≡ drained a0 a1 b0 b1 ++ (drained a0 b0 a1 b1
    ++ (drained a0 b0 b1 a1 ++ (drained b0 a0 a1 b1 ++ (drained b0 a0 b1 a1 ++ drained b0 b1 a0 a1))))

-- one post, and two drains of one at most: it is taken at the end, at the second drain, or at the first
abbrev pub TwoDrainsHaveThreeOrders : Type 0
TwoDrainsHaveThreeOrders =
    (body : Body) (ticks : ℕ)
    → orders_of ((body ∷ []) ∷ []) (Drain 1 ∷ Advance ticks ∷ Drain 1 ∷ [])
    ≡ ([] ∷ [] ∷ (a0 ∷ []) ∷ []) ∷ ([] ∷ (a0 ∷ []) ∷ [] ∷ []) ∷ ((a0 ∷ []) ∷ [] ∷ [] ∷ []) ∷ []

-- two posts of one caller, and a drain of one at most: the second is taken at the end
abbrev pub DrainsTakeFewPosts : Type 0
DrainsTakeFewPosts =
    (body : Body)
    → orders_of ((body ∷ body ∷ []) ∷ []) (Drain 1 ∷ [])
    ≡ ([] ∷ (a0 ∷ a1 ∷ []) ∷ []) ∷ ((a0 ∷ []) ∷ (a1 ∷ []) ∷ []) ∷ []

-- where nobody posts, each batch is empty
abbrev pub NobodyPosts : Type 0
NobodyPosts = (action : Action) → orders_of [] (Act action ∷ Drain 5 ∷ []) ≡ ([] ∷ [] ∷ []) ∷ []

-- where there is no drain, all posts are taken at the end: two callers of one post each take turns
abbrev pub PostsAtTheEndTakeTurns : Type 0
PostsAtTheEndTakeTurns =
    (body : Body)
    → orders_of ((body ∷ []) ∷ (body ∷ []) ∷ []) [] ≡ ((a0 ∷ b0 ∷ []) ∷ []) ∷ ((b0 ∷ a0 ∷ []) ∷ []) ∷ []
