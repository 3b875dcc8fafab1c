-- Why batches are no order of a script, and where.
use Rattle.std.specs.Prelude.{◌≡◌, ◌+◌, ◌<◌, ◌≤◌, ◌==◌, ◌&&◌, nat_lt, Bool, ℕ, suc, List, [], ◌++◌, Option, None, Some}
use Rattle.std.specs.Prelude.{length, take, slice_get, slice_index_or, filter_map}
use Rattle.dv_orders.specs.Listed.{AreOrder}
use Rattle.dv_orders.specs.declared.fault.OrderFault.{OrderFault}
use Rattle.dv_orders.specs.declared.fault.OrderFault.TheVariants.{Missing, Needless, TooLong, NotNext, Untaken}
use Rattle.dv_posts.specs.Batches.{AreNext, Batch, Callers, bodies_of, first_posts, joined}
use Rattle.dv_posts.specs.Posts.{of}
use Rattle.dv_posts.specs.Taking.{Counted}
use Rattle.dv_posts.specs.declared.posted.Posted.{Posted}
use Rattle.dv_script.specs.declared.event.Event.{Event}
use Rattle.dv_script.specs.declared.event.Event.TheVariants as event
use Rattle.dv_script.specs.declared.script.Script.{Script}

-- how many posts a drain takes at most; other events take none
abbrev pub most_of : Event → Option ℕ
most_of (event.Action action) = None
most_of (event.Advance ticks) = None
most_of (event.Expect name expected) = None
most_of (event.Drain most) = Some most

-- how many posts each drain takes at most
abbrev pub drains_of : List Event → List ℕ
drains_of events = filter_map most_of events

-- the posts before this place of this batch
abbrev pub posts_before : List Batch → ℕ → ℕ → Batch
posts_before batches number place = joined (take number batches) ++ take place (slice_index_or batches number [])

-- all posts before this place are next posts of their callers, and with the one that stands there they aren't
pub record IsStrange (callers : Callers) (batches : List Batch) (number place : ℕ) : Type 0 where
  pub batch : number < length batches
  pub post : place < length (slice_index_or batches number [])
  pub before : AreNext callers (posts_before batches number place)
  pub strange : AreNext callers (posts_before batches number (suc place)) → ⊥

-- what each fault says of a script and batches
abbrev pub Refuses : OrderFault → Script → List Batch → Type 0
Refuses (Missing number) script batches = (length batches ≡ number) × (number ≤ length (drains_of script.events))
Refuses (Needless number) script batches = (number ≡ length (drains_of script.events) + 1) × (number < length batches)
Refuses (TooLong number most) script batches =
    (slice_get (drains_of script.events) number ≡ Some most) × (number < length batches)
    × (most < length (slice_index_or batches number []))
Refuses (NotNext number place) script batches = IsStrange script.callers batches number place
Refuses (Untaken caller index) script batches =
    (index < length (bodies_of script.callers caller)) × (of caller (joined batches) ≡ first_posts caller index)

-- what a check answers: none for an order, and otherwise a fault that holds
abbrev pub Checks : Option OrderFault → Script → List Batch → Type 0
Checks None script batches = AreOrder script batches
Checks (Some fault) script batches = Refuses fault script batches

-- none of these faults holds of an order
abbrev pub FaultsAreOfNoOrder : Type 0
FaultsAreOfNoOrder =
    (fault : OrderFault) (script : Script) (batches : List Batch) → Refuses fault script batches
    → AreOrder script batches → ⊥

-- a batch for each drain, of no more posts than this takes, and one more
pub record AreFitting (drains : List ℕ) (batches : List Batch) : Type 0 where
  pub count : length batches ≡ length drains + 1
  pub few : (k most : ℕ) → slice_get drains k ≡ Some most → length (slice_index_or batches k []) ≤ most

-- what the check of the batches' lengths answers
abbrev pub ChecksShape : Option OrderFault → List ℕ → List Batch → Type 0
ChecksShape None drains batches = AreFitting drains batches
ChecksShape (Some (Missing number)) drains batches = (length batches ≡ number) × (number ≤ length drains)
ChecksShape (Some (Needless number)) drains batches = (number ≡ length drains + 1) × (number < length batches)
ChecksShape (Some (TooLong number most)) drains batches =
    (slice_get drains number ≡ Some most) × (number < length batches)
    × (most < length (slice_index_or batches number []))
ChecksShape (Some (NotNext number place)) drains batches = ⊥
ChecksShape (Some (Untaken caller index)) drains batches = ⊥

-- what the check of the posts answers, with how many of each caller were counted
abbrev pub ChecksPosts : Option OrderFault → Callers → List ℕ → List Batch → Type 0
ChecksPosts None callers counts batches = Counted callers counts (joined batches)
ChecksPosts (Some (Missing number)) callers counts batches = ⊥
ChecksPosts (Some (Needless number)) callers counts batches = ⊥
ChecksPosts (Some (TooLong number most)) callers counts batches = ⊥
ChecksPosts (Some (NotNext number place)) callers counts batches = IsStrange callers batches number place
ChecksPosts (Some (Untaken caller index)) callers counts batches = ⊥

-- what the check of what was counted answers
abbrev pub ChecksEnd : Option OrderFault → Callers → List ℕ → Type 0
ChecksEnd None callers counts = (c : ℕ) → length (bodies_of callers c) ≤ slice_index_or counts c 0
ChecksEnd (Some (Missing number)) callers counts = ⊥
ChecksEnd (Some (Needless number)) callers counts = ⊥
ChecksEnd (Some (TooLong number most)) callers counts = ⊥
ChecksEnd (Some (NotNext number place)) callers counts = ⊥
ChecksEnd (Some (Untaken caller index)) callers counts =
    (index < length (bodies_of callers caller)) × (index ≡ slice_index_or counts caller 0)

-- whether the post is the next one of its caller, of which so many were counted
abbrev pub is_next : Callers → List ℕ → Posted → Bool
is_next callers counts posted =
    nat_lt posted.index (length (bodies_of callers posted.caller))
    && (posted.index == slice_index_or counts posted.caller 0)

-- where the first post stands that isn't the next one of its caller, whatever was counted before
pub record StrangeAt (callers : Callers) (counts : List ℕ) (batch before : Batch) (place : ℕ) : Type 0 where
  pub next : AreNext callers (before ++ take place batch)
  pub strange : AreNext callers (before ++ take (suc place) batch) → ⊥

-- what the count of a batch answers
abbrev pub FirstStrange : Option ℕ → Callers → List ℕ → List ℕ → Batch → Type 0
FirstStrange None callers old new batch =
    (before : Batch) → Counted callers old before → Counted callers new (before ++ batch)
FirstStrange (Some place) callers old new batch =
    (place < length batch) × ((before : Batch) → Counted callers old before → StrangeAt callers old batch before place)
