-- A DeferredList fires once at most, and how many of its children haven't come.
use Rattle.std.proofs.Common.{◌≡◌, ℕ, ◌+◌, ◌<◌, ◌≤◌, List, length, replicate, get_or, slice_get, sym, ap, ◌∙◌, arith}
use Rattle.std.proofs.Common.{Bool, true, false, ◌&&◌, if◌then◌else◌, nat_eq, Option, None, Some, option_map, slice_set}
use Rattle.std.proofs.Common.{refl, ◌++◌}
use Rattle.std.proofs.lemmas.List.Folds.{sum_by-replicate}
use Rattle.std.proofs.lemmas.List.Sums.{sum_by-set}
use Rattle.std.proofs.lemmas.Option.{none-some, get_or_from_slice_get}
use Rattle.std.proofs.Math.Seq.{set_out}
use Rattle.dv_value.specs.Failure.{failure_in}
use Rattle.dv_value.specs.declared.failure.Failure.{Failure}
use Rattle.dv_value.specs.declared.value.Value.{Value}
use Rattle.dv_value.specs.declared.value.Value as of_value
use Rattle.dv_value.specs.declared.value.Value.TheVariants as value
use Rattle.dv_prims.specs.DeferredList.{is_missing, missing_of, Gather, Due, without_places, succeeded, kept_of}
use Rattle.dv_prims.specs.DeferredList.{first_success, first_failure, count_missing, due_at_last, due_when_kept}
use Rattle.dv_prims.specs.DeferredList.{due_by_failure, due}
use Rattle.dv_prims.specs.Laws.{ListsFireOnceAtMost}

-- a child that fires a list ends it
abbrev Ends : Due → Type 0
Ends t = (v : Value) → t.0 ≡ Some v → t.1.fired ≡ true

either_ends : (b : Bool) (t u : Due) → Ends t → Ends u → Ends (if b then t else u)
either_ends true t u h k = h
either_ends false t u h k = k

nothing_ends : (g : Gather) → Ends (None, g)
nothing_ends g v h = absurd (none-some v h)

last_ends : (g : Gather) → Ends (due_at_last g)
last_ends g =
    either_ends (nat_eq (count_missing g.places) 0) (Some (value.List g.places), without_places g) (None, g)
    (λ x h. refl) (nothing_ends g)

kept_ends : (i : ℕ) (v : Value) (g : Gather) → Ends (due_when_kept i v g)
kept_ends i v g = last_ends (record g { places = slice_set g.places i (kept_of v) })

failure_ends : (i : ℕ) (o : Option Failure) (v : Value) (g : Gather) → Ends (due_by_failure i o v g)
failure_ends i None v g = kept_ends i v g
failure_ends i (Some failure) v g =
    either_ends g.flags.fire_on_one_errback (Some (first_failure i failure), without_places g) (due_when_kept i v g)
    (λ x h. refl) (kept_ends i v g)

due_ends : (i : ℕ) (v : Value) (g : Gather) → Ends (due i v g)
due_ends i v g =
    let by_failure = due_by_failure i (failure_in v) v g in
    let by_success : Due = (Some (first_success i v), without_places g) in
    let unfired = either_ends (g.flags.fire_on_one_callback && succeeded v) by_success by_failure (λ x h. refl)
    (failure_ends i (failure_in v) v g) in
    either_ends g.fired (None, g) (if g.flags.fire_on_one_callback && succeeded v then by_success
    else by_failure) (nothing_ends g) unfired

pub lists_fire_once : ListsFireOnceAtMost
lists_fire_once i v g = record { ends = due_ends i v g; over = λ h. rw h refl; stays = λ h. rw h refl }

null_counts : missing_of value.Null ≡ 1
unfolding of_value.out-Value denote.Hole.Carrier.out
null_counts = refl

-- no child has come at first
pub all_missing : (n : ℕ) → count_missing (replicate n value.Null) ≡ n
all_missing n = sum_by-replicate missing_of n value.Null ∙ rw null_counts (omega arith)

-- a child that comes into a place counts no more
pub put_counts : (places : List Value) (i : ℕ) (kept old : Value) → i < length places → Some old ≡ slice_get places i
    → is_missing kept ≡ false → count_missing (slice_set places i kept) + missing_of old ≡ count_missing places
put_counts places i kept old h g k =
    let none : missing_of kept ≡ 0 = rw k refl in
    let same : missing_of (get_or places i old) ≡ missing_of old =
    ap missing_of (get_or_from_slice_get places i old old (sym g)) in
    omega (arith, sum_by-set missing_of places i kept old h, none, same)

-- there is no other place
pub set_nowhere : (places : List Value) (i : ℕ) (kept : Value) → length places ≤ i → slice_set places i kept ≡ places
set_nowhere places i kept h = set_out places i kept h

-- what was gathered of the first, and what the rest results in
abbrev pub with_front : List Value → Option (List Value) → Option (List Value)
with_front front rest = option_map (λ vs. front ++ vs) rest
