-- Tasks that take turns, by the numbers under which they joined.
use Rattle.std.proofs.Common.{◌≡◌, ◌≢◌, ℕ, zero, suc, ◌+◌, ◌-◌, ◌<◌, ◌≤◌, Bool, true, false, cond, ◌||◌, if◌then◌else◌}
use Rattle.std.proofs.Common.{nat_eq, nat_lt, eqb, is_le, ◌&&◌, List, [], ◌∷◌, ◌++◌, length, take, Option, Some, None}
use Rattle.std.proofs.Common.{slice_get, refl, sym, ap, ◌∙◌, subst, arith, ⊎_elim, ◌⊎◌, inl, inr, is_some}
use Rattle.std.proofs.lemmas.List.{length-map, map-append, length-take-le, take_all}
use Rattle.std.proofs.lemmas.Bool.Decides.{nat_tests, eqb_tells}
use Rattle.std.proofs.lemmas.Map.Keys.{sorted_head, sorted_tail}
use Rattle.std.proofs.lemmas.Map.Made.{length-remove_key}
use Rattle.std.proofs.lemmas.Option.{slice_get-map, slice_get_within}
use Rattle.std.specs.BTreeMap.{insert_entry, is_at}
use Rattle.std.specs.BTreeMap.Range.{entries_between}
use Rattle.std.specs.Cmp.{nat_cmp_is}
use Rattle.std.specs.List.{AllByRecursion}
use Rattle.std.specs.List.Sorted.{IsStrictlySortedBy}
use Rattle.std.specs.Map.{keys_of, lookup, remove_entry}
use Rattle.std.specs.Option.{option_map}
use Rattle.std.specs.Ordering.{nat_cmp}
use Rattle.std.specs.Set.{remove_key}
use Rattle.std.specs.declared.cmp.Ordering.TheVariants.{Less, Greater}
use Rattle.std.specs.declared.ops.Bound.TheVariants.{Included, Unbounded}
use Rattle.dv_script.specs.declared.turn_rule.TurnRule.{TurnRule}
use Rattle.dv_script.specs.declared.turn_rule.TurnRule.TheVariants.{Earlier, Fair, Twisted}
use Rattle.dv_clock.specs.Laws.{SkipsNobody, NobodyOvertakes}
use Rattle.dv_clock.specs.Turns.{Turns, is_among, joined, left, place_of_turn, turn_of, gone_on, gone_on_by, Joined}
use Rattle.dv_clock.specs.Turns.{tasks_of, stepped, found_from, turn_from, number_of, AreBelow, AreOnce, IsKept}
use Rattle.dv_clock.specs.Turns.{FindsToo, place_in, place_joined, place_left, place_stayed}
use Rattle.dv_clock.specs.Turns.{position_back, position_in, position_left}
use Rattle.dv_clock.specs.declared.place.Place.{Place}

-- what is looked for from a number on begins after those below it
from_is : (a b : ℕ) → is_at (nat_cmp a) b ≡ nat_eq a b
from_is a b = grind (arith, nat_tests)

starts : (next n : ℕ) → nat_lt n next ≡ false → (is_le (nat_cmp next n) && true) ≡ true
starts next n h = grind (arith, nat_tests)

starts_not : (next n : ℕ) → nat_lt n next ≡ true → (is_le (nat_cmp next n) && true) ≡ false
starts_not next n h = grind (arith, nat_tests)

between_by : (next : ℕ) (j : Joined) (order : List Joined) (b : Bool) → nat_lt j.0 next ≡ b
    → slice_get (entries_between nat_cmp (Included next) Unbounded order) 0 ≡ found_from next order
    → slice_get (entries_between nat_cmp (Included next) Unbounded (j ∷ order)) 0 ≡ found_from next (j ∷ order)
between_by next j order true h k = rw (h, starts_not next j.0 h) k
between_by next j order false h k = rw (h, starts next j.0 h) refl

pub between_from : (next : ℕ) (order : List Joined)
    → slice_get (entries_between nat_cmp (Included next) Unbounded order) 0 ≡ found_from next order
between_from next [] = refl
between_from next (j ∷ order) = between_by next j order (nat_lt j.0 next) refl (between_from next order)

-- all have numbers above n
abbrev AreAbove : ℕ → List Joined → Type 0
AreAbove n [] = Unit
AreAbove n (j ∷ order) = (n < j.0) × AreAbove n order

above_by : (n : ℕ) (order : List Joined) → AllByRecursion (λ m. nat_cmp n m ≡ Less) (keys_of order) → AreAbove n order
above_by n [] h = tt
above_by n (j ∷ order) h = (grind (arith, nat_tests, h.0), above_by n order h.1)

-- as those that come later have
above : (j : Joined) (order : List Joined) → IsStrictlySortedBy nat_cmp (keys_of (j ∷ order)) → AreAbove j.0 order
above j order h = above_by j.0 order (sorted_head nat_cmp j.0 (keys_of order) h)

later : (j : Joined) (order : List Joined) → IsStrictlySortedBy nat_cmp (keys_of (j ∷ order))
    → IsStrictlySortedBy nat_cmp (keys_of order)
later j order h = sorted_tail nat_cmp j.0 (keys_of order) h

-- where all have numbers above n, none is below n + 1
none_stepped : (n next : ℕ) (order : List Joined) → AreAbove n order → next ≤ n + 1 → stepped next order ≡ 0
none_stepped n next [] h k = refl
none_stepped n next (j ∷ order) h k =
    let no : nat_lt j.0 next ≡ false = grind (arith, nat_tests, h.0) in
    rw no refl

-- no more are below a number than there are
stepped_by : (next : ℕ) (j : Joined) (order : List Joined) (b : Bool) → stepped next order ≤ length order
    → (if b then suc (stepped next order) else 0) ≤ suc (length order)
stepped_by next j order true h = omega (arith, h)
stepped_by next j order false h = omega arith

stepped_few : (next : ℕ) (order : List Joined) → stepped next order ≤ length order
stepped_few next [] = omega arith
stepped_few next (j ∷ order) = stepped_by next j order (nat_lt j.0 next) (stepped_few next order)

-- what is found from a number on isn't below it
found_by : (next : ℕ) (j e : Joined) (order : List Joined) (b : Bool) → nat_lt j.0 next ≡ b
    → (found_from next order ≡ Some e → next ≤ e.0)
    → slice_get (j ∷ order) (if b then suc (stepped next order) else 0) ≡ Some e → next ≤ e.0
found_by next j e order true h k g = k g
found_by next j e order false h k g =
    let same : j ≡ e = cc in
    let n : next ≤ j.0 = grind (arith, nat_tests) in
    subst (λ (x : Joined). next ≤ x.0) same n

found_is : (next : ℕ) (e : Joined) (order : List Joined) → found_from next order ≡ Some e → next ≤ e.0
found_is next e [] h = absurd cc
found_is next e (j ∷ order) h = found_by next j e order (nat_lt j.0 next) refl (found_is next e order) h

-- once the first has had its turn, one is below
first_on : (j : Joined) (order : List Joined) → AreAbove j.0 order → stepped (j.0 + 1) (j ∷ order) ≡ 1
first_on j order a =
    let yes : nat_lt j.0 (j.0 + 1) ≡ true = grind (arith, nat_tests) in
    rw yes (ap suc (none_stepped j.0 (j.0 + 1) order a (omega arith)))

-- once the next has had its turn, one more is below
step_by : (next : ℕ) (j e : Joined) (order : List Joined) (b : Bool) → nat_lt j.0 next ≡ b → AreAbove j.0 order
    → (found_from next order ≡ Some e → stepped (e.0 + 1) order ≡ suc (stepped next order))
    → slice_get (j ∷ order) (if b then suc (stepped next order) else 0) ≡ Some e →
    stepped (e.0 + 1) (j ∷ order) ≡ suc (if b then suc (stepped next order) else 0)
step_by next j e order true h a k g =
    let low = found_is next e order g in
    let yes : nat_lt j.0 (e.0 + 1) ≡ true = grind (arith, nat_tests, low) in
    rw yes (ap suc (k g))
step_by next j e order false h a k g =
    let same : j ≡ e = cc in
    subst (λ (x : Joined). stepped (x.0 + 1) (j ∷ order) ≡ 1) same (first_on j order a)

step_on : (next : ℕ) (e : Joined) (order : List Joined) → IsStrictlySortedBy nat_cmp (keys_of order)
    → found_from next order ≡ Some e → stepped (e.0 + 1) order ≡ suc (stepped next order)
step_on next e [] s h = absurd cc
step_on next e (j ∷ order) s h =
    step_by next j e order (nat_lt j.0 next) refl (above j order s) (step_on next e order (later j order s)) h

-- what contracts see
abbrev pub seen : TurnRule → List Joined → Place → Turns
seen rule order p = record { rule = rule; tasks = tasks_of order; position = stepped p.next order + p.beyond }

-- the place after that of a number
abbrev pub after : ℕ → Place
after number = record { next = number + 1; beyond = 0 }

-- whose turn it is, and what is left then, by who joined
pub record IsTurn (rule : TurnRule) (order : List Joined) (p : Place) (e : Joined) : Type 0 where
  pub turn : turn_of (seen rule order p) ≡ Some e.1
  pub rest : gone_on (seen rule order p) ≡ seen rule order (after e.0)

went_on : (rule : TurnRule) (order : List Joined) (p : Place) (e : Joined) → turn_of (seen rule order p) ≡ Some e.1
    → place_of_turn (seen rule order p) + 1 ≡ stepped (e.0 + 1) order + 0 → IsTurn rule order p e
went_on rule order p e h k = record {
  turn = h;
  rest =
      ap (λ (o : Option ℕ). gone_on_by o (seen rule order p)) h
      ∙ ap (λ (n : ℕ). let t : Turns = record { rule = rule; tasks = tasks_of order; position = n } in t) k;
}

-- the position isn't past the end where one is found
pub on_place : (o : Option Joined) (e : Joined) (b : ℕ) → (1 ≤ b → o ≡ None) → o ≡ Some e → b ≡ 0
on_place o e zero h g = refl
on_place o e (suc b) h g = let none : o ≡ None = h (omega arith) in absurd cc

turn_here : (rule : TurnRule) (order : List Joined) (p : Place) (e : Joined)
    → IsStrictlySortedBy nat_cmp (keys_of order)
    → p.beyond ≡ 0 → found_from p.next order ≡ Some e → IsTurn rule order p e
turn_here rule order p e s z h =
    let few = slice_get_within order (stepped p.next order) e h in
    let same : stepped p.next order + p.beyond ≡ stepped p.next order = omega (arith, z) in
    let inside : nat_lt (stepped p.next order + p.beyond) (length (tasks_of order)) ≡ true =
    rw (length-map order (λ (j : Joined). j.1)) (grind (arith, nat_tests, few, same)) in
    let place : place_of_turn (seen rule order p) ≡ stepped p.next order = rw inside same in
    let task : slice_get (tasks_of order) (stepped p.next order) ≡ Some e.1 =
    slice_get-map (λ (j : Joined). j.1) order (stepped p.next order) ∙ ap (option_map (λ (j : Joined). j.1)) h in
    went_on rule order p e (ap (slice_get (tasks_of order)) place ∙ task)
    (omega (arith, place, step_on p.next e order s h))

-- where none is found, the position is the end, and the first has its turn
end_by : (next : ℕ) (j : Joined) (order : List Joined) (b : Bool) → nat_lt j.0 next ≡ b
    → (found_from next order ≡ None → length order ≤ stepped next order)
    → slice_get (j ∷ order) (if b then suc (stepped next order) else 0) ≡ None
    → suc (length order) ≤ (if b then suc (stepped next order) else 0)
end_by next j order true h k g = omega (arith, k g)
end_by next j order false h k g = absurd cc

none_found : (next : ℕ) (order : List Joined) → found_from next order ≡ None → length order ≤ stepped next order
none_found next [] h = omega arith
none_found next (j ∷ order) h = end_by next j order (nat_lt j.0 next) refl (none_found next order) h

turn_again : (rule : TurnRule) (order : List Joined) (p : Place) (e : Joined)
    → IsStrictlySortedBy nat_cmp (keys_of order)
    → found_from p.next order ≡ None → slice_get order 0 ≡ Some e → IsTurn rule order p e
turn_again rule [] p e s h g = absurd cc
turn_again rule (j ∷ order) p e s h g =
    let same : j ≡ e = cc in
    let many = none_found p.next (j ∷ order) h in
    let outside : nat_lt (stepped p.next (j ∷ order) + p.beyond) (length (tasks_of (j ∷ order))) ≡ false =
    rw (length-map order (λ (j : Joined). j.1)) (grind (arith, nat_tests)) in
    let place : place_of_turn (seen rule (j ∷ order) p) ≡ 0 = rw outside refl in
    subst (IsTurn rule (j ∷ order) p) same (went_on rule (j ∷ order) p j
    (ap (slice_get (tasks_of (j ∷ order))) place) (omega (arith, place, first_on j order (above j order s))))

turn_by : (rule : TurnRule) (order : List Joined) (p : Place) (e : Joined) (o : Option Joined)
    → IsStrictlySortedBy nat_cmp (keys_of order) → (1 ≤ p.beyond → found_from p.next order ≡ None)
    → found_from p.next order ≡ o → turn_from o order ≡ Some e → IsTurn rule order p e
turn_by rule order p e None s past h g = turn_again rule order p e s h g
turn_by rule order p e (Some j) s past h g =
    turn_here rule order p e s (on_place (found_from p.next order) j p.beyond past h) (h ∙ g)

pub turn_is : (rule : TurnRule) (order : List Joined) (p : Place) (e : Joined)
    → IsStrictlySortedBy nat_cmp (keys_of order)
    → (1 ≤ p.beyond → found_from p.next order ≡ None)
    → Some e ≡ turn_from (found_from p.next order) order → IsTurn rule order p e
turn_is rule order p e s past h = turn_by rule order p e (found_from p.next order) s past refl (sym h)

-- where nobody takes turns, it is nobody's turn
none_there : (n : ℕ) → (let nobody : List ℕ = [] in slice_get nobody n ≡ None)
none_there zero = refl
none_there (suc n) = refl

nobody_by : (rule : TurnRule) (order : List Joined) (p : Place) (o : Option Joined) → turn_from o order ≡ None
    → turn_of (seen rule order p) ≡ None
nobody_by rule order p (Some j) h = absurd cc
nobody_by rule [] p None h = none_there (place_of_turn (seen rule [] p))
nobody_by rule (j ∷ order) p None h = absurd cc

pub nobody_is : (rule : TurnRule) (order : List Joined) (p : Place)
    → None ≡ turn_from (found_from p.next order) order → turn_of (seen rule order p) ≡ None
nobody_is rule order p h = nobody_by rule order p (found_from p.next order) (sym h)

-- none is below 0
pub stepped_zero : (order : List Joined) → stepped 0 order ≡ 0
stepped_zero [] = refl
stepped_zero (j ∷ order) = let no : nat_lt j.0 0 ≡ false = grind (arith, nat_tests) in rw no refl

pub nobody_rests : (rule : TurnRule) (order : List Joined) (p : Place)
    → None ≡ turn_from (found_from p.next order) order
    → seen rule order (record { next = 0; beyond = 0 }) ≡ gone_on (seen rule order p)
nobody_rests rule order p h =
    ap (λ (n : ℕ). let t : Turns = record { rule = rule; tasks = tasks_of order; position = n + 0 } in t)
    (stepped_zero order)
    ∙ sym (ap (λ (o : Option ℕ). gone_on_by o (seen rule order p)) (nobody_is rule order p h))

-- its number was given
number_given : (given : ℕ) (order : List Joined) (i : ℕ) (e : Joined) → AreBelow given order
    → slice_get order i ≡ Some e → e.0 < given
number_given given [] i e h g = absurd cc
number_given given (j ∷ order) zero e h g = let same : j ≡ e = cc in subst (λ (x : Joined). x.0 < given) same h.0
number_given given (j ∷ order) (suc i) e h g = number_given given order i e h.1 g

turn_given_by : (given : ℕ) (order : List Joined) (next : ℕ) (e : Joined) (o : Option Joined) → AreBelow given order
    → found_from next order ≡ o → turn_from o order ≡ Some e → e.0 < given
turn_given_by given order next e None h f g = number_given given order 0 e h g
turn_given_by given order next e (Some j) h f g = number_given given order (stepped next order) e h (f ∙ g)

pub turn_given : (given : ℕ) (order : List Joined) (next : ℕ) (e : Joined) → AreBelow given order
    → Some e ≡ turn_from (found_from next order) order → e.0 < given
turn_given given order next e h g = turn_given_by given order next e (found_from next order) h refl (sym g)

-- no more are below a number than it is
abbrev AreFrom : ℕ → List Joined → Type 0
AreFrom n [] = Unit
AreFrom n (j ∷ order) = n ≤ j.0

from_above : (n : ℕ) (order : List Joined) → AreAbove n order → AreFrom (n + 1) order
from_above n [] a = tt
from_above n (j ∷ order) a = omega (arith, a.0)

below_by : (low next : ℕ) (j : Joined) (order : List Joined) (b : Bool) → nat_lt j.0 next ≡ b → low ≤ j.0
    → low ≤ next → (j.0 + 1 ≤ next → (j.0 + 1) + stepped next order ≤ next)
    → low + (if b then suc (stepped next order) else 0) ≤ next
below_by low next j order true e a l k =
    let more : j.0 + 1 ≤ next = grind (arith, nat_tests) in
    let rest = k more in
    omega (arith, rest, a)
below_by low next j order false e a l k = omega (arith, l)

few_below : (low next : ℕ) (order : List Joined) → IsStrictlySortedBy nat_cmp (keys_of order) → AreFrom low order
    → low ≤ next → low + stepped next order ≤ next
few_below low next [] s a l = omega (arith, l)
few_below low next (j ∷ order) s a l =
    below_by low next j order (nat_lt j.0 next) refl a l
    (few_below (j.0 + 1) next order (later j order s) (from_above j.0 order (above j order s)))

from_zero : (order : List Joined) → AreFrom 0 order
from_zero [] = tt
from_zero (j ∷ order) = omega arith

-- what is kept when it is the next one's turn
pub kept_on : (order : List Joined) (numbers : List (ℕ × ℕ)) (given next : ℕ) (p : Place) → IsKept order numbers given p
    → next ≤ given → IsKept order numbers given (record { next = next; beyond = 0 })
kept_on order numbers given next p k h =
    let few = few_below 0 next order k.ascends (from_zero order) (omega arith) in
    record {
      ascends = k.ascends;
      below = k.below;
      once = k.once;
      found = k.found;
      begun = h;
      within = omega (arith, few, h);
      past = λ more. absurd (omega (arith, more));
    }

-- a task that joins under the next number stands last
last_by : (given task : ℕ) (j : Joined) (order : List Joined) → j.0 < given
    → insert_entry nat_cmp order given task ≡ order ++ (given, task) ∷ []
    → insert_entry nat_cmp (j ∷ order) given task ≡ j ∷ (order ++ (given, task) ∷ [])
last_by given task j order h k = rw (← nat_cmp_is given j.0 Greater h) (ap (λ (rest : List Joined). j ∷ rest) k)

pub joins_last : (given task : ℕ) (order : List Joined) → AreBelow given order
    → insert_entry nat_cmp order given task ≡ order ++ (given, task) ∷ []
joins_last given task [] h = refl
joins_last given task (j ∷ order) h = last_by given task j order h.0 (joins_last given task order h.1)

-- and the position stays
stepped_same_by : (next : ℕ) (j : Joined) (order more : List Joined) (b : Bool) → stepped next more ≡ stepped next order
    → (if b then suc (stepped next more) else 0) ≡ (if b then suc (stepped next order) else 0)
stepped_same_by next j order more b h = rw h refl

pub stepped_same : (next given task : ℕ) (order : List Joined) → next ≤ given
    → stepped next (order ++ (given, task) ∷ []) ≡ stepped next order
stepped_same next given task [] h =
    let no : nat_lt given next ≡ false = grind (arith, nat_tests) in
    rw no refl
stepped_same next given task (j ∷ order) h =
    stepped_same_by next j order (order ++ (given, task) ∷ []) (nat_lt j.0 next) (stepped_same next given task order h)

-- more numbers were given
pub below_more : (given task : ℕ) (order : List Joined) → AreBelow given order
    → AreBelow (given + 1) (order ++ (given, task) ∷ [])
below_more given task [] h = (omega arith, tt)
below_more given task (j ∷ order) h = (omega (arith, h.0), below_more given task order h.1)

-- a task is this one, or another
abbrev Places : ℕ → ℕ → Type 0
Places task other =
    ((nat_eq task other ≡ true) × (other ≡ task)) ⊎ ((nat_eq task other ≡ false) × (nat_eq other task ≡ false))

other_way : (a b : ℕ) → nat_eq a b ≡ nat_eq b a
other_way a b = grind (arith, nat_tests)

either_task : (task other : ℕ) → Places task other
either_task task other = ⊎_elim
    (λ (t : (eqb task other ≡ true) × (task ≡ other)). inl (t.0, sym t.1))
    (λ (t : (eqb task other ≡ false) × (task ≢ other)). inr (t.0, other_way other task ∙ t.0))
    (eqb_tells task other)

-- the task that joins is found by its number, and the others as before
found_head : (task : ℕ) (j : Joined) (order : List Joined) (b : Bool) → nat_eq task j.1 ≡ b
    → number_of task (j ∷ order) ≡ None → (nat_eq task j.1 ≡ false) × (number_of task order ≡ None)
found_head task j order true e h = let h' : Some j.0 ≡ None = (let k = rw e at h in k) in absurd cc
found_head task j order false e h = (e, rw e at h)

joins_found : (given task : ℕ) (order : List Joined) → number_of task order ≡ None
    → number_of task (order ++ (given, task) ∷ []) ≡ Some given
joins_found given task [] h = let same : nat_eq task task ≡ true = grind (arith, nat_tests) in rw same refl
joins_found given task (j ∷ order) h =
    let parts = found_head task j order (nat_eq task j.1) refl h in
    rw parts.0 (joins_found given task order parts.1)

joins_beside_by : (j : Joined) (was is : Option ℕ) (b : Bool) → is ≡ was
    → (if b then Some j.0 else is) ≡ (if b then Some j.0 else was)
joins_beside_by j was is b h = rw h refl

joins_beside : (given task other : ℕ) (order : List Joined) → nat_eq other task ≡ false
    → number_of other (order ++ (given, task) ∷ []) ≡ number_of other order
joins_beside given task other [] h = rw h refl
joins_beside given task other (j ∷ order) h =
    joins_beside_by j (number_of other order) (number_of other (order ++ (given, task) ∷ [])) (nat_eq other j.1)
    (joins_beside given task other order h)

found_more_by : (given task other : ℕ) (order : List Joined) → number_of task order ≡ None → Places task other
    → number_of other (order ++ (given, task) ∷ []) ≡ cond (nat_eq task other) (Some given) (number_of other order)
found_more_by given task other order h (inl (t, e)) = rw (t, e) (joins_found given task order h)
found_more_by given task other order h (inr (f, ne)) = rw f (joins_beside given task other order ne)

pub found_more : (given task other : ℕ) (order : List Joined) → number_of task order ≡ None
    → number_of other (order ++ (given, task) ∷ []) ≡ cond (nat_eq task other) (Some given) (number_of other order)
found_more given task other order h = found_more_by given task other order h (either_task task other)

-- each still stands once
pub once_more : (given task : ℕ) (order : List Joined) → number_of task order ≡ None → AreOnce order
    → AreOnce (order ++ (given, task) ∷ [])
once_more given task [] h k = (refl, tt)
once_more given task (j ∷ order) h k =
    let parts = found_head task j order (nat_eq task j.1) refl h in
    (joins_beside given task j.1 order (other_way j.1 task ∙ parts.0) ∙ k.0, once_more given task order parts.1 k.1)

-- all are below a number that is given after theirs
pub all_stepped : (n : ℕ) (order : List Joined) → AreBelow n order → stepped n order ≡ length order
all_stepped n [] h = refl
all_stepped n (j ∷ order) h =
    let yes : nat_lt j.0 n ≡ true = grind (arith, nat_tests, h.0) in
    rw yes (ap suc (all_stepped n order h.1))

pub none_from : (n : ℕ) (order : List Joined) → AreBelow n order → found_from n order ≡ None
none_from n [] h = refl
none_from n (j ∷ order) h =
    let yes : nat_lt j.0 n ≡ true = grind (arith, nat_tests, h.0) in
    rw yes (none_from n order h.1)

-- what a place is to be
pub record IsPlace (order : List Joined) (given : ℕ) (p : Place) : Type 0 where
  pub begun : p.next ≤ given
  pub within : stepped p.next order + p.beyond ≤ given
  pub past : 1 ≤ p.beyond → found_from p.next order ≡ None

-- the place when a task has joined
pub record JoinsAt (order more : List Joined) (given : ℕ) (p q : Place) : Type 0 where
  pub place : IsPlace more (given + 1) q
  pub same : stepped q.next more + q.beyond ≡ stepped p.next order + p.beyond

length_more : (order : List Joined) (j : Joined) → length (order ++ j ∷ []) ≡ suc (length order)
length_more [] j = refl
length_more (i ∷ order) j = ap suc (length_more order j)

joins_by : (order : List Joined) (numbers : List (ℕ × ℕ)) (given task : ℕ) (p : Place) (b : Bool)
    → nat_eq p.beyond 0 ≡ b
    → IsKept order numbers given p →
    JoinsAt order (order ++ (given, task) ∷ []) given p
    (if b then p else record { next = given + 1; beyond = p.beyond - 1 })
joins_by order numbers given task p true e k =
    let none : p.beyond ≡ 0 = grind (arith, nat_tests) in
    let same = stepped_same p.next given task order k.begun in
    record {
      place = record {
        begun = omega (arith, k.begun);
        within = omega (arith, same, k.within);
        past = λ more. absurd (let no : 1 ≤ 0 = subst (λ (n : ℕ). 1 ≤ n) none more in omega (arith, no));
      };
      same = omega (arith, same);
    }
joins_by order numbers given task p false e k =
    let some : 1 ≤ p.beyond = grind (arith, nat_tests) in
    let below = below_more given task order k.below in
    let more = all_stepped (given + 1) (order ++ (given, task) ∷ []) below in
    let longer = length_more order (given, task) in
    let many = none_found p.next order (k.past some) in
    let few = stepped_few p.next order in
    let same : stepped (given + 1) (order ++ (given, task) ∷ []) + (p.beyond - 1) ≡ stepped p.next order + p.beyond =
    omega (arith, some, more, longer, many, few) in
    record {
      place = record {
        begun = omega arith;
        within = omega (arith, same, k.within);
        past = λ later. none_from (given + 1) (order ++ (given, task) ∷ []) below;
      };
      same = same;
    }

joins_at : (order : List Joined) (numbers : List (ℕ × ℕ)) (given task : ℕ) (p : Place) → IsKept order numbers given p
    → JoinsAt order (order ++ (given, task) ∷ []) given p (place_joined given p)
joins_at order numbers given task p k = joins_by order numbers given task p (nat_eq p.beyond 0) refl k

-- what is kept when a task joins
pub kept_more : (order more : List Joined) (numbers found : List (ℕ × ℕ)) (given task : ℕ) (p : Place)
    → IsKept order numbers given p → number_of task order ≡ None → more ≡ insert_entry nat_cmp order given task
    → IsStrictlySortedBy nat_cmp (keys_of more) → FindsToo numbers found task given
    → IsKept more found (given + 1) (place_joined given p)
kept_more order more numbers found given task p k h e s f =
    let e' = e ∙ joins_last given task order k.below in
    let joins = joins_at order numbers given task p k in
    subst (λ (x : List Joined). IsKept x found (given + 1) (place_joined given p)) (sym e') (record {
      ascends = subst (λ (x : List Joined). IsStrictlySortedBy nat_cmp (keys_of x)) e' s;
      below = below_more given task order k.below;
      once = once_more given task order h k.once;
      found =
          λ other. f other ∙ ap (cond (nat_eq task other) (Some given)) (k.found other)
          ∙ sym (found_more given task other order h);
      begun = joins.place.begun;
      within = joins.place.within;
      past = joins.place.past;
    })

-- a task is among those that joined where its number is found
pub among_is : (task : ℕ) (order : List Joined) → is_among task (tasks_of order) ≡ is_some (number_of task order)
among_is task [] = refl
among_is task (j ∷ order) = among_by task j order (nat_eq task j.1) (among_is task order) where
  among_by : (task : ℕ) (j : Joined) (order : List Joined) (b : Bool)
      → is_among task (tasks_of order) ≡ is_some (number_of task order)
      → (b || is_among task (tasks_of order)) ≡ is_some (if b then Some j.0 else number_of task order)
  among_by task j order true h = refl
  among_by task j order false h = h

-- what contracts see when a task joins
pub seen_more : (rule : TurnRule) (order more : List Joined) (numbers : List (ℕ × ℕ)) (given task : ℕ) (p : Place)
    → IsKept order numbers given p → number_of task order ≡ None → more ≡ insert_entry nat_cmp order given task
    → seen rule more (place_joined given p) ≡ joined task (seen rule order p)
seen_more rule order more numbers given task p k h e =
    let no : is_among task (tasks_of order) ≡ false = among_is task order ∙ ap is_some h in
    rw (
      e,
      joins_last given task order k.below,
      no,
      (joins_at order numbers given task p k).same,
      map-append (λ (j : Joined). j.1) order ((given, task) ∷ []),
    ) refl

pub seen_same : (rule : TurnRule) (order : List Joined) (p : Place) (task : ℕ) → is_some (number_of task order) ≡ true
    → seen rule order p ≡ joined task (seen rule order p)
seen_same rule order p task h = rw (among_is task order ∙ h) refl

-- those that joined, without a task
abbrev pub without : ℕ → List Joined → List Joined
without task [] = []
without task (j ∷ order) = if nat_eq task j.1 then order else j ∷ without task order

-- one that is found among those above n has a number above n
above_found_by : (n number : ℕ) (j : Joined) (rest : Option ℕ) (b : Bool) → n < j.0 → (rest ≡ Some number → n < number)
    → (if b then Some j.0 else rest) ≡ Some number → n < number
above_found_by n number j rest true h k g = let same : j.0 ≡ number = cc in omega (arith, h, same)
above_found_by n number j rest false h k g = k g

above_found : (n task number : ℕ) (order : List Joined) → AreAbove n order → number_of task order ≡ Some number
    → n < number
above_found n task number [] a h = absurd cc
above_found n task number (j ∷ order) a h =
    above_found_by n number j (number_of task order) (nat_eq task j.1) a.0 (above_found n task number order a.1) h

-- one that leaves by its number leaves
removed_by : (task number : ℕ) (j : Joined) (order : List Joined) (b : Bool) → nat_eq task j.1 ≡ b → AreAbove j.0 order
    → (number_of task order ≡ Some number → remove_entry (is_at (nat_cmp number)) order ≡ without task order)
    → number_of task (j ∷ order) ≡ Some number
    → remove_entry (is_at (nat_cmp number)) (j ∷ order) ≡ without task (j ∷ order)
removed_by task number j order true e a k h =
    let same : j.0 ≡ number = (let h' : Some j.0 ≡ Some number = rw e at h in cc) in
    let here : is_at (nat_cmp number) j.0 ≡ true = from_is number j.0 ∙ grind (arith, nat_tests) in
    rw (here, e) refl
removed_by task number j order false e a k h =
    let h' : number_of task order ≡ Some number = rw e at h in
    let more = above_found j.0 task number order a h' in
    let not_here : is_at (nat_cmp number) j.0 ≡ false = from_is number j.0 ∙ grind (arith, nat_tests) in
    rw (not_here, e, k h') refl

pub removed_is : (task number : ℕ) (order : List Joined) → IsStrictlySortedBy nat_cmp (keys_of order)
    → number_of task order ≡ Some number → remove_entry (is_at (nat_cmp number)) order ≡ without task order
removed_is task number [] s h = absurd cc
removed_is task number (j ∷ order) s h =
    removed_by task number j order (nat_eq task j.1) refl (above j order s)
    (removed_is task number order (later j order s)) h

-- its task leaves the tasks
tasks_by : (task : ℕ) (j : Joined) (order : List Joined) (b : Bool)
    → tasks_of (without task order) ≡ remove_key (nat_eq task) (tasks_of order)
    → tasks_of (if b then order else j ∷ without task order)
    ≡ cond b (tasks_of order) (j.1 ∷ remove_key (nat_eq task) (tasks_of order))
tasks_by task j order true h = refl
tasks_by task j order false h = ap (λ (ts : List ℕ). j.1 ∷ ts) h

tasks_without : (task : ℕ) (order : List Joined)
    → tasks_of (without task order) ≡ remove_key (nat_eq task) (tasks_of order)
tasks_without task [] = refl
tasks_without task (j ∷ order) = tasks_by task j order (nat_eq task j.1) (tasks_without task order)

-- as many are left before the position as are left of those that stood before it
stepped_without_by : (next task : ℕ) (j : Joined) (order : List Joined) (here low : Bool) → nat_eq task j.1 ≡ here
    → nat_lt j.0 next ≡ low → AreAbove j.0 order → stepped next (without task order)
    ≡ length (remove_key (nat_eq task) (take (stepped next order) (tasks_of order))) →
    stepped next (if here then order else j ∷ without task order)
    ≡ length (remove_key (nat_eq task) (take (if low then suc (stepped next order) else 0) (j.1 ∷ tasks_of order)))
stepped_without_by next task j order true true e l a h =
    rw e (sym (length-take-le (stepped next order) (tasks_of order)
    (rw (length-map order (λ (x : Joined). x.1)) (stepped_few next order))))
stepped_without_by next task j order true false e l a h =
    none_stepped j.0 next order a (grind (arith, nat_tests))
stepped_without_by next task j order false true e l a h = rw (e, l) (ap suc h)
stepped_without_by next task j order false false e l a h = rw l refl

stepped_without : (next task : ℕ) (order : List Joined) → IsStrictlySortedBy nat_cmp (keys_of order)
    → stepped next (without task order) ≡ length (remove_key (nat_eq task) (take (stepped next order) (tasks_of order)))
stepped_without next task [] s = refl
stepped_without next task (j ∷ order) s =
    stepped_without_by next task j order (nat_eq task j.1) (nat_lt j.0 next) refl refl (above j order s)
    (stepped_without next task order (later j order s))

-- so the position goes back by one where the task stood before it
none_removed_by : (task t : ℕ) (ts : List ℕ) (b : Bool) → remove_key (nat_eq task) ts ≡ ts → b ≡ false
    → cond b ts (t ∷ remove_key (nat_eq task) ts) ≡ t ∷ ts
none_removed_by task t ts true h k = absurd cc
none_removed_by task t ts false h k = ap (λ (us : List ℕ). t ∷ us) h

either_false : (a b : Bool) → (a || b) ≡ false → (a ≡ false) × (b ≡ false)
either_false true b h = absurd cc
either_false false b h = (refl, h)

none_removed : (task : ℕ) (ts : List ℕ) → is_among task ts ≡ false → remove_key (nat_eq task) ts ≡ ts
none_removed task [] h = refl
none_removed task (t ∷ ts) h =
    let parts = either_false (nat_eq task t) (is_among task ts) h in
    none_removed_by task t ts (nat_eq task t) (none_removed task ts parts.1) parts.0

-- who takes turns once a task has left, also where it took none
left_by_among : (task : ℕ) (t : Turns) (b : Bool) → is_among task t.tasks ≡ b →
    (if b then record t { tasks = remove_key (nat_eq task) t.tasks; position = position_left t.rule task t }
    else t).tasks
    ≡ remove_key (nat_eq task) t.tasks
left_by_among task t true h = refl
left_by_among task t false h = sym (none_removed task t.tasks h)

pub left_tasks : (task : ℕ) (t : Turns) → (left task t).tasks ≡ remove_key (nat_eq task) t.tasks
left_tasks task t = left_by_among task t (is_among task t.tasks) refl

back_by : (task p : ℕ) (front : List ℕ) (b : Bool) → length front ≡ p → is_among task front ≡ b
    → length (remove_key (nat_eq task) front) ≡ (if b then p - 1 else p)
back_by task p front true h k = let fewer = length-remove_key (nat_eq task) front k in omega (arith, h, fewer)
back_by task p front false h k = ap length (none_removed task front k) ∙ h

-- so many are left before a number, and the one that left if it was there
less_by : (next task number : ℕ) (j : Joined) (order : List Joined) (here low : Bool) → nat_eq task j.1 ≡ here
    → nat_lt j.0 next ≡ low → AreAbove j.0 order
    → (number_of task order ≡ Some number
    → stepped next (without task order) + cond (nat_lt number next) 1 0 ≡ stepped next order)
    → (if here then Some j.0 else number_of task order) ≡ Some number →
    stepped next (if here then order else j ∷ without task order) + cond (nat_lt number next) 1 0
    ≡ (if low then suc (stepped next order) else 0)
less_by next task number j order true true e l a k h =
    let same : j.0 ≡ number = cc in
    let yes : nat_lt number next ≡ true = subst (λ (n : ℕ). nat_lt n next ≡ true) same l in
    rw yes (omega arith)
less_by next task number j order true false e l a k h =
    let same : j.0 ≡ number = cc in
    let no : nat_lt number next ≡ false = subst (λ (n : ℕ). nat_lt n next ≡ false) same l in
    let none = none_stepped j.0 next order a (grind (arith, nat_tests)) in
    rw (no, none) refl
less_by next task number j order false true e l a k h =
    let less = k h in
    rw l (omega (arith, less))
less_by next task number j order false false e l a k h =
    let more = above_found j.0 task number order a h in
    let no : nat_lt number next ≡ false = grind (arith, nat_tests, more) in
    rw (l, no) refl

stepped_less : (next task number : ℕ) (order : List Joined) → IsStrictlySortedBy nat_cmp (keys_of order)
    → number_of task order ≡ Some number
    → stepped next (without task order) + cond (nat_lt number next) 1 0 ≡ stepped next order
stepped_less next task number [] s h = absurd cc
stepped_less next task number (j ∷ order) s h =
    less_by next task number j order (nat_eq task j.1) (nat_lt j.0 next) refl refl (above j order s)
    (stepped_less next task number order (later j order s)) h

-- the position goes back by one where the task stood before it
back_here : (rule : TurnRule) (order : List Joined) (p : Place) (task : ℕ) → IsStrictlySortedBy nat_cmp (keys_of order)
    → p.beyond ≡ 0
    → position_back task (seen rule order p) ≡ stepped p.next (without task order) + p.beyond
back_here rule order p task s z =
    let few : stepped p.next order ≤ length (tasks_of order) =
    rw (length-map order (λ (j : Joined). j.1)) (stepped_few p.next order) in
    let front = take (stepped p.next order) (tasks_of order) in
    let back = stepped_without p.next task order s ∙ back_by task (stepped p.next order) front (is_among task front)
    (length-take-le (stepped p.next order) (tasks_of order) few) refl in
    let here : stepped p.next order + p.beyond ≡ stepped p.next order = omega (arith, z) in
    ap (λ (n : ℕ). if is_among task (take n (tasks_of order)) then n - 1 else n) here
    ∙ sym back ∙ omega (arith, z)

some_there : (task number : ℕ) (order : List Joined) → number_of task order ≡ Some number → 1 ≤ length order
some_there task number [] h = absurd cc
some_there task number (j ∷ order) h = omega arith

back_past : (rule : TurnRule) (order : List Joined) (p : Place) (task number : ℕ)
    → IsStrictlySortedBy nat_cmp (keys_of order) → number_of task order ≡ Some number → 1 ≤ p.beyond
    → found_from p.next order ≡ None
    → position_back task (seen rule order p) ≡ stepped p.next (without task order) + p.beyond
back_past rule order p task number s h some none =
    let many = none_found p.next order none in
    let one = some_there task number order h in
    let all : length (tasks_of order) ≤ stepped p.next order =
    rw (length-map order (λ (j : Joined). j.1)) many in
    let few : stepped p.next order ≤ length (tasks_of order) =
    rw (length-map order (λ (j : Joined). j.1)) (stepped_few p.next order) in
    let among : is_among task (tasks_of order) ≡ true = among_is task order ∙ ap is_some h in
    let whole : take (stepped p.next order) (tasks_of order) ≡ tasks_of order =
    take_all (stepped p.next order) (tasks_of order) all in
    let wider : take (stepped p.next order + p.beyond) (tasks_of order) ≡ tasks_of order =
    take_all (stepped p.next order + p.beyond) (tasks_of order) (omega (arith, all)) in
    let back : stepped p.next (without task order) ≡ stepped p.next order - 1 =
    stepped_without p.next task order s
    ∙ back_by task (stepped p.next order) (take (stepped p.next order) (tasks_of order)) true
    (length-take-le (stepped p.next order) (tasks_of order) few) (ap (is_among task) whole ∙ among) in
    rw (wider, among) (omega (arith, back, many, one))

back_is_by : (rule : TurnRule) (order : List Joined) (p : Place) (task number : ℕ) (b : Bool) → nat_eq p.beyond 0 ≡ b
    → IsStrictlySortedBy nat_cmp (keys_of order) → number_of task order ≡ Some number
    → (1 ≤ p.beyond → found_from p.next order ≡ None)
    → position_back task (seen rule order p) ≡ stepped p.next (without task order) + p.beyond
back_is_by rule order p task number true e s h past =
    back_here rule order p task s (grind (arith, nat_tests))
back_is_by rule order p task number false e s h past =
    let some : 1 ≤ p.beyond = grind (arith, nat_tests) in
    back_past rule order p task number s h some (past some)

back_is : (rule : TurnRule) (order : List Joined) (p : Place) (task number : ℕ)
    → IsStrictlySortedBy nat_cmp (keys_of order) → number_of task order ≡ Some number
    → (1 ≤ p.beyond → found_from p.next order ≡ None)
    → position_back task (seen rule order p) ≡ stepped p.next (without task order) + p.beyond
back_is rule order p task number s h past = back_is_by rule order p task number (nat_eq p.beyond 0) refl s h past

-- where none was found, none is found once one has left
less_none_by : (next task : ℕ) (j : Joined) (order : List Joined) (here low : Bool) → nat_lt j.0 next ≡ low
    → (found_from next order ≡ None → found_from next (without task order) ≡ None)
    → slice_get (j ∷ order) (if low then suc (stepped next order) else 0) ≡ None
    → found_from next (if here then order else j ∷ without task order) ≡ None
less_none_by next task j order true true l k h = h
less_none_by next task j order true false l k h = absurd cc
less_none_by next task j order false true l k h = rw l (k h)
less_none_by next task j order false false l k h = absurd cc

less_none : (next task : ℕ) (order : List Joined) → found_from next order ≡ None
    → found_from next (without task order) ≡ None
less_none next task [] h = refl
less_none next task (j ∷ order) h =
    less_none_by next task j order (nat_eq task j.1) (nat_lt j.0 next) refl (less_none next task order) h

-- the place when a task has left
pub record LeavesAt (rule : TurnRule) (order less : List Joined) (given task : ℕ) (p q : Place) : Type 0 where
  pub place : IsPlace less given q
  pub position : stepped q.next less + q.beyond ≡ position_left rule task (seen rule order p)

-- what is known then
record Leaves (order less : List Joined) (given task number : ℕ) (p : Place) : Type 0 where
  place : IsPlace order given p
  there : number_of task order ≡ Some number
  rest : less ≡ without task order
  ascends : IsStrictlySortedBy nat_cmp (keys_of order)
  still : IsStrictlySortedBy nat_cmp (keys_of less)
  below : AreBelow given less

back_of : (rule : TurnRule) (order less : List Joined) (given task number : ℕ) (p : Place)
    → Leaves order less given task number p
    → position_back task (seen rule order p) ≡ stepped p.next less + p.beyond
back_of rule order less given task number p h =
    back_is rule order p task number h.ascends h.there h.place.past
    ∙ ap (λ (x : List Joined). stepped p.next x + p.beyond) (sym h.rest)

fewer_of : (order less : List Joined) (given task number : ℕ) (p : Place) → Leaves order less given task number p
    → stepped p.next less + cond (nat_lt number p.next) 1 0 ≡ stepped p.next order
fewer_of order less given task number p h =
    ap (λ (x : List Joined). stepped p.next x + cond (nat_lt number p.next) 1 0) h.rest
    ∙ stepped_less p.next task number order h.ascends h.there

past_of : (order less : List Joined) (given task number : ℕ) (p : Place) → Leaves order less given task number p
    → 1 ≤ p.beyond → found_from p.next less ≡ None
past_of order less given task number p h some =
    ap (λ (x : List Joined). found_from p.next x) h.rest ∙ less_none p.next task order (h.place.past some)

-- it stays
stays_at : (order less : List Joined) (given task number : ℕ) (p : Place) → Leaves order less given task number p
    → IsPlace less given p
stays_at order less given task number p h =
    let fewer = fewer_of order less given task number p h in
    record {
      begun = h.place.begun;
      within = omega (arith, fewer, h.place.within);
      past = past_of order less given task number p h;
    }

earlier_at : (order less : List Joined) (given task number : ℕ) (p : Place) → Leaves order less given task number p
    → LeavesAt Earlier order less given task p p
earlier_at order less given task number p h = record {
  place = stays_at order less given task number p h;
  position = sym (back_of Earlier order less given task number p h);
}

-- it goes round
tasks_less : (order less : List Joined) (task : ℕ) → less ≡ without task order
    → remove_key (nat_eq task) (tasks_of order) ≡ tasks_of less
tasks_less order less task h = sym (tasks_without task order) ∙ ap tasks_of (sym h)

fair_by : (order less : List Joined) (given task number : ℕ) (p : Place) (found : Option Joined)
    → Leaves order less given task number p → found_from p.next less ≡ found
    → LeavesAt Fair order less given task p (place_in found p)
fair_by order less given task number p None h f =
    let many = none_found p.next less f in
    let outside : nat_lt (stepped p.next less + p.beyond) (length (tasks_of less)) ≡ false =
    rw (length-map less (λ (j : Joined). j.1)) (grind (arith, nat_tests, many)) in
    record {
      place = record {
        begun = omega arith;
        within = rw (stepped_zero less) (omega arith);
        past = λ more. absurd (omega (arith, more));
      };
      position = rw (
        stepped_zero less,
        tasks_less order less task h.rest,
        back_of Fair order less given task number p h,
        outside,
      ) refl;
    }
fair_by order less given task number p (Some j) h f =
    let none = on_place (found_from p.next less) j p.beyond (past_of order less given task number p h) f in
    let few = slice_get_within less (stepped p.next less) j f in
    let inside : nat_lt (stepped p.next less + p.beyond) (length (tasks_of less)) ≡ true =
    rw (length-map less (λ (j : Joined). j.1)) (grind (arith, nat_tests, few, none)) in
    record {
      place = stays_at order less given task number p h;
      position = rw (
        tasks_less order less task h.rest,
        back_of Fair order less given task number p h,
        inside,
      ) refl;
    }

-- the position stays
stayed_by : (order less : List Joined) (given task number : ℕ) (p : Place) (found : Option Joined)
    → Leaves order less given task number p → nat_lt number p.next ≡ true → found_from p.next less ≡ found
    → LeavesAt Twisted order less given task p (place_stayed found p)
stayed_by order less given task number p None h low f =
    let fewer : stepped p.next less + 1 ≡ stepped p.next order =
    ap (λ (b : Bool). stepped p.next less + cond b 1 0) (sym low) ∙ fewer_of order less given task number p h in
    record {
      place = record {
        begun = h.place.begun;
        within = omega (arith, fewer, h.place.within);
        past = λ more. f;
      };
      position = omega (arith, fewer);
    }
stayed_by order less given task number p (Some j) h low f =
    let fewer : stepped p.next less + 1 ≡ stepped p.next order =
    ap (λ (b : Bool). stepped p.next less + cond b 1 0) (sym low) ∙ fewer_of order less given task number p h in
    let on = step_on p.next j less h.still f in
    let none = on_place (found_from p.next less) j p.beyond (past_of order less given task number p h) f in
    let known = number_given given less (stepped p.next less) j h.below f in
    record {
      place = record {
        begun = omega (arith, known);
        within = omega (arith, on, fewer, h.place.within);
        past = λ more. absurd (omega (arith, more, none));
      };
      position = omega (arith, on, fewer);
    }

twisted_by : (order less : List Joined) (given task number : ℕ) (p : Place) (low : Bool)
    → Leaves order less given task number p → nat_lt number p.next ≡ low →
    LeavesAt Twisted order less given task p (if low then place_stayed (found_from p.next less) p else p)
twisted_by order less given task number p true h low =
    stayed_by order less given task number p (found_from p.next less) h low refl
twisted_by order less given task number p false h low =
    let same : stepped p.next less + 0 ≡ stepped p.next order =
    ap (λ (b : Bool). stepped p.next less + cond b 1 0) (sym low) ∙ fewer_of order less given task number p h in
    record {
      place = stays_at order less given task number p h;
      position = omega (arith, same);
    }

leaves_at : (rule : TurnRule) (order less : List Joined) (given task number : ℕ) (p : Place)
    → Leaves order less given task number p
    → LeavesAt rule order less given task p (place_left rule number (found_from p.next less) p)
leaves_at Earlier order less given task number p h = earlier_at order less given task number p h
leaves_at Fair order less given task number p h =
    fair_by order less given task number p (found_from p.next less) h refl
leaves_at Twisted order less given task number p h =
    twisted_by order less given task number p (nat_lt number p.next) h refl

pub seen_unmoved : (rule : TurnRule) (order : List Joined) (p : Place) (task : ℕ) → number_of task order ≡ None
    → seen rule order p ≡ left task (seen rule order p)
seen_unmoved rule order p task h =
    let no : is_among task (tasks_of order) ≡ false = among_is task order ∙ ap is_some h in
    rw no refl

-- a task that left isn't found
gone_by : (task : ℕ) (j : Joined) (order : List Joined) (b : Bool) → nat_eq task j.1 ≡ b → number_of j.1 order ≡ None
    → number_of task (without task order) ≡ None → number_of task (if b then order else j ∷ without task order) ≡ None
gone_by task j order true e h k = let same : task ≡ j.1 = grind (arith, nat_tests) in rw same h
gone_by task j order false e h k = rw e k

gone : (task : ℕ) (order : List Joined) → AreOnce order → number_of task (without task order) ≡ None
gone task [] o = refl
gone task (j ∷ order) o = gone_by task j order (nat_eq task j.1) refl o.0 (gone task order o.1)

-- and the others are found as before
beside_by : (task other : ℕ) (j : Joined) (order : List Joined) (b : Bool) → nat_eq task j.1 ≡ b
    → nat_eq task other ≡ false → number_of other (without task order) ≡ number_of other order
    → number_of other (if b then order else j ∷ without task order)
    ≡ (if nat_eq other j.1 then Some j.0 else number_of other order)
beside_by task other j order true e h k =
    let no : nat_eq other j.1 ≡ false = grind (arith, nat_tests) in
    rw no refl
beside_by task other j order false e h k = rw k refl

beside : (task other : ℕ) (order : List Joined) → nat_eq task other ≡ false
    → number_of other (without task order) ≡ number_of other order
beside task other [] h = refl
beside task other (j ∷ order) h = beside_by task other j order (nat_eq task j.1) refl h (beside task other order h)

found_less_by : (task other : ℕ) (order : List Joined) → AreOnce order → Places task other
    → number_of other (without task order) ≡ cond (nat_eq task other) None (number_of other order)
found_less_by task other order o (inl (t, e)) = rw (t, e) (gone task order o)
found_less_by task other order o (inr (f, ne)) = rw f (beside task other order f)

found_less : (task other : ℕ) (order : List Joined) → AreOnce order
    → number_of other (without task order) ≡ cond (nat_eq task other) None (number_of other order)
found_less task other order o = found_less_by task other order o (either_task task other)

once_less_by : (task : ℕ) (j : Joined) (order : List Joined) (b : Bool) → nat_eq task j.1 ≡ b → AreOnce (j ∷ order)
    → AreOnce (without task order) → AreOnce (if b then order else j ∷ without task order)
once_less_by task j order true e o k = o.1
once_less_by task j order false e o k = (beside task j.1 order e ∙ o.0, k)

once_less : (task : ℕ) (order : List Joined) → AreOnce order → AreOnce (without task order)
once_less task [] o = tt
once_less task (j ∷ order) o = once_less_by task j order (nat_eq task j.1) refl o (once_less task order o.1)

below_less_by : (n task : ℕ) (j : Joined) (order : List Joined) (b : Bool) → AreBelow n (j ∷ order)
    → AreBelow n (without task order) → AreBelow n (if b then order else j ∷ without task order)
below_less_by n task j order true h k = h.1
below_less_by n task j order false h k = (h.0, k)

below_less : (n task : ℕ) (order : List Joined) → AreBelow n order → AreBelow n (without task order)
below_less n task [] h = tt
below_less n task (j ∷ order) h = below_less_by n task j order (nat_eq task j.1) h (below_less n task order h.1)

-- what is known when a task leaves
leaves_of : (order less : List Joined) (numbers : List (ℕ × ℕ)) (given task number : ℕ) (p : Place)
    → IsKept order numbers given p → number_of task order ≡ Some number
    → less ≡ remove_entry (is_at (nat_cmp number)) order → IsStrictlySortedBy nat_cmp (keys_of less)
    → Leaves order less given task number p
leaves_of order less numbers given task number p k h e s =
    let e' = e ∙ removed_is task number order k.ascends h in
    record {
      place = record { begun = k.begun; within = k.within; past = k.past };
      there = h;
      rest = e';
      ascends = k.ascends;
      still = s;
      below = subst (AreBelow given) (sym e') (below_less given task order k.below);
    }

-- what is kept when a task leaves
pub kept_less : (rule : TurnRule) (order less : List Joined) (numbers found : List (ℕ × ℕ)) (given task number : ℕ)
    (p : Place) → IsKept order numbers given p → number_of task order ≡ Some number
    → less ≡ remove_entry (is_at (nat_cmp number)) order → IsStrictlySortedBy nat_cmp (keys_of less)
    → ((other : ℕ) → lookup (nat_eq other) found ≡ cond (nat_eq task other) None (lookup (nat_eq other) numbers))
    → IsKept less found given (place_left rule number (found_from p.next less) p)
kept_less rule order less numbers found given task number p k h e s f =
    let e' = e ∙ removed_is task number order k.ascends h in
    let leaves =
    leaves_at rule order less given task number p (leaves_of order less numbers given task number p k h e s) in
    record {
      ascends = s;
      below = subst (AreBelow given) (sym e') (below_less given task order k.below);
      once = subst AreOnce (sym e') (once_less task order k.once);
      found =
          λ other. f other ∙ ap (cond (nat_eq task other) None) (k.found other)
          ∙ sym (found_less task other order k.once)
          ∙ ap (number_of other) (sym e');
      begun = leaves.place.begun;
      within = leaves.place.within;
      past = leaves.place.past;
    }

-- what contracts see when a task leaves
pub seen_less : (rule : TurnRule) (order less : List Joined) (numbers : List (ℕ × ℕ)) (given task number : ℕ)
    (p : Place)
    → IsKept order numbers given p → number_of task order ≡ Some number
    → less ≡ remove_entry (is_at (nat_cmp number)) order → IsStrictlySortedBy nat_cmp (keys_of less)
    → seen rule less (place_left rule number (found_from p.next less) p) ≡ left task (seen rule order p)
seen_less rule order less numbers given task number p k h e s =
    let yes : is_among task (tasks_of order) ≡ true = among_is task order ∙ ap is_some h in
    let known = leaves_of order less numbers given task number p k h e s in
    let leaves = leaves_at rule order less given task number p known in
    rw (yes, tasks_less order less task known.rest, leaves.position) refl

-- the position past the end was given before, since one stands before it
given_by : (given number : ℕ) (j : Joined) (rest : Option ℕ) (b : Bool) → j.0 < given
    → (rest ≡ Some number → number < given) → (if b then Some j.0 else rest) ≡ Some number → number < given
given_by given number j rest true h k g = let same : j.0 ≡ number = cc in omega (arith, h, same)
given_by given number j rest false h k g = k g

given_of : (given task number : ℕ) (order : List Joined) → AreBelow given order → number_of task order ≡ Some number
    → number < given
given_of given task number [] h g = absurd cc
given_of given task number (j ∷ order) h g =
    given_by given number j (number_of task order) (nat_eq task j.1) h.0 (given_of given task number order h.1) g

room_by : (order : List Joined) (numbers : List (ℕ × ℕ)) (given task number : ℕ) (p : Place) (b : Bool)
    → nat_eq p.beyond 0 ≡ b → IsKept order numbers given p → number_of task order ≡ Some number → p.beyond + 1 ≤ given
room_by order numbers given task number p true e k h =
    let none : p.beyond ≡ 0 = grind (arith, nat_tests) in
    let less = given_of given task number order k.below h in
    omega (arith, none, less)
room_by order numbers given task number p false e k h =
    let some : 1 ≤ p.beyond = grind (arith, nat_tests) in
    let many = none_found p.next order (k.past some) in
    let one = some_there task number order h in
    omega (arith, many, one, k.within)

pub room_left : (order : List Joined) (numbers : List (ℕ × ℕ)) (given task number : ℕ) (p : Place)
    → IsKept order numbers given p → number_of task order ≡ Some number → p.beyond + 1 ≤ given
room_left order numbers given task number p k h = room_by order numbers given task number p (nat_eq p.beyond 0) refl k h

-- and so was the number of each that is left
pub next_given : (order less : List Joined) (numbers : List (ℕ × ℕ)) (given task number next : ℕ) (p : Place)
    (j : Joined)
    → IsKept order numbers given p → number_of task order ≡ Some number
    → less ≡ remove_entry (is_at (nat_cmp number)) order → found_from next less ≡ Some j → j.0 < given
next_given order less numbers given task number next p j k h e f =
    let e' = e ∙ removed_is task number order k.ascends h in
    number_given given less (stepped next less) j
    (subst (AreBelow given) (sym e') (below_less given task order k.below)) f

-- what the numbers say of a task is what the order says
pub number_is : (order : List Joined) (numbers : List (ℕ × ℕ)) (given task key : ℕ) (p : Place)
    → IsKept order numbers given p → key ≡ task → lookup (nat_eq key) numbers ≡ number_of task order
number_is order numbers given task key p k e = ap (λ (t : ℕ). lookup (nat_eq t) numbers) e ∙ k.found task

pub is_none : (o : Option ℕ) → is_some o ≡ false → o ≡ None
is_none None h = refl
is_none (Some n) h = absurd cc

suc-sub-one : (n : ℕ) → suc n - 1 ≡ n
suc-sub-one n = omega arith

same_task : (a b : ℕ) → nat_eq a b ≡ true → a ≡ b
same_task a b h = grind (arith, nat_tests)

-- who stands at a place is moved with it when another leaves
moved_by : (p task t u : ℕ) (ts : List ℕ) (here among : Bool)
    → slice_get (remove_key (nat_eq task) ts) (if among then p - 1 else p) ≡ Some u → is_among task (take p ts) ≡ among
    → slice_get ts p ≡ Some u →
    slice_get (cond here ts (t ∷ remove_key (nat_eq task) ts)) (if here || among then suc p - 1 else suc p) ≡ Some u
moved_by p task t u ts true among h a k = rw (suc-sub-one p) k
moved_by zero task t u ts false true h a k = absurd cc
moved_by (suc p) task t u ts false true h a k = rw (suc-sub-one (suc p)) (rw (suc-sub-one p) at h)
moved_by p task t u ts false false h a k = h

first_moved : (task t u : ℕ) (ts : List ℕ) (here : Bool) → nat_eq task t ≡ here → t ≡ u → u ≢ task
    → slice_get (cond here ts (t ∷ remove_key (nat_eq task) ts)) 0 ≡ Some u
first_moved task t u ts true e h ne = absurd (ne (sym h ∙ sym (same_task task t e)))
first_moved task t u ts false e h ne = ap Some h

moved : (p task u : ℕ) (ts : List ℕ) → slice_get ts p ≡ Some u → u ≢ task
    → slice_get (remove_key (nat_eq task) ts) (if is_among task (take p ts) then p - 1 else p) ≡ Some u
moved p task u [] h ne = absurd cc
moved zero task u (t ∷ ts) h ne = let same : t ≡ u = cc in first_moved task t u ts (nat_eq task t) refl same ne
moved (suc p) task u (t ∷ ts) h ne =
    moved_by p task t u ts (nat_eq task t) (is_among task (take p ts)) (moved p task u ts h ne) refl h

-- so the turn is still the same task's
end_by_among : (p task : ℕ) (ts : List ℕ) (among : Bool) → length ts ≤ p → is_among task ts ≡ among
    → length (remove_key (nat_eq task) ts) ≤ (if among then p - 1 else p)
end_by_among p task ts true h k = let fewer = length-remove_key (nat_eq task) ts k in omega (arith, h, fewer)
end_by_among p task ts false h k = rw (none_removed task ts k) h

end_moved : (p task : ℕ) (ts : List ℕ) → length ts ≤ p
    → length (remove_key (nat_eq task) ts) ≤ (if is_among task (take p ts) then p - 1 else p)
end_moved p task ts h = rw (take_all p ts h) (end_by_among p task ts (is_among task ts) h refl)

head_moved : (task u : ℕ) (ts : List ℕ) → slice_get ts 0 ≡ Some u → u ≢ task
    → slice_get (remove_key (nat_eq task) ts) 0 ≡ Some u
head_moved task u [] h ne = absurd cc
head_moved task u (t ∷ ts) h ne = let same : t ≡ u = cc in first_moved task t u ts (nat_eq task t) refl same ne

back_turn : (rule : TurnRule) (t : Turns) (task u : ℕ) (inside : Bool) → nat_lt t.position (length t.tasks) ≡ inside
    → slice_get t.tasks (if inside then t.position else 0) ≡ Some u → u ≢ task →
    turn_of (record { rule = rule; tasks = remove_key (nat_eq task) t.tasks; position = position_back task t }) ≡ Some u
back_turn rule t task u true e h ne =
    let there = moved t.position task u t.tasks h ne in
    let within = slice_get_within (remove_key (nat_eq task) t.tasks) (position_back task t) u there in
    let inside : nat_lt (position_back task t) (length (remove_key (nat_eq task) t.tasks)) ≡ true =
    grind (arith, nat_tests, within) in
    rw inside there
back_turn rule t task u false e h ne =
    let many : length t.tasks ≤ t.position = grind (arith, nat_tests) in
    let most = end_moved t.position task t.tasks many in
    let outside : nat_lt (position_back task t) (length (remove_key (nat_eq task) t.tasks)) ≡ false =
    grind (arith, nat_tests, most) in
    rw outside (head_moved task u t.tasks h ne)

-- a position that goes round is the place of the turn
abbrev begin_or : Bool → ℕ → ℕ
begin_or b p = if b then p else 0

nothing_or : (b : Bool) → begin_or b 0 ≡ 0
nothing_or true = refl
nothing_or false = refl

round_by : (ts : List ℕ) (p : ℕ) (b : Bool) → nat_lt p (length ts) ≡ b
    → begin_or (nat_lt (begin_or b p) (length ts)) (begin_or b p) ≡ begin_or b p
round_by ts p true h = rw h refl
round_by ts p false h = nothing_or (nat_lt 0 (length ts))

round_is : (ts : List ℕ) (p : ℕ)
    → begin_or (nat_lt (position_in ts p) (length ts)) (position_in ts p) ≡ position_in ts p
round_is ts p = round_by ts p (nat_lt p (length ts)) refl

left_by : (rule : TurnRule) (t : Turns) (task u : ℕ) → (rule ≡ Earlier) ⊎ (rule ≡ Fair) → turn_of t ≡ Some u
    → u ≢ task →
    turn_of (record { rule = rule; tasks = remove_key (nat_eq task) t.tasks; position = position_left rule task t })
    ≡ Some u
left_by Earlier t task u r h ne = back_turn Earlier t task u (nat_lt t.position (length t.tasks)) refl h ne
left_by Fair t task u r h ne =
    ap (slice_get (remove_key (nat_eq task) t.tasks))
    (round_is (remove_key (nat_eq task) t.tasks) (position_back task t))
    ∙ back_turn Fair t task u (nat_lt t.position (length t.tasks)) refl h ne
left_by Twisted t task u (inl r) h ne = absurd cc
left_by Twisted t task u (inr r) h ne = absurd cc

skipped_by : (t : Turns) (task u : ℕ) (among : Bool) → is_among task t.tasks ≡ among
    → (t.rule ≡ Earlier) ⊎ (t.rule ≡ Fair) → turn_of t ≡ Some u → u ≢ task → turn_of (left task t) ≡ Some u
skipped_by t task u true e r h ne = rw e (left_by t.rule t task u r h ne)
skipped_by t task u false e r h ne = rw e h

pub earlier_skips : SkipsNobody Earlier
earlier_skips t task u r h ne = skipped_by t task u (is_among task t.tasks) refl (inl r) h ne

pub fair_skips : SkipsNobody Fair
fair_skips t task u r h ne = skipped_by t task u (is_among task t.tasks) refl (inr r) h ne

-- one that joins last leaves those before it where they are
more_there : (ts : List ℕ) (other p u : ℕ) → slice_get ts p ≡ Some u → slice_get (ts ++ other ∷ []) p ≡ Some u
more_there [] other p u h = absurd cc
more_there (t ∷ ts) other zero u h = h
more_there (t ∷ ts) other (suc p) u h = more_there ts other p u h

longer_there : (ts : List ℕ) (other : ℕ) → length (ts ++ other ∷ []) ≡ suc (length ts)
longer_there [] other = refl
longer_there (t ∷ ts) other = ap suc (longer_there ts other)

-- so it has no turn before them where the position isn't the end
joined_later : (t : Turns) (other u : ℕ) (among : Bool) → is_among other t.tasks ≡ among
    → place_of_turn t ≡ t.position → turn_of t ≡ Some u → turn_of (joined other t) ≡ Some u
joined_later t other u true e here h = rw e h
joined_later t other u false e here h =
    let there : slice_get t.tasks t.position ≡ Some u = ap (slice_get t.tasks) (sym here) ∙ h in
    let few = slice_get_within t.tasks t.position u there in
    let longer = longer_there t.tasks other in
    let inside : nat_lt t.position (length (t.tasks ++ other ∷ [])) ≡ true = grind (arith, nat_tests, few, longer) in
    rw (e, inside) (more_there t.tasks other t.position u there)

pub fair_overtakes : NobodyOvertakes Fair
fair_overtakes t task other u r among h =
    joined_later (left task t) other u (is_among other (left task t).tasks) refl
    (rw (among, r) (round_is (remove_key (nat_eq task) t.tasks) (position_back task t))) h
