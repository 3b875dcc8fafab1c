-- Which call runs next: the first of all that wait.
use Rattle.std.proofs.Common.{◌≡◌, ℕ, zero, suc, ◌+◌, ◌<◌, ◌≤◌, Bool, true, false, ◌&&◌, if◌then◌else◌, nat_eq, nat_lt}
use Rattle.std.proofs.Common.{eqb, List, [], ◌∷◌, length, Option, Some, None, slice_get, refl, sym, ap, ◌∙◌, arith}
use Rattle.std.proofs.lemmas.Bool.Decides.{nat_tests}
use Rattle.std.specs.BTreeSet.{BTreeSet, contains, IsLowerBound}
use Rattle.std.specs.Option.{option_map}
use Rattle.std.specs.Ordering.{is_gt}
use Rattle.dv_clock.specs.Clock.{Clock, next_call, Upcoming, by_due, is_waiting, waits_at, IsIndexOf, upcoming_in}
use Rattle.dv_clock.specs.Clock.{first_of, first_from, due_at, what_of, numbered, with_number}
use Rattle.dv_clock.specs.declared.call.Call.{Call}
use Rattle.dv_clock.specs.declared.due.Due.{Due}
use Rattle.dv_clock.specs.declared.call.CallState.{CallState}
use Rattle.dv_clock.specs.declared.call.CallState.TheVariants.{Waiting, Called, Cancelled, Dropped}

-- a doesn't come after b: it is due no later, and of two that are due at one time it was scheduled no later
abbrev pub NotAfter : ℕ × ℕ → ℕ × ℕ → Type 0
NotAfter a b = (a.0 ≤ b.0) × (b.0 ≤ a.0 → a.1 ≤ b.1)

pub not_after : (a b : ℕ × ℕ) → is_gt (by_due a b) ≡ false → NotAfter a b
not_after a b h = (grind (arith, nat_tests), λ k. grind (arith, nat_tests))

after : (a b : ℕ × ℕ) → is_gt (by_due a b) ≡ true → NotAfter b a
after a b h = (grind (arith, nat_tests), λ k. grind (arith, nat_tests))

chain : (a b c : ℕ × ℕ) → NotAfter a b → NotAfter b c → NotAfter a c
chain a b c h k = (omega (arith, h, k), λ l. omega (arith, h, k, l))

itself : (a : ℕ × ℕ) → NotAfter a a
itself a = (omega arith, λ l. omega arith)

-- none of the calls waits
abbrev pub NoneWaits : List Call → Type 0
NoneWaits calls = (j : ℕ) (call : Call) → slice_get calls j ≡ Some call → is_waiting call.state ≡ false

-- u is one of the calls, which are numbered from n on, and none that waits comes before it
pub record IsFirst (n : ℕ) (calls : List Call) (u : Upcoming) : Type 0 where
  pub place : ℕ
  pub numbered : u.number ≡ n + place
  pub found : slice_get calls place ≡ Some (record { due = u.due; state = Waiting u.what })
  pub first : (j : ℕ) (call : Call) → slice_get calls j ≡ Some call → is_waiting call.state ≡ true
      → NotAfter (u.due, u.number) (call.due, n + j)

-- an answer says which is first, or that none waits
abbrev pub Answers : ℕ → List Call → Option Upcoming → Type 0
Answers n calls None = NoneWaits calls
Answers n calls (Some u) = IsFirst n calls u

some_is : {X : Type 0} (x y : X) → Some x ≡ Some y → x ≡ y
some_is x y h = cc

both : (b : Bool) → b ≡ true → b ≡ false → ⊥
both b h k = absurd cc

-- what is stated of a call that is found is stated of the first one
at_first : (n due : ℕ) (state : CallState) (call : Call) (a : ℕ × ℕ)
    → Some (record { due = due; state = state }) ≡ Some call → NotAfter a (due, n) → NotAfter a (call.due, n + 0)
at_first n due state call a e g =
    let same : due ≡ call.due = ap (λ (c : Call). c.due) (some_is (record { due = due; state = state }) call e) in
    (omega (arith, g, same), λ l. omega (arith, g, same, l))

-- and of the others, whose numbers begin one later
shifted : (n j due : ℕ) (a : ℕ × ℕ) → NotAfter a (due, n + 1 + j) → NotAfter a (due, n + suc j)
shifted n j due a g = (omega (arith, g), λ l. omega (arith, g, l))

-- one that doesn't wait is put before the others
skipped : (n due : ℕ) (state : CallState) (cs : List Call) (o : Option Upcoming) → is_waiting state ≡ false
    → Answers (n + 1) cs o → Answers n ((record { due = due; state = state }) ∷ cs) o
skipped n due state cs None k h = others where
  others : NoneWaits ((record { due = due; state = state }) ∷ cs)
  others zero call e =
      ap (λ (c : Call). is_waiting c.state) (sym (some_is (record { due = due; state = state }) call e)) ∙ k
  others (suc j) call e = h j call e
skipped n due state cs (Some u) k h = record {
  place = suc h.place;
  numbered = omega (arith, h.numbered);
  found = h.found;
  first = first;
} where
  first : (j : ℕ) (call : Call) → slice_get ((record { due = due; state = state }) ∷ cs) j ≡ Some call
      → is_waiting call.state ≡ true → NotAfter (u.due, u.number) (call.due, n + j)
  first zero call e w =
      absurd (both (is_waiting call.state) w
      (ap (λ (c : Call). is_waiting c.state) (sym (some_is (record { due = due; state = state }) call e)) ∙ k))
  first (suc j) call e w = shifted n j call.due (u.due, u.number) (h.first j call e w)

-- one that waits is put before the others
leads_some : (n due : ℕ) (what : Due) (cs : List Call) (b : Upcoming) (after_it : Bool)
    → is_gt (by_due (due, n) (b.due, b.number)) ≡ after_it → IsFirst (n + 1) cs b →
    IsFirst n ((record { due = due; state = Waiting what }) ∷ cs) (if after_it then b
    else record { due = due; number = n; what = what })
leads_some n due what cs b true g h = record {
  place = suc h.place;
  numbered = omega (arith, h.numbered);
  found = h.found;
  first = first;
} where
  first : (j : ℕ) (call : Call) → slice_get ((record { due = due; state = Waiting what }) ∷ cs) j ≡ Some call
      → is_waiting call.state ≡ true → NotAfter (b.due, b.number) (call.due, n + j)
  first zero call e w = at_first n due (Waiting what) call (b.due, b.number) e (after (due, n) (b.due, b.number) g)
  first (suc j) call e w = shifted n j call.due (b.due, b.number) (h.first j call e w)
leads_some n due what cs b false g h = record {
  place = 0;
  numbered = omega arith;
  found = refl;
  first = first;
} where
  first : (j : ℕ) (call : Call) → slice_get ((record { due = due; state = Waiting what }) ∷ cs) j ≡ Some call
      → is_waiting call.state ≡ true → NotAfter (due, n) (call.due, n + j)
  first zero call e w = at_first n due (Waiting what) call (due, n) e (itself (due, n))
  first (suc j) call e w =
      shifted n j call.due (due, n) (chain (due, n) (b.due, b.number) (call.due, n + 1 + j)
      (not_after (due, n) (b.due, b.number) g) (h.first j call e w))

leads : (n due : ℕ) (what : Due) (cs : List Call) (o : Option Upcoming) → Answers (n + 1) cs o
    → Answers n ((record { due = due; state = Waiting what }) ∷ cs)
    (first_of (Some (record { due = due; number = n; what = what })) o)
leads n due what cs None h = record {
  place = 0;
  numbered = omega arith;
  found = refl;
  first = first;
} where
  first : (j : ℕ) (call : Call) → slice_get ((record { due = due; state = Waiting what }) ∷ cs) j ≡ Some call
      → is_waiting call.state ≡ true → NotAfter (due, n) (call.due, n + j)
  first zero call e w = at_first n due (Waiting what) call (due, n) e (itself (due, n))
  first (suc j) call e w = absurd (both (is_waiting call.state) w (h j call e))
leads n due what cs (Some b) h = leads_some n due what cs b (is_gt (by_due (due, n) (b.due, b.number))) refl h

one_more : (n due : ℕ) (state : CallState) (cs : List Call) (o : Option Upcoming) → Answers (n + 1) cs o
    → Answers n ((record { due = due; state = state }) ∷ cs) (first_of (upcoming_in n due state) o)
one_more n due (Waiting what) cs o h = leads n due what cs o h
one_more n due Called cs o h = skipped n due Called cs o refl h
one_more n due Cancelled cs o h = skipped n due Cancelled cs o refl h
one_more n due Dropped cs o h = skipped n due Dropped cs o refl h

-- what is returned is first of those that wait
pub first_is_first : (n : ℕ) (calls : List Call) → Answers n calls (first_from n calls)
first_is_first n [] = λ j call e. absurd cc
first_is_first n (c ∷ cs) = one_more n c.due c.state cs (first_from (n + 1) cs) (first_is_first (n + 1) cs)

-- a call that is found to wait is in the index
waits_there : (calls : List Call) (u : Upcoming) (place : ℕ) → u.number ≡ 0 + place
    → slice_get calls place ≡ Some (record { due = u.due; state = Waiting u.what })
    → waits_at (u.due, u.number) calls ≡ true
waits_there calls u place h k =
    let there : u.number ≡ place = omega (arith, h) in
    let same : eqb u.due u.due ≡ true = grind (arith, nat_tests) in
    rw (there, k, same) refl

-- a place of the index is that of a call that waits
record IsThere (calls : List Call) (q : ℕ × ℕ) : Type 0 where
  pub call : Call
  pub found : slice_get calls q.1 ≡ Some call
  pub due : call.due ≡ q.0
  pub waits : is_waiting call.state ≡ true

both_true : (a b : Bool) → (a && b) ≡ true → (a ≡ true) × (b ≡ true)
both_true true b h = (refl, h)
both_true false b h = absurd cc

same_time : (x y : ℕ) → nat_eq x y ≡ true → x ≡ y
same_time x y h = grind (arith, nat_tests)

there_by : (calls : List Call) (q : ℕ × ℕ) (o : Option Call) → slice_get calls q.1 ≡ o → waits_at q calls ≡ true
    → IsThere calls q
there_by calls q None e h = let h' = rw e at h in absurd cc
there_by calls q (Some call) e h =
    let parts = both_true (nat_eq call.due q.0) (is_waiting call.state) (rw e at h) in
    record { call = call; found = e; due = same_time call.due q.0 parts.0; waits = parts.1 }

is_there : (calls : List Call) (q : ℕ × ℕ) → waits_at q calls ≡ true → IsThere calls q
is_there calls q h = there_by calls q (slice_get calls q.1) refl h

-- the time and the number of one that may be
abbrev pub place_of : Option Upcoming → Option (ℕ × ℕ)
place_of o = option_map (λ u. (u.due, u.number)) o

-- the least place of the index is that of the first of those that wait
least_by : (index : BTreeSet (ℕ × ℕ)) (calls : List Call) (k : ℕ × ℕ) (o : Option Upcoming) → Answers 0 calls o
    → IsIndexOf index calls → contains by_due index k ≡ true → IsLowerBound by_due index k → place_of o ≡ Some k
least_by index calls k None a ok h l =
    let t = is_there calls k (sym (ok k) ∙ h) in
    absurd (both (is_waiting t.call.state) t.waits (a k.1 t.call t.found))
least_by index calls k (Some u) a ok h l =
    let t = is_there calls k (sym (ok k) ∙ h) in
    let below = a.first k.1 t.call t.found t.waits in
    let above = not_after k (u.due, u.number)
    (l (u.due, u.number) (ok (u.due, u.number) ∙ waits_there calls u a.place a.numbered a.found)) in
    let due : u.due ≡ k.0 = omega (arith, below, above, t.due) in
    let number : u.number ≡ k.1 = omega (arith, below, above, t.due) in
    rw (due, number) refl

pub least_is_first : (index : BTreeSet (ℕ × ℕ)) (calls : List Call) (k : ℕ × ℕ) → IsIndexOf index calls
    → contains by_due index k ≡ true → IsLowerBound by_due index k → place_of (first_from 0 calls) ≡ Some k
least_is_first index calls k ok h l = least_by index calls k (first_from 0 calls) (first_is_first 0 calls) ok h l

-- where the index is empty, none waits
none_by : (index : BTreeSet (ℕ × ℕ)) (calls : List Call) (o : Option Upcoming) → Answers 0 calls o
    → IsIndexOf index calls → index.keys ≡ [] → o ≡ None
none_by index calls None a ok h = refl
none_by index calls (Some u) a ok h =
    let empty : contains by_due index (u.due, u.number) ≡ false = rw h refl in
    absurd (both (contains by_due index (u.due, u.number))
    (ok (u.due, u.number) ∙ waits_there calls u a.place a.numbered a.found) empty)

pub none_is_first : (index : BTreeSet (ℕ × ℕ)) (calls : List Call) → IsIndexOf index calls → index.keys ≡ []
    → first_from 0 calls ≡ None
none_is_first index calls ok h = none_by index calls (first_from 0 calls) (first_is_first 0 calls) ok h

-- the number of one that may be
abbrev pub number_of : Option Upcoming → Option ℕ
number_of o = option_map (λ u. u.number) o

-- whether it is due
pub due_is : (now : ℕ) (o : Option Upcoming) (k : ℕ × ℕ) → place_of o ≡ Some k
    → number_of (due_at now o) ≡ (if nat_lt now k.0 then None else Some k.1)
due_is now None k h = absurd cc
due_is now (Some u) k h =
    let e : (u.due, u.number) ≡ k = cc in
    rw (← e) (due_cases (nat_lt now u.due)) where
      due_cases : (b : Bool) → number_of (if b then None else Some u) ≡ (if b then None else Some u.number)
      due_cases true = refl
      due_cases false = refl

-- what runs next waits
next_waits_by : (now : ℕ) (calls : List Call) (n : ℕ) (o : Option Upcoming) → Answers 0 calls o
    → number_of (due_at now o) ≡ Some n
    → option_map numbered (due_at now o) ≡ option_map (with_number n) (what_of n calls)
next_waits_by now calls n None a h = absurd cc
next_waits_by now calls n (Some u) a h = by_time (nat_lt now u.due) h where
  by_time : (b : Bool) → number_of (if b then None else Some u) ≡ Some n
      → option_map numbered (if b then None else Some u) ≡ option_map (with_number n) (what_of n calls)
  by_time true h = absurd cc
  by_time false h =
      let same : u.number ≡ n = cc in
      let there : u.number ≡ a.place = omega (arith, a.numbered) in
      rw (← same, there, a.found) refl

pub next_waits : (now : ℕ) (calls : List Call) (n : ℕ) → number_of (due_at now (first_from 0 calls)) ≡ Some n
    → option_map numbered (due_at now (first_from 0 calls)) ≡ option_map (with_number n) (what_of n calls)
next_waits now calls n h = next_waits_by now calls n (first_from 0 calls) (first_is_first 0 calls) h

-- a clock and the index of its calls
no_keys : {K : Type 0} (ks : List K) → (0 < length ks → ⊥) → ks ≡ []
no_keys [] h = refl
no_keys (k ∷ ks) h = absurd (h (omega arith))

pub none_is_next : (c : Clock) (index : BTreeSet (ℕ × ℕ)) → IsIndexOf index c.calls → (0 < length index.keys → ⊥)
    → number_of (next_call c) ≡ None
none_is_next c index ok h = rw (none_is_first index c.calls ok (no_keys index.keys h)) refl

pub next_is_later : (c : Clock) (index : BTreeSet (ℕ × ℕ)) (k : ℕ × ℕ) → IsIndexOf index c.calls
    → contains by_due index k ≡ true → IsLowerBound by_due index k → c.time < k.0 → number_of (next_call c) ≡ None
next_is_later c index k ok h l late =
    let later : nat_lt c.time k.0 ≡ true = grind (arith, nat_tests) in
    due_is c.time (first_from 0 c.calls) k (least_is_first index c.calls k ok h l) ∙ rw later refl

pub next_is_due : (c : Clock) (index : BTreeSet (ℕ × ℕ)) (k : ℕ × ℕ) → IsIndexOf index c.calls
    → contains by_due index k ≡ true → IsLowerBound by_due index k → k.0 ≤ c.time → number_of (next_call c) ≡ Some k.1
next_is_due c index k ok h l soon =
    let later : nat_lt c.time k.0 ≡ false = grind (arith, nat_tests) in
    due_is c.time (first_from 0 c.calls) k (least_is_first index c.calls k ok h l) ∙ rw later refl

pub next_is : (c : Clock) (n : ℕ) → Some n ≡ number_of (next_call c)
    → option_map numbered (next_call c) ≡ option_map (with_number n) (what_of n c.calls)
next_is c n h = next_waits c.time c.calls n (sym h)
