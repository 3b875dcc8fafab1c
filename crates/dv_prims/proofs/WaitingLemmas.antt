-- Those that wait, by their tickets, and what is taken back.
use Rattle.std.proofs.Common.{◌≡◌, ◌≢◌, ℕ, suc, ◌+◌, ◌-◌, ◌<◌, ◌≤◌, ◌++◌, Bool, true, false, ◌&&◌, ◌||◌, cond, nat_eq}
use Rattle.std.proofs.Common.{List, [], ◌∷◌, length, take, Option, None, Some, refl, sym, ap, ◌∙◌, subst, arith}
use Rattle.std.proofs.Common.{length-append}
use Rattle.std.proofs.Math.Seq.{take-append_seam}
use Rattle.std.proofs.lemmas.Bool.Decides.{nat_tests}
use Rattle.std.proofs.lemmas.List.{map-append}
use Rattle.std.proofs.lemmas.Map.Keys.{sorted_head, sorted_tail}
use Rattle.std.proofs.lemmas.Map.Lookups.{exact_unsigned, exact_pairs}
use Rattle.std.specs.BTreeMap.{BTreeMap, IsOrdered, get, insert_entry, is_at}
use Rattle.std.specs.BTreeSet.{BTreeSet, contains, IsKeyRangeOf}
use Rattle.std.specs.Cmp.{nat_cmp_is}
use Rattle.std.specs.List.{AllByRecursion}
use Rattle.std.specs.List.Sorted.{IsStrictlySortedBy}
use Rattle.std.specs.Map.{keys_of, lookup, remove_entry}
use Rattle.std.specs.Ordering.{nat_cmp, is_eq, is_gt, ordering_then}
use Rattle.std.specs.declared.cmp.Ordering.{Ordering}
use Rattle.std.specs.declared.cmp.Ordering.TheVariants.{Less, Equal, Greater}
use Rattle.std.specs.declared.ops.Bound.TheVariants.{Included, Unbounded}
use Rattle.dv_prims.specs.Tokens.{is_waiting, without}
use Rattle.dv_prims.specs.Tickets.{Ticket, waiting_of, AreBelow, by_number, is_held_by, IsKept, IsFirstTicket, Gives}
use Rattle.dv_prims.specs.Tickets.{Frees, Joins, Leaves, Keeps}

one_less : {X : Type 0} (items : List X) (item : X) → length (items ++ item ∷ []) - 1 ≡ length items
one_less items item = omega (arith, length-append items (item ∷ []))

-- an item that is added and taken back leaves the others
pub item_taken_back : {X : Type 0} (items : List X) (item : X)
    → take (length (items ++ item ∷ []) - 1) (items ++ item ∷ []) ≡ items
item_taken_back items item =
    ap (λ n. take n (items ++ item ∷ [])) (one_less items item) ∙ take-append_seam items (item ∷ [])

-- tests on tickets, as tests on numbers
at_is : (a b : ℕ) → is_at (nat_cmp a) b ≡ nat_eq b a
at_is a b = grind (arith, nat_tests)

place_by : (p q : ℕ × ℕ) (o : Ordering) → nat_cmp p.0 q.0 ≡ o
    → is_eq (ordering_then o (nat_cmp p.1 q.1)) ≡ (nat_eq q.0 p.0 && nat_eq q.1 p.1)
place_by p q Less e =
    let no : nat_eq q.0 p.0 ≡ false = grind (arith, nat_tests, e) in
    rw no refl
place_by p q Equal e =
    let same = exact_unsigned p.0 q.0 e in
    let yes : nat_eq q.0 p.0 ≡ true = grind (arith, nat_tests, same) in
    rw yes (at_is p.1 q.1)
place_by p q Greater e =
    let no : nat_eq q.0 p.0 ≡ false = grind (arith, nat_tests, e) in
    rw no refl

place_is : (p q : ℕ × ℕ) → is_at (by_number p) q ≡ (nat_eq q.0 p.0 && nat_eq q.1 p.1)
place_is p q = place_by p q (nat_cmp p.0 q.0) refl

same_number : (a b : ℕ) → nat_eq a b ≡ true → a ≡ b
same_number a b h = grind (arith, nat_tests)

-- the holder of a ticket
abbrev pub holder : ℕ → List Ticket → Option ℕ
holder t tickets = lookup (is_at (nat_cmp t)) tickets

-- a ticket that is kept is held, and the others as before
joined_by : (d n : ℕ) (was : Option ℕ) (b : Bool) → (b ≡ true → was ≡ None)
    → cond (nat_eq d n && b) true (is_held_by d was) ≡ is_held_by d (cond b (Some n) was)
joined_by d n None true h = same (nat_eq d n) where
  same : (x : Bool) → cond (x && true) true false ≡ x
  same true = refl
  same false = refl
joined_by d n (Some m) true h = let h' : Some m ≡ None = h refl in absurd cc
joined_by d n was false h = same (nat_eq d n) (is_held_by d was) where
  same : (x y : Bool) → cond (x && false) true y ≡ y
  same true y = refl
  same false y = refl

-- one that isn't kept any longer isn't held, and the others as before
left_by : (d n : ℕ) (was : Option ℕ) (b : Bool) → (b ≡ true → was ≡ Some n)
    → cond (nat_eq d n && b) false (is_held_by d was) ≡ is_held_by d (cond b None was)
left_by d n None true h = let h' : None ≡ Some n = h refl in absurd cc
left_by d n (Some m) true h =
    let h' : m ≡ n = (let k : Some m ≡ Some n = h refl in cc) in
    rw h' (same (nat_eq d n)) where
      same : (x : Bool) → cond (x && true) false x ≡ false
      same true = refl
      same false = refl
left_by d n was false h = same (nat_eq d n) (is_held_by d was) where
  same : (x y : Bool) → cond (x && false) false y ≡ y
  same true y = refl
  same false y = refl

-- a change of the holders is that of their places
pub found_more : (was is : BTreeSet (ℕ × ℕ)) (old new : BTreeMap ℕ ℕ) (n t : ℕ) → get nat_cmp old t ≡ None
    → ((q : ℕ × ℕ) → contains by_number was q ≡ is_held_by q.0 (get nat_cmp old q.1)) → Joins was is (n, t)
    → Gives old new t n → (q : ℕ × ℕ) → contains by_number is q ≡ is_held_by q.0 (get nat_cmp new q.1)
found_more was is old new n t h f j g q =
    j q ∙ ap (λ (b : Bool). cond b true (contains by_number was q)) (place_is (n, t) q)
    ∙ ap (cond (nat_eq q.0 n && nat_eq q.1 t) true) (f q)
    ∙ joined_by q.0 n (get nat_cmp old q.1) (nat_eq q.1 t) (λ e. ap (get nat_cmp old) (same_number q.1 t e) ∙ h)
    ∙ sym (ap (is_held_by q.0) (g q.1 ∙ ap (λ (b : Bool). cond b (Some n) (get nat_cmp old q.1)) (at_is t q.1)))

pub found_less : (was is : BTreeSet (ℕ × ℕ)) (old new : BTreeMap ℕ ℕ) (n t : ℕ) → get nat_cmp old t ≡ Some n
    → ((q : ℕ × ℕ) → contains by_number was q ≡ is_held_by q.0 (get nat_cmp old q.1)) → Leaves was is (n, t)
    → Frees old new t → (q : ℕ × ℕ) → contains by_number is q ≡ is_held_by q.0 (get nat_cmp new q.1)
found_less was is old new n t h f j g q =
    j q ∙ ap (λ (b : Bool). cond b false (contains by_number was q)) (place_is (n, t) q)
    ∙ ap (cond (nat_eq q.0 n && nat_eq q.1 t) false) (f q)
    ∙ left_by q.0 n (get nat_cmp old q.1) (nat_eq q.1 t) (λ e. ap (get nat_cmp old) (same_number q.1 t e) ∙ h)
    ∙ sym (ap (is_held_by q.0) (g q.1 ∙ ap (λ (b : Bool). cond b None (get nat_cmp old q.1)) (at_is t q.1)))

-- the next ticket isn't held
pub none_holds : (given : ℕ) (tickets : List Ticket) → AreBelow given tickets → holder given tickets ≡ None
none_holds given [] b = refl
none_holds given (t ∷ tickets) b =
    let no : is_at (nat_cmp given) t.0 ≡ false = at_is given t.0 ∙ grind (arith, nat_tests, b.0) in
    rw no (none_holds given tickets b.1)

-- so it stands last
pub stands_last : (given n : ℕ) (tickets : List Ticket) → AreBelow given tickets
    → insert_entry nat_cmp tickets given n ≡ tickets ++ (given, n) ∷ []
stands_last given n [] b = refl
stands_last given n (t ∷ tickets) b =
    rw (← nat_cmp_is given t.0 Greater b.0) (ap (λ (rest : List Ticket). t ∷ rest) (stands_last given n tickets b.1))

pub waits_last : (given n : ℕ) (tickets : List Ticket) → AreBelow given tickets
    → waiting_of (insert_entry nat_cmp tickets given n) ≡ waiting_of tickets ++ n ∷ []
waits_last given n tickets b =
    ap waiting_of (stands_last given n tickets b) ∙ map-append (λ (t : Ticket). t.1) tickets ((given, n) ∷ [])

below_more : (given n : ℕ) (tickets : List Ticket) → AreBelow given tickets
    → AreBelow (given + 1) (tickets ++ (given, n) ∷ [])
below_more given n [] b = (omega arith, tt)
below_more given n (t ∷ tickets) b = (omega (arith, b.0), below_more given n tickets b.1)

pub still_below : (given n : ℕ) (tickets : List Ticket) → AreBelow given tickets
    → AreBelow (given + 1) (insert_entry nat_cmp tickets given n)
still_below given n tickets b =
    subst (AreBelow (given + 1)) (sym (stands_last given n tickets b)) (below_more given n tickets b)

-- who came last leaves the others
pub below_front : (given : ℕ) (tickets : List Ticket) (t : Ticket) → AreBelow given (tickets ++ t ∷ [])
    → AreBelow given tickets
below_front given [] t b = tt
below_front given (u ∷ tickets) t b = (b.0, below_front given tickets t b.1)

-- one that leaves by its ticket leaves the others
below_by : (given : ℕ) (t : Ticket) (tickets rest : List Ticket) (here : Bool) → AreBelow given (t ∷ tickets)
    → AreBelow given rest → AreBelow given (cond here tickets (t ∷ rest))
below_by given t tickets rest true b k = b.1
below_by given t tickets rest false b k = (b.0, k)

pub below_without : (given ticket : ℕ) (tickets : List Ticket) → AreBelow given tickets
    → AreBelow given (remove_entry (is_at (nat_cmp ticket)) tickets)
below_without given ticket [] b = tt
below_without given ticket (t ∷ tickets) b =
    below_by given t tickets (remove_entry (is_at (nat_cmp ticket)) tickets) (is_at (nat_cmp ticket) t.0) b
    (below_without given ticket tickets b.1)

-- tickets that come later have greater numbers
abbrev AreAbove : ℕ → List Ticket → Type 0
AreAbove n [] = Unit
AreAbove n (t ∷ tickets) = (n < t.0) × AreAbove n tickets

above_by : (n : ℕ) (tickets : List Ticket) → AllByRecursion (λ m. nat_cmp n m ≡ Less) (keys_of tickets)
    → AreAbove n tickets
above_by n [] h = tt
above_by n (t ∷ tickets) h = (grind (arith, nat_tests, h.0), above_by n tickets h.1)

above : (t : Ticket) (tickets : List Ticket) → IsStrictlySortedBy nat_cmp (keys_of (t ∷ tickets)) → AreAbove t.0 tickets
above t tickets s = above_by t.0 tickets (sorted_head nat_cmp t.0 (keys_of tickets) s)

later : (t : Ticket) (tickets : List Ticket) → IsStrictlySortedBy nat_cmp (keys_of (t ∷ tickets))
    → IsStrictlySortedBy nat_cmp (keys_of tickets)
later t tickets s = sorted_tail nat_cmp t.0 (keys_of tickets) s

-- so has any that is held among them
held_above_by : (n ticket d : ℕ) (t : Ticket) (rest : Option ℕ) (here : Bool) → nat_eq t.0 ticket ≡ here → n < t.0
    → (rest ≡ Some d → n < ticket) → cond here (Some t.1) rest ≡ Some d → n < ticket
held_above_by n ticket d t rest true e a k h = let same = same_number t.0 ticket e in omega (arith, a, same)
held_above_by n ticket d t rest false e a k h = k h

held_above : (n ticket d : ℕ) (tickets : List Ticket) → AreAbove n tickets → holder ticket tickets ≡ Some d → n < ticket
held_above n ticket d [] a h = let h' : None ≡ Some d = h in absurd cc
held_above n ticket d (t ∷ tickets) a h =
    held_above_by n ticket d t (holder ticket tickets) (nat_eq t.0 ticket) refl a.0 (held_above n ticket d tickets a.1)
    (ap (λ (b : Bool). cond b (Some t.1) (holder ticket tickets)) (sym (at_is ticket t.0)) ∙ h)

-- what is held of the later ones is held of all
held_later : (ticket d : ℕ) (t : Ticket) (tickets : List Ticket) → IsStrictlySortedBy nat_cmp (keys_of (t ∷ tickets))
    → holder ticket tickets ≡ Some d → holder ticket (t ∷ tickets) ≡ Some d
held_later ticket d t tickets s h =
    let more = held_above t.0 ticket d tickets (above t tickets s) h in
    let no : is_at (nat_cmp ticket) t.0 ≡ false = at_is ticket t.0 ∙ grind (arith, nat_tests, more) in
    rw no h

held_first : (t : Ticket) (tickets : List Ticket) → holder t.0 (t ∷ tickets) ≡ Some t.1
held_first t tickets =
    let yes : is_at (nat_cmp t.0) t.0 ≡ true = at_is t.0 t.0 ∙ grind (arith, nat_tests) in
    rw yes refl

-- d holds no ticket before this one
abbrev pub IsFirst : ℕ → ℕ → List Ticket → Type 0
IsFirst d ticket tickets = (t : ℕ) → holder t tickets ≡ Some d → ticket ≤ t

-- who leaves by its first ticket is the first of its number
without_by : (d ticket : ℕ) (t : Ticket) (tickets : List Ticket) (here holds : Bool) → nat_eq t.0 ticket ≡ here
    → nat_eq d t.1 ≡ holds → IsStrictlySortedBy nat_cmp (keys_of (t ∷ tickets)) → IsFirst d ticket (t ∷ tickets)
    → cond here (Some t.1) (holder ticket tickets) ≡ Some d →
    (holder ticket tickets ≡ Some d
    → waiting_of (remove_entry (is_at (nat_cmp ticket)) tickets) ≡ without d (waiting_of tickets)) →
    waiting_of (cond here tickets (t ∷ remove_entry (is_at (nat_cmp ticket)) tickets))
    ≡ cond holds (waiting_of tickets) (t.1 ∷ without d (waiting_of tickets))
without_by d ticket t tickets true true e f s first h k = refl
without_by d ticket t tickets true false e f s first h k =
    let same : t.1 ≡ d = cc in
    let yes : nat_eq d t.1 ≡ true = grind (arith, nat_tests, same) in
    absurd cc
without_by d ticket t tickets false true e f s first h k =
    let more = held_above t.0 ticket d tickets (above t tickets s) h in
    let same = same_number d t.1 f in
    let least = first t.0 (held_first t tickets ∙ ap Some (sym same)) in
    absurd (omega (arith, more, least))
without_by d ticket t tickets false false e f s first h k = ap (λ (rest : List ℕ). t.1 ∷ rest) (k h)

pub without_first : (d ticket : ℕ) (tickets : List Ticket) → IsStrictlySortedBy nat_cmp (keys_of tickets)
    → IsFirst d ticket tickets → holder ticket tickets ≡ Some d
    → waiting_of (remove_entry (is_at (nat_cmp ticket)) tickets) ≡ without d (waiting_of tickets)
without_first d ticket [] s first h = let h' : None ≡ Some d = h in absurd cc
without_first d ticket (t ∷ tickets) s first h =
    ap (λ (b : Bool). waiting_of (cond b tickets (t ∷ remove_entry (is_at (nat_cmp ticket)) tickets)))
    (at_is ticket t.0) ∙
    without_by d ticket t tickets (nat_eq t.0 ticket) (nat_eq d t.1) refl refl s first
    (ap (λ (b : Bool). cond b (Some t.1) (holder ticket tickets)) (sym (at_is ticket t.0)) ∙ h)
    (λ g. without_first d ticket tickets (later t tickets s) (λ u w. first u (held_later u d t tickets s w)) g)

-- a waiter that holds a ticket waits
waits_by : (d ticket : ℕ) (t : Ticket) (rest : Option ℕ) (others : Bool) (here : Bool)
    → cond here (Some t.1) rest ≡ Some d → (rest ≡ Some d → others ≡ true) → (nat_eq d t.1 || others) ≡ true
waits_by d ticket t rest others true h k =
    let same : t.1 ≡ d = cc in
    let yes : nat_eq d t.1 ≡ true = grind (arith, nat_tests, same) in
    rw yes refl
waits_by d ticket t rest others false h k = rw (k h) (or_true (nat_eq d t.1)) where
  or_true : (b : Bool) → (b || true) ≡ true
  or_true true = refl
  or_true false = refl

pub holder_waits : (d ticket : ℕ) (tickets : List Ticket) → holder ticket tickets ≡ Some d
    → is_waiting d (waiting_of tickets) ≡ true
holder_waits d ticket [] h = let h' : None ≡ Some d = h in absurd cc
holder_waits d ticket (t ∷ tickets) h =
    waits_by d ticket t (holder ticket tickets) (is_waiting d (waiting_of tickets)) (is_at (nat_cmp ticket) t.0) h
    (holder_waits d ticket tickets)

-- d holds no ticket
abbrev pub HoldsNone : ℕ → List Ticket → Type 0
HoldsNone d tickets = (t : ℕ) → holder t tickets ≢ Some d

-- a waiter that holds none doesn't wait, and nothing is taken out
pub record IsAway (d : ℕ) (waiting : List ℕ) : Type 0 where
  pub waits : is_waiting d waiting ≡ false
  pub left : without d waiting ≡ waiting

away_by : (d n : ℕ) (waiting : List ℕ) (b : Bool) → nat_eq d n ≡ b → (b ≡ true → ⊥) → IsAway d waiting
    → IsAway d (n ∷ waiting)
away_by d n waiting true e h a = absurd (h refl)
away_by d n waiting false e h a = record { waits = rw e a.waits; left = rw e (ap (λ (rest : List ℕ). n ∷ rest) a.left) }

pub none_is_away : (d : ℕ) (tickets : List Ticket) → IsStrictlySortedBy nat_cmp (keys_of tickets) → HoldsNone d tickets
    → IsAway d (waiting_of tickets)
none_is_away d [] s h = record { waits = refl; left = refl }
none_is_away d (t ∷ tickets) s h =
    away_by d t.1 (waiting_of tickets) (nat_eq d t.1) refl
    (λ e. h t.0 (held_first t tickets ∙ ap Some (sym (same_number d t.1 e))))
    (none_is_away d tickets (later t tickets s) (λ u w. h u (held_later u d t tickets s w)))

-- one that is kept and taken back leaves the others
back_by : (was : BTreeSet (ℕ × ℕ)) (p q : ℕ × ℕ) (o : Ordering) → by_number p q ≡ o → contains by_number was p ≡ false
    → cond (is_eq o) false (cond (is_eq o) true (contains by_number was q)) ≡ contains by_number was q
back_by was p q Less e h = refl
back_by was p q Equal e h =
    sym (ap (contains by_number was) (sym (exact_pairs nat_cmp nat_cmp exact_unsigned exact_unsigned p q e)) ∙ h)
back_by was p q Greater e h = refl

pub found_taken_back : (was more less : BTreeSet (ℕ × ℕ)) (p : ℕ × ℕ) → contains by_number was p ≡ false
    → Joins was more p → Leaves more less p → Keeps was less
found_taken_back was more less p h u v q =
    v q ∙ ap (cond (is_at (by_number p) q) false) (u q) ∙ back_by was p q (by_number p q) refl h

-- the next ticket is new
pub is_new : (order : BTreeMap ℕ ℕ) (tickets : BTreeSet (ℕ × ℕ)) (given n : ℕ) → IsKept order tickets given
    → contains by_number tickets (n, given) ≡ false
is_new order tickets given n k = k.found (n, given) ∙ ap (is_held_by n) (none_holds given order.entries k.below)

-- what is kept when one joins
pub kept_more : (order more : BTreeMap ℕ ℕ) (tickets grown : BTreeSet (ℕ × ℕ)) (given n : ℕ)
    → IsKept order tickets given → more.entries ≡ insert_entry nat_cmp order.entries given n → IsOrdered nat_cmp more
    → Gives order more given n → Joins tickets grown (n, given) → IsKept more grown (given + 1)
kept_more order more tickets grown given n k e s g j = record {
  ascends = s;
  below = subst (AreBelow (given + 1)) (sym e) (still_below given n order.entries k.below);
  found = found_more tickets grown order more n given (none_holds given order.entries k.below) k.found j g;
}

-- and when one leaves
pub kept_less : (order less : BTreeMap ℕ ℕ) (tickets shrunk : BTreeSet (ℕ × ℕ)) (given n t : ℕ)
    → IsKept order tickets given → AreBelow given less.entries → get nat_cmp order t ≡ Some n → IsOrdered nat_cmp less
    → Frees order less t → Leaves tickets shrunk (n, t) → IsKept less shrunk given
kept_less order less tickets shrunk given n t k b h s f l = record {
  ascends = s;
  below = b;
  found = found_less tickets shrunk order less n t h k.found l f;
}

-- the tickets of the index are those that are held
held_by : (d : ℕ) (o : Option ℕ) → is_held_by d o ≡ true → o ≡ Some d
held_by d None h = absurd cc
held_by d (Some n) h = ap Some (sym (same_number d n h))

is_held : (d : ℕ) (o : Option ℕ) → o ≡ Some d → is_held_by d o ≡ true
is_held d o h =
    let same : nat_eq d d ≡ true = grind (arith, nat_tests) in
    ap (is_held_by d) h ∙ same

pub holds_it : (order : BTreeMap ℕ ℕ) (tickets : BTreeSet (ℕ × ℕ)) (given d t : ℕ) → IsKept order tickets given
    → contains by_number tickets (d, t) ≡ true → get nat_cmp order t ≡ Some d
holds_it order tickets given d t k h = held_by d (get nat_cmp order t) (sym (k.found (d, t)) ∙ h)

pub is_indexed : (order : BTreeMap ℕ ℕ) (tickets : BTreeSet (ℕ × ℕ)) (given d t : ℕ) → IsKept order tickets given
    → get nat_cmp order t ≡ Some d → contains by_number tickets (d, t) ≡ true
is_indexed order tickets given d t k h = k.found (d, t) ∙ is_held d (get nat_cmp order t) h

not_both : (b : Bool) → b ≡ true → b ≡ false → ⊥
not_both b h k = absurd cc

-- a waiter that has no ticket doesn't wait
pub away_is : (order : BTreeMap ℕ ℕ) (tickets : BTreeSet (ℕ × ℕ)) (given d : ℕ) → IsKept order tickets given
    → IsFirstTicket tickets d None → IsAway d (waiting_of order.entries)
away_is order tickets given d k h =
    none_is_away d order.entries k.ascends
    (λ t g. not_both (contains by_number tickets (d, t)) (is_indexed order tickets given d t k g) (h t))

-- a waiter that has a first ticket waits, and leaves by it
pub record IsLeaving (d ticket : ℕ) (order : List Ticket) : Type 0 where
  pub waits : is_waiting d (waiting_of order) ≡ true
  pub left : waiting_of (remove_entry (is_at (nat_cmp ticket)) order) ≡ without d (waiting_of order)

pub leaving_is : (order : BTreeMap ℕ ℕ) (tickets : BTreeSet (ℕ × ℕ)) (given d ticket : ℕ) → IsKept order tickets given
    → IsFirstTicket tickets d (Some ticket) → IsLeaving d ticket order.entries
leaving_is order tickets given d ticket k h =
    let held = holds_it order tickets given d ticket k h.0 in
    record {
      waits = holder_waits d ticket order.entries held;
      left =
          without_first d ticket order.entries k.ascends (λ t g. h.1 t (is_indexed order tickets given d t k g)) held;
    }

-- a waiter that is taken out leaves no more than there were
left_more_by : (n : ℕ) (waiting rest : List ℕ) (here : Bool) → length rest ≤ length waiting
    → length (cond here waiting (n ∷ rest)) ≤ suc (length waiting)
left_more_by n waiting rest true h = omega arith
left_more_by n waiting rest false h = omega (arith, h)

pub no_more_left : (d : ℕ) (waiting : List ℕ) → length (without d waiting) ≤ length waiting
no_more_left d [] = omega arith
no_more_left d (n ∷ waiting) = left_more_by n waiting (without d waiting) (nat_eq d n) (no_more_left d waiting)

-- the first ticket of d is the first place of the index from its number on, where that is of d
from_start : (d t : ℕ) → is_gt (by_number (d, 0) (d, t)) ≡ false
from_start d t = rw (← nat_cmp_is d d Equal refl) (grind (arith, nat_tests))

not_after : (a b : ℕ × ℕ) → is_gt (by_number a b) ≡ false → (a.0 ≤ b.0) × (b.0 ≤ a.0 → a.1 ≤ b.1)
not_after a b h = (grind (arith, nat_tests), λ k. grind (arith, nat_tests))

-- what a part of the index from d on says, where it begins with a place
record BeginsWith (tickets : BTreeSet (ℕ × ℕ)) (d : ℕ) (k : ℕ × ℕ) : Type 0 where
  pub there : contains by_number tickets k ≡ true
  pub starts : d ≤ k.0
  pub first : (t : ℕ) → contains by_number tickets (d, t) ≡ true → (k.0 ≤ d) × (d ≤ k.0 → k.1 ≤ t)

begins : (tickets : BTreeSet (ℕ × ℕ)) (d : ℕ) (r rest : List (ℕ × ℕ)) (k : ℕ × ℕ)
    → IsKeyRangeOf by_number (Included (d, 0)) Unbounded tickets r → r ≡ k ∷ rest → BeginsWith tickets d k
begins tickets d r rest k h e =
    let g = subst (IsKeyRangeOf by_number (Included (d, 0)) Unbounded tickets) e h in
    record {
      there = g.1.1;
      starts = (not_after (d, 0) k g.1.0.0).0;
      first = λ t c. not_after k (d, t) (g.2 (d, t) (from_start d t, tt) c);
    }

pub is_first_ticket : (tickets : BTreeSet (ℕ × ℕ)) (d : ℕ) (r rest : List (ℕ × ℕ)) (k : ℕ × ℕ)
    → IsKeyRangeOf by_number (Included (d, 0)) Unbounded tickets r → r ≡ k ∷ rest → k.0 ≡ d
    → IsFirstTicket tickets d (Some k.1)
is_first_ticket tickets d r rest k h e same =
    let b = begins tickets d r rest k h e in (
      subst (λ (n : ℕ). contains by_number tickets (n, k.1) ≡ true) same b.there,
      λ t c. (b.first t c).1 (omega (arith, same)),
    )

true_or_false : (b : Bool) → (b ≡ true → ⊥) → b ≡ false
true_or_false true h = absurd (h refl)
true_or_false false h = refl

pub no_first_ticket : (tickets : BTreeSet (ℕ × ℕ)) (d : ℕ) (r rest : List (ℕ × ℕ)) (k : ℕ × ℕ)
    → IsKeyRangeOf by_number (Included (d, 0)) Unbounded tickets r → r ≡ k ∷ rest → k.0 ≢ d
    → IsFirstTicket tickets d None
no_first_ticket tickets d r rest k h e other t =
    let b = begins tickets d r rest k h e in
    true_or_false (contains by_number tickets (d, t)) (λ c. let early = (b.first t c).0 in let late = b.starts in
    other (omega (arith, early, late)))

pub no_ticket : (tickets : BTreeSet (ℕ × ℕ)) (d : ℕ) (r : List (ℕ × ℕ))
    → IsKeyRangeOf by_number (Included (d, 0)) Unbounded tickets r → r ≡ [] → IsFirstTicket tickets d None
no_ticket tickets d r h e t = h.5 e (d, t) (from_start d t, tt)
