-- The line of Deferreds that wait for a value of a queue, or for a token of a lock: what each change leaves of that of
-- a name.
use Rattle.std.proofs.Common.{◌≡◌, ◌⊎◌, inl, inr, ℕ, zero, suc, ◌+◌, ◌-◌, ◌≤◌, ◌++◌, Bool, true, false, nat_eq, List}
use Rattle.std.proofs.Common.{[], ◌∷◌, None, Some, refl, sym, ap, ◌∙◌, arith, slice_get, slice_set, cond}
use Rattle.std.proofs.Common.{sum_by}
use Rattle.std.specs.Prelude.{◌||◌, bytes_eq}
use Rattle.std.specs.List.{list_any}
use Rattle.std.specs.Set.{remove_key}
use Rattle.std.proofs.lemmas.List.Sums.{sum_by-set, sum_by-cons}
use Rattle.std.proofs.lemmas.Option.{slice_get_within, get_or_from_slice_get}
use Rattle.dv_value.specs.declared.value.Value.{Value, Text}
use Rattle.dv_journal.specs.declared.entry.Entry.{Entry}
use Rattle.dv_objects.specs.Objects.{Objects}
use Rattle.dv_prims.specs.Queue.{Queue}
use Rattle.dv_prims.specs.Tokens.{Semaphore, is_waiting, without}
use Rattle.dv_laws.specs.Granted as granted
use Rattle.dv_laws.specs.Served as served
use Rattle.dv_laws.specs.Stored.{queueing_of}
use Rattle.dv_laws.specs.Tokens.{holding_of}
use Rattle.dv_laws.proofs.ReadBackLemmas.{get_set}
use Rattle.dv_laws.proofs.Settles.{is_itself}

-- 1. What queues and locks have in common.

-- Deferreds wait for values of a queue, or for tokens of a lock
pub data Sought : Type 0 where
  Values : Sought
  Tokens : Sought

-- for what they wait, where that stands in a world, and what has its name and who waits for it
abbrev pub Owner : Sought → Type 0
Owner Values = Queue
Owner Tokens = Semaphore

abbrev pub owners : (S : Sought) → Objects → List (Owner S)
owners Values objects = objects.queues
owners Tokens objects = objects.semaphores

abbrev pub called : (S : Sought) → Owner S → List ℕ
called Values q = q.name
called Tokens s = s.name

abbrev pub waiting_at : (S : Sought) → Owner S → List ℕ
waiting_at Values q = q.waiting
waiting_at Tokens s = s.waiting

-- what it is by what was logged, and who waits for it then
abbrev pub Shape : Sought → Type 0
Shape Values = served.Line
Shape Tokens = granted.Tokens

abbrev pub own : (S : Sought) → Owner S → Shape S
own Values q = served.line q.stored q.waiting None
own Tokens s = granted.tokens s.tokens (s.tokens - s.given) s.waiting None

abbrev pub nothing : (S : Sought) → Shape S
nothing Values = served.line [] [] None
nothing Tokens = granted.tokens 0 0 [] None

abbrev pub waiting_in : (S : Sought) → Shape S → List ℕ
waiting_in Values l = l.waiting
waiting_in Tokens t = t.waiting

-- nobody was given something by the last entry; or d was, a value or a token, which is the name of its lock
abbrev pub IsSettled : (S : Sought) → Shape S → Type 0
IsSettled Values l = l.given ≡ None
IsSettled Tokens t = t.granted ≡ None

abbrev pub giving : (S : Sought) → ℕ → Value → Shape S → Shape S
giving Values d value l = record l { given = Some (d, value) }
giving Tokens d value t = record t { granted = Some d }

abbrev pub IsGiven : Sought → List ℕ → Value → Type 0
IsGiven Values name value = Unit {0}
IsGiven Tokens name value = value ≡ Text name

-- d waits no longer
abbrev pub leaving : (S : Sought) → ℕ → Shape S → Shape S
leaving Values d l = served.line l.stored (without d l.waiting) None
leaving Tokens d t = granted.tokens t.all t.free (without d t.waiting) None

-- how many of a name are made by an entry
abbrev pub made_in : Sought → List ℕ → Entry → ℕ
made_in Values name e = served.made_by name (queueing_of e)
made_in Tokens name e = granted.lock_made_by name (holding_of e)

abbrev pub Next : (S : Sought) → List ℕ → List Entry → Shape S → Entry → Shape S → Type 0
Next Values name told before e after = served.Next name told before e after
Next Tokens name told before e after = granted.Next name told before e after

abbrev pub Leads : (S : Sought) → List ℕ → List Entry → Shape S → Type 0
Leads Values name told l = served.Leads name told l
Leads Tokens name told t = granted.Leads name told t

pub own_settled : (S : Sought) (o : Owner S) → IsSettled S (own S o)
own_settled Values q = refl
own_settled Tokens s = refl

nothing_settled : (S : Sought) → IsSettled S (nothing S)
nothing_settled Values = refl
nothing_settled Tokens = refl

pub own_waiting : (S : Sought) (o : Owner S) → waiting_in S (own S o) ≡ waiting_at S o
own_waiting Values q = refl
own_waiting Tokens s = refl

nobody : (S : Sought) → waiting_in S (nothing S) ≡ []
nobody Values = refl
nobody Tokens = refl

pub begins : (S : Sought) (name : List ℕ) → Leads S name [] (nothing S)
begins Values name = served.Begins
begins Tokens name = granted.Begins

pub goes_next : (S : Sought) (name : List ℕ) (told : List Entry) (e : Entry) (before after : Shape S)
    → Leads S name told before → Next S name told before e after → Leads S name (told ++ e ∷ []) after
goes_next Values name told e before after l n = served.Goes told e before after l n
goes_next Tokens name told e before after l n = granted.Goes told e before after l n

-- 2. Those that wait.

-- without one that doesn't wait they are the same
other_false : (b c : Bool) → (b || c) ≡ false → (b ≡ false) × (c ≡ false)
other_false true c h = absurd cc
other_false false c h = (refl, h)

pub without_absent : (d : ℕ) (ws : List ℕ) → is_waiting d ws ≡ false → without d ws ≡ ws
without_absent d [] h = refl
without_absent d (w ∷ ws) h =
    let parts = other_false (nat_eq d w) (list_any (nat_eq d) ws) h in
    ap (λ b. cond b ws (w ∷ remove_key (nat_eq d) ws)) parts.0 ∙ ap (λ l. w ∷ l) (without_absent d ws parts.1)

-- who waits without d, waits
waits_by : (b c : Bool) (x w : ℕ) (ws rest : List ℕ) → nat_eq x w ≡ b
    → (list_any (nat_eq x) rest ≡ true → list_any (nat_eq x) ws ≡ true)
    → list_any (nat_eq x) (cond c ws (w ∷ rest)) ≡ true → (b || list_any (nat_eq x) ws) ≡ true
waits_by true c x w ws rest e k h = refl
waits_by false true x w ws rest e k h = h
waits_by false false x w ws rest e k h =
    k (sym (ap (λ b. b || list_any (nat_eq x) rest) e) ∙ h)

pub still_waiting : (d x : ℕ) (ws : List ℕ) → is_waiting x (without d ws) ≡ true → is_waiting x ws ≡ true
still_waiting d x [] h = h
still_waiting d x (w ∷ ws) h =
    waits_by _ (nat_eq d w) x w ws (remove_key (nat_eq d) ws) refl (still_waiting d x ws) h

-- who waits with d, waits or is d
last_by : (b : Bool) → (b || false) ≡ true → b ≡ true
last_by true h = refl
last_by false h = absurd cc

pub joined : (d x : ℕ) (ws : List ℕ) → is_waiting x (ws ++ d ∷ []) ≡ true
    → (is_waiting x ws ≡ true) ⊎ (nat_eq x d ≡ true)
joined d x [] h = inr (last_by (nat_eq x d) h)
joined d x (w ∷ ws) h = split (nat_eq x w) refl (joined d x ws) h
  where
    split : (b : Bool) → nat_eq x w ≡ b
        → (list_any (nat_eq x) (ws ++ d ∷ []) ≡ true → (list_any (nat_eq x) ws ≡ true) ⊎ (nat_eq x d ≡ true))
        → (b || list_any (nat_eq x) (ws ++ d ∷ [])) ≡ true
        → ((b || list_any (nat_eq x) ws) ≡ true) ⊎ (nat_eq x d ≡ true)
    split true e k q = inl refl
    split false e k q = k q

-- the first waits, and so does who waits after it
pub first_waits : (d : ℕ) (ws : List ℕ) → is_waiting d (d ∷ ws) ≡ true
first_waits d ws = ap (λ b. b || list_any (nat_eq d) ws) (is_itself d)

pub later_waits : (b c : Bool) → c ≡ true → (b || c) ≡ true
later_waits true c h = refl
later_waits false c h = h

-- 3. The line of a name.

abbrev pub line_of : (S : Sought) → List ℕ → List (Owner S) → Shape S
line_of S name [] = nothing S
line_of S name (o ∷ all) = cond (bytes_eq (called S o) name) (own S o) (line_of S name all)

abbrev pub named_of : (S : Sought) → List ℕ → Owner S → ℕ
named_of S name o = cond (bytes_eq (called S o) name) 1 0

abbrev pub named : (S : Sought) → List ℕ → List (Owner S) → ℕ
named S name all = sum_by (named_of S name) all

set_counts : {A : Type 0} (f : A → ℕ) (all : List A) (k : ℕ) (p q : A) → slice_get all k ≡ Some p
    → sum_by f (slice_set all k q) + f p ≡ sum_by f all + f q
set_counts f all k p q h =
    omega (arith, sum_by-set f all k q p (slice_get_within all k p h), ap f (get_or_from_slice_get all k p p h))

no_one : (b : Bool) → b ≡ false → cond {A = ℕ} b 1 0 ≡ 0
no_one true h = absurd cc
no_one false h = refl

module _ (S : Sought) (name : List ℕ) where
  pub named_set : (all : List (Owner S)) (k : ℕ) (p q : Owner S) → slice_get all k ≡ Some p
      → called S q ≡ called S p → named S name (slice_set all k q) ≡ named S name all
  named_set all k p q h n = omega (
    arith,
    set_counts (named_of S name) all k p q h,
    ap {B = ℕ} (λ m. cond (bytes_eq m name) 1 0) n,
  )

  found_named : (k : ℕ) (p : Owner S) (all : List (Owner S)) → slice_get all k ≡ Some p
      → bytes_eq (called S p) name ≡ true → 1 ≤ named S name all
  found_named k p [] h b = absurd cc
  found_named zero p (q ∷ all) h b =
      let same : q ≡ p = cc in
      let one : named_of S name q ≡ 1 = ap (named_of S name) same ∙ ap {B = ℕ} (λ c. cond c 1 0) b in
      omega (arith, sum_by-cons (named_of S name) q all, one)
  found_named (suc k) p (q ∷ all) h b =
      omega (arith, sum_by-cons (named_of S name) q all, found_named k p all h b)

  other_line : (b : Bool) (x y : Shape S) → cond {A = ℕ} b 1 0 ≡ 0 → cond b x y ≡ y
  other_line true x y z = absurd (omega (arith, z))
  other_line false x y z = refl

  pub line_own : (k : ℕ) (p : Owner S) (all : List (Owner S)) → slice_get all k ≡ Some p
      → bytes_eq (called S p) name ≡ true → named S name all ≤ 1 → line_of S name all ≡ own S p
  line_own k p [] h b c = absurd cc
  line_own zero p (q ∷ all) h b c =
      let same : q ≡ p = cc in
      ap (λ (x : Owner S). cond (bytes_eq (called S x) name) (own S x) (line_of S name all)) same
      ∙ ap (λ d. cond d (own S p) (line_of S name all)) b
  line_own (suc k) p (q ∷ all) h b c =
      let some = found_named k p all h b in
      let none : named_of S name q ≡ 0 = omega (arith, sum_by-cons (named_of S name) q all, some, c) in
      other_line (bytes_eq (called S q) name) (own S q) (line_of S name all) none
      ∙ line_own k p all h b (omega (arith, sum_by-cons (named_of S name) q all, c))

  pub line_set : (k : ℕ) (p q : Owner S) (all : List (Owner S)) → slice_get all k ≡ Some p
      → bytes_eq (called S p) name ≡ true → called S q ≡ called S p → named S name all ≤ 1
      → line_of S name (slice_set all k q) ≡ own S q
  line_set k p q all h b n c =
      let there : slice_get (slice_set all k q) k ≡ Some q =
      get_set all k k p q h ∙ ap (λ d. cond d (Some q) (slice_get all k)) (is_itself k) in
      line_own k q (slice_set all k q) there (ap (λ m. bytes_eq m name) n ∙ b)
      (omega (arith, named_set all k p q h n, c))

  pub line_same : (k : ℕ) (p q : Owner S) (all : List (Owner S)) → slice_get all k ≡ Some p
      → bytes_eq (called S p) name ≡ false → called S q ≡ called S p
      → line_of S name (slice_set all k q) ≡ line_of S name all
  line_same k p q [] h b n = absurd cc
  line_same zero p q (r ∷ all) h b n =
      let same : r ≡ p = cc in
      let before : bytes_eq (called S r) name ≡ false = ap (λ (x : Owner S). bytes_eq (called S x) name) same ∙ b in
      let after : bytes_eq (called S q) name ≡ false = ap (λ m. bytes_eq m name) n ∙ b in
      other_line (bytes_eq (called S q) name) (own S q) (line_of S name all) (no_one _ after)
      ∙ sym (other_line (bytes_eq (called S r) name) (own S r) (line_of S name all) (no_one _ before))
  line_same (suc k) p q (r ∷ all) h b n =
      ap (λ l. cond (bytes_eq (called S r) name) (own S r) l) (line_same k p q all h b n)

  -- one that is made changes the line only if it has the name and isn't as nothing
  pub line_push : (q : Owner S) (all : List (Owner S))
      → cond (bytes_eq (called S q) name) (own S q) (nothing S) ≡ nothing S
      → line_of S name (all ++ q ∷ []) ≡ line_of S name all
  line_push q [] h = h
  line_push q (r ∷ all) h = ap (λ l. cond (bytes_eq (called S r) name) (own S r) l) (line_push q all h)

  pub line_none : (all : List (Owner S)) → named S name all ≡ 0 → line_of S name all ≡ nothing S
  line_none [] c = refl
  line_none (r ∷ all) c =
      let parts = sum_by-cons (named_of S name) r all in
      other_line (bytes_eq (called S r) name) (own S r) (line_of S name all) (omega (arith, parts, c))
      ∙ line_none all (omega (arith, parts, c))

  pub line_first : (q : Owner S) (all : List (Owner S)) → named S name all ≡ 0 → bytes_eq (called S q) name ≡ true
      → line_of S name (all ++ q ∷ []) ≡ own S q
  line_first q [] c b = ap (λ d. cond d (own S q) (nothing S)) b
  line_first q (r ∷ all) c b =
      let parts = sum_by-cons (named_of S name) r all in
      other_line (bytes_eq (called S r) name) (own S r) (line_of S name (all ++ q ∷ [])) (omega (arith, parts, c))
      ∙ line_first q all (omega (arith, parts, c)) b

  -- nobody was given something just now
  settled_by : (b : Bool) (x y : Shape S) → IsSettled S x → IsSettled S y → IsSettled S (cond b x y)
  settled_by true x y h k = h
  settled_by false x y h k = k

  pub line_settled : (all : List (Owner S)) → IsSettled S (line_of S name all)
  line_settled [] = nothing_settled S
  line_settled (q ∷ all) =
      settled_by (bytes_eq (called S q) name) (own S q) (line_of S name all) (own_settled S q) (line_settled all)

-- who waits in the line waits for something of the name
pub record WaitsIn (S : Sought) (name : List ℕ) (d : ℕ) (all : List (Owner S)) : Type 0 where
  pub number : ℕ
  pub owner : Owner S
  pub found : slice_get all number ≡ Some owner
  pub named_so : bytes_eq (called S owner) name ≡ true
  pub waits : is_waiting d (waiting_at S owner) ≡ true

module _ (S : Sought) (name : List ℕ) (d : ℕ) where
  further : (q : Owner S) (all : List (Owner S)) → WaitsIn S name d all → WaitsIn S name d (q ∷ all)
  further q all f = record {
    number = suc f.number;
    owner = f.owner;
    found = f.found;
    named_so = f.named_so;
    waits = f.waits;
  }

  waits_first : (b : Bool) (q : Owner S) (all : List (Owner S)) → bytes_eq (called S q) name ≡ b
      → (is_waiting d (waiting_in S (line_of S name all)) ≡ true → WaitsIn S name d all)
      → is_waiting d (waiting_in S (cond b (own S q) (line_of S name all))) ≡ true → WaitsIn S name d (q ∷ all)
  waits_first true q all e k h = record {
    number = 0;
    owner = q;
    found = refl;
    named_so = e;
    waits = ap (is_waiting d) (sym (own_waiting S q)) ∙ h;
  }
  waits_first false q all e k h = further q all (k h)

  pub waits_in : (all : List (Owner S)) → is_waiting d (waiting_in S (line_of S name all)) ≡ true
      → WaitsIn S name d all
  waits_in [] h = let wrong : true ≡ false = sym h ∙ ap (is_waiting d) (nobody S) in absurd cc
  waits_in (q ∷ all) h = waits_first (bytes_eq (called S q) name) q all refl (waits_in all) h
