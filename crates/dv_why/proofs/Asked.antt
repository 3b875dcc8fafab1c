-- What a question of names is asked of: each part, down to the last level.
use Rattle.std.proofs.Common.{Ordering, Less, Equal, Greater, is_eq, true≢false, nat_cmp, ◌≡◌, ℕ, zero, suc, ◌+◌, ◌<◌}
use Rattle.std.proofs.Common.{◌≤◌, Bool, true, false, if◌then◌else◌, nat_eq, nat_lt, List, [], ◌∷◌, length, get_or}
use Rattle.std.proofs.Common.{Option}
use Rattle.std.proofs.Common.{Some, None, bytes_eq, refl, sym, ap, subst, ◌∙◌, arith, codes, ◌⊎◌, inl, inr}
use Rattle.std.specs.Prelude.{⊤}
use Rattle.std.specs.Ordering.{match_ordering}
use Rattle.std.specs.Cmp.Lexicographic.{slice_cmp}
use Rattle.std.proofs.lemmas.Bool.{eqb-true}
use Rattle.std.proofs.lemmas.Map.Text.{is_eq-slice_cmp}
use Rattle.std.proofs.lemmas.Slice.Eq.{bytes_eq-Decides}
use Rattle.serde_json.specs.Data.{Data, null, boolean, number, string, array, object, Items, no_items, item, Members}
use Rattle.serde_json.specs.Data.{no_members, member, depth, items_depth, members_depth}
use Rattle.serde_json.specs.Find.{at, get, get_item, get_member}
use Rattle.serde_json.specs.View.{items_view}
use Rattle.serde_json.specs.declared.value.Value.{Value}
use Rattle.dv_grammar.proofs.Steps.{some_injective}
use Rattle.dv_forms.specs.declared.want.Want.{Want}
use Rattle.dv_forms.specs.declared.want.Want.TheVariants as want
use Rattle.dv_forms.specs.declared.want.Leaf.{Leaf}
use Rattle.dv_forms.specs.declared.want.Keyed.{Keyed}
use Rattle.dv_forms.specs.declared.want.Keyed.TheVariants as keyed
use Rattle.dv_forms.specs.declared.want.CallKind.{CallKind}
use Rattle.dv_forms.specs.declared.want.PairKind.{PairKind}
use Rattle.dv_forms.specs.declared.want.Item.{Item}
use Rattle.dv_why.specs.declared.question.Question.{Question}
use Rattle.dv_why.specs.declared.question.Question.TheVariants as question
use Rattle.dv_forms.specs.declared.versions.TheConstants.{BODIES_SINCE, COOPERATORS_SINCE, RULES_SINCE}
use Rattle.dv_forms.specs.Wants.{key_want, keys_in, script_want, cooperator_want, body_want, failure_want}
use Rattle.dv_why.specs.Fits.{first_other, is_other, suits}
use Rattle.dv_why.specs.AllSuit.{AllSuit, all_suit, ItemsSuit, KnownSuit, OthersOf, OthersSuit, ValuesSuit}

-- ---- depth

item_depth : (n : ℕ) (ds : Items) (e : Data) → get_item n ds ≡ Some e → depth e ≤ items_depth ds
item_depth n no_items e is = cc
item_depth zero (item d ds) e is = rw (← (some_injective is)) (omega arith)
item_depth (suc n) (item d ds) e is =
    let below : depth e ≤ items_depth ds = item_depth n ds e is in omega (arith, below)

picked : (o : Ordering) (a : Option Data) (c d : Data) → match_ordering o a (Some c) a ≡ Some d → (a ≡ Some d) ⊎ (c ≡ d)
picked Less a c d e = inl e
picked Equal a c d e = inr (some_injective e)
picked Greater a c d e = inl e

member_depth : (key : List ℕ) (ms : Members) (e : Data) → get_member key ms ≡ Some e → depth e ≤ members_depth ms
member_depth key no_members e is = cc
member_depth key (member k c ms) e is = elim (picked (slice_cmp nat_cmp key k) (get_member key ms) c e is) [
  | inl h ↦ let below : depth e ≤ members_depth ms = member_depth key ms e h in omega (arith, below)
  | inr h ↦ rw (← h) (omega arith)
]

pub item_below : (n levels : ℕ) (d e : Data) → at n d ≡ Some e → depth d ≤ levels + 1 → depth e ≤ levels
item_below n levels null e is h = cc
item_below n levels (boolean b) e is h = cc
item_below n levels (number x) e is h = cc
item_below n levels (string s) e is h = cc
item_below n levels (array ds) e is h =
    let below : depth e ≤ items_depth ds = item_depth n ds e is in omega (arith, below, h)
item_below n levels (object ms) e is h = cc

pub value_below : (key : List ℕ) (levels : ℕ) (d e : Data) → get key d ≡ Some e → depth d ≤ levels + 1
    → depth e ≤ levels
value_below key levels null e is h = cc
value_below key levels (boolean b) e is h = cc
value_below key levels (number x) e is h = cc
value_below key levels (string s) e is h = cc
value_below key levels (array ds) e is h = cc
value_below key levels (object ms) e is h =
    let below : depth e ≤ members_depth ms = member_depth key ms e is in omega (arith, below, h)

no_item : (n : ℕ) (d e : Data) → at n d ≡ Some e → depth d ≤ 0 → ⊥
no_item n null e is h = cc
no_item n (boolean b) e is h = cc
no_item n (number x) e is h = cc
no_item n (string s) e is h = cc
no_item n (array ds) e is h = omega (arith, h)
no_item n (object ms) e is h = cc

no_value : (key : List ℕ) (d e : Data) → get key d ≡ Some e → depth d ≤ 0 → ⊥
no_value key null e is h = cc
no_value key (boolean b) e is h = cc
no_value key (number x) e is h = cc
no_value key (string s) e is h = cc
no_value key (array ds) e is h = cc
no_value key (object ms) e is h = omega (arith, h)

-- ---- a value, by its parts

pub last_suits : (q : Question) (w : Want) (d : Data) → depth d ≤ 0 → suits q w d ≡ true → AllSuit q w d
last_suits q w d h suit =
    all_suit w d suit (λ n v e wants is. absurd (no_item n d e is h))
    (λ key v e wants is. absurd (no_value key d e is h))

pub leaf_suits : (q : Question) (l : Leaf) (d : Data) → suits q (want.Leaf l) d ≡ true → AllSuit q (want.Leaf l) d
leaf_suits q l d suit = all_suit (want.Leaf l) d suit (λ n v e wants is. cc) (λ key v e wants is. cc)

pub word_suits : (q : Question) (c : CallKind) (d : Data) → suits q (want.Word c) d ≡ true → AllSuit q (want.Word c) d
word_suits q c d suit = all_suit (want.Word c) d suit (λ n v e wants is. cc) (λ key v e wants is. cc)

pub object_suits : (q : Question) (k : Keyed) (d : Data) → suits q (want.Keyed k) d ≡ true
    → ValuesSuit q (want.Keyed k) d → AllSuit q (want.Keyed k) d
object_suits q k d suit values = all_suit (want.Keyed k) d suit (λ n v e wants is. cc) values

-- whether a place has items and no keys
abbrev pub HasItems : Want → Type 0
HasItems (want.Leaf l) = ⊥
HasItems want.Value = ⊤
HasItems (want.Call c) = ⊤
HasItems (want.Pair p) = ⊤
HasItems (want.Keyed k) = ⊥
HasItems (want.Array i) = ⊤
HasItems (want.Word c) = ⊥
HasItems (want.Other k) = ⊥

pub array_suits : (q : Question) (w : Want) (d : Data) → HasItems w → suits q w d ≡ true → ItemsSuit q w d
    → AllSuit q w d
array_suits q (want.Leaf l) d h suit items = absurd h
array_suits q want.Value d h suit items = all_suit want.Value d suit items (λ key v e wants is. cc)
array_suits q (want.Call c) d h suit items = all_suit (want.Call c) d suit items (λ key v e wants is. cc)
array_suits q (want.Pair p) d h suit items = all_suit (want.Pair p) d suit items (λ key v e wants is. cc)
array_suits q (want.Keyed k) d h suit items = absurd h
array_suits q (want.Array i) d h suit items = all_suit (want.Array i) d suit items (λ key v e wants is. cc)
array_suits q (want.Word c) d h suit items = absurd h
array_suits q (want.Other k) d h suit items = absurd h

-- ---- the keys of an object

-- a key is this word, or it isn't
either_by : {X : Type 0} (b : Bool) (key word : List ℕ) → bytes_eq key word ≡ b
    → (bytes_eq key word ≡ true → word ≡ key → X) → (bytes_eq key word ≡ false → X) → X
either_by true key word e is isnt = is e (sym ((bytes_eq-Decides key word).0 e))
either_by false key word e is isnt = isnt e

either : {X : Type 0} (key word : List ℕ) → (bytes_eq key word ≡ true → word ≡ key → X)
    → (bytes_eq key word ≡ false → X) → X
either key word is isnt = either_by (bytes_eq key word) key word refl is isnt

-- it is so of each key
abbrev pub EachKey : (List ℕ → Type 0) → List (List ℕ) → Type 0
EachKey P [] = ⊤
EachKey P (k ∷ ks) = P k × EachKey P ks

pub each_key : (P : List ℕ → Type 0) (ks : List (List ℕ)) → ((i : ℕ) → i < length ks → P (get_or ks i []))
    → EachKey P ks
each_key P [] h = tt
each_key P (k ∷ ks) h = (h 0 (omega arith), each_key P ks (λ i less. h (suc i) (omega arith)))

body_key : (P : List ℕ → Type 0) (since : ℕ) (key : List ℕ) → EachKey P (keys_in (keyed.Body since))
    → (body_want since key ≡ want.Other (keyed.Body since) → P key) → P key
body_key P since key all other =
    either key (codes "do") (λ t e. subst P e all.0) (λ f0.
    either key (codes "end") (λ t e. subst P e all.1.0) (λ f1.
    either key (codes "comment") (λ t e. subst P e all.1.1.0) (λ f2.
    other (rw (f0, f1, f2) refl))))

failure_key : (P : List ℕ → Type 0) (key : List ℕ) → EachKey P (keys_in keyed.Failure)
    → (failure_want key ≡ want.Other keyed.Failure → P key) → P key
failure_key P key all other =
    either key (codes "fail") (λ t e. subst P e all.0) (λ f0.
    either key (codes "index") (λ t e. subst P e all.1.0) (λ f1.
    either key (codes "message") (λ t e. subst P e all.1.1.0) (λ f2.
    either key (codes "sub") (λ t e. subst P e all.1.1.1.0) (λ f3.
    other (rw (f0, f1, f2, f3) refl)))))

cooperator_key : (P : List ℕ → Type 0) (version : ℕ) (b : Bool) → nat_lt version RULES_SINCE ≡ b → (key : List ℕ)
    → EachKey P (keys_in (keyed.Cooperator version))
    → (cooperator_want version key ≡ want.Other (keyed.Cooperator version) → P key) → P key
cooperator_key P version true early key all other =
    let rest : EachKey P (codes "comment" ∷ []) = rw early at all.1.1 in
    either key (codes "units") (λ t e. subst P e all.0) (λ f0.
    either key (codes "delay") (λ t e. subst P e all.1.0) (λ f1.
    either key (codes "turns") (λ t e. other (rw (f0, f1, t, early) refl)) (λ f2.
    either key (codes "comment") (λ t e. subst P e rest.0) (λ f3.
    other (rw (f0, f1, f2, f3) refl)))))
cooperator_key P version false late key all other =
    let rest : EachKey P (codes "turns" ∷ codes "comment" ∷ []) = rw late at all.1.1 in
    either key (codes "units") (λ t e. subst P e all.0) (λ f0.
    either key (codes "delay") (λ t e. subst P e all.1.0) (λ f1.
    either key (codes "turns") (λ t e. subst P e rest.0) (λ f2.
    either key (codes "comment") (λ t e. subst P e rest.1.0) (λ f3.
    other (rw (f0, f1, f2, f3) refl)))))

-- the first two versions are before that which may name bodies
early : (version n : ℕ) → nat_eq version n ≡ true → nat_lt n BODIES_SINCE ≡ true → nat_lt version BODIES_SINCE ≡ true
early version n is h = rw (eqb-true version n is) h

-- and before that which may name Cooperators
earlier : (version n : ℕ) → nat_eq version n ≡ true → nat_lt n COOPERATORS_SINCE ≡ true
    → nat_lt version COOPERATORS_SINCE ≡ true
earlier version n is h = rw (eqb-true version n is) h

script_key : (P : List ℕ → Type 0) (version : ℕ) (b c : Bool) → nat_eq version 1 ≡ b → nat_eq version 2 ≡ c
    → (key : List ℕ) → EachKey P (keys_in (keyed.Script version))
    → (script_want version key ≡ want.Other (keyed.Script version) → P key)
    → P key
script_key P version true c one two key all other =
    let rest : EachKey P (codes "classes" ∷ codes "callers" ∷ codes "events" ∷ codes "comment" ∷ []) =
    rw one at all.1.1.1 in
    let before : nat_lt version BODIES_SINCE ≡ true = early version 1 one refl in
    let sooner : nat_lt version COOPERATORS_SINCE ≡ true = earlier version 1 one refl in
    either key (codes "version") (λ t e. subst P e all.0) (λ f0.
    either key (codes "events") (λ t e. subst P e rest.1.1.0) (λ f1.
    either key (codes "limit") (λ t e. subst P e all.1.0) (λ f2.
    either key (codes "classes") (λ t e. subst P e rest.0) (λ f3.
    either key (codes "cooperator") (λ t e. subst P e all.1.1.0) (λ f4.
    either key (codes "callers") (λ t e. subst P e rest.1.0) (λ f5.
    either key (codes "pools") (λ t e. other (rw (f0, f1, f2, f3, f4, f5, t, one) refl)) (λ f6.
    either key (codes "bodies") (λ t e. other (rw (f0, f1, f2, f3, f4, f5, f6, t, before) refl)) (λ f7.
    either key (codes "cooperators") (λ t e. other (rw (f0, f1, f2, f3, f4, f5, f6, f7, t, sooner) refl)) (λ f8.
    either key (codes "comment") (λ t e. subst P e rest.1.1.1.0) (λ f9.
    other (rw (f0, f1, f2, f3, f4, f5, f6, f7, f8, f9) refl)))))))))))
script_key P version false true one two key all other =
    let rest : EachKey P (codes "pools" ∷ codes "classes" ∷ codes "callers" ∷ codes "events" ∷ codes "comment" ∷ []) =
    rw (one, two) at all.1.1.1 in
    let before : nat_lt version BODIES_SINCE ≡ true = early version 2 two refl in
    let sooner : nat_lt version COOPERATORS_SINCE ≡ true = earlier version 2 two refl in
    either key (codes "version") (λ t e. subst P e all.0) (λ f0.
    either key (codes "events") (λ t e. subst P e rest.1.1.1.0) (λ f1.
    either key (codes "limit") (λ t e. subst P e all.1.0) (λ f2.
    either key (codes "classes") (λ t e. subst P e rest.1.0) (λ f3.
    either key (codes "cooperator") (λ t e. subst P e all.1.1.0) (λ f4.
    either key (codes "callers") (λ t e. subst P e rest.1.1.0) (λ f5.
    either key (codes "pools") (λ t e. subst P e rest.0) (λ f6.
    either key (codes "bodies") (λ t e. other (rw (f0, f1, f2, f3, f4, f5, f6, t, before) refl)) (λ f7.
    either key (codes "cooperators") (λ t e. other (rw (f0, f1, f2, f3, f4, f5, f6, f7, t, sooner) refl)) (λ f8.
    either key (codes "comment") (λ t e. subst P e rest.1.1.1.1.0) (λ f9.
    other (rw (f0, f1, f2, f3, f4, f5, f6, f7, f8, f9) refl)))))))))))
script_key P version false false one two key all other =
    let rest : EachKey P (codes "cooperators" ∷ codes "pools" ∷ codes "classes" ∷ codes "bodies" ∷ codes "callers"
    ∷ codes "events" ∷ codes "comment" ∷ []) = rw (one, two) at all.1.1.1 in
    either key (codes "version") (λ t e. subst P e all.0) (λ f0.
    either key (codes "events") (λ t e. subst P e rest.1.1.1.1.1.0) (λ f1.
    either key (codes "limit") (λ t e. subst P e all.1.0) (λ f2.
    either key (codes "classes") (λ t e. subst P e rest.1.1.0) (λ f3.
    either key (codes "cooperator") (λ t e. subst P e all.1.1.0) (λ f4.
    either key (codes "callers") (λ t e. subst P e rest.1.1.1.1.0) (λ f5.
    either key (codes "pools") (λ t e. subst P e rest.1.0) (λ f6.
    either key (codes "bodies") (λ t e. subst P e rest.1.1.1.0) (λ f7.
    either key (codes "cooperators") (λ t e. subst P e rest.0) (λ f8.
    either key (codes "comment") (λ t e. subst P e rest.1.1.1.1.1.1.0) (λ f9.
    other (rw (f0, f1, f2, f3, f4, f5, f6, f7, f8, f9) refl)))))))))))

-- a key is one that the object may have, or its value is another
pub known_key : (P : List ℕ → Type 0) (k : Keyed) (key : List ℕ) → EachKey P (keys_in k)
    → (key_want k key ≡ want.Other k → P key) → P key
known_key P (keyed.Script version) key all other =
    script_key P version (nat_eq version 1) (nat_eq version 2) refl refl key all other
known_key P (keyed.Cooperator version) key all other =
    cooperator_key P version (nat_lt version RULES_SINCE) refl key all other
known_key P (keyed.Body since) key all other = body_key P since key all other
known_key P keyed.Failure key all other = failure_key P key all other

-- the values of all keys, by those that the object may have and the others
pub values_suit : (q : Question) (k : Keyed) (d : Data) → OthersSuit q k d → KnownSuit q k d
    → ValuesSuit q (want.Keyed k) d
values_suit q k d others all key v e wants is =
    let P : List ℕ → Type 0 = λ x. ((f : Data) → get x d ≡ Some f → AllSuit q (key_want k x) f) in
    let Q : Want → Type 0 = λ x. AllSuit q x e in
    subst Q (some_injective wants)
    (known_key P k key (each_key P (keys_in k) all) (λ other f is_f. others key f is_f (rw other refl)) e is)

-- the last value has no others
pub no_others : (q : Question) (w : Want) (d : Data) → depth d ≤ 0 → OthersOf q w d
no_others q (want.Leaf l) d h = tt
no_others q want.Value d h = tt
no_others q (want.Call c) d h = tt
no_others q (want.Pair p) d h = tt
no_others q (want.Keyed k) d h = λ key e is other. absurd (no_value key d e is h)
no_others q (want.Array i) d h = tt
no_others q (want.Word c) d h = tt
no_others q (want.Other k) d h = tt

other_suits : (q : Question) (k : Keyed) (d : Data) → suits q (want.Other k) d ≡ true → AllSuit q (want.Other k) d
other_suits q k d suit = all_suit (want.Other k) d suit (λ n v e wants is. cc) (λ key v e wants is. cc)

-- where an other key suits, any does: no question but that of shapes looks at it
other_wants : (q : Question) (w u : Want) (d e : Data) → is_other w ≡ true → is_other u ≡ true → suits q w d ≡ true
    → suits q u e ≡ true
other_wants (question.Shape v) (want.Other k) u d e ow ou h = cc
other_wants (question.Shape v) w u d e ow ou h = cc
other_wants (question.Names v) w (want.Other k) d e ow ou h = refl
other_wants (question.Names v) w u d e ow ou h = cc
other_wants (question.Classes classes) w (want.Other k) d e ow ou h = refl
other_wants (question.Classes classes) w u d e ow ou h = cc
other_wants (question.Pools ps) w (want.Other k) d e ow ou h = refl
other_wants (question.Pools ps) w u d e ow ou h = cc
other_wants (question.Bodies bs) w (want.Other k) d e ow ou h = refl
other_wants (question.Bodies bs) w u d e ow ou h = cc
other_wants (question.Cooperators cs) w (want.Other k) d e ow ou h = refl
other_wants (question.Cooperators cs) w u d e ow ou h = cc

all_other : (q : Question) (u : Want) (e : Data) → is_other u ≡ true → suits q u e ≡ true → AllSuit q u e
all_other q (want.Other k) e ou h = other_suits q k e h
all_other q u e ou h = cc

suits_here : {q : Question} {w : Want} {d : Data} → AllSuit q w d → suits q w d ≡ true
suits_here (all_suit w d suit items values) = suit

pub others_by : (q : Question) (k : Keyed) (d : Data) (key : List ℕ) (e : Data) → is_other (key_want k key) ≡ true
    → AllSuit q (key_want k key) e → OthersSuit q k d
others_by q k d key e other suit =
    λ x f is also.
    all_other q (key_want k x) f also (other_wants q (key_want k key) (key_want k x) e f other also (suits_here suit))

-- ---- the members of an object, one after the other

still_there : (o : Ordering) (rest : Option Data) (d e : Data) → rest ≡ Some e
    → (f : Data) × (match_ordering o rest (Some d) rest ≡ Some f)
still_there Less rest d e is = (e, is)
still_there Equal rest d e is = (d, refl)
still_there Greater rest d e is = (e, is)

passed_over : (o : Ordering) (rest : Option Data) (d e : Data) → is_eq o ≡ false
    → match_ordering o rest (Some d) rest ≡ Some e → rest ≡ Some e
passed_over Less rest d e off is = is
passed_over Equal rest d e off is = absurd (true≢false off)
passed_over Greater rest d e off is = is

first_there : (o : Ordering) (rest : Option Data) (d : Data) → is_eq o ≡ true
    → match_ordering o rest (Some d) rest ≡ Some d
first_there Less rest d e = cc
first_there Equal rest d e = refl
first_there Greater rest d e = cc

differ : (xs ys : List ℕ) (b : Bool) → bytes_eq xs ys ≡ b → (xs ≡ ys → ⊥) → b ≡ false
differ xs ys true e other = absurd (other ((bytes_eq-Decides xs ys).0 e))
differ xs ys false e other = refl

-- a key that an object may not have, and its value
pub record IsOtherKey (k : Keyed) (ms : Members) (key : List ℕ) : Type 0 where
  pub other : is_other (key_want k key) ≡ true
  pub value : Data
  pub there : get_member key ms ≡ Some value

first_by : (k : Keyed) (key : List ℕ) (d : Data) (ms : Members) (found : List ℕ) (b : Bool)
    → is_other (key_want k key) ≡ b
    → (if b then Some key else first_other k ms) ≡ Some found → (first_other k ms ≡ Some found → IsOtherKey k ms found)
    → IsOtherKey k (member key d ms) found
first_by k key d ms found true other is later =
    let same : key ≡ found = some_injective is in
    subst (λ (x : List ℕ). IsOtherKey k (member key d ms) x) same (record {
      other = other;
      value = d;
      there =
          first_there (slice_cmp nat_cmp key key) (get_member key ms) d
          (is_eq-slice_cmp key key ∙ (bytes_eq-Decides key key).1 refl);
    })
first_by k key d ms found false known is later =
    let h = later is in
    let f = still_there (slice_cmp nat_cmp found key) (get_member found ms) d h.value h.there in
    record { other = h.other; value = f.0; there = f.1 }

-- the first other key is one, and is there
pub first_is : (k : Keyed) (ms : Members) (found : List ℕ) → first_other k ms ≡ Some found → IsOtherKey k ms found
first_is k no_members found is = cc
first_is k (member key d ms) found is =
    first_by k key d ms found (is_other (key_want k key)) refl is (first_is k ms found)

none_by : (k : Keyed) (key : List ℕ) (d : Data) (ms : Members) (b : Bool) → is_other (key_want k key) ≡ b
    → (if b then Some key else first_other k ms) ≡ None
    → (x : List ℕ) (e : Data) → get_member x (member key d ms) ≡ Some e → is_other (key_want k x) ≡ true
    → (first_other k ms ≡ None → get_member x ms ≡ Some e → ⊥) → ⊥
none_by k key d ms true other is x e there also later = cc
none_by k key d ms false known is x e there also later =
    let not_same : x ≡ key → ⊥ = λ same. true≢false (sym also ∙ ap (λ y. is_other (key_want k y)) same ∙ known) in
    let no : is_eq (slice_cmp nat_cmp x key) ≡ false =
    is_eq-slice_cmp x key ∙ differ x key (bytes_eq x key) refl not_same in
    later is (passed_over (slice_cmp nat_cmp x key) (get_member x ms) d e no there)

-- where there is no first, there is none
pub none_is : (k : Keyed) (ms : Members) → first_other k ms ≡ None → (x : List ℕ) (e : Data) → get_member x ms ≡ Some e
    → is_other (key_want k x) ≡ true → ⊥
none_is k no_members is x e there also = cc
none_is k (member key d ms) is x e there also =
    none_by k key d ms (is_other (key_want k key)) refl is x e there also (λ no later. none_is k ms no x e later also)

-- ---- items of an array, and what a call found

-- an item that is there has a number below their count
pub item_within : (vs : List Value) (n : ℕ) (e : Data) → get_item n (items_view vs) ≡ Some e → n < length vs
item_within [] n e is = cc
item_within (v ∷ vs) zero e is = omega arith
item_within (v ∷ vs) (suc n) e is = let less : n < length vs = item_within vs n e is in omega (arith, less)

-- nothing was found, where what was found is this
pub nothing : {X : Type 0} (o : Option X) → ((x : X) → o ≡ Some x → ⊥) → o ≡ None
nothing None h = refl
nothing (Some x) h = absurd (h x refl)

-- whether a place has no parts
abbrev pub HasNoParts : Want → Type 0
HasNoParts (want.Leaf l) = ⊤
HasNoParts want.Value = ⊥
HasNoParts (want.Call c) = ⊥
HasNoParts (want.Pair p) = ⊥
HasNoParts (want.Keyed k) = ⊥
HasNoParts (want.Array i) = ⊥
HasNoParts (want.Word c) = ⊤
HasNoParts (want.Other k) = ⊤

pub no_parts_suit : (q : Question) (w : Want) (d : Data) → HasNoParts w → suits q w d ≡ true → AllSuit q w d
no_parts_suit q (want.Leaf l) d h suit = leaf_suits q l d suit
no_parts_suit q want.Value d h suit = absurd h
no_parts_suit q (want.Call c) d h suit = absurd h
no_parts_suit q (want.Pair p) d h suit = absurd h
no_parts_suit q (want.Keyed k) d h suit = absurd h
no_parts_suit q (want.Array i) d h suit = absurd h
no_parts_suit q (want.Word c) d h suit = word_suits q c d suit
no_parts_suit q (want.Other k) d h suit = all_suit (want.Other k) d suit (λ n v e wants is. cc) (λ key v e wants is. cc)

-- the arms of a match

pub has_items : (w : Want) → (w ≡ want.Value)
    ⊎ (((x : CallKind) × (w ≡ want.Call x)) ⊎ (((x : PairKind) × (w ≡ want.Pair x))
    ⊎ ((x : Item) × (w ≡ want.Array x))))
    → HasItems w
has_items w (inl e) = rw e tt
has_items w (inr (inl e)) = rw (e.1) tt
has_items w (inr (inr (inl e))) = rw (e.1) tt
has_items w (inr (inr (inr e))) = rw (e.1) tt

pub has_no_parts : (w : Want) → ((x : Leaf) × (w ≡ want.Leaf x))
    ⊎ (((x : CallKind) × (w ≡ want.Word x)) ⊎ ((x : Keyed) × (w ≡ want.Other x))) → HasNoParts w
has_no_parts w (inl e) = rw (e.1) tt
has_no_parts w (inr (inl e)) = rw (e.1) tt
has_no_parts w (inr (inr e)) = rw (e.1) tt

-- where no object is asked for, there are no others
pub no_keys : (q : Question) (w : Want) (d : Data)
    → ((x : Leaf) × (w ≡ want.Leaf x))
    ⊎ ((w ≡ want.Value) ⊎ (((x : CallKind) × (w ≡ want.Call x)) ⊎ (((x : PairKind) × (w ≡ want.Pair x))
    ⊎ (((x : Item) × (w ≡ want.Array x)) ⊎ (((x : CallKind) × (w ≡ want.Word x))
    ⊎ ((x : Keyed) × (w ≡ want.Other x)))))))
    → OthersOf q w d
no_keys q w d (inl e) = rw (e.1) tt
no_keys q w d (inr (inl e)) = rw e tt
no_keys q w d (inr (inr (inl e))) = rw (e.1) tt
no_keys q w d (inr (inr (inr (inl e)))) = rw (e.1) tt
no_keys q w d (inr (inr (inr (inr (inl e))))) = rw (e.1) tt
no_keys q w d (inr (inr (inr (inr (inr (inl e)))))) = rw (e.1) tt
no_keys q w d (inr (inr (inr (inr (inr (inr e)))))) = rw (e.1) tt
