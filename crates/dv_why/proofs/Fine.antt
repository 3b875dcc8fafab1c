-- A value of which each part fits, opened.
use Rattle.std.proofs.Common.{◌≡◌, ℕ, suc, ◌≤◌, ℤ, nat_le, Bool, true, false, ◌&&◌, List, [], ◌∷◌, length, Option, Some}
use Rattle.std.proofs.Common.{None, is_some, option_map, bytes_eq, refl, sym, ap, ◌∙◌, arith, codes}
use Rattle.std.specs.Prelude.{⊤}
use Rattle.std.proofs.lemmas.Bool.{and_parts, leb-true}
use Rattle.std.proofs.lemmas.Slice.Eq.{bytes_eq-Decides}
use Rattle.serde_json.specs.Data.{Data, unsigned, negative, float, null, boolean, number, string, array, Items}
use Rattle.serde_json.specs.Data.{no_items, item, depth}
use Rattle.serde_json.specs.Find.{at, get, get_item, as_array, as_bool, as_i64, as_str}
use Rattle.dv_script.specs.declared.action.ListFlag.{ListFlag}
use Rattle.dv_script.specs.declared.action.GatherFlag.{GatherFlag}
use Rattle.dv_script.specs.declared.turn_rule.TurnRule.{TurnRule}
use Rattle.dv_forms.specs.Parts.{turn_rule_named, turn_rule_at}
use Rattle.dv_grammar.specs.Grammar.{IsTurnRule, fair_turns, twisted_turns}
use Rattle.dv_script.specs.declared.limits.TheConstants.{MOST_PLACES}
use Rattle.dv_forms.specs.Forms.{Each, IsList, IsInteger, IsNumber}
use Rattle.dv_forms.specs.Parts.{call_at, within, integer_at, number_at, bound_at, list_flag, list_flag_at}
use Rattle.dv_forms.specs.Parts.{gather_flag_named, gather_flag_at}
use Rattle.dv_grammar.specs.Grammar.{IsListFlag, fires_on_callback, fires_on_errback, consumes_errors, IsGatherFlag}
use Rattle.dv_grammar.specs.Grammar.{gathers_errors, IsBound, no_bound, a_bound}
use Rattle.dv_forms.specs.declared.want.Want.{Want}
use Rattle.dv_forms.specs.declared.want.Want.TheVariants as want
use Rattle.dv_forms.specs.declared.want.CallKind.{CallKind}
use Rattle.dv_forms.specs.declared.want.Item.{Item}
use Rattle.dv_why.specs.declared.question.Question.TheVariants as question
use Rattle.dv_forms.specs.Wants.{item_want, want_for}
use Rattle.dv_forms.specs.Words.{may_stand, wants_of}
use Rattle.dv_why.specs.Places.{nth, part_want, value_want}
use Rattle.dv_document.specs.View.{count}
use Rattle.dv_forms.specs.declared.versions.TheConstants.{LAST_VERSION}
use Rattle.dv_why.specs.Fits.{fits, word_fits}
use Rattle.dv_why.specs.AllSuit.{AllSuit}
use Rattle.dv_why.proofs.Asked.{item_below, value_below}
use Rattle.dv_why.proofs.Forms.{last_too, wants_many}
use Rattle.dv_why.proofs.Parts.{here, part, value}

-- each part of the value fits in a script of this version, and it nests to so many levels at most
pub record IsFine (v n : ℕ) (w : Want) (d : Data) : Type 0 where
  pub suit : AllSuit (question.Shape v) w d
  pub deep : depth d ≤ n

pub fits_fine : {v n : ℕ} {w : Want} {d : Data} → IsFine v n w d → fits v w d ≡ true
fits_fine h = here h.suit

-- ---- parts

-- a part, a level down
pub inside : {v n : ℕ} {w u : Want} {d e : Data} (k : ℕ) → IsFine v (suc n) w d → part_want w d k ≡ Some u
    → at k d ≡ Some e → IsFine v n u e
inside {n = n} {d = d} {e = e} k h wants is = record {
  suit = part k h.suit wants is;
  deep = item_below k n d e is (let deep : depth d ≤ suc n = h.deep in omega (arith, deep));
}

-- a part, at the same level
pub same : {v n : ℕ} {w u : Want} {d e : Data} (k : ℕ) → IsFine v n w d → part_want w d k ≡ Some u → at k d ≡ Some e
    → IsFine v n u e
same {n = n} {d = d} {e = e} k h wants is = record {
  suit = part k h.suit wants is;
  deep = let deep : depth d ≤ n = h.deep in item_below k n d e is (omega (arith, deep));
}

-- the value of a key, a level down
pub under : {v n : ℕ} {w u : Want} {d e : Data} (key : List ℕ) → IsFine v (suc n) w d → value_want w key ≡ Some u
    → get key d ≡ Some e → IsFine v n u e
under {n = n} {d = d} {e = e} key h wants is = record {
  suit = value key h.suit wants is;
  deep = value_below key n d e is (let deep : depth d ≤ suc n = h.deep in omega (arith, deep));
}

-- the value of a key, at the same level
pub value_fine : {v n : ℕ} {w u : Want} {d e : Data} (key : List ℕ) → IsFine v n w d → value_want w key ≡ Some u
    → get key d ≡ Some e → IsFine v n u e
value_fine {n = n} {d = d} {e = e} key h wants is = record {
  suit = value key h.suit wants is;
  deep = let deep : depth d ≤ n = h.deep in value_below key n d e is (omega (arith, deep));
}

-- ---- leaves

pub text_of : (d : Data) → is_some (as_str d) ≡ true → (x : List ℕ) × (d ≡ string x)
text_of (string x) h = (x, refl)
text_of _ h = cc

-- what is there
pub there : {X : Type 0} (o : Option X) → is_some o ≡ true → (x : X) × (o ≡ Some x)
there None h = cc
there (Some x) h = (x, refl)

pub integer_of : (d : Data) → is_some (integer_at d) ≡ true → (n : ℤ) × IsInteger d n
integer_of (number x) h = let n = there (as_i64 x) h in (n.0, (x, refl, n.1))
integer_of _ h = cc

within_some : (low high n : ℕ) (b : Bool) → (nat_le low n && nat_le n high) ≡ b → is_some (within low high n) ≡ true
    → (low ≤ n) × (n ≤ high)
within_some low high n true e h =
    let both = and_parts (nat_le low n) (nat_le n high) e in (leb-true low n both.0, leb-true n high both.1)
within_some low high n false e h = let none : is_some (within low high n) ≡ false = rw e refl in cc

pub number_of : (low high : ℕ) (d : Data) → is_some (number_at low high d) ≡ true → (n : ℕ) × IsNumber low high d n
number_of low high (number (unsigned n)) h =
    let both = within_some low high n (nat_le low n && nat_le n high) refl h in (n, (refl, both.0, both.1))
number_of low high (number (negative z)) h = cc
number_of low high (number (float x)) h = cc
number_of low high _ h = cc

pub boolean_of : (d : Data) → is_some (as_bool d) ≡ true → (b : Bool) × (d ≡ boolean b)
boolean_of (boolean b) h = (b, refl)
boolean_of _ h = cc

some_of : {X Y : Type 0} (f : X → Y) (o : Option X) → is_some (option_map f o) ≡ true → is_some o ≡ true
some_of f None h = h
some_of f (Some x) h = refl

pub bound_of : (d : Data) → is_some (bound_at d) ≡ true → (o : Option ℕ) × IsBound d o
bound_of null h = (None, no_bound)
bound_of (number x) h =
    let n = number_of 0 MOST_PLACES (number x) (some_of (λ (k : ℕ). Some k) (number_at 0 MOST_PLACES (number x)) h) in
    (Some n.0, a_bound (number x) n.0 n.1)
bound_of _ h = cc

-- a text is this word, or it isn't
by_word : {X : Type 0} (text word : List ℕ) (b : Bool) → bytes_eq text word ≡ b → (word ≡ text → X) → (b ≡ false → X)
    → X
by_word text word true e is isnt = is (sym ((bytes_eq-Decides text word).0 e))
by_word text word false e is isnt = isnt refl

pub list_flag_of : (d : Data) → is_some (list_flag_at d) ≡ true → (x : ListFlag) × IsListFlag d x
list_flag_of (string text) h =
    by_word text (codes "fireOnOneCallback") (bytes_eq text (codes "fireOnOneCallback")) refl
    (λ is. rw (← is) (_, fires_on_callback)) (λ f0.
    by_word text (codes "fireOnOneErrback") (bytes_eq text (codes "fireOnOneErrback")) refl
    (λ is. rw (← is) (_, fires_on_errback)) (λ f1.
    by_word text (codes "consumeErrors") (bytes_eq text (codes "consumeErrors")) refl
    (λ is. rw (← is) (_, consumes_errors)) (λ f2.
    (let none : is_some (list_flag text) ≡ false = rw (f0, f1, f2) refl in cc))))
list_flag_of _ h = cc

pub turn_rule_of : (d : Data) → is_some (turn_rule_at d) ≡ true → (x : TurnRule) × IsTurnRule d x
turn_rule_of (string text) h =
    by_word text (codes "fair") (bytes_eq text (codes "fair")) refl (λ is. rw (← is) (_, fair_turns)) (λ f0.
    by_word text (codes "twisted") (bytes_eq text (codes "twisted")) refl (λ is. rw (← is) (_, twisted_turns)) (λ f1.
    (let none : is_some (turn_rule_named text) ≡ false = rw (f0, f1) refl in cc)))
turn_rule_of _ h = cc

pub gather_flag_of : (d : Data) → is_some (gather_flag_at d) ≡ true → (x : GatherFlag) × IsGatherFlag d x
gather_flag_of (string text) h =
    by_word text (codes "consumeErrors") (bytes_eq text (codes "consumeErrors")) refl
    (λ is. rw (← is) (_, gathers_errors)) (λ f.
    (let none : is_some (gather_flag_named text) ≡ false = rw f refl in cc))
gather_flag_of _ h = cc

-- ---- arrays

-- each item reads
pub each_of : {X : Type 0} (Is : Data → X → Type 0) (ds : Items)
    → ((k : ℕ) (e : Data) → get_item k ds ≡ Some e → (x : X) × Is e x) → (xs : List X) × Each Is ds xs
each_of Is no_items h = ([], tt)
each_of Is (item d ds) h =
    let x = h 0 d refl in
    let xs = each_of Is ds (λ k e is. h (suc k) e is) in
    (x.0 ∷ xs.0, (x.1, xs.1))

array_of : (d : Data) → is_some (as_array d) ≡ true → (ds : Items) × (d ≡ array ds)
array_of (array ds) h = (ds, refl)
array_of _ h = cc

-- an array, and that each item is fine
pub record IsOpenArray (v n : ℕ) (i : Item) (d : Data) : Type 0 where
  pub items : Items
  pub whole : d ≡ array items
  pub each : (k : ℕ) (e : Data) → get_item k items ≡ Some e → IsFine v n (item_want i) e

pub open_array : (v n : ℕ) (i : Item) (d : Data) → IsFine v n (want.Array i) d → IsOpenArray v n i d
open_array v n i d h =
    let a = array_of d (fits_fine h) in
    record { items = a.0; whole = a.1; each = λ k e is. same k h refl (ap (at k) a.1 ∙ is) }

pub list_of : {X : Type 0} (v n : ℕ) (i : Item) (Is : Data → X → Type 0)
    → ((e : Data) → IsFine v n (item_want i) e → (x : X) × Is e x) → (d : Data) → IsFine v n (want.Array i) d
    → (xs : List X) × IsList Is d xs
list_of v n i Is one d h =
    let a = open_array v n i d h in
    let xs = each_of Is a.items (λ k e is. one e (a.each k e is)) in
    (xs.0, (a.items, a.whole, xs.1))

-- ---- arguments

-- the arguments are fine, one for one
abbrev pub EachFine : ℕ → ℕ → List Want → Items → Type 0
EachFine v n [] no_items = ⊤
EachFine v n [] (item d ds) = ⊥
EachFine v n (w ∷ ws) no_items = ⊥
EachFine v n (w ∷ ws) (item d ds) = IsFine v n (want_for w d) d × EachFine v n ws ds

-- the same, as a type of its own
pub record AreFine (v n : ℕ) (ws : List Want) (ds : Items) : Type 0 where
  pub each : EachFine v n ws ds

pub are_fine : (v n : ℕ) (ws : List Want) (ds : Items) → length ws ≡ count ds
    → ((k : ℕ) (u : Want) (e : Data) → nth ws k ≡ Some u → get_item k ds ≡ Some e → IsFine v n (want_for u e) e)
    → AreFine v n ws ds
are_fine v n [] no_items many h = record { each = tt }
are_fine v n [] (item d ds) many h = absurd (omega (arith, many))
are_fine v n (w ∷ ws) no_items many h = absurd (omega (arith, many))
are_fine v n (w ∷ ws) (item d ds) many h =
    let rest = are_fine v n ws ds (omega (arith, many)) (λ k u e wants is. h (suc k) u e wants is) in
    record { each = (h 0 w d refl refl, rest.each) }

pub no_args : (v n : ℕ) (ds : Items) → AreFine v n [] ds → ds ≡ no_items
no_args v n no_items h = refl
no_args v n (item d ds) h = absurd h.each

pub record IsOne (v n : ℕ) (w : Want) (ds : Items) : Type 0 where
  pub a : Data
  pub items : ds ≡ item a no_items
  pub fine : IsFine v n (want_for w a) a

pub one_arg : (v n : ℕ) (w : Want) (ds : Items) → AreFine v n (w ∷ []) ds → IsOne v n w ds
one_arg v n w no_items h = absurd h.each
one_arg v n w (item d ds) h =
    record { a = d; items = ap (item d) (no_args v n ds (record { each = h.each.1 })); fine = h.each.0 }

-- the first argument, and the rest
pub record IsMore (v n : ℕ) (w : Want) (ws : List Want) (ds : Items) : Type 0 where
  pub a : Data
  pub rest : Items
  pub items : ds ≡ item a rest
  pub fine : IsFine v n (want_for w a) a
  pub others : AreFine v n ws rest

pub more_args : (v n : ℕ) (w : Want) (ws : List Want) (ds : Items) → AreFine v n (w ∷ ws) ds → IsMore v n w ws ds
more_args v n w ws no_items h = absurd h.each
more_args v n w ws (item d ds) h =
    record { a = d; rest = ds; items = refl; fine = h.each.0; others = record { each = h.each.1 } }

-- ---- calls

-- a word that may stand there, and its arguments
pub record IsOpenCall (v n : ℕ) (c : CallKind) (d : Data) : Type 0 where
  pub word : List ℕ
  pub rest : Items
  pub whole : d ≡ array (item (string word) rest)
  pub plain : word_fits v c (Some word) ≡ true
  pub wants : List Want
  pub form : wants_of c word (count rest) ≡ Some wants
  pub args : AreFine v n wants rest

pub open_call : (v n : ℕ) (c : CallKind) (d : Data) → fits v (want.Call c) d ≡ true
    → ((k : ℕ) (u : Want) (e : Data) → part_want (want.Call c) d k ≡ Some u → at k d ≡ Some e → IsFine v n u e)
    → IsOpenCall v n c d
unfolding call_at
open_call v n c (array (item (string word) rest)) h parts =
    let plain : word_fits v c (Some word) ≡ true = fits_fine (parts 0 (want.Word c) (string word) refl refl) in
    let last : may_stand c word LAST_VERSION ≡ true = last_too c word v plain in
    let known : is_some (wants_of c word (count rest)) ≡ true = rw last at h in
    let form = there (wants_of c word (count rest)) known in
    let many : length form.0 ≡ count rest = wants_many c word (count rest) form.0 form.1 in
    record {
      word = word;
      rest = rest;
      whole = refl;
      plain = plain;
      wants = form.0;
      form = form.1;
      args = are_fine v n form.0 rest many
          (λ k u e wants is. parts (suc k) (want_for u e) e (rw (form.1, wants, is) refl) is);
    }
open_call v n c (array (item first rest)) h parts =
    let plain : word_fits v c (as_str first) ≡ true = fits_fine (parts 0 (want.Word c) first refl refl) in cc
open_call v n c _ h parts = cc
