-- A value of which each part fits reads, and so does a failure.
use Rattle.std.proofs.Common.{Ordering, Less, Equal, Greater, is_eq, nat_cmp, ◌≡◌, ℕ, zero, suc, ◌≤◌, Bool, true, false}
use Rattle.std.proofs.Common.{not, ◌&&◌, List, [], ◌∷◌, Option, Some, None, is_some, option_map}
use Rattle.std.proofs.Common.{bytes_eq, refl, sym, ap, ◌∙◌, arith, codes}
use Rattle.std.specs.List.{list_any}
use Rattle.std.specs.Ordering.{match_ordering}
use Rattle.std.specs.Cmp.Lexicographic.{slice_cmp}
use Rattle.std.proofs.lemmas.Bool.{and_parts}
use Rattle.std.proofs.lemmas.Map.Text.{is_eq-slice_cmp}
use Rattle.std.proofs.lemmas.Slice.Eq.{bytes_eq-Decides}
use Rattle.serde_json.specs.Data.{Data, null, boolean, number, string, array, object, Items, no_items, item, Members}
use Rattle.serde_json.specs.Data.{no_members, member, depth}
use Rattle.serde_json.specs.Find.{as_i64, get_item, get_member}
use Rattle.dv_value.specs.declared.classes.Class.{Class}
use Rattle.dv_value.specs.declared.failure.Failure.{Failure}
use Rattle.dv_value.specs.declared.value.Value.{Value, Null, Bool as Flag, Int, Text, List as Values, Fault}
use Rattle.dv_value.specs.Failure.{plain_failure}
use Rattle.dv_forms.specs.declared.failure.TheConstants.{MOST_INDEX}
use Rattle.dv_forms.specs.declared.want.Keyed.{Keyed}
use Rattle.dv_forms.specs.declared.want.Keyed.TheVariants as keyed
use Rattle.dv_forms.specs.declared.want.Leaf.TheVariants as leaf
use Rattle.dv_forms.specs.declared.want.Want.{Want}
use Rattle.dv_forms.specs.declared.want.Want.TheVariants as want
use Rattle.dv_forms.specs.Forms.{Key, IsClass, IsNumber, IsText, IsValue, a_null, a_bool, an_int, a_text as a_string}
use Rattle.dv_forms.specs.Forms.{a_list}
use Rattle.dv_forms.specs.Forms.{IsMember}
use Rattle.dv_forms.specs.Forms.{a_value, a_fault, AreMembers, no_more, one_more, IsFailure, a_failure, a_first_error}
use Rattle.dv_forms.specs.Forms.{failure_keys, first_error, first_error_keys, has_none_but, is_first_error, place_of}
use Rattle.dv_forms.specs.Parts.{empty_at}
use Rattle.dv_forms.specs.Wants.{a_class, a_text, key_want, member_want}
use Rattle.dv_questions.specs.Questions.{object_stands}
use Rattle.dv_why.specs.declared.question.Question.TheVariants as question
use Rattle.dv_why.specs.AllSuit.{AllSuit}
use Rattle.dv_why.specs.Fits.{fits, has_keys, is_empty, is_of_class}
use Rattle.dv_why.proofs.Asked.{known_key}
use Rattle.dv_why.proofs.Fine.{IsFine, fits_fine, number_of, same, text_of, there, under}
use Rattle.dv_why.proofs.Parts.{both, here, value}

-- ---- keys

pub first_there : (o : Ordering) (rest : Option Data) (d : Data) → is_eq o ≡ true
    → match_ordering o rest (Some d) rest ≡ Some d
first_there Less rest d e = cc
first_there Equal rest d e = refl
first_there Greater rest d e = cc

pub still_there : (o : Ordering) (rest : Option Data) (d e : Data) → rest ≡ Some e
    → (f : Data) × (match_ordering o rest (Some d) rest ≡ Some f)
still_there Less rest d e is = (e, is)
still_there Equal rest d e is = (d, refl)
still_there Greater rest d e is = (e, is)

-- a key that is there isn't another
pub not_other : (v : ℕ) (k : Keyed) (ms : Members) → AllSuit (question.Shape v) (want.Keyed k) (object ms)
    → (key : List ℕ) (e : Data) → get_member key ms ≡ Some e → key_want k key ≡ want.Other k → ⊥
not_other v k ms h key e is other =
    let fit : fits v (key_want k key) e ≡ true = here (value key h refl is) in
    let no : fits v (want.Other k) e ≡ true = ap (λ (w : Want). fits v w e) (sym other) ∙ fit in
    cc

-- whether a key is one of these
abbrev is_one : List (List ℕ) → List ℕ → Bool
is_one keys key = list_any (λ k. bytes_eq key k) keys

-- each key that is there is one of these
none_but : (keys : List (List ℕ)) (ms : Members)
    → ((key : List ℕ) (e : Data) → get_member key ms ≡ Some e → is_one keys key ≡ true)
    → has_none_but keys ms ≡ true
unfolding has_none_but
none_but keys no_members h = refl
none_but keys (member k d ms) h =
    let first : get_member k (member k d ms) ≡ Some d =
    first_there (slice_cmp nat_cmp k k) (get_member k ms) d (is_eq-slice_cmp k k ∙ (bytes_eq-Decides k k).1 refl) in
    both (h k d first) (none_but keys ms (λ key e is. let f =
    still_there (slice_cmp nat_cmp key k) (get_member key ms) d e is in h key f.0 f.1))

-- ---- failures

-- nothing is there
not_there : {X : Type 0} (o : Option Data) (e : Data) → not (is_some o) ≡ true → o ≡ Some e → X
not_there None e h is = cc
not_there (Some d) e h is = cc

plain_only : (v : ℕ) (ms : Members) → AllSuit (question.Shape v) (want.Keyed keyed.Failure) (object ms)
    → not (is_some (get_member (codes "index") ms)) ≡ true → not (is_some (get_member (codes "sub") ms)) ≡ true
    → has_none_but failure_keys ms ≡ true
plain_only v ms h no_index no_sub = none_but failure_keys ms (λ key e is.
    let P : List ℕ → Type 0 = λ x. ((f : Data) → get_member x ms ≡ Some f → is_one failure_keys x ≡ true) in
    known_key P keyed.Failure key (
      λ f is_f. refl,
      (
        λ f is_f. not_there (get_member (codes "index") ms) f no_index is_f,
        (
          λ f is_f. refl,
          (λ f is_f. not_there (get_member (codes "sub") ms) f no_sub is_f, tt),
        ),
      ),
    )
    (λ other f is_f. absurd (not_other v keyed.Failure ms h key e is other)) e is)

first_error_only : (v : ℕ) (ms : Members) → AllSuit (question.Shape v) (want.Keyed keyed.Failure) (object ms)
    → has_none_but first_error_keys ms ≡ true
first_error_only v ms h = none_but first_error_keys ms (λ key e is.
    let P : List ℕ → Type 0 = λ x. (is_one first_error_keys x ≡ true) in
    known_key P keyed.Failure key (refl, (refl, (refl, (refl, tt))))
    (λ other. absurd (not_other v keyed.Failure ms h key e is other)))

-- the value of a key that has to be there reads
key_of : {X : Type 0} (Is : Data → X → Type 0) (o : Option Data) → is_some o ≡ true
    → ((d : Data) → o ≡ Some d → (x : X) × Is d x) → (x : X) × Key Is o x
key_of Is None some one = cc
key_of Is (Some d) some one = one d refl

empty_of : (d : Data) → is_some (empty_at d) ≡ true → IsText d []
empty_of (string []) h = refl
empty_of (string (b ∷ bs)) h = cc
empty_of _ h = cc

empty_key : (o : Option Data) → is_empty o ≡ true → Key IsText o []
empty_key None h = cc
empty_key (Some d) h = empty_of d h

class_key : (v n : ℕ) (table : List Class) (ms : Members) → IsFine v (suc n) (want.Keyed keyed.Failure) (object ms)
    → is_some (get_member (codes "fail") ms) ≡ true
    → (class : ℕ) × Key (IsClass table) (get_member (codes "fail") ms) class
class_key v n table ms h some = key_of (IsClass table) (get_member (codes "fail") ms) some (λ d is.
    let fine : IsFine v n a_class d = under (codes "fail") h refl is in
    let x = text_of d (fits_fine fine) in (place_of x.0 table, (x.0, x.1, refl)))

text_key : (v n : ℕ) (ms : Members) → IsFine v (suc n) (want.Keyed keyed.Failure) (object ms)
    → is_some (get_member (codes "message") ms) ≡ true
    → (text : List ℕ) × Key IsText (get_member (codes "message") ms) text
text_key v n ms h some = key_of IsText (get_member (codes "message") ms) some
    (λ d is. let fine : IsFine v n a_text d = under (codes "message") h refl is in text_of d (fits_fine fine))

index_key : (v n : ℕ) (ms : Members) → IsFine v (suc n) (want.Keyed keyed.Failure) (object ms)
    → is_some (get_member (codes "index") ms) ≡ true
    → (index : ℕ) × Key (IsNumber 0 MOST_INDEX) (get_member (codes "index") ms) index
index_key v n ms h some = key_of (IsNumber 0 MOST_INDEX) (get_member (codes "index") ms) some
    (λ d is.
    let fine : IsFine v n (want.Leaf (leaf.Number 0 MOST_INDEX)) d = under (codes "index") h refl is in
    number_of 0 MOST_INDEX d (fits_fine fine))

-- the parts of an object that is a failure
record HasParts (b : Bool) (ms : Members) : Type 0 where
  fail : is_some (get_member (codes "fail") ms) ≡ true
  message : is_some (get_member (codes "message") ms) ≡ true
  class : is_of_class b (object ms) ≡ true

parts_of : (v n : ℕ) (ms : Members) (b : Bool) → is_first_error (object ms) ≡ b
    → IsFine v n (want.Keyed keyed.Failure) (object ms) → HasParts b ms
parts_of v n ms b is h =
    let fit = and_parts (true && object_stands v keyed.Failure) (has_keys keyed.Failure (object ms)) (fits_fine h) in
    let keys = and_parts (is_some (get_member (codes "fail") ms) && is_some (get_member (codes "message") ms))
    (is_of_class (is_first_error (object ms)) (object ms)) fit.1 in
    let two = and_parts (is_some (get_member (codes "fail") ms)) (is_some (get_member (codes "message") ms)) keys.0 in
    record {
      fail = two.0;
      message = two.1;
      class = ap (λ c. is_of_class c (object ms)) (sym is) ∙ keys.1;
    }

-- failures that nest to so many levels read
abbrev AreRead : ℕ → ℕ → List Class → Type 0
AreRead v n table = (d : Data) → IsFine v n (want.Keyed keyed.Failure) d → (f : Failure) × IsFailure table d f

failure_by : (v n : ℕ) (table : List Class) → AreRead v n table → (ms : Members) (b : Bool)
    → is_first_error (object ms) ≡ b
    → IsFine v (suc n) (want.Keyed keyed.Failure) (object ms) → (f : Failure) × IsFailure table (object ms) f
failure_by v n table read ms true is h =
    let p = parts_of v (suc n) ms true is h in
    let all = and_parts (is_some (get_member (codes "index") ms) && is_some (get_member (codes "sub") ms))
    (is_empty (get_member (codes "message") ms)) p.class in
    let two = and_parts (is_some (get_member (codes "index") ms)) (is_some (get_member (codes "sub") ms)) all.0 in
    let c = class_key v n table ms h p.fail in
    let i = index_key v n ms h two.0 in
    let s = there (get_member (codes "sub") ms) two.1 in
    let f = read s.0 (under (codes "sub") h refl s.1) in (
      first_error c.0 i.0 f.0,
      a_first_error ms c.0 i.0 s.0 f.0 is (first_error_only v ms h.suit) c.1 i.1
          (empty_key (get_member (codes "message") ms) all.1) s.1 f.1,
    )
failure_by v n table read ms false is h =
    let p = parts_of v (suc n) ms false is h in
    let none = and_parts (not (is_some (get_member (codes "index") ms)))
    (not (is_some (get_member (codes "sub") ms))) p.class in
    let c = class_key v n table ms h p.fail in
    let t = text_key v n ms h p.message in
    (plain_failure c.0 t.0, a_failure ms c.0 t.0 is (plain_only v ms h.suit none.0 none.1) c.1 t.1)

no_failure : (v : ℕ) (table : List Class) → AreRead v 0 table
no_failure v table (object ms) h = let deep : depth (object ms) ≤ 0 = h.deep in absurd (omega (arith, deep))
no_failure v table d h = let fit : fits v (want.Keyed keyed.Failure) d ≡ true = fits_fine h in cc

failure_fine : (v n : ℕ) (table : List Class) → AreRead v n table → AreRead v (suc n) table
failure_fine v n table read (object ms) h = failure_by v n table read ms (is_first_error (object ms)) refl h
failure_fine v n table read d h = let fit : fits v (want.Keyed keyed.Failure) d ≡ true = fits_fine h in cc

pub failure_of : (v n : ℕ) (table : List Class) → AreRead v n table
failure_of v zero table = no_failure v table
failure_of v (suc n) table = failure_fine v n table (failure_of v n table)

-- ---- values

mutual
  member_of : (v n : ℕ) (table : List Class) (d : Data) → IsFine v n (member_want d) d
      → (x : Value) × IsMember table d x
  member_of v n table null h = (Null, a_value null Null a_null)
  member_of v n table (boolean b) h = (Flag b, a_value (boolean b) (Flag b) (a_bool b))
  member_of v n table (number x) h =
      let i = there (as_i64 x) (fits_fine h) in (Int i.0, a_value (number x) (Int i.0) (an_int x i.0 i.1))
  member_of v n table (string text) h = (Text text, a_value (string text) (Text text) (a_string text))
  member_of v n table (array ds) h =
      let xs = members_of v n table ds (λ k e is. same k h (ap (option_map member_want) is) is) in
      (Values xs.0, a_value (array ds) (Values xs.0) (a_list ds xs.0 xs.1))
  member_of v n table (object ms) h =
      let f = failure_of v n table (object ms) h in (Fault f.0, a_fault (object ms) f.0 f.1)

  members_of : (v n : ℕ) (table : List Class) (ds : Items)
      → ((k : ℕ) (e : Data) → get_item k ds ≡ Some e → IsFine v n (member_want e) e)
      → (xs : List Value) × AreMembers table ds xs
  members_of v n table no_items h = ([], no_more)
  members_of v n table (item d ds) h =
      let x = member_of v n table d (h 0 d refl) in
      let xs = members_of v n table ds (λ k e is. h (suc k) e is) in
      (x.0 ∷ xs.0, one_more d ds x.0 xs.0 x.1 xs.1)

pub value_of : (v n : ℕ) (table : List Class) (d : Data) → IsFine v n want.Value d → (x : Value) × IsValue table d x
value_of v n table null h = (Null, a_null)
value_of v n table (boolean b) h = (Flag b, a_bool b)
value_of v n table (number x) h = let i = there (as_i64 x) (fits_fine h) in (Int i.0, an_int x i.0 i.1)
value_of v n table (string text) h = (Text text, a_string text)
value_of v n table (array ds) h =
    let xs = members_of v n table ds (λ k e is. same k h (ap (option_map member_want) is) is) in
    (Values xs.0, a_list ds xs.0 xs.1)
value_of v n table (object ms) h = let no : fits v want.Value (object ms) ≡ true = fits_fine h in cc
