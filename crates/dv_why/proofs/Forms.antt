-- What is so of each form of a table is so of a form that is found there.
use Rattle.std.proofs.Common.{◌≡◌, ℕ, nat_eq, nat_le, Bool, true, false, ◌&&◌, ◌||◌, List, [], ◌∷◌, length, Option}
use Rattle.std.proofs.Common.{Some, None, option_and_then, bytes_eq, refl, inl, inr}
use Rattle.std.specs.Prelude.{⊤}
use Rattle.std.specs.List.{list_all}
use Rattle.std.proofs.lemmas.Bool.{and_parts, eqb-true}
use Rattle.std.proofs.lemmas.Slice.Eq.{bytes_eq-Decides}
use Rattle.dv_forms.specs.declared.want.CallKind.{CallKind}
use Rattle.dv_forms.specs.declared.want.CallKind.TheVariants as call_of
use Rattle.dv_forms.specs.declared.want.Want.{Want}
use Rattle.dv_forms.specs.Words.{Form, or_else, own_forms, narrower, wants_in, wants_of, has_word, has_word_at}
use Rattle.dv_forms.specs.Words.{may_stand, named_in}
use Rattle.dv_grammar.proofs.Steps.{some_injective, chosen}
use Rattle.dv_forms.specs.declared.versions.TheConstants.{LAST_VERSION}

-- it is so of the word of each form, and of what its arguments have to be
abbrev pub EachForm : (List ℕ → List Want → Type 0) → List Form → Type 0
EachForm P [] = ⊤
EachForm P (form ∷ forms) = P form.word form.wants × EachForm P forms

-- a form with so many arguments is one of the forms
pub found_form : (P : List ℕ → List Want → Type 0) (forms : List Form) → EachForm P forms
    → (word : List ℕ) (given : ℕ) (wants : List Want) → wants_in forms word given ≡ Some wants → P word wants
found_form P [] all word given wants e = cc
found_form P (form ∷ forms) all word given wants e =
    elim (chosen (bytes_eq form.word word && nat_eq (length form.wants) given) (Some form.wants)
    (wants_in forms word given) (Some wants) e) [
      | inl h ↦ rw (
        ← (bytes_eq-Decides form.word word).0 (and_parts (bytes_eq form.word word)
            (nat_eq (length form.wants) given) h.0).0,
        ← some_injective h.1,
      ) all.0
      | inr h ↦ found_form P forms all.1 word given wants h
    ]

-- the first, or the second
pub either_found : {X P : Type 0} (o other : Option X) (x : X) → or_else o other ≡ Some x → (o ≡ Some x → P)
    → (other ≡ Some x → P) → P
either_found (Some y) other x e k l = k e
either_found None other x e k l = l e

in_many : (forms : List Form) (word : List ℕ) (given : ℕ) (wants : List Want) → wants_in forms word given ≡ Some wants
    → length wants ≡ given
in_many [] word given wants e = cc
in_many (form ∷ forms) word given wants e =
    elim (chosen (bytes_eq form.word word && nat_eq (length form.wants) given) (Some form.wants)
    (wants_in forms word given) (Some wants) e) [
      | inl h ↦ rw (← some_injective h.1) (eqb-true (length form.wants) given (and_parts (bytes_eq form.word word)
          (nat_eq (length form.wants) given) h.0).1)
      | inr h ↦ in_many forms word given wants h
    ]

at_many : (o : Option CallKind) (word : List ℕ) (given : ℕ) (wants : List Want)
    → option_and_then (λ n. wants_in (own_forms n) word given) o ≡ Some wants → length wants ≡ given
at_many None word given wants e = cc
at_many (Some c) word given wants e = in_many (own_forms c) word given wants e

-- so many arguments are asked for as are given
pub wants_many : (c : CallKind) (word : List ℕ) (given : ℕ) (wants : List Want) → wants_of c word given ≡ Some wants
    → length wants ≡ given
wants_many c word given wants e =
    either_found (wants_in (own_forms c) word given) _ wants e (λ h. in_many (own_forms c) word given wants h)
    (λ h. at_many (narrower c) word given wants h)

-- ---- versions

or_split : {P : Type 0} (a b : Bool) → (a || b) ≡ true → (a ≡ true → P) → (b ≡ true → P) → P
or_split true b h k l = k refl
or_split false b h k l = l h

or_first : {a : Bool} (b : Bool) → a ≡ true → (a || b) ≡ true
or_first b h = rw h refl

or_second : (a : Bool) {b : Bool} → b ≡ true → (a || b) ≡ true
or_second true h = refl
or_second false h = h

abbrev all_last : List Form → Bool
all_last forms = list_all (λ form. nat_le form.since LAST_VERSION) forms

has_last : (forms : List Form) → all_last forms ≡ true → (word : List ℕ) (v : ℕ) → has_word forms word v ≡ true
    → has_word forms word LAST_VERSION ≡ true
has_last [] all word v h = h
has_last (form ∷ forms) all word v h =
    let parts = and_parts (nat_le form.since LAST_VERSION) (all_last forms) all in
    or_split (bytes_eq form.word word && nat_le form.since v) (has_word forms word v) h
    (λ k. or_first (has_word forms word LAST_VERSION)
    (rw ((and_parts (bytes_eq form.word word) (nat_le form.since v) k).0, parts.0) refl))
    (λ k. or_second (bytes_eq form.word word && nat_le form.since LAST_VERSION) (has_last forms parts.1 word v k))

own_last : (c : CallKind) → all_last (own_forms c) ≡ true
own_last call_of.Event = refl
own_last call_of.Action = refl
own_last call_of.Statement = refl
own_last call_of.End = refl
own_last call_of.Leaving = refl
own_last call_of.Work = refl
own_last call_of.Outcome = refl

at_last : (o : Option CallKind) (word : List ℕ) (v : ℕ) → has_word_at o word v ≡ true
    → has_word_at o word LAST_VERSION ≡ true
at_last None word v h = h
at_last (Some c) word v h = has_last (own_forms c) (own_last c) word v h

-- a word of some version is one of the last
pub last_too : (c : CallKind) (word : List ℕ) (v : ℕ) → may_stand c word v ≡ true → may_stand c word LAST_VERSION ≡ true
last_too c word v h =
    or_split (has_word (own_forms c) word v) (has_word_at (narrower c) word v) h
    (λ k. or_first (has_word_at (narrower c) word LAST_VERSION) (has_last (own_forms c) (own_last c) word v k))
    (λ k. or_second (has_word (own_forms c) word LAST_VERSION) (at_last (narrower c) word v k))

-- ---- the words of actions

-- what is found to be so of each word is so of a word
pub checked_word : {W : Type 0} (check : List ℕ → Bool) (words : List (W × List ℕ))
    → list_all (λ word. check word.1) words ≡ true → (text : List ℕ) (word : W) → named_in words text ≡ Some word
    → check text ≡ true
checked_word check [] all text word e = cc
checked_word check (first ∷ rest) all text word e =
    let parts = and_parts (check first.1) (list_all (λ w. check w.1) rest) all in
    elim (chosen (bytes_eq text first.1) (Some first.0) (named_in rest text) (Some word) e) [
      | inl h ↦ rw ((bytes_eq-Decides text first.1).0 h.0) parts.0
      | inr h ↦ checked_word check rest parts.1 text word h
    ]
