-- What is so of each word of a table is so of a word that is found there.
use Rattle.std.proofs.Common.{◌≡◌, ℕ, List, [], ◌∷◌, Some, bytes_eq, inl, inr}
use Rattle.std.specs.Prelude.{⊤}
use Rattle.std.proofs.lemmas.Slice.Eq.{bytes_eq-Decides}
use Rattle.dv_forms.specs.Words.{named_in}
use Rattle.dv_grammar.proofs.Steps.{some_injective, chosen}

-- it is so of each word and its text
abbrev pub EachWord : {W : Type 0} → (W → List ℕ → Type 0) → List (W × List ℕ) → Type 0
EachWord P [] = ⊤
EachWord P (word ∷ words) = P word.0 word.1 × EachWord P words

-- a word after another
infixr 5 ◌&◌
abbrev pub ◌&◌ : {A B : Type 0} → A → B → A × B
a & b = (a, b)

pub found_word : {W : Type 0} (P : W → List ℕ → Type 0) (words : List (W × List ℕ)) → EachWord P words
    → (text : List ℕ) (word : W) → named_in words text ≡ Some word → P word text
found_word P [] all text word e = cc
found_word P (first ∷ rest) all text word e =
    elim (chosen (bytes_eq text first.1) (Some first.0) (named_in rest text) (Some word) e) [
      | inl h ↦ rw ((bytes_eq-Decides text first.1).0 h.0, ← some_injective h.1) all.0
      | inr h ↦ found_word P rest all.1 text word h
    ]
