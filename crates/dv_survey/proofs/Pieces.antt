-- Texts that are written one after the other.
use Rattle.std.proofs.Common.{◌≡◌, ◌++◌, ◌∙◌, ℕ, List, OnOk, Ok, Err, Result, ap, append_assoc}

-- a piece more was written
pub with_piece : (old mid new a b : List ℕ) → mid ≡ old ++ a → new ≡ mid ++ b → new ≡ old ++ (a ++ b)
with_piece old mid new a b so_far more = more ∙ ap (λ l. l ++ b) so_far ∙ append_assoc old a b

pub on_ok : {A E P Q : Type 0} (result : Result A E) → OnOk result P → (P → Q) → OnOk result Q
on_ok (Ok a) p more = more p
on_ok (Err e) p more = tt
