-- What a map of names shows.
use Rattle.std.proofs.Common.{◌≡◌, ℕ, List, [], ◌∷◌, Bool, true, false, map, refl, ap, bytes_eq}
use Rattle.std.proofs.Common.{if◌then◌else◌}
use Rattle.std.specs.Map.{lookup}
use Rattle.indexmap.specs.IndexMap.{insert_entry}
use Rattle.dv_objects.specs.Names.{Names, number_of, with_name}

module _ {K I : Type 0} (text : K → List ℕ) where
  -- names and numbers, as the entries show them
  abbrev pub shown : List (K × I) → Names I
  shown es = map (λ e. (text e.0, e.1)) es

  pub number_of_shown : (name : List ℕ) (es : List (K × I))
      → number_of name (shown es) ≡ lookup (λ k. bytes_eq name (text k)) es
  number_of_shown name [] = refl
  number_of_shown name (e ∷ es) = rw (number_of_shown name es) refl

  by_test : (b : Bool) (a c : List (K × I)) (rest : Names I) → shown c ≡ rest
      → shown (if b then a else c) ≡ (if b then shown a else rest)
  by_test true a c rest e = refl
  by_test false a c rest e = e

  pub with_name_shown : (k : K) (n : I) (es : List (K × I))
      → shown (insert_entry (λ a b. bytes_eq (text a) (text b)) es k n) ≡ with_name (text k) n (shown es)
  with_name_shown k n [] = refl
  with_name_shown k n (e ∷ es) =
      by_test (bytes_eq (text k) (text e.0)) ((e.0, n) ∷ es) (e ∷ insert_entry (λ a b. bytes_eq (text a) (text b)) es k n) _
      (ap (λ (l : Names I). (text e.0, e.1) ∷ l) (with_name_shown k n es))
