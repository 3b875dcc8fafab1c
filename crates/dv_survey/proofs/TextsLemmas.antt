-- What a set of texts shows.
use Rattle.std.proofs.Common.{◌≡◌, ℕ, ◌+◌, List, [], ◌∷◌, ◌++◌, Bool, true, false, ◌||◌, not, cond, map, refl, ap, ◌∙◌}
use Rattle.std.proofs.Common.{string_bytes, bytes_eq, if◌then◌else◌}
use Rattle.std.specs.List.{list_any, position_or_len}
use Rattle.std.specs.String.{string_eq}
use Rattle.indexmap.specs.IndexSet.{insert_key}
use Rattle.std.specs.declared.alloc.Global.{Global}
use Rattle.std.specs.declared.string.String.{String}
use Rattle.dv_survey.specs.Texts.{place_of, with_text}

any_shown : (k : String Global) (ks : List (String Global))
    → list_any (string_eq k) ks ≡ list_any (bytes_eq (string_bytes k)) (map string_bytes ks)
any_shown k [] = refl
any_shown k (x ∷ ks) = ap (λ (b : Bool). string_eq k x || b) (any_shown k ks)

pub place_shown : (k : String Global) (ks : List (String Global))
    → position_or_len (string_eq k) ks ≡ place_of (string_bytes k) (map string_bytes ks)
place_shown k [] = refl
place_shown k (x ∷ ks) = ap (λ (n : ℕ). cond (not (string_eq k x)) (1 + n) 0) (place_shown k ks)

map_push : (k : String Global) (ks : List (String Global))
    → map string_bytes (ks ++ k ∷ []) ≡ map string_bytes ks ++ string_bytes k ∷ []
map_push k [] = refl
map_push k (x ∷ ks) = ap (λ (l : List (List ℕ)). string_bytes x ∷ l) (map_push k ks)

pub text_shown : (k : String Global) (ks : List (String Global))
    → map string_bytes (insert_key string_eq ks k) ≡ with_text (string_bytes k) (map string_bytes ks)
text_shown k ks =
    by (list_any (string_eq k) ks)
    ∙ ap (λ (b : Bool). if b then map string_bytes ks else map string_bytes ks ++ string_bytes k ∷ []) (any_shown k ks)
  where
    by : (t : Bool) → map string_bytes (if t then ks else ks ++ k ∷ [])
        ≡ (if t then map string_bytes ks else map string_bytes ks ++ string_bytes k ∷ [])
    by true = refl
    by false = map_push k ks

pub ruleset shown = (place_shown, text_shown)
