-- Parts of a line of JSON, which are added at the end of a text.
use Rattle.std.specs.Prelude.{◌≡◌, ℕ, nat_le, Bool, true, if◌then◌else◌, Option, None, Some, List, ◌++◌, codes}
use Rattle.std.specs.Fmt.{decimal}
use Rattle.std.specs.List.{list_all}

-- a byte that ends no line, and is no other control character
abbrev pub is_visible : ℕ → Bool
is_visible byte = nat_le 32 byte

-- a text that ends no line
abbrev pub IsVisible : List ℕ → Type 0
IsVisible text = list_all is_visible text ≡ true

-- a text that ends no line was added
pub record Adds (old new : List ℕ) : Type 0 where
  pub text : List ℕ
  pub is : new ≡ old ++ text
  pub visible : IsVisible text

-- the number, or null
abbrev pub number_or_null : Option ℕ → List ℕ
number_or_null None = codes "null"
number_or_null (Some number) = decimal number

-- true or false
abbrev pub bool_text : Bool → List ℕ
bool_text is_true = if is_true then codes "true" else codes "false"
