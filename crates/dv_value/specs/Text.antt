-- What a text is seen as.
use Rattle.std.specs.Prelude.{ℕ, List, string_bytes}
use Rattle.dv_value.specs.declared.text.Held.{Held}
use Rattle.dv_value.specs.declared.text.Held.TheVariants.{Short, Long}

-- its bytes, wherever they lie
abbrev pub bytes_of : Held → List ℕ
bytes_of (Short text) = text.bytes
bytes_of (Long text) = string_bytes text
