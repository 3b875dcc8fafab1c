-- How many Deferreds of a name were met.
use Rattle.std.specs.Prelude.{ℕ, List, unwrap_or}
use Rattle.dv_objects.specs.Names.{Names, number_of}

-- the number that the name is bound to, or 0
abbrev pub met_of : List ℕ → Names ℕ → ℕ
met_of name met = unwrap_or (number_of name met) 0
