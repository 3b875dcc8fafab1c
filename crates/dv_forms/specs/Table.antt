-- The table of a script: the classes that every script has, then those that it declares.
use Rattle.std.specs.Prelude.{ℕ, Bool, true, false, ◌&&◌, List, [], ◌∷◌, length, Option, Some, None, nat_le}
use Rattle.std.specs.Prelude.{if◌then◌else◌}
use Rattle.dv_value.specs.declared.classes.Class.{Class}
use Rattle.dv_value.specs.Classes.{find_class}
use Rattle.dv_value.specs.Declaring.{with_class}
use Rattle.dv_value.specs.Builtin.{builtin, later_builtin}
use Rattle.dv_script.specs.declared.limits.TheConstants.{MOST_CLASSES}
use Rattle.dv_forms.specs.declared.versions.TheConstants.{COOPERATORS_SINCE}
use Rattle.dv_forms.specs.declared.declaration.Declaration.{Declaration}

-- by what a name and a parent are found to be: the name is free, and the parent is there
abbrev pub is_free_under : Option ℕ → Option ℕ → Bool
is_free_under (Some class) parent = false
is_free_under None None = false
is_free_under None (Some parent) = true

-- whether the table may have one more class: its name is free, and its parent is in the table
abbrev pub can_declare : List Class → Declaration → Bool
can_declare table c = is_free_under (find_class c.name table) (find_class c.parent table)

-- the table with the class, where that may be declared
abbrev pub with_declared : List Class → Declaration → List Class
with_declared table c = if can_declare table c then with_class table c.name c.parent else table

-- the table with the classes in order, of which those that may not be declared are passed over
abbrev pub table_after : List Class → List Declaration → List Class
table_after table [] = table
table_after table (c ∷ cs) = table_after (with_declared table c) cs

-- whether each of the classes in order may be declared
abbrev pub are_declared : List Class → List Declaration → Bool
are_declared table [] = true
are_declared table (c ∷ cs) = can_declare table c && are_declared (with_declared table c) cs

-- the classes that each script of a version has
abbrev pub first_classes : ℕ → List Class
first_classes version = if nat_le COOPERATORS_SINCE version then later_builtin else builtin

-- the table of a script of a version that declares these classes: where they are too many, it is refused and none of
-- them counts
abbrev pub table_of : ℕ → List Declaration → List Class
table_of version cs =
    if nat_le (length cs) MOST_CLASSES then table_after (first_classes version) cs else first_classes version

-- whether each class that a script of a version declares may be declared, and they aren't too many
abbrev pub all_declared : ℕ → List Declaration → Bool
all_declared version cs =
    if nat_le (length cs) MOST_CLASSES then are_declared (first_classes version) cs else false
