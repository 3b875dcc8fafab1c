-- The table of the classes that a document declares.
use Rattle.std.specs.Prelude.{◌<◌, ℕ, zero, suc, List, Option, Some, None, option_and_then, codes, ⊤}
use Rattle.serde_json.specs.Data.{Data, Items}
use Rattle.serde_json.specs.Find.{at, get_item, as_str}
use Rattle.dv_value.specs.declared.classes.Class.{Class}
use Rattle.dv_value.specs.Declaring.{with_class, CanDeclare}
use Rattle.dv_script.specs.declared.limits.TheConstants.{MOST_CLASSES}
use Rattle.dv_forms.specs.Table.{first_classes}
use Rattle.dv_why.specs.Documents.{list_in, version_in}

-- the table with a class of this name and this parent, where there are both
abbrev pub with_pair : List Class → Option (List ℕ) → Option (List ℕ) → List Class
with_pair table None parent = table
with_pair table (Some name) None = table
with_pair table (Some name) (Some parent) = with_class table name parent

-- the table with the class of this declaration, where there is one
abbrev pub class_after : List Class → Option Data → List Class
class_after table None = table
class_after table (Some d) = with_pair table (option_and_then as_str (at 0 d)) (option_and_then as_str (at 1 d))

-- a class of this name and this parent may be added, where there are both
abbrev pub MayAdd : List Class → Option (List ℕ) → Option (List ℕ) → Type 0
MayAdd table None parent = ⊤
MayAdd table (Some name) None = ⊤
MayAdd table (Some name) (Some parent) = CanDeclare table name parent

-- this declaration may, where there is one
abbrev pub MayDeclare : List Class → Option Data → Type 0
MayDeclare table None = ⊤
MayDeclare table (Some d) = MayAdd table (option_and_then as_str (at 0 d)) (option_and_then as_str (at 1 d))

-- the table before the declaration of this number: the classes that every script of a version has, and those that are declared
-- before it
unfoldable pub table_before : ℕ → Items → ℕ → List Class
table_before version ds zero = first_classes version
table_before version ds (suc n) = class_after (table_before version ds n) (get_item n ds)

-- each declaration of a list may be added after those before it
abbrev pub AllMayDeclare : ℕ → Items → Type 0
AllMayDeclare version ds = (n : ℕ) → n < MOST_CLASSES → MayDeclare (table_before version ds n) (get_item n ds)

-- the table of all classes of a document
abbrev pub table_in : Data → List Class
table_in d = table_before (version_in d) (list_in (codes "classes") d) MOST_CLASSES
