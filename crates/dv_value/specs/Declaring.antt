-- How classes are added to the table.
use Rattle.std.specs.Prelude.{◌≡◌, ◌≢◌, ℕ, List, [], ◌∷◌, ◌++◌, None, length, Result, Ok, Err}
use Rattle.dv_value.specs.declared.class_fault.ClassFault.{ClassFault}
use Rattle.dv_value.specs.declared.class_fault.ClassFault.TheVariants.{Taken, NoParent, OutOfMemory}
use Rattle.dv_value.specs.declared.classes.Class.{Class}
use Rattle.dv_value.specs.Classes.{find_class}

-- the table with one more class at its end, under the class of its parent's name
abbrev pub with_class : List Class → List ℕ → List ℕ → List Class
with_class table name parent = table ++ record { name = name; parent = find_class parent table } ∷ []

-- a class may be added: its name is free, and its parent is there
pub record CanDeclare (table : List Class) (name parent : List ℕ) : Type 0 where
  pub is_free : find_class name table ≡ None
  pub has_parent : find_class parent table ≢ None

-- how a declaration is answered: a taken name comes before a missing parent, and both before out of memory
abbrev pub AnswersDeclare : List Class → List ℕ → List ℕ → Result ℕ ClassFault → Type 0
AnswersDeclare table name parent (Ok class) = CanDeclare table name parent × (class ≡ length table)
AnswersDeclare table name parent (Err Taken) = find_class name table ≢ None
AnswersDeclare table name parent (Err NoParent) = (find_class name table ≡ None) × (find_class parent table ≡ None)
AnswersDeclare table name parent (Err OutOfMemory) = CanDeclare table name parent
