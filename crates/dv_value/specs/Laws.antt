-- Laws of the table of classes.
use Rattle.std.specs.Prelude.{ℕ, ◌≡◌, ◌≢◌, ◌↔◌, ◌<◌, List, [], ◌∷◌, Some, length, codes}
use Rattle.std.specs.Option.{option_map_or}
use Rattle.dv_value.specs.declared.classes.Class.{Class}
use Rattle.dv_value.specs.Classes.{parent_of, path, find_class, name_of}
use Rattle.dv_value.specs.Declaring.{with_class}
use Rattle.dv_value.specs.Builtin.{builtin, type_error, name_error, assertion_error, overflow_error}
use Rattle.dv_value.specs.Builtin.{already_called_error, cancelled_error, first_error, queue_overflow, queue_underflow}
use Rattle.dv_value.specs.Builtin.{timeout_error, scheduler_stopped, later_builtin}

-- each class's parent stands before it
abbrev pub ParentsStandBefore : List Class → Type 0
ParentsStandBefore table = (c p : ℕ) → parent_of table c ≡ Some p → p < c

-- the path of a class is the class, then the path of its parent
abbrev pub PathsGoUp : List Class → Type 0
PathsGoUp table = (c : ℕ) → path table c ≡ c ∷ option_map_or (path table) (parent_of table c) []

-- where parents stand before their children
abbrev pub PathsOfOrderedTablesGoUp : Type 0
PathsOfOrderedTablesGoUp = (table : List Class) → ParentsStandBefore table → PathsGoUp table

-- a class that is declared stands after its parent, so that each parent stands before its children still
abbrev pub DeclaredClassesKeepTheOrder : Type 0
DeclaredClassesKeepTheOrder =
    (table : List Class) (name parent : List ℕ) → ParentsStandBefore table
    → ParentsStandBefore (with_class table name parent)

-- each class that a rule names stands in its place
pub record BuiltinsHaveTheirPlaces : Type 0 where
  pub type_error : find_class (codes "TypeError") builtin ≡ Some type_error
  pub name_error : find_class (codes "NameError") builtin ≡ Some name_error
  pub assertion_error : find_class (codes "AssertionError") builtin ≡ Some assertion_error
  pub overflow_error : find_class (codes "OverflowError") builtin ≡ Some overflow_error
  pub already_called_error : find_class (codes "AlreadyCalledError") builtin ≡ Some already_called_error
  pub cancelled_error : find_class (codes "CancelledError") builtin ≡ Some cancelled_error
  pub first_error : find_class (codes "FirstError") builtin ≡ Some first_error
  pub queue_overflow : find_class (codes "QueueOverflow") builtin ≡ Some queue_overflow
  pub queue_underflow : find_class (codes "QueueUnderflow") builtin ≡ Some queue_underflow
  pub timeout_error : find_class (codes "TimeoutError") builtin ≡ Some timeout_error
  pub scheduler_stopped : find_class (codes "SchedulerStopped") later_builtin ≡ Some scheduler_stopped

-- the place of the first class of this name
pub record IsFirstOf (name : List ℕ) (table : List Class) (c : ℕ) : Type 0 where
  pub within : c < length table
  pub named : name_of table c ≡ name
  pub first : (d : ℕ) → d < c → name_of table d ≢ name

-- what is found by a name is the first class of that name
abbrev pub FindsTheFirst : Type 0
FindsTheFirst = (name : List ℕ) (table : List Class) (c : ℕ) → (find_class name table ≡ Some c) ↔ IsFirstOf name table c

-- each class is found by its name, so that no two have the same
abbrev pub NamesAreDistinct : List Class → Type 0
NamesAreDistinct table = (c : ℕ) → c < length table → find_class (name_of table c) table ≡ Some c
