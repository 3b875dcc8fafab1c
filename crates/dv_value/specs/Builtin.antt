-- The classes that every script has, a parent and its children a line.
use Rattle.std.specs.Prelude.{ℕ, List, [], ◌∷◌, ◌++◌, Option, None, Some, map, codes}
use Rattle.dv_value.specs.declared.classes.Class.{Class}

-- the classes of these names, in this order, as children of one parent
abbrev pub children_of : Option ℕ → List (List ℕ) → List Class
children_of parent names = map (λ name. record { name = name; parent = parent }) names

-- the places of those that a rule names
abbrev pub exception : ℕ
exception = 0

abbrev pub value_error : ℕ
value_error = 1

abbrev pub type_error : ℕ
type_error = 2

abbrev pub name_error : ℕ
name_error = 3

abbrev pub assertion_error : ℕ
assertion_error = 4

abbrev pub overflow_error : ℕ
overflow_error = 5

abbrev pub runtime_error : ℕ
runtime_error = 6

abbrev pub already_called_error : ℕ
already_called_error = 7

abbrev pub cancelled_error : ℕ
cancelled_error = 8

abbrev pub first_error : ℕ
first_error = 9

abbrev pub queue_overflow : ℕ
queue_overflow = 10

abbrev pub queue_underflow : ℕ
queue_underflow = 11

abbrev pub scheduler_error : ℕ
scheduler_error = 12

abbrev pub already_called : ℕ
already_called = 13

abbrev pub already_cancelled : ℕ
already_cancelled = 14

abbrev pub task_finished : ℕ
task_finished = 15

abbrev pub not_paused : ℕ
not_paused = 16

abbrev pub task_done : ℕ
task_done = 17

abbrev pub task_stopped : ℕ
task_stopped = 18

abbrev pub task_failed : ℕ
task_failed = 19

abbrev pub timeout_error : ℕ
timeout_error = 20

-- it stands in the tables of later scripts alone
abbrev pub scheduler_stopped : ℕ
scheduler_stopped = 21

-- the names of those right below the root
abbrev pub of_exception : List (List ℕ)
of_exception =
    codes "ValueError" ∷ codes "TypeError" ∷ codes "NameError" ∷ codes "AssertionError" ∷ codes "OverflowError"
    ∷ codes "RuntimeError"
    ∷ codes "AlreadyCalledError" ∷ codes "CancelledError" ∷ codes "FirstError" ∷ codes "QueueOverflow"
    ∷ codes "QueueUnderflow" ∷ codes "SchedulerError" ∷ []

-- the root, and below it a line for each class that has children; of those right below the root `TimeoutError` stands
-- last of all
unfoldable pub builtin : List Class
builtin =
    children_of None (codes "Exception" ∷ [])
    ++ children_of (Some exception) of_exception
    ++ children_of (Some value_error) (codes "AlreadyCalled" ∷ codes "AlreadyCancelled" ∷ [])
    ++ children_of (Some scheduler_error) (codes "TaskFinished" ∷ codes "NotPaused" ∷ [])
    ++ children_of (Some task_finished) (codes "TaskDone" ∷ codes "TaskStopped" ∷ codes "TaskFailed" ∷ [])
    ++ children_of (Some exception) (codes "TimeoutError" ∷ [])

-- the classes that each later script has: one more, at the end
abbrev pub later_builtin : List Class
later_builtin = builtin ++ children_of (Some scheduler_error) (codes "SchedulerStopped" ∷ [])
