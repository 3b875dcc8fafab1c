-- What a DeferredList has of its children (Twisted: `DeferredList`, of which `gatherResults` makes one).
use Rattle.std.specs.Prelude.{ℕ, pos, Bool, true, false, not, ◌&&◌, if◌then◌else◌, List, [], ◌∷◌, length, replicate}
use Rattle.std.specs.Prelude.{sum_by, nat_eq, Option, None, Some, option_and_then, option_map, slice_get, slice_set}
use Rattle.dv_value.specs.Builtin as builtin
use Rattle.dv_value.specs.Failure.{is_fault, failure_in}
use Rattle.dv_value.specs.declared.failure.Failure.{Failure, roll-Failure}
use Rattle.dv_value.specs.declared.failure.Sub.{roll-Sub}
use Rattle.dv_value.specs.declared.value.Value.{Value, out-Value}
use Rattle.dv_value.specs.declared.value.Value.TheOpen.{Value-F}
use Rattle.dv_value.specs.declared.value.Value.TheVariants as value
use Rattle.dv_prims.specs.declared.gather.AfterChild.{AfterChild}
use Rattle.dv_prims.specs.declared.gather.Flags.{Flags}

-- how it is fired and what failures of its children become; the place of each child, null as long as it hasn't fired,
-- and then whether it succeeded and with what; and whether the list is fired, and keeps nothing any more
pub record Gather : Type 0 where
  pub flags : Flags
  pub places : List Value
  pub fired : Bool

-- no child has fired
abbrev pub new_gather : ℕ → Flags → Gather
new_gather children flags = record { flags = flags; places = replicate children value.Null; fired = false }

-- nothing is kept once the list is fired
abbrev pub without_places : Gather → Gather
without_places g = record g { places = []; fired = true }

-- whether a child fired with a value, and not a failure
abbrev pub succeeded : Value → Bool
succeeded v = not (is_fault v)

-- what is kept of a child
abbrev pub kept_of : Value → Value
kept_of v = value.List (value.Bool (succeeded v) ∷ v ∷ [])

-- the first success: the value, and the place of the child
abbrev pub first_success : ℕ → Value → Value
first_success i v = value.List (v ∷ value.Int (pos i) ∷ [])

-- the first failure, with the place of the child
abbrev pub first_failure : ℕ → Failure → Value
first_failure i failure = value.Fault (roll-Failure (record {
  class = builtin.first_error;
  message = [];
  sub = Some (roll-Sub (record { index = i; failure = failure }));
}))

-- a place that no child has reached
abbrev pub is_null_step : Value-F Value → Bool
is_null_step Value-F.Null = true
is_null_step (Value-F.Bool b) = false
is_null_step (Value-F.Int n) = false
is_null_step (Value-F.Text t) = false
is_null_step (Value-F.List vs) = false
is_null_step (Value-F.Fault f) = false

abbrev pub is_missing : Value → Bool
is_missing v = is_null_step (out-Value v)

-- a place counts one as long as its child hasn't fired
abbrev pub missing_of : Value → ℕ
missing_of v = if is_missing v then 1 else 0

-- how many children haven't fired
abbrev pub count_missing : List Value → ℕ
count_missing places = sum_by missing_of places

-- what the list is to be fired with, if it is, and what it has then
abbrev pub Due : Type 0
Due = Option Value × Gather

-- once all children have fired, the list is fired with what is kept of them, in order
abbrev pub due_at_last : Gather → Due
due_at_last g = if nat_eq (count_missing g.places) 0 then (Some (value.List g.places), without_places g) else (None, g)

-- a child that fires nothing by itself is kept
abbrev pub due_when_kept : ℕ → Value → Gather → Due
due_when_kept i v g = due_at_last (record g { places = slice_set g.places i (kept_of v) })

-- by the failure of the child, where it failed
abbrev pub due_by_failure : ℕ → Option Failure → Value → Gather → Due
due_by_failure i None v g = due_when_kept i v g
due_by_failure i (Some failure) v g =
    if g.flags.fire_on_one_errback then (Some (first_failure i failure), without_places g) else due_when_kept i v g

-- child i fired with a value or a failure, and the first of these that holds is done: a list that is fired fires
-- nothing more; a success fires it under `fireOnOneCallback`; a failure fires it under `fireOnOneErrback`; the last
-- child fires it
abbrev pub due : ℕ → Value → Gather → Due
due i v g =
    if g.fired then (None, g) else
    if g.flags.fire_on_one_callback && succeeded v then (Some (first_success i v), without_places g) else
    due_by_failure i (failure_in v) v g

-- a child goes on with its value, or with null where it failed and its failure is consumed
abbrev pub passed_on : Value → Gather → Value
passed_on v g = if g.flags.consume_errors && is_fault v then value.Null else v

-- what follows when child i has fired, and what the list has then
abbrev pub child_fired : ℕ → Value → Gather → AfterChild × Gather
child_fired i v g = (record { fire = (due i v g).0; pass = passed_on v g }, (due i v g).1)

-- the second part of a list of two
abbrev pub second_in : List Value → Option Value
second_in parts = if nat_eq (length parts) 2 then slice_get parts 1 else None

abbrev pub second_step : Value-F Value → Option Value
second_step (Value-F.List parts) = second_in parts
second_step Value-F.Null = None
second_step (Value-F.Bool b) = None
second_step (Value-F.Int n) = None
second_step (Value-F.Text t) = None
second_step (Value-F.Fault f) = None

abbrev pub second_of : Value → Option Value
second_of v = second_step (out-Value v)

-- the second parts of lists of two, whatever the first parts are
abbrev pub seconds_in : List Value → Option (List Value)
seconds_in [] = Some []
seconds_in (v ∷ vs) = option_and_then (λ x. option_map (λ xs. x ∷ xs) (seconds_in vs)) (second_of v)

abbrev pub seconds_step : Value-F Value → Option Value
seconds_step (Value-F.List places) = option_map value.List (seconds_in places)
seconds_step Value-F.Null = None
seconds_step (Value-F.Bool b) = None
seconds_step (Value-F.Int n) = None
seconds_step (Value-F.Text t) = None
seconds_step (Value-F.Fault f) = None

-- what is gathered: what the children gave, without whether they succeeded
abbrev pub seconds_of : Value → Option Value
seconds_of v = seconds_step (out-Value v)
