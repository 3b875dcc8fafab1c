-- What has become of a Deferred at the end of a run.
use Rattle.std.specs.Prelude.{ℕ, Bool, if◌then◌else◌, Option, None, Some}
use Rattle.dv_value.specs.declared.value.Value.{Value}
use Rattle.dv_store.specs.declared.outcome.Outcome.{Outcome}
use Rattle.dv_journal.specs.declared.state.State.{State}
use Rattle.dv_journal.specs.declared.state.State.TheVariants.{Unfired, Waiting, Fired}
use Rattle.dv_store.specs.declared.record.Record.{Record}

-- a fired Deferred waits for another, or has a value
abbrev pub fired_state : Option ℕ → Value → State
fired_state None value = Fired value
fired_state (Some e) value = Waiting e

-- a Deferred is unfired, waits for another, or has a value
abbrev pub state_of : Bool → Option ℕ → Value → State
state_of fired waits_for value = if fired then fired_state waits_for value else Unfired

-- its name at its making, its pauses, and its state
abbrev pub outcome_of : {P K : Type 0} → Record P K → Outcome
outcome_of r = record { name = r.name; pauses = r.pauses; state = state_of r.fired r.waits_for r.value }
