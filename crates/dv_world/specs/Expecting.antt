-- Whether a Deferred is as a script expects.
use Rattle.std.specs.Prelude.{ℕ, Bool, true, false, slice_get}
use Rattle.std.specs.Option.{option_map_or}
use Rattle.dv_journal.specs.declared.state.State.{State}
use Rattle.dv_journal.specs.declared.state.State.TheVariants as state
use Rattle.dv_script.specs.Same.{is_same}
use Rattle.dv_value.specs.declared.expected.Expected.{Expected}
use Rattle.dv_value.specs.declared.expected.Expected.TheVariants.{Unfired, Waiting, Fired}
use Rattle.dv_store.specs.Outcome.{state_of}
use Rattle.dv_world.specs.World.{World}

-- what has become of d by now: it is unfired, waits for another, or has a value; unfired where there is none
abbrev pub state_at : ℕ → World → State
state_at d w = option_map_or (λ r. state_of r.fired r.waits_for r.value) (slice_get w.records d) state.Unfired

-- unfired is met by what is unfired, waiting by what waits for whichever Deferred, and a value by an equal one
abbrev pub is_met : Expected → State → Bool
is_met Unfired state.Unfired = true
is_met Unfired (state.Waiting e) = false
is_met Unfired (state.Fired v) = false
is_met Waiting state.Unfired = false
is_met Waiting (state.Waiting e) = true
is_met Waiting (state.Fired v) = false
is_met (Fired u) state.Unfired = false
is_met (Fired u) (state.Waiting e) = false
is_met (Fired u) (state.Fired v) = is_same u v
