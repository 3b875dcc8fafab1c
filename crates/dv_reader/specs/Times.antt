-- The times of a script that is read. The steps of the world cut a delay, an interval and a time of the clock that is
-- too long; none of these is, so that cutting changes nothing.
use Rattle.std.specs.Prelude.{◌≡◌, Bool, true, min}
use Rattle.std.specs.List.{list_all}
use Rattle.dv_clock.specs.declared.limits.TheConstants.{MOST_TICKS}
use Rattle.dv_script.specs.declared.event.Event.{Event}
use Rattle.dv_script.specs.declared.script.NamedBody.{NamedBody}
use Rattle.dv_script.specs.declared.event.Event.TheVariants as event
use Rattle.dv_script.specs.declared.script.Script.{Script}
use Rattle.dv_grammar.specs.Grammar.{is_interval, times_action, times_body}
use Rattle.dv_reader.specs.Limits.{ticks_in}

-- of the event
abbrev pub times_event : Event → Bool
times_event (event.Action a) = times_action a
times_event (event.Advance n) = true
times_event (event.Drain n) = true
times_event (event.Expect name expected) = true

-- of the body that is named
abbrev pub times_named : NamedBody → Bool
times_named named = times_body named.body

-- no time of the script is cut: no delay and no interval of its actions and of its cooperators, and no time that the
-- clock reaches by its advances together
pub record KeepsTimes (script : Script) : Type 0 where
  pub events : list_all times_event script.events ≡ true
  pub posts : list_all (λ posts. list_all times_body posts) script.callers ≡ true
  pub bodies : list_all times_named script.bodies ≡ true
  pub cooperator : is_interval script.cooperator.delay ≡ true
  pub cooperators : list_all (λ c. is_interval c.settings.delay) script.cooperators ≡ true
  pub advances : min (ticks_in script.events) MOST_TICKS ≡ ticks_in script.events
