-- How a turn ends, and what that goes on with.
use Rattle.std.specs.Prelude.{[], Result, Ok, Err}
use Rattle.dv_threads.specs.Threading.{job_result}
use Rattle.dv_definition.specs.Rule.{run}
use Rattle.dv_definition.specs.Words.{fire_with}
use Rattle.dv_frames.specs.Turn.{Turned, ◌onto◌}
use Rattle.dv_frames.specs.declared.turn.Turn.{Turn}
use Rattle.dv_objects.specs.declared.performed.Performed.{Performed}
use Rattle.dv_loop.specs.declared.turn_end.TurnEnd.{TurnEnd}
use Rattle.dv_loop.specs.declared.turn_end.TurnEnd.TheVariants.{Ended, Delivers}
use Rattle.dv_world.specs.World.{World}

-- it is over with this, or a Deferred is fired with the result of its job
abbrev pub ended_with : TurnEnd → Performed → World → Turned
ended_with Ended p w = ([], p, w)
ended_with (Delivers job d) p w = run (fire_with d (job_result job w.works)) w

-- what a rule worked on, once what the turn ends with is done
abbrev pub ending : TurnEnd → Turn → Turn
ending end turn = ended_with end turn.performed turn.world onto turn

-- a turn is over, unless an allocation failed
abbrev pub once_ended : {E : Type 0} → Result (Unit {0}) E → Result TurnEnd E
once_ended (Ok _) = Ok Ended
once_ended (Err e) = Err e
