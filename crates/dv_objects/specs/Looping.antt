-- Loops (Twisted: `LoopingCall`).
use Rattle.std.specs.Prelude.{ℕ, zero, suc, max, min, Bool, true, false, List, [], ◌∷◌, ◌++◌, length, Option, None}
use Rattle.std.specs.Prelude.{Some}
use Rattle.std.specs.Prelude.{slice_set}
use Rattle.std.specs.Option.{option_map_or}
use Rattle.dv_clock.specs.Clock.{Clock, turn_after, waits, with_call, ended}
use Rattle.dv_clock.specs.declared.call.CallState.TheVariants.{Dropped}
use Rattle.dv_clock.specs.declared.due.Due.TheVariants.{Turn}
use Rattle.dv_clock.specs.declared.limits.TheConstants.{MOST_DELAY}
use Rattle.dv_script.specs.declared.body.Body.{Body}
use Rattle.dv_objects.specs.Names.{with_name}
use Rattle.dv_objects.specs.Objects.{Objects}
use Rattle.dv_objects.specs.declared.looping_call.LoopingCall.{LoopingCall}

-- a loop that is started now, of which no turn is scheduled
abbrev pub new_loop : List ℕ → ℕ → ℕ → ℕ → Body → List Body → LoopingCall
new_loop name d now interval body bodies = record {
  name = name;
  of = d;
  start = now;
  interval = max 1 (min interval MOST_DELAY);
  running = true;
  turn = None;
  body = body;
  bodies = bodies;
}

-- a loop is added, and its name is bound to it
abbrev pub with_added_loop : LoopingCall → Objects → Objects
with_added_loop x objects = record objects {
  loop_names = with_name x.name (length objects.loops) objects.loop_names;
  loops = objects.loops ++ x ∷ [];
}

abbrev pub with_new_loop : List ℕ → ℕ → ℕ → Body → List Body → Objects → Objects
with_new_loop name d interval body bodies objects =
    with_added_loop (new_loop name d objects.clock.time interval body bodies) objects

-- whether a turn of a loop is scheduled, and still waits
abbrev pub is_scheduled : LoopingCall → Clock → Bool
is_scheduled x c = option_map_or (λ number. waits number c.calls) x.turn false

-- when the next turn of a loop is due
abbrev pub next_due : LoopingCall → Clock → ℕ
next_due x c = turn_after x.start x.interval c

-- a turn has begun: the next one performs the next of the bodies, where one is left, or else the same
abbrev pub turn_begun : List Body → LoopingCall → LoopingCall
turn_begun [] x = x
turn_begun (body ∷ rest) x = record x { body = body; bodies = rest }

-- a turn of the loop that is found has begun; an id of no loop changes nothing
abbrev pub with_turn_begun : ℕ → Option LoopingCall → Objects → Objects
with_turn_begun l None objects = objects
with_turn_begun l (Some x) objects = record objects { loops = slice_set objects.loops l (turn_begun x.bodies x) }

-- a loop after this many turns have begun
abbrev pub after_turns : ℕ → LoopingCall → LoopingCall
after_turns zero x = x
after_turns (suc turns) x = after_turns turns (turn_begun x.bodies x)

-- of a body and those after it, the one of this number from 0 on; from the last one on that
abbrev pub body_or_last : ℕ → Body → List Body → Body
body_or_last zero body rest = body
body_or_last (suc turn) body [] = body
body_or_last (suc turn) body (next ∷ rest) = body_or_last turn next rest

-- the next turn of loop l is scheduled
abbrev pub with_turn : ℕ → LoopingCall → Objects → Objects
with_turn l x objects =
    record objects {
      clock = with_call (next_due x objects.clock) (Turn x.name l) objects.clock;
      loops = slice_set objects.loops l (record x { turn = Some (length objects.clock.calls) });
    }

-- a turn that is scheduled is dropped
abbrev pub turn_dropped : Option ℕ → Clock → Clock
turn_dropped None c = c
turn_dropped (Some number) c = ended number Dropped c

-- loop l is stopped, and its turn that is scheduled is dropped
abbrev pub with_stopped : ℕ → LoopingCall → Objects → Objects
with_stopped l x objects = record objects {
  clock = turn_dropped x.turn objects.clock;
  loops = slice_set objects.loops l (record x { running = false });
}

-- the loop that is found runs no more; an id of no loop changes nothing
abbrev pub with_ended : ℕ → Option LoopingCall → Objects → Objects
with_ended l None objects = objects
with_ended l (Some x) objects = record objects { loops = slice_set objects.loops l (record x { running = false }) }
