-- One turn of a run, and what it leaves to be done.
use Rattle.std.specs.Prelude.{ℕ, List, [], ◌∷◌, ◌++◌, Option}
use Rattle.dv_value.specs.declared.failure.Failure.{Failure}
use Rattle.dv_value.specs.declared.value.Value.{Value}
use Rattle.dv_script.specs.declared.body.Body.{Body, out-Body}
use Rattle.dv_frames.specs.declared.frame.Frame.{Frame}
use Rattle.dv_frames.specs.declared.frame.Frame.TheVariants.{Settle}
use Rattle.dv_frames.specs.declared.frame.Rest.{Rest}
use Rattle.dv_frames.specs.declared.turn.Turn.{Turn}
use Rattle.dv_world.specs.World.{World}
use Rattle.dv_objects.specs.declared.follow.Follow.{Follow}
use Rattle.dv_objects.specs.declared.follow.Follow.TheVariants as follow
use Rattle.dv_objects.specs.declared.performed.Performed.{Performed}
use Rattle.dv_objects.specs.declared.performed.Performed.TheVariants.{Done, Raised}

-- what is to follow, in order; what was given so far; and the world
abbrev pub Turned : Type 0
Turned = List Frame × Performed × World

-- what follows is done over what is below
infixl 10 ◌over◌
abbrev pub ◌over◌ : Turned → List Frame → Turned
t over below = (t.0 ++ below, t.1, t.2)

-- a turn, once this is left: what follows is done before what was still to be done
infixl 10 ◌onto◌
abbrev pub ◌onto◌ : Turned → Turn → Turn
t onto turn = record turn { world = t.2; stack = t.0 ++ turn.stack; performed = t.1 }

-- nothing follows
abbrev pub done : World → Turned
done w = ([], Done, w)

-- nothing follows, since a failure is raised
abbrev pub raised : Failure → World → Turned
raised failure w = ([], Raised failure, w)

-- d is to be settled
abbrev pub settling : ℕ → World → Turned
settling d w = (Settle d ∷ [], Done, w)

-- d is to be settled where that follows; a refusal is raised
abbrev pub settle_next : ℕ → Follow → World → Turned
settle_next d follow.Settle w = settling d w
settle_next d follow.Nothing w = done w
settle_next d (follow.Raise failure) w = raised failure w

-- a body from its beginning, in which `@` is the Deferred that is given
abbrev pub rest_of : Option ℕ → Body → Value → Rest
rest_of itself body input =
    record { itself = itself; actions = (out-Body body).actions; end = (out-Body body).end; input = input }
