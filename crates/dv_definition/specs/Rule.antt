-- What a rule is, and its two readings: what it says, which is what a script means, and the frames that it leaves,
-- which is what the code does. `a and_then λ x. b` is read "a, and with its result x, b".
use Rattle.std.specs.Prelude.{ℕ, nat_eq, Bool, false, not, if◌then◌else◌, List, [], ◌∷◌, Option, None, Some, slice_get}
use Rattle.std.specs.Option.{option_map_or}
use Rattle.dv_definition.specs.Steps.{Step, stepped, Question, Reply, asked}
use Rattle.dv_frames.specs.Turn.{Turned, settle_next, ◌onto◌, ◌over◌}
use Rattle.dv_frames.specs.declared.frame.Frame.{Frame}
use Rattle.dv_frames.specs.declared.frame.Frame.TheVariants as frame
use Rattle.dv_frames.specs.declared.turn.Turn.{Turn}
use Rattle.dv_objects.specs.Refusals.{refused_firing, refused_unpausing}
use Rattle.dv_objects.specs.declared.performed.Performed.{Performed}
use Rattle.dv_objects.specs.declared.performed.Performed.TheVariants.{Done, Raised}
use Rattle.dv_value.specs.declared.value.Value.{Value}
use Rattle.dv_world.specs.World as world
use Rattle.dv_world.specs.World.{World}

-- What doing something gives, and the world after it. It gives nothing (`Done`), a value (`Gave`), a Deferred
-- (`Awaits`), or it raises a failure (`Raised`). There is no answer where things lie deeper in one another than the
-- bound of section 21 allows.
abbrev pub Answer : Type 0
Answer = Option (Performed × World)

-- one after the other
infixl 10 ◌and_then◌
abbrev pub ◌and_then◌ : {A B : Type 0} → Option A → (A → Option B) → Option B
None and_then next = None
(Some a) and_then next = next a

-- where something is found, this is done with it, and else that
abbrev pub found : {A B : Type 0} → Option A → B → (A → B) → B
found None nothing next = nothing
found (Some a) nothing next = next a

-- What a rule calls for is a frame: "d is settled", "the rest of a body is performed". Rules name frames by the words
-- of `Words`.
pub data Rule : Type 1 where
  -- nothing more is done, and this is returned
  Ends : Performed → Rule
  -- by what the world is now
  By : (World → Rule) → Rule
  -- by a test: the first where it holds, and else the second
  If : Bool → Rule → Rule → Rule
  -- where nothing is found, the first; and with what is found, the second
  Finds : {A : Type 0} → Option A → Rule → (A → Rule) → Rule
  -- a step of the world, and then this
  Then : Step → Rule → Rule
  -- a step of the world that answers, and then this by its answer
  Asks : (question : Question) → (Reply question → Rule) → Rule
  -- a Deferred is fired with a value
  Fires : ℕ → Value → Rule
  -- a Deferred is paused once less
  Unpauses : ℕ → Rule
  -- this, and after it what is called for, in order, each on what the one before gave
  Over : Rule → List Frame → Rule

infixr 8 ◌next◌
abbrev pub ◌next◌ : Step → Rule → Rule
step next rule = Then step rule

infixl 9 ◌after_which◌
abbrev pub ◌after_which◌ : Rule → List Frame → Rule
rule after_which frames = Over rule frames

-- d is settled (section 17). What else rules call for is in `Words`
abbrev pub settles : ℕ → List Frame
settles d = frame.Settle d ∷ []

-- What a rule says.

-- what a frame means, on what the one before it gave
abbrev pub Meant : Type 0
Meant = Frame → Performed → World → Answer

-- frames in order, each on what the one before gave
abbrev pub through : Meant → List Frame → Performed → World → Answer
through go [] p w = Some (p, w)
through go (frame ∷ frames) p w = go frame p w and_then λ (p, w). through go frames p w

-- whether d was fired (Twisted: `Deferred.called`)
abbrev pub is_fired : ℕ → World → Bool
is_fired d w = option_map_or (λ r. r.fired) (slice_get w.records d) false

-- whether the next firing of d is swallowed, since it was cancelled
abbrev pub swallows : ℕ → World → Bool
swallows d w = option_map_or (λ r. r.swallows) (slice_get w.records d) false

-- Fires d. The firing is logged first; if the journal is full, the run stops. A Deferred that wasn't fired before is
-- settled. If it was, the firing is swallowed where that is due, and else raises AlreadyCalledError (Twisted:
-- `Deferred.callback`, `Deferred.errback`)
abbrev pub fires : Meant → ℕ → Value → World → Answer
fires go d v w =
    let (follow, after) = world.fire d v w in
    if after.stopped then Some (Done, after) else
    if not (is_fired d w) then through go (settles d) Done after else
    if swallows d w then Some (Done, after) else
    Some (Raised refused_firing, after)

-- whether d isn't paused
abbrev pub is_unpaused : ℕ → World → Bool
is_unpaused d w = option_map_or (λ r. nat_eq r.pauses 0) (slice_get w.records d) false

-- Raises AssertionError if d isn't paused. Else logs the unpause, takes one pause off d, and settles it (Twisted:
-- `Deferred.unpause`, but `unpause-at-zero`)
abbrev pub unpauses : Meant → ℕ → World → Answer
unpauses go d w =
    let (follow, after) = world.unpause d w in
    if after.stopped then Some (Done, after) else
    if is_unpaused d w then Some (Raised refused_unpausing, after) else
    through go (settles d) Done after

-- a rule, where what it calls for is done inside it
abbrev pub say : Meant → Rule → World → Answer
say go (Ends p) w = Some (p, w)
say go (By rule) w = say go (rule w) w
say go (If b one other) w = if b then say go one w else say go other w
say go (Finds o none some) w = found o (say go none w) (λ a. say go (some a) w)
say go (Then step rule) w = say go rule (stepped step w)
say go (Asks question rule) w = let (reply, after) = asked question w in say go (rule reply) after
say go (Fires d v) w = fires go d v w
say go (Unpauses d) w = unpauses go d w
say go (Over rule frames) w = say go rule w and_then λ (p, w). through go frames p w

-- The frames that a rule leaves, what it gave so far, and the world: what is called for is put off, and the code goes
-- on with it.
abbrev pub run : Rule → World → Turned
run (Ends p) w = ([], p, w)
run (By rule) w = run (rule w) w
run (If b one other) w = if b then run one w else run other w
run (Finds o none some) w = found o (run none w) (λ a. run (some a) w)
run (Then step rule) w = run rule (stepped step w)
run (Asks question rule) w = let (reply, after) = asked question w in run (rule reply) after
run (Fires d v) w = let (follow, after) = world.fire d v w in settle_next d follow after
run (Unpauses d) w = let (follow, after) = world.unpause d w in settle_next d follow after
run (Over rule frames) w = run rule w over frames

-- what the code works on, after a rule
abbrev pub after : Rule → Turn → Turn
after rule turn = run rule turn.world onto turn
