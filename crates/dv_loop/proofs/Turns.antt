-- One turn of the loop over the stack.
use Rattle.std.proofs.Common.{◌≡◌, ◌<◌, List, ◌∷◌, ap, sym, subst}
use Rattle.dv_loop.proofs.BoundsKept.{StaysBounded, stays_bounded}
use Rattle.dv_loop.proofs.Halts.{turns_of, turns_fall}
use Rattle.dv_loop.proofs.FairTurns.{happening_comes, turned_fair}
use Rattle.dv_loop.proofs.Runs.{turned_leads}
use Rattle.dv_frames.specs.Bounds.{Bounded}
use Rattle.dv_definition.specs.Rule.{Rule, after, run}
use Rattle.dv_definition.specs.Scripts.{Occurrence, happens, rule_of}
use Rattle.dv_loop.specs.Meaning.{Gives}
use Rattle.dv_frames.specs.Turn.{Turned, ◌over◌}
use Rattle.dv_frames.specs.declared.frame.Frame.{Frame}
use Rattle.dv_frames.specs.declared.turn.Turn.{Turn}
use Rattle.dv_world.specs.World.{World}
use Rattle.dv_objects.specs.declared.performed.Performed.{Performed}

-- what a rule leaves, in its parts
parts : (rule : Rule) (old new : Turn) → new ≡ after rule old
    → ◌≡◌ {A = Turned} (new.stack, new.performed, new.world) (run rule old.world over old.stack)
parts rule old new e = ap (λ (turn : Turn). (turn.stack, turn.performed, turn.world)) e

-- what the stack leads to after it, it led to before
pub turn_leads : (stack : List Frame) (f : Frame) (old new : Turn) → stack ≡ f ∷ old.stack
    → new ≡ after (rule_of f old.performed) old → (q : Performed) (v : World)
    → Gives new.stack new.performed new.world q v
    → Gives stack old.performed old.world q v
turn_leads stack f old new h e q v k =
    subst (λ fs. Gives fs old.performed old.world q v) (sym h)
    (turned_leads f old.performed old.world old.stack q v
    (subst (λ (x : Turned). Gives x.0 x.1 x.2 q v) (parts (rule_of f old.performed) old new e) k))

-- fewer turns are left
pub turn_falls : (stack : List Frame) (f : Frame) (old new : Turn) → stack ≡ f ∷ old.stack
    → new ≡ after (rule_of f old.performed) old
    → turns_of new.stack new.performed new.world < turns_of stack old.performed old.world
turn_falls stack f old new h e =
    subst (λ fs. turns_of new.stack new.performed new.world < turns_of fs old.performed old.world) (sym h)
    (subst (λ (x : Turned). turns_of x.0 x.1 x.2 < turns_of (f ∷ old.stack) old.performed old.world)
    (sym (parts (rule_of f old.performed) old new e)) (turns_fall f old.stack old.performed old.world))

-- no more is made than is logged
pub turn_bounded : (f : Frame) (old new : Turn) → new ≡ after (rule_of f old.performed) old → Bounded old.world
    → Bounded new.world
turn_bounded f old new e b =
    subst (λ (turn : Turn). Bounded turn.world) (sym e)
    (((turned_fair f old.performed old.world).comes.keeps StaysBounded stays_bounded).goes_on b)

-- nor when an event or a post begins
pub happening_bounded : (occurrence : Occurrence) (old new : Turn) → new ≡ after (happens occurrence) old
    → Bounded old.world → Bounded new.world
happening_bounded occurrence old new e b =
    subst (λ (turn : Turn). Bounded turn.world) (sym e)
    (((happening_comes occurrence old.world).keeps StaysBounded stays_bounded).goes_on b)
