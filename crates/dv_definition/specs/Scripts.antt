-- What a script means as a whole: the rules tied together, what happens in a run, and what a script leads to.
use Rattle.std.specs.Prelude.{ℕ, zero, suc, ◌≡◌, List, [], ◌∷◌, ◌++◌, Option, None, Some}
use Rattle.dv_definition.specs.Definition.{settle, put_in_place, perform_rest, after_canceller, deferred_of, add}
use Rattle.dv_definition.specs.Definition.{cancel, notify, step_ended, tick, run_due, go_on, go_with, after_awaiting}
use Rattle.dv_definition.specs.Definition.{answer_of, act, halt_task}
use Rattle.dv_definition.specs.Rule.{Rule, Ends, If, Finds, Meant, say, ◌and_then◌, ◌next◌, ◌after_which◌}
use Rattle.dv_definition.specs.Steps.{Advance, TellDrain, TellPost, TellUnhandled, TellMet, TellUnmet, TellUnbound}
use Rattle.dv_definition.specs.Steps.{StopRun}
use Rattle.dv_definition.specs.Words.{finished, raise, ◌and◌, calls, performs, runs_due, tells_failure, deferred_or}
use Rattle.dv_definition.specs.Words.{its_state}
use Rattle.dv_frames.specs.declared.frame.Frame.{Frame}
use Rattle.dv_frames.specs.declared.frame.Frame.TheVariants as frame
use Rattle.dv_frames.specs.declared.frame.Inlining.{Inlining}
use Rattle.dv_frames.specs.declared.frame.Inlining.TheVariants.{Goes, Acted, Awaited}
use Rattle.dv_objects.specs.Performed.{failed_with}
use Rattle.dv_objects.specs.declared.performed.Performed.{Performed}
use Rattle.dv_objects.specs.declared.performed.Performed.TheVariants.{Done, Gave, Raised, Awaits}
use Rattle.dv_posts.specs.Batches.{Batch, Callers, body_of}
use Rattle.dv_posts.specs.declared.posted.Posted.{Posted}
use Rattle.dv_script.specs.declared.body.Body.{Body}
use Rattle.dv_script.specs.declared.event.Event.{Event}
use Rattle.dv_script.specs.declared.event.Event.TheVariants as event
use Rattle.dv_value.specs.declared.expected.Expected.{Expected}
use Rattle.dv_script.specs.declared.script.Script.{Script}
use Rattle.dv_value.specs.declared.value.Value.{Null}
use Rattle.dv_world.specs.Expecting.{is_met}
use Rattle.dv_world.specs.World.{World, first_world}

-- 21. The rules tied together.

-- this follows, unless a failure was raised
abbrev pub unless_raised : Performed → Rule → Rule
unless_raised Done rule = rule
unless_raised (Gave v) rule = rule
unless_raised (Raised failure) rule = raise failure
unless_raised (Awaits e) rule = rule

-- logs a failure that nothing catches as unhandled, and drops it
abbrev pub tell_failure : Performed → Rule
tell_failure p = Finds (failed_with p) finished λ failure. TellUnhandled failure next finished

-- goes on with an inline body, with the answer to its action, or after its pair was added
abbrev pub inline_goes : Inlining → Performed → Rule
inline_goes (Goes i p) q = go_on i p
inline_goes (Acted i p) q = go_with i (answer_of q) p
inline_goes (Awaited i e p) q = after_awaiting i e p

-- the rule of what is called for, by what was given before it
abbrev pub rule_of : Frame → Performed → Rule
rule_of (frame.Settle d) p = settle d
rule_of (frame.Place d) p = put_in_place d p
rule_of (frame.Rest rest) p = unless_raised p (perform_rest rest.itself rest.actions rest.end rest.input)
rule_of (frame.Canceller d) p = after_canceller d p
rule_of (frame.Maybe purpose) p = deferred_of purpose p
rule_of (frame.Add d pair) p = add d pair
rule_of (frame.Cancel d) p = cancel d
rule_of (frame.Give given) p = unless_raised p (Ends given)
rule_of (frame.Notify d t) p = notify d t
rule_of (frame.Stepped t) p = step_ended t p
rule_of (frame.Halt t) p = halt_task t
rule_of (frame.Tick k units) p = tick k units
rule_of frame.Tell p = tell_failure p
rule_of frame.Due p = run_due
rule_of (frame.Inline inlining) p = inline_goes inlining p

-- does what is called for inside the rule that calls for it; no answer where calls nest deeper than `depth`. That some
-- depth suffices for every script is a law
unfoldable pub within : ℕ → Meant
within zero frame p w = None
within (suc depth) frame p w = say (within depth) (rule_of frame p) w

-- at some depth, something returns this
pub record Returns {A : Type 0} (something : Meant → Option A) (a : A) : Type 0 where
  pub depth : ℕ
  pub ends : something (within depth) ≡ Some a

-- 22. What happens in a run (Twisted: `reactor.callFromThread`, but `posts-at-drains`).

-- an event occurs, or another thread posts a body
pub data Occurrence : Type 0 where
  Occurs : (event : Event) → Occurrence
  Posts : (posted : Posted) (body : Body) → Occurrence

-- logs what has become of d. If that isn't what the script expects, it logs that, too, and the run ends
abbrev pub judge : ℕ → Expected → Rule
judge d expected =
    its_state d λ state.
    If (is_met expected state) (TellMet d state next finished) (TellUnmet d state expected next StopRun next finished)

-- the same of the Deferred of a name. If the name isn't bound, that is logged, and the run ends
abbrev pub expect : List ℕ → Expected → Rule
expect name expected = deferred_or None name (TellUnbound name next StopRun next finished) λ d. judge d expected

-- An action is performed, in which `@` isn't bound; a failure that it raises is logged as unhandled. An advance sets
-- the time forward, and runs what is due. A drain is logged; its posts occur after it, and `most` decides which batches
-- fit the script. A post is logged, and its body performed, in which `@` isn't bound; a failure that it raises is
-- logged as unhandled
abbrev pub happens : Occurrence → Rule
happens (Occurs (event.Action action)) = act None action after_which tells_failure
happens (Occurs (event.Advance ticks)) = Advance ticks next calls runs_due
happens (Occurs (event.Drain most)) = TellDrain next finished
happens (Occurs (event.Expect name expected)) = expect name expected
happens (Posts posted body) = TellPost posted.caller posted.index next calls (performs None body Null and tells_failure)

-- the world after it
abbrev pub happen : Meant → Occurrence → World → Option World
happen go occurrence w = say go (happens occurrence) w and_then λ (p, w). Some w

-- one thing happens, and then the next
abbrev pub all_happen : Meant → List Occurrence → World → Option World
all_happen go [] w = Some w
all_happen go (occurrence ∷ rest) w = happen go occurrence w and_then all_happen go rest

-- the post with its body, if there is such a post
abbrev pub posting_with : Posted → Option Body → List Occurrence
posting_with posted None = []
posting_with posted (Some body) = Posts posted body ∷ []

abbrev pub posting : Callers → Posted → List Occurrence
posting callers posted = posting_with posted (body_of callers posted)

-- the posts of a batch, in order
abbrev pub postings : Callers → Batch → List Occurrence
postings callers [] = []
postings callers (posted ∷ posts) = posting callers posted ++ postings callers posts

-- the next batch, which is empty where there is none
abbrev pub next_batch : List Batch → Batch
next_batch [] = []
next_batch (batch ∷ batches) = batch

-- and those after it
abbrev pub later_batches : List Batch → List Batch
later_batches [] = []
later_batches (batch ∷ batches) = batches

-- 23. Scripts.

-- the events in order; the next batch follows each drain, and the last batch the last event
abbrev pub occurrences : Callers → List Event → List Batch → List Occurrence
occurrences callers [] batches = postings callers (next_batch batches)
occurrences callers (event.Action action ∷ events) batches =
    Occurs (event.Action action) ∷ occurrences callers events batches
occurrences callers (event.Advance ticks ∷ events) batches =
    Occurs (event.Advance ticks) ∷ occurrences callers events batches
occurrences callers (event.Expect name expected ∷ events) batches =
    Occurs (event.Expect name expected) ∷ occurrences callers events batches
occurrences callers (event.Drain most ∷ events) batches =
    Occurs (event.Drain most)
    ∷ (postings callers (next_batch batches) ++ occurrences callers events (later_batches batches))

-- a script leads, where these batches of posts are taken, from a world in which nothing is made to this one
abbrev pub Leads : Script → List Batch → World → Type 0
Leads script batches after =
    let first =
    first_world script.classes script.bodies script.ends_throw script.limit script.cooperator script.cooperators in
    Returns (λ go. all_happen go (occurrences script.callers script.events batches) first) after
