-- Each rule leaves less to do, or less of each frame: what Fair proves, from the form of a rule.
use Rattle.std.proofs.Common.{◌≡◌, ℕ, ◌+◌, ◌<◌, List, arith, ◌≤◌, [], ◌∷◌, Option, None, Some, refl, ap, subst, ◌-◌}
use Rattle.std.proofs.Common.{Bool, true, false, if◌then◌else◌, ◌++◌, slice_get, length}
use Rattle.dv_clock.specs.Clock.{Upcoming, next_call}
use Rattle.dv_clock.specs.Due.{entry_when_due}
use Rattle.dv_clock.specs.declared.call.CallState.TheVariants as call_state
use Rattle.dv_clock.specs.declared.due.Due.{Due}
use Rattle.dv_definition.specs.Definition as page
use Rattle.dv_definition.specs.Definition.{answer_of}
use Rattle.dv_definition.specs.Rule.{found, Rule, Ends, By, If, Finds, Then, Asks, Fires, Unpauses, Over, run}
use Rattle.dv_definition.specs.Scripts as scripts
use Rattle.dv_definition.specs.Steps.{Question, stepped, asked, Cancel, PutInto, GetFrom, ChildFired, CancelCall}
use Rattle.dv_definition.specs.Steps.{ResetCall}
use Rattle.dv_definition.specs.Steps.{TakeStep, BeginBody}
use Rattle.dv_definition.specs.Words as words
use Rattle.dv_definition.specs.Steps.{EndTask, ResumeInline, EndAwait, TakeDue, Moves}
use Rattle.dv_frames.specs.Turn.{Turned, settle_next, ◌over◌}
use Rattle.dv_frames.specs.declared.frame.Frame.TheVariants as frame
use Rattle.dv_frames.specs.declared.frame.Frame.{Frame}
use Rattle.dv_frames.specs.declared.frame.Inlining.TheVariants.{Goes, Acted, Awaited}
use Rattle.dv_frames.specs.declared.frame.Inlining.{Inlining}
use Rattle.dv_frames.specs.declared.frame.Purpose.TheVariants.{Named, Holding, Turning}
use Rattle.dv_frames.specs.declared.frame.Purpose.{Purpose}
use Rattle.dv_inline.specs.Position.{Position, run_to_request, request_at}
use Rattle.dv_inline.specs.declared.request.Request.TheVariants.{Do, Await}
use Rattle.dv_inline.specs.declared.request.Request.{Request}
use Rattle.dv_journal.specs.Told.{change_of, Aside}
use Rattle.dv_journal.specs.declared.entry.Entry.TheVariants as entry
use Rattle.dv_journal.specs.declared.entry.Entry.{Entry}
use Rattle.dv_objects.specs.Cooperator.{turn_in, with_next_turn, with_step}
use Rattle.dv_objects.specs.Inlines.{Inlines, end_adding, end_adding_at}
use Rattle.dv_objects.specs.Objects.{Objects, with_ended_call, cooperating, inlining}
use Rattle.dv_objects.specs.Pair.{Pair}
use Rattle.dv_objects.specs.Waiting.{added}
use Rattle.dv_objects.specs.declared.follow.Follow.TheVariants as follow
use Rattle.dv_objects.specs.declared.follow.Follow.{Follow}
use Rattle.dv_objects.specs.declared.inline_id.Inline.{Inline}
use Rattle.dv_objects.specs.declared.performed.Performed.TheVariants.{Done, Gave, Raised, Awaits}
use Rattle.dv_objects.specs.declared.performed.Performed.{Performed}
use Rattle.dv_objects.specs.declared.task.Task.{Task}
use Rattle.dv_objects.specs.declared.task.TaskEnd.TheVariants.{Failed}
use Rattle.dv_objects.specs.declared.waiting.Waiting.TheVariants as waits
use Rattle.dv_objects.specs.declared.waiting.Waiting.{Waiting}
use Rattle.dv_loop.proofs.Budget.{step_took, cancel_took, aside_took}
use Rattle.dv_loop.proofs.Fair.{Fair, Falls, can, lighter, paid, pays}
use Rattle.dv_loop.proofs.InlineSizes.{action_text, answer_text, run_text}
use Rattle.dv_loop.proofs.Lighter.{IsSame, Known, Light, Lighter, Or, Pays, Within, actions_size, begun_fits, cancel}
use Rattle.dv_loop.proofs.Lighter.{carry_out, end_task, halt_task, notify, one_if_some, paid_by, rank, text_of}
use Rattle.dv_loop.proofs.Lighter.{waiting_by}
use Rattle.dv_loop.proofs.Lighter.{waiting_text}
use Rattle.dv_loop.proofs.RuleComes.{rule_comes}
use Rattle.dv_loop.proofs.StepsCome.{by_aside, step_comes, question_comes, due_aside}
use Rattle.dv_script.specs.declared.action.Action.{Action, out-Action}
use Rattle.dv_script.specs.declared.body.Body.{Body}
use Rattle.dv_script.specs.declared.body.End.{End}
use Rattle.dv_store.specs.Laws.{used}
use Rattle.dv_store.specs.declared.store.Step.TheVariants.{Nothing, Passed, Run, Handed}
use Rattle.dv_store.specs.declared.store.Step.{Step as Move}
use Rattle.dv_value.specs.declared.value.Value.{Value, Null, Fault}
use Rattle.dv_world.specs.World as world
use Rattle.dv_world.specs.World.{World, aside, arrange, cooperator_of, step_taken, turn_taken, take_due_found}
use Rattle.dv_world.specs.World.{end_await}

-- 1. A question's answer pays, and is known, as `Lighter` says.

added_same : (e : ℕ) (p : Position) (waiting : Waiting Position) → IsSame p (added e p waiting).0
added_same e p waits.Nothing = tt
added_same e p waits.Adding = tt
added_same e p (waits.Arrived input) = refl
added_same e p (waits.Awaiting awaited body) = tt

end_same : (i e : ℕ) (p : Position) (o : Option (Waiting Position)) (inlines : Inlines)
    → IsSame p (end_adding_at o i e p inlines).0
end_same i e p None inlines = tt
end_same i e p (Some waiting) inlines = added_same e p waiting

first_same : (p : Position) (b : Bool) (w : World) (t : Option (Position × Value) × World) → IsSame p t.0
    → IsSame p (if b then (None, w) else t).0
first_same p true w t h = tt
first_same p false w t h = h

end_await_same : (i e : ℕ) (p : Position) (w : World) → IsSame p (end_await i e p w).0
unfolding end_await
end_await_same i e p w =
    let t = end_adding i e p w.objects.inlines in first_same p w.stopped w (t.0, arrange (inlining (λ inlines. t.1)) w)
    (end_same i e p (slice_get w.objects.inlines i) w.objects.inlines)

known : (question : Question) (w : World) → Known question (asked question w).0
known (BeginBody declared) w = tt
known (Cancel d) w = tt
known (PutInto k v) w = tt
known (GetFrom k d) w = tt
known (ChildFired l i v) w = tt
known (CancelCall number) w = tt
known (ResetCall number from delay) w = tt
known (TakeStep k) w = tt
known (EndTask t end) w = tt
known (ResumeInline i v) w = tt
known (EndAwait i e p) w = end_await_same i e p w
known TakeDue w = tt
known (Moves d) w = tt

unless_pays : {A : Type 0} (a : A) (e : Entry) (change : Objects → Objects) (w : World) (b : Bool) → change_of e ≡ Aside
    → (aside e change w).stopped ≡ b → can (aside e change w) + one_if_some (if b then None else Some a) ≤ can w
unless_pays a e change w true h x = omega (arith, pays w (aside e change w) (by_aside e change w h))
unless_pays a e change w false h x = omega (arith, aside_took e change w x)

step_pays : (t : ℕ) (o : Option Task) (w : World) → can (step_taken t o w).1 + one_if_some (step_taken t o w).0 ≤ can w
step_pays t None w = omega arith
step_pays t (Some x) w =
    unless_pays (t, slice_get x.bodies 0) (entry.Step x.name) (cooperating (with_step t x)) w _ refl refl

turn_pays : (k : ℕ) (o : Option ℕ) (w : World)
    → can (turn_taken k o w).1 + one_if_some (turn_taken k o w).0 ≤ can w
turn_pays k None w =
    omega (
      arith,
      pays w (turn_taken k None w).1 (record { keeps = λ R l. l.by_arrange (cooperating (with_next_turn k)) w }),
    )
turn_pays k (Some t) w = step_pays t (slice_get w.objects.cooperators.tasks t) w

due_pays : (o : Option Upcoming) (w : World) → can (take_due_found o w).1 + one_if_some (take_due_found o w).0 ≤ can w
due_pays None w = omega arith
due_pays (Some call) w =
    unless_pays call.what (entry_when_due call.what) (with_ended_call call.number call_state.Called) w _
    (due_aside call.what) refl

plain_pays : (question : Question) (w : World) → can (asked question w).1 + 0 ≤ can w
plain_pays question w = omega (arith, pays w (asked question w).1 (question_comes question w))

asked_pays : (question : Question) (w : World)
    → can (asked question w).1 + paid_by question (asked question w).0 ≤ can w
asked_pays (BeginBody declared) w =
    unless_pays declared.body (entry.Body declared.name) (λ objects. objects) w _ refl refl
asked_pays (Cancel d) w = cancel_took d w
asked_pays (PutInto k v) w = plain_pays (PutInto k v) w
asked_pays (GetFrom k d) w = plain_pays (GetFrom k d) w
asked_pays (ChildFired l i v) w = plain_pays (ChildFired l i v) w
asked_pays (CancelCall number) w = plain_pays (CancelCall number) w
asked_pays (ResetCall number from delay) w = plain_pays (ResetCall number from delay) w
asked_pays (TakeStep k) w = turn_pays k (turn_in (cooperator_of k w)) w
asked_pays (EndTask t end) w = plain_pays (EndTask t end) w
asked_pays (ResumeInline i v) w = plain_pays (ResumeInline i v) w
asked_pays (EndAwait i e p) w = plain_pays (EndAwait i e p) w
asked_pays TakeDue w = due_pays (next_call w.objects.clock) w
asked_pays (Moves d) w = step_took d w

-- 2. A rule that leaves lighter frames is fair.

then_falls : (n k m : ℕ) (t : Turned) → n ≤ k → Falls n m t → Falls k m t
then_falls n k m t h (paid p) = paid (omega (arith, h, p))
then_falls n k m t h (lighter p) = lighter p

lighter_append : (m : ℕ) (fs gs : List Frame) → Lighter m fs → Lighter m gs → Lighter m (fs ++ gs)
lighter_append m [] gs h k = k
lighter_append m (f ∷ fs) gs h k = (h.0, lighter_append m fs gs h.1 k)

over_falls : (n m : ℕ) (t : Turned) (fs : List Frame) → Lighter m fs → Falls n m t → Falls n m (t over fs)
over_falls n m t fs k (paid h) = paid h
over_falls n m t fs k (lighter h) = lighter (lighter_append m t.0 fs h k)

next_falls : (n m d : ℕ) (o : Follow) (u : World) → 0 < m → Falls n m (settle_next d o u)
next_falls n m d follow.Settle u q = lighter (q, tt)
next_falls n m d follow.Nothing u q = lighter tt
next_falls n m d (follow.Raise failure) u q = lighter tt

either_falls : (n m : ℕ) (b : Bool) (t u : Turned) → Falls n m t → Falls n m u → Falls n m (if b then t else u)
either_falls n m true t u h k = h
either_falls n m false t u h k = k

found_falls : {A : Type 0} (n m : ℕ) (o : Option A) (t : Turned) (f : A → Turned) → Falls n m t
    → ((a : A) → o ≡ Some a → Falls n m (f a)) → Falls n m (found o t f)
found_falls n m None t f h k = h
found_falls n m (Some a) t f h k = k a refl

either_pays : (n m : ℕ) (t : Turned) (A B : Type 0) → (A → Falls n m t) → (B → Falls n m t) → Or A B → Falls n m t
either_pays n m t A B f g (Pays a) = f a
either_pays n m t A B f g (Light b) = g b

pub rule_falls : (m : ℕ) (rule : Rule) (w : World) → Within m rule → Falls (can w) m (run rule w)
rule_falls m (Ends p) w h = lighter tt
rule_falls m (By rule) w h = rule_falls m (rule w) w (h w)
rule_falls m (If b one other) w h =
    either_falls (can w) m b (run one w) (run other w) (rule_falls m one w h.0) (rule_falls m other w h.1)
rule_falls m (Finds o none some) w h =
    found_falls (can w) m o (run none w) (λ a. run (some a) w) (rule_falls m none w h.0)
    (λ a e. rule_falls m (some a) w (h.1 a e))
rule_falls m (Then step rule) w h =
    let u = stepped step w in
    then_falls (can u) (can w) m (run rule u) (pays w u (step_comes step w)) (rule_falls m rule u h)
rule_falls m (Asks question rule) w h =
    let a = asked question w in let t = run (rule a.0) a.1 in
    either_pays (can w) m t (1 ≤ paid_by question a.0) (Within m (rule a.0))
    (λ q. paid (omega (arith, asked_pays question w, q, pays a.1 t.2 (rule_comes (rule a.0) a.1))))
    (λ k. then_falls (can a.1) (can w) m t (pays w a.1 (question_comes question w)) (rule_falls m (rule a.0) a.1 k))
    (h a.0 (known question w))
rule_falls m (Fires d v) w h = next_falls (can w) m d (world.fire d v w).0 (world.fire d v w).1 h
rule_falls m (Unpauses d) w h = next_falls (can w) m d (world.unpause d w).0 (world.unpause d w).1 h
rule_falls m (Over rule frames) w h = over_falls (can w) m (run rule w) frames h.1 (rule_falls m rule w h.0)

pub rule_fair : (m : ℕ) (rule : Rule) (w : World) → Within m rule → Fair w m (run rule w)
rule_fair m rule w h = record { comes = rule_comes rule w; falls = rule_falls m rule w h }

-- 3. The page: each frame's rule is as light as it is to be.

after_canceller : (m d : ℕ) (p : Performed) → 0 < m → Within m (page.after_canceller d p)
after_canceller m d p q = ((λ w. (q, tt)), λ failure e. tt)

used_lighter : (purpose : Purpose) (d : ℕ) → Lighter 2 (page.used_for purpose d)
used_lighter (Named name) d = tt
used_lighter (Holding l) d = (omega arith, (omega arith, tt))
used_lighter (Turning l) d = (omega arith, tt)

made_with : (purpose : Purpose) (v : Value) → Within 2 (page.made_with purpose v)
made_with purpose v = λ w. (omega arith, used_lighter purpose (length w.records))

taken_for : (purpose : Purpose) (e : ℕ) → Within 2 (page.taken_for purpose e)
taken_for (Named name) e = tt
taken_for (Holding l) e = (tt, used_lighter (Holding l) e)
taken_for (Turning l) e = (tt, used_lighter (Turning l) e)

deferred_of : (purpose : Purpose) (p : Performed) → Within 2 (page.deferred_of purpose p)
deferred_of purpose Done = made_with purpose Null
deferred_of purpose (Gave v) = made_with purpose v
deferred_of purpose (Raised failure) = made_with purpose (Fault failure)
deferred_of purpose (Awaits e) = taken_for purpose e

after_step : (m t : ℕ) (p : Performed) → 1 < m → Within m (page.after_step t p)
after_step m t Done q = tt
after_step m t (Gave v) q = (tt, λ failure e. end_task m t (Failed failure) q)
after_step m t (Raised failure) q = end_task m t (Failed failure) q
after_step m t (Awaits e) q = λ w. (tt, λ x k. (tt, (q, tt)))

tick_taken : (m k left : ℕ) (o : Option (ℕ × Option Body)) → Or (1 ≤ one_if_some o)
    (Within m (Finds o (page.tick_ended k) (λ now. Over (page.perform_next now.0 now.1) (frame.Tick k left ∷ []))))
tick_taken m k left None = Light (tt, λ now e. absurd cc)
tick_taken m k left (Some now) = Pays (omega arith)

-- inline bodies
go_with : (m : ℕ) (i : Inline) (v : Value) (p : Position) → waiting_text p ≤ m → Within m (page.go_with i v p)
go_with m i v p q = (tt, (omega (arith, answer_text v p, q), tt))

same_now : (p : Position) (o : Option (Position × Value)) (now : Position × Value) → IsSame p o → o ≡ Some now
    → now.0 ≡ p
same_now p None now h e = absurd cc
same_now p (Some came) now h e = let same : came ≡ now = cc in subst (λ (x : Position × Value). x.0 ≡ p) same h

go_where : (i : Inline) (p : Position) (o : Option (Position × Value)) → IsSame p o
    → Within (waiting_text p) (page.go_where i o)
go_where i p o h =
    (tt, λ now e. go_with (waiting_text p) i now.1 now.0 (omega (arith, ap waiting_text (same_now p o now h e))))

await : (m : ℕ) (i : Inline) (name : List ℕ) (p : Position) → waiting_text p < m → Within m (page.await i name p)
await m i name p q = λ w. (go_with m i _ p (omega (arith, q)), λ e k. ((tt, (omega (arith, q), tt)), (q, tt)))

-- that a declared body begins is logged, which pays for it
body_begun : (m : ℕ) (itself : Option ℕ) (input : Value) (o : Option Body)
    → Or (1 ≤ one_if_some o)
    (Within m (Finds o words.finished (λ body. words.calls (words.performs itself body input))))
body_begun m itself input None = Light (tt, λ body e. absurd cc)
body_begun m itself input (Some body) = Pays (omega arith)

perform_rest : (itself : Option ℕ) (actions : List Action) (end : End) (input : Value)
    → Within (1 + actions_size actions) (page.perform_rest itself actions end input)
perform_rest itself [] end input =
    λ w. ((λ u. tt), λ declared e. λ begun known. body_begun (1 + actions_size []) itself input begun)
perform_rest itself (action ∷ rest) end input =
    (carry_out _ itself (out-Action action) (omega (arith, begun_fits action)), (omega (arith, begun_fits action), tt))

do_requested : (m : ℕ) (i : Inline) (o : Option Request) (p : Position) → request_at p ≡ o → text_of p < m
    → Within m (page.do_requested i o p)
do_requested m i None p h q = tt
do_requested m i (Some (Do action)) p h q = (
  carry_out m (Some i.of) (out-Action action) (omega (arith, begun_fits action, action_text p action h, q)),
  (omega (arith, q, ap (λ o. waiting_by o p) h), tt),
)
do_requested m i (Some (Await name)) p h q = await m i name p (omega (arith, q, ap (λ o. waiting_by o p) h))

inline_goes : (x : Inlining) (o : Performed) → Within (rank (frame.Inline x)) (scripts.inline_goes x o)
inline_goes (Goes i p) o = (
  do_requested (1 + text_of p) i (request_at (run_to_request p)) (run_to_request p) refl (omega (arith, run_text p)),
  λ result e. omega arith,
)
inline_goes (Acted i p) o = go_with (waiting_text p) i (answer_of o) p (omega arith)
inline_goes (Awaited i e p) o = λ a known. Light (go_where i p a known)

settle_by : (m d : ℕ) (move : Move Pair) → Or (1 ≤ used move) (Within m (page.settle_by d move))
settle_by m d Nothing = Light tt
settle_by m d Passed = Pays (omega arith)
settle_by m d (Run pair) = Pays (omega arith)
settle_by m d (Handed c) = Pays (omega arith)

put_in_place : (d : ℕ) (p : Performed) → Within 1 (page.put_in_place d p)
put_in_place d Done = (tt, (omega arith, tt))
put_in_place d (Gave v) = (tt, (omega arith, tt))
put_in_place d (Raised failure) = (tt, (omega arith, tt))
put_in_place d (Awaits e) = (tt, (omega arith, tt))

unless_raised : (m : ℕ) (p : Performed) (r : Rule) → Within m r → Within m (scripts.unless_raised p r)
unless_raised m Done r h = h
unless_raised m (Gave v) r h = h
unless_raised m (Raised failure) r h = tt
unless_raised m (Awaits e) r h = h

run_next : (m : ℕ) (o : Option Due) → Or (1 ≤ one_if_some o) (Within m (page.run_next o))
run_next m None = Light tt
run_next m (Some due) = Pays (omega arith)

rule_within : (f : Frame) (p : Performed) → Within (rank f) (scripts.rule_of f p)
rule_within (frame.Settle d) p = λ move known. settle_by 0 d move
rule_within (frame.Place d) p = put_in_place d p
rule_within (frame.Rest rest) p = unless_raised _ p _ (perform_rest rest.itself rest.actions rest.end rest.input)
rule_within (frame.Canceller d) p = after_canceller 1 d p (omega arith)
rule_within (frame.Maybe purpose) p = deferred_of purpose p
rule_within (frame.Add d pair) p = (tt, (omega arith, tt))
rule_within (frame.Cancel d) p = cancel 0 d
rule_within (frame.Give given) p = unless_raised 0 p _ tt
rule_within (frame.Notify d t) p = notify 1 d t (omega arith)
rule_within (frame.Stepped t) p = λ w. (tt, after_step 2 t p (omega arith))
rule_within (frame.Halt t) p = halt_task 2 t (omega arith)
rule_within (frame.Tick k units) p = (tt, λ o known. tick_taken 0 k (units - 1) o)
rule_within frame.Tell p = (tt, λ failure e. tt)
rule_within frame.Due p = λ o known. run_next 0 o
rule_within (frame.Inline x) p = inline_goes x p

-- each turn, by the rule of its frame
pub turned_fair : (f : Frame) (p : Performed) (w : World) → Fair w (rank f) (run (scripts.rule_of f p) w)
turned_fair f p w = rule_fair (rank f) (scripts.rule_of f p) w (rule_within f p)
