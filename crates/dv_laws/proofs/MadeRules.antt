-- Each rule of the page is sound: each Deferred that it returns, binds a name to, or calls for is made.
use Rattle.std.proofs.Common.{◌≡◌, ℕ, ◌+◌, Bool, true, false, List, [], ◌∷◌, Option, None, Some, length}
use Rattle.std.proofs.Common.{refl, subst, cond}
use Rattle.std.specs.Prelude.{bytes_eq, codes}
use Rattle.dv_value.specs.Failure.{is_fault}
use Rattle.dv_value.specs.declared.value.Value.{Value}
use Rattle.dv_script.specs.declared.action.Action.{Action, out-Action}
use Rattle.dv_script.specs.declared.action.Action.TheOpen.{Action-F}
use Rattle.dv_script.specs.declared.body.Body as body_of
use Rattle.dv_script.specs.declared.body.End.{End}
use Rattle.dv_script.specs.declared.body.End.TheVariants.{Return, Pass, Plus, Raise, Trap, Wait, Run, Throw}
use Rattle.dv_script.specs.declared.body.Statement.{Statement}
use Rattle.dv_script.specs.declared.event.Event.TheVariants as event
use Rattle.dv_script.specs.declared.work.Work.{Work}
use Rattle.dv_clock.specs.declared.due.Due.{Due}
use Rattle.dv_clock.specs.declared.due.Due.TheVariants as what
use Rattle.dv_inline.specs.Position.{Position, run_to_request, request_at}
use Rattle.dv_inline.specs.declared.request.Request.{Request}
use Rattle.dv_inline.specs.declared.request.Request.TheVariants.{Do, Await}
use Rattle.dv_prims.specs.declared.gather.Flags.{Flags}
use Rattle.dv_objects.specs.Names.{number_of}
use Rattle.dv_objects.specs.Pair.{Pair, callback, errback, both, chain, side_for}
use Rattle.dv_objects.specs.declared.inline_id.Inline.{Inline}
use Rattle.dv_objects.specs.declared.pair.Side.{Side}
use Rattle.dv_objects.specs.declared.pair.Side.TheVariants as side
use Rattle.dv_objects.specs.declared.performed.Performed.{Performed}
use Rattle.dv_objects.specs.declared.performed.Performed.TheVariants.{Done, Gave, Raised, Awaits}
use Rattle.dv_objects.specs.declared.reached.Reached.{Reached}
use Rattle.dv_objects.specs.declared.reached.Reached.TheVariants as reached
use Rattle.dv_objects.specs.declared.task.TaskEnd.{TaskEnd}
use Rattle.dv_objects.specs.declared.task.TaskEnd.TheVariants.{Finished, Stopped, Halted, Failed}
use Rattle.dv_store.specs.declared.store.Step.{Step as Move}
use Rattle.dv_store.specs.declared.store.Step.TheVariants.{Nothing, Passed, Run, Handed}
use Rattle.dv_definition.specs.Definition as page
use Rattle.dv_definition.specs.Flags as page_flags
use Rattle.dv_definition.specs.Rule.{Rule, Fires, run}
use Rattle.dv_definition.specs.Scripts as scripts
use Rattle.dv_definition.specs.Scripts.{Occurrence, Occurs, Posts}
use Rattle.dv_definition.specs.Steps as steps
use Rattle.dv_definition.specs.Steps.{stepped}
use Rattle.dv_definition.specs.Words as words
use Rattle.dv_frames.specs.declared.frame.Frame.{Frame}
use Rattle.dv_frames.specs.declared.frame.Frame.TheVariants as frame
use Rattle.dv_frames.specs.declared.frame.Inlining.{Inlining}
use Rattle.dv_frames.specs.declared.frame.Inlining.TheVariants.{Goes, Acted, Awaited}
use Rattle.dv_frames.specs.declared.frame.Purpose.{Purpose}
use Rattle.dv_frames.specs.declared.frame.Purpose.TheVariants.{Named, Holding, Turning}
use Rattle.dv_loop.proofs.RuleComes.{rule_comes}
use Rattle.dv_loop.proofs.StepsCome.{question_comes}
use Rattle.dv_world.specs.Ending.{awaited, ended}
use Rattle.dv_world.specs.Found.{deferreds_at}
use Rattle.dv_world.specs.World.{World, deferred_at, make, value_of}
use Rattle.dv_world.specs.declared.found.Found.{Found}
use Rattle.dv_world.specs.declared.found.Found.TheVariants.{All, Unbound}
use Rattle.dv_laws.proofs.Made.{grows, Bound, Made, MadeResult, MadeItself, MadeFrame, AllMade, MadeReached}
use Rattle.dv_laws.proofs.Made.{MadeMove, Sound, made_on, itself_on, made_new}

-- 1. What a body returns.

itself_found : (b : Bool) (itself o : Option ℕ) (d : ℕ) (w : World) → MadeItself itself w → (o ≡ Some d → Made d w)
    → cond b itself o ≡ Some d → Made d w
itself_found true itself o d w m k q = subst (λ x. MadeItself x w) q m
itself_found false itself o d w m k q = k q

found_made : (itself : Option ℕ) (name : List ℕ) (d : ℕ) (w : World) → Bound w → MadeItself itself w
    → deferred_at itself name w ≡ Some d → Made d w
found_made itself name d w b m q =
    itself_found (bytes_eq name (codes "@")) itself (number_of name w.objects.names) d w m (λ r s. b.each s name d r) q

awaited_made : (o : Option ℕ) (name : List ℕ) (w : World) → ((d : ℕ) → o ≡ Some d → Made d w)
    → MadeResult (awaited o name) w
awaited_made None name w k = tt
awaited_made (Some d) name w k = k d refl

ended_made : (itself : Option ℕ) (end : End) (input : Value) (w : World) → Bound w → MadeItself itself w
    → MadeResult (ended itself end input w) w
ended_made itself (Return value) input w b m = tt
ended_made itself Pass input w b m = tt
ended_made itself (Plus n) input w b m = tt
ended_made itself (Raise class message) input w b m = tt
ended_made itself (Trap listed value) input w b m = tt
ended_made itself (Wait name) input w b m =
    awaited_made (deferred_at itself name w) name w (λ d q. found_made itself name d w b m q)
ended_made itself (Run name) input w b m = tt
ended_made itself (Throw path) input w b m = tt

-- 2. The page.

add_made : (l d i : ℕ) (cs : List ℕ) (w : World) → AllMade (page.add_children l d i cs) w
add_made l d i [] w = tt
add_made l d i (c ∷ cs) w = (tt, add_made l d (1 + i) cs w)

children_made : (cs : List ℕ) (w : World) → AllMade (page.cancel_children cs) w
children_made [] w = tt
children_made (c ∷ cs) w = (tt, (tt, children_made cs w))

notify_made : (t : ℕ) (ds : List ℕ) (w : World) → AllMade (page.notify_all t ds) w
notify_made t [] w = tt
notify_made t (d ∷ ds) w = (tt, (tt, notify_made t ds w))

used_made : (purpose : Purpose) (d : ℕ) (w : World) → Made d w → AllMade (page.used_for purpose d) w
used_made (Named name) d w m = tt
used_made (Holding l) d w m = (tt, (m, tt))
used_made (Turning l) d w m = (tt, tt)

all_sound : (o : Found) (r : List ℕ → Rule) (w : World) → ((ds : List ℕ) → Sound w (r ds))
    → Sound w (words.on_found o r)
all_sound (All ds) r w h = h ds
all_sound (Unbound name) r w h = tt

list_sound : (name children : List ℕ) (flags : Flags) (w : World) → Sound w (page.list name children flags)
list_sound name children flags w = (tt, (tt, ((tt, tt), add_made _ _ 0 children _)))

reached_sound : (r : Reached) (w : World) → MadeReached r w → Sound w (page.cancel_reached r)
reached_sound reached.Nothing w m = tt
reached_sound (reached.Fire d) w m = (tt, (tt, (tt, tt)))
reached_sound (reached.Run d body) w m = (tt, (m, (tt, tt)))
reached_sound (reached.ForToken d l) w m = (tt, tt)
reached_sound (reached.ForItem d k) w m = (tt, tt)
reached_sound (reached.Children children) w m = (tt, children_made children w)
reached_sound (reached.Inline i) w m = (tt, λ e q. (tt, (tt, tt)))

cancel_sound : (d : ℕ) (w : World) → Sound w (page.cancel d)
cancel_sound d w = λ r h. reached_sound r _ h

add_sound : (d : ℕ) (pair : Pair) (w : World) → Sound w (page.add d pair)
add_sound d pair w = (tt, (tt, (tt, tt)))

end_sound : (t : ℕ) (end : TaskEnd) (w : World) → Sound w (page.end_task t end)
end_sound t end w = (tt, λ x q. λ ds h. (tt, (tt, notify_made t ds _)))

halt_sound : (t : ℕ) (w : World) → Sound w (page.halt_task t)
halt_sound t w = (tt, λ x q. (end_sound t Halted w, tt))

joined_sound : (k t : ℕ) (w : World) → Sound w (page.joined_in k t)
joined_sound k t w = (tt, λ c q. (halt_sound t w, (tt, tt)))

begin_sound : (k : ℕ) (w : World) → Sound w (page.begin_tick k)
begin_sound k w = (tt, λ c q. (tt, (tt, (tt, tt))))

halts_made : (ts : List ℕ) (w : World) → AllMade (page.halt_all ts) w
halts_made [] w = tt
halts_made (t ∷ ts) w = (tt, halts_made ts w)

await_sound : (i : Inline) (name : List ℕ) (p : Position) (w : World) → Sound w (page.await i name p)
await_sound i name p w = ((tt, (tt, tt)), λ e q. (tt, ((tt, (tt, (tt, tt))), (tt, tt))))

acquire_sound : (name : List ℕ) (l : ℕ) (w : World) → Sound w (page.acquire name l)
acquire_sound name l w = (tt, (tt, λ s q. (tt, (tt, λ d r. tt))))

release_sound : (l : ℕ) (w : World) → Sound w (page.release l)
release_sound l w = (tt, λ s q. (tt, (tt, (tt, λ d r. tt))))

body_sound : (purpose : Purpose) (body : body_of.Body) (w : World) → Sound w (page.as_deferred purpose body)
body_sound purpose body w = (tt, (tt, (tt, tt)))

loop_sound : (name of : List ℕ) (interval : ℕ) (b : Bool) (body : body_of.Body) (bodies : List body_of.Body) (w : World)
    → Sound w (page.loop name of interval b body bodies)
loop_sound name of interval b body bodies w =
    (tt, (tt, ((tt, (tt, (tt, (tt, (tt, tt))))), (tt, tt))))

notify_sound : (d t : ℕ) (w : World) → Sound w (page.notify d t)
notify_sound d t w = (tt, λ x q. (tt, λ end r. tt))

resume_sound : (t : ℕ) (w : World) → Sound w (page.resume_task t)
resume_sound t w = (tt, λ x q. (tt, (tt, (joined_sound x.of t _, tt))))

thread_sound : (name : List ℕ) (pool : Option (List ℕ)) (delay : ℕ) (work : Work) (w : World)
    → Sound w (page.thread name pool delay work)
thread_sound name pool delay work w = (tt, (tt, (tt, (tt, tt))))

pub carry_sound : (itself : Option ℕ) (action : Action-F Action Statement body_of.Body) (w : World)
    → Sound w (page.carry_out itself action)
carry_sound itself (Action-F.Note text) w = (tt, tt)
carry_sound itself (Action-F.Deferred name canceller) w = (tt, tt)
carry_sound itself (Action-F.Callback name value) w = (tt, λ d q. tt)
carry_sound itself (Action-F.Errback name class message) w = (tt, λ d q. tt)
carry_sound itself (Action-F.AddCallback name body) w = (tt, λ d q. add_sound d (callback body) w)
carry_sound itself (Action-F.AddErrback name body) w = (tt, λ d q. add_sound d (errback body) w)
carry_sound itself (Action-F.AddBoth name body) w = (tt, λ d q. add_sound d (both body body) w)
carry_sound itself (Action-F.AddCallbacks name on_value on_failure) w =
    (tt, λ d q. add_sound d (both on_value on_failure) w)
carry_sound itself (Action-F.Chain name after) w = (tt, λ d q. (tt, λ e r. add_sound d (chain e) w))
carry_sound itself (Action-F.Pause name) w = (tt, λ d q. (tt, tt))
carry_sound itself (Action-F.Unpause name) w = (tt, λ d q. tt)
carry_sound itself (Action-F.Cancel name) w = (tt, λ d q. cancel_sound d w)
carry_sound itself (Action-F.AddTimeout name delay body) w =
    (tt, λ d q. (tt, ((tt, (tt, (tt, tt))), (tt, tt))))
carry_sound itself (Action-F.Lock name) w = (tt, tt)
carry_sound itself (Action-F.Semaphore name tokens) w = (tt, tt)
carry_sound itself (Action-F.Acquire name lock) w = (tt, λ l q. acquire_sound name l w)
carry_sound itself (Action-F.RunWith name lock body) w = (tt, λ l q. (acquire_sound name l w, (tt, tt)))
carry_sound itself (Action-F.Release lock) w = (tt, λ l q. release_sound l w)
carry_sound itself (Action-F.Maybe name body) w = body_sound (Named name) body w
carry_sound itself (Action-F.Queue name size backlog) w = (tt, tt)
carry_sound itself (Action-F.Put queue value) w = (tt, λ k q. (tt, λ x r. (tt, λ who h. (tt, λ c s. tt))))
carry_sound itself (Action-F.Get name queue) w = (tt, λ k q. (tt, λ x r. (tt, (tt, λ got h. (tt, λ v s. tt)))))
carry_sound itself (Action-F.List name children flags) w =
    all_sound (deferreds_at itself children w) _ w (λ ds. list_sound name ds (page_flags.list_flags flags) w)
carry_sound itself (Action-F.Gather name children flags) w =
    all_sound (deferreds_at itself children w) _ w
    (λ ds. (list_sound name ds (page_flags.gather_flags flags) w, (tt, tt)))
carry_sound itself (Action-F.Later name delay body) w = (tt, tt)
carry_sound itself (Action-F.CancelCall name) w = (tt, λ number q. λ p h. h)
carry_sound itself (Action-F.ResetCall name delay) w = (tt, λ number q. λ p h. h)
carry_sound itself (Action-F.DelayCall name delay) w = (tt, λ number q. λ p h. h)
carry_sound itself (Action-F.Loop name of interval at_once body bodies) w =
    loop_sound name of interval at_once body bodies w
carry_sound itself (Action-F.StopLoop name) w = (tt, λ l q. (tt, λ x r. (tt, (tt, (tt, tt)))))
carry_sound itself (Action-F.Units units) w = (tt, tt)
carry_sound itself (Action-F.Cooperate name bodies) w = (tt, (tt, tt))
carry_sound itself (Action-F.WhenDone name task) w = (tt, λ t q. (tt, (tt, (tt, λ x r. (tt, λ end s. tt)))))
carry_sound itself (Action-F.PauseTask name) w = (tt, λ t q. (tt, λ x r. ((tt, (tt, tt)), λ end s. tt)))
carry_sound itself (Action-F.StopTask name) w = (tt, λ t q. (tt, λ x r. (end_sound t Stopped w, λ end s. tt)))
carry_sound itself (Action-F.ResumeTask name) w = (tt, λ t q. resume_sound t w)
carry_sound itself (Action-F.CooperateIn name of bodies) w = (tt, λ k q. (tt, joined_sound k _ _))
carry_sound itself (Action-F.UnitsIn name units) w = (tt, λ k q. (tt, tt))
carry_sound itself (Action-F.StopCooperator name) w =
    (tt, λ k q. (tt, λ c r. (tt, (tt, halts_made c.turns.tasks _))))
carry_sound itself (Action-F.Inline name statements) w = (tt, (tt, (tt, (tt, tt))))
carry_sound itself (Action-F.Thread name delay work) w = thread_sound name None delay work w
carry_sound itself (Action-F.ThreadIn name pool delay work) w = thread_sound name (Some pool) delay work w

rest_sound : (itself : Option ℕ) (actions : List Action) (end : End) (input : Value) (w : World) → Bound w
    → MadeItself itself w → Sound w (page.perform_rest itself actions end input)
rest_sound itself [] end input w b m = (
  ended_made itself end input w b m,
  λ declared q. λ begun h.
      let u = (steps.asked (steps.BeginBody declared) w).1 in
      (tt, λ body r. (tt, (itself_on itself w u (grows w u (question_comes (steps.BeginBody declared) w)) m, tt))),
)
rest_sound itself (action ∷ rest) end input w b m =
    let first = page.carry_out itself (out-Action action) in
    let u = (run first w).2 in
    (carry_sound itself (out-Action action) w, (itself_on itself w u (grows w u (rule_comes first w)) m, tt))

requested_sound : (i : Inline) (o : Option Request) (p : Position) (w : World) → Sound w (page.do_requested i o p)
requested_sound i None p w = tt
requested_sound i (Some (Do action)) p w = (carry_sound (Some i.of) (out-Action action) w, (tt, tt))
requested_sound i (Some (Await name)) p w = await_sound i name p w

inline_sound : (x : Inlining) (o : Performed) (w : World) → Sound w (scripts.inline_goes x o)
inline_sound (Goes i p) o w = (requested_sound i (request_at (run_to_request p)) (run_to_request p) w, λ result q. tt)
inline_sound (Acted i p) o w = (tt, (tt, tt))
inline_sound (Awaited i e p) o w = λ came h. (tt, λ x q. (tt, (tt, tt)))

unless_sound : (p : Performed) (r : Rule) (w : World) → Sound w r → Sound w (scripts.unless_raised p r)
unless_sound Done r w h = h
unless_sound (Gave v) r w h = h
unless_sound (Raised failure) r w h = tt
unless_sound (Awaits e) r w h = h

taken_sound : (purpose : Purpose) (e : ℕ) (w : World) → Made e w → Sound w (page.taken_for purpose e)
taken_sound (Named name) e w m = (m, tt)
taken_sound (Holding l) e w m = (tt, used_made (Holding l) e w m)
taken_sound (Turning l) e w m = (tt, used_made (Turning l) e w m)

made_sound : (purpose : Purpose) (v : Value) (w : World) → Sound w (page.made_with purpose v)
made_sound purpose v w =
    let d = length w.records in
    let u = make (page.name_for purpose) None w in
    let x = (run (Fires d v) u).2 in (
      tt,
      (
        tt,
        used_made purpose d x (made_on d u x (grows u x (rule_comes (Fires d v) u))
            (made_new (page.name_for purpose) None w)),
      ),
    )

maybe_sound : (purpose : Purpose) (p : Performed) (w : World) → MadeResult p w → Sound w (page.deferred_of purpose p)
maybe_sound purpose Done w m = made_sound purpose _ w
maybe_sound purpose (Gave v) w m = made_sound purpose _ w
maybe_sound purpose (Raised failure) w m = made_sound purpose _ w
maybe_sound purpose (Awaits e) w m = taken_sound purpose e w m

step_sound : (t : ℕ) (p : Performed) (w : World) → Sound w (page.after_step t p)
step_sound t Done w = tt
step_sound t (Gave v) w = (tt, λ failure q. end_sound t (Failed failure) w)
step_sound t (Raised failure) w = end_sound t (Failed failure) w
step_sound t (Awaits e) w = (tt, λ x q. (tt, (tt, (tt, (tt, tt)))))

due_sound : (o : Option Due) (w : World) → Sound w (page.run_next o)
due_sound None w = tt
due_sound (Some (what.Call name key)) w = ((tt, (tt, tt)), λ body q. (tt, (tt, (tt, (tt, tt)))))
due_sound (Some (what.Turn name key)) w = ((tt, λ x q. (tt, body_sound (Turning key) x.body w)), (tt, tt))
due_sound (Some what.Tick) w = (begin_sound 0 w, (tt, tt))
due_sound (Some (what.TickIn name k)) w = (begin_sound k w, (tt, tt))
due_sound (Some (what.Delivery job d)) w = ((tt, λ work q. tt), (tt, (tt, tt)))
due_sound (Some (what.Timeout d)) w = (tt, (tt, (tt, (tt, tt))))

side_sound : (d : ℕ) (s : Option Side) (input : Value) (w : World) → Made d w → Sound w (page.run_side d s input)
side_sound d None input w m = tt
side_sound d (Some (side.Body body)) input w m = (tt, (m, tt))
side_sound d (Some (side.Fire e)) input w m = tt
side_sound d (Some (side.Timed t)) input w m = tt
side_sound d (Some (side.OnTimeout t body)) input w m = ((tt, (m, tt)), tt)
side_sound d (Some (side.EndTimer t)) input w m = (tt, tt)
side_sound d (Some (side.Report child)) input w m = λ came h. ((tt, λ v q. (tt, tt)), (tt, tt))
side_sound d (Some side.Results) input w m = (tt, λ v q. tt)
side_sound d (Some (side.Hold l body)) input w m = body_sound (Holding l) body w
side_sound d (Some (side.Release l)) input w m = (release_sound l w, (tt, tt))
side_sound d (Some (side.NextTurn l)) input w m = (tt, λ x q. ((tt, tt), tt))
side_sound d (Some (side.EndLoop l)) input w m = (tt, (tt, λ x q. tt))
side_sound d (Some (side.ResumeTask t)) input w m = (tt, resume_sound t w)
side_sound d (Some (side.FailTask t)) input w m = (tt, λ failure q. end_sound t (Failed failure) w)
side_sound d (Some (side.Resume i)) input w m = λ came h. (tt, λ x q. (tt, (tt, tt)))

settle_sound : (d : ℕ) (move : Move Pair) (w : World) → MadeMove d move w → Sound w (page.settle_by d move)
settle_sound d Nothing w m = tt
settle_sound d Passed w m = (tt, (tt, tt))
settle_sound d (Run pair) w m =
    (side_sound d (side_for pair (is_fault (value_of d w))) (value_of d w) w m, (tt, tt))
settle_sound d (Handed c) w m = (tt, (tt, (tt, tt)))

place_sound : (d : ℕ) (p : Performed) (w : World) → Sound w (page.put_in_place d p)
place_sound d Done w = (tt, (tt, (tt, tt)))
place_sound d (Gave v) w = (tt, (tt, (tt, tt)))
place_sound d (Raised failure) w = (tt, (tt, (tt, tt)))
place_sound d (Awaits e) w = (tt, (tt, (tt, tt)))

-- each frame, where what was returned before it is made
pub rule_sound : (f : Frame) (p : Performed) (w : World) → Bound w → MadeFrame f w → MadeResult p w
    → Sound w (scripts.rule_of f p)
rule_sound (frame.Settle d) p w b m r = λ move h. settle_sound d move _ h
rule_sound (frame.Place d) p w b m r = place_sound d p w
rule_sound (frame.Rest rest) p w b m r =
    unless_sound p _ w (rest_sound rest.itself rest.actions rest.end rest.input w b m)
rule_sound (frame.Canceller d) p w b m r = ((tt, tt), λ failure q. tt)
rule_sound (frame.Maybe purpose) p w b m r = maybe_sound purpose p w r
rule_sound (frame.Add d pair) p w b m r = add_sound d pair w
rule_sound (frame.Cancel d) p w b m r = cancel_sound d w
rule_sound (frame.Give given) p w b m r = unless_sound p _ w m
rule_sound (frame.Notify d t) p w b m r = notify_sound d t w
rule_sound (frame.Stepped t) p w b m r = (tt, step_sound t p w)
rule_sound (frame.Halt t) p w b m r = halt_sound t w
rule_sound (frame.Tick k units) p w b m r =
    let u = (steps.asked (steps.TakeStep k) w).1 in
    let ends : Sound u (page.tick_ended k) = (tt, (tt, tt)) in (
      (tt, (tt, tt)),
      λ taken h. (ends, λ now q. ((end_sound now.0 Finished u, λ body s. (tt, (tt, (tt, tt)))), (tt, tt))),
    )
rule_sound frame.Tell p w b m r = (tt, λ failure q. (tt, tt))
rule_sound frame.Due p w b m r = λ o h. due_sound o _
rule_sound (frame.Inline x) p w b m r = inline_sound x p w

-- what happens in a run
pub happens_sound : (occurrence : Occurrence) (w : World) → Sound w (scripts.happens occurrence)
happens_sound (Occurs (event.Action action)) w = (carry_sound None (out-Action action) w, (tt, tt))
happens_sound (Occurs (event.Advance ticks)) w = (tt, (tt, (tt, tt)))
happens_sound (Occurs (event.Drain most)) w = (tt, tt)
happens_sound (Occurs (event.Expect name expected)) w = (
  (tt, (tt, tt)),
  λ d h. ((tt, tt), (tt, (tt, tt))),
)
happens_sound (Posts posted body) w = (tt, (tt, (tt, (tt, tt))))
