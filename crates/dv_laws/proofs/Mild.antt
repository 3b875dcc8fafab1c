-- Each rule but settling leads on by steps that use no item and put nothing in place: what Calm proves, from the form
-- of a rule.
use Rattle.std.proofs.Common.{ℕ, ◌+◌, ◌≡◌, Bool, true, false, if◌then◌else◌, List, [], ◌∷◌, ◌++◌, Option, None, Some}
use Rattle.std.proofs.Common.{length, slice_get, refl}
use Rattle.dv_value.specs.declared.value.Value.{Value, Text}
use Rattle.dv_journal.specs.declared.entry.Entry.TheVariants as entry
use Rattle.dv_prims.specs.Tokens.{Semaphore, is_unheld, first_waiting}
use Rattle.dv_prims.specs.declared.gather.Flags.{Flags}
use Rattle.dv_value.specs.declared.expected.Expected.{Expected}
use Rattle.dv_script.specs.declared.action.Action.{Action, out-Action}
use Rattle.dv_script.specs.declared.action.Action.TheOpen.{Action-F}
use Rattle.dv_clock.specs.declared.due.Due.{Due}
use Rattle.dv_clock.specs.declared.due.Due.TheVariants as what
use Rattle.dv_script.specs.declared.body.Body as body_of
use Rattle.dv_script.specs.declared.body.End.{End}
use Rattle.dv_script.specs.declared.body.Statement.{Statement}
use Rattle.dv_frames.specs.declared.frame.Frame.{Frame}
use Rattle.dv_frames.specs.declared.frame.Frame.TheVariants as frame
use Rattle.dv_frames.specs.declared.frame.Inlining.{Inlining}
use Rattle.dv_frames.specs.declared.frame.Inlining.TheVariants.{Goes, Acted, Awaited}
use Rattle.dv_frames.specs.declared.frame.Purpose.{Purpose}
use Rattle.dv_frames.specs.declared.frame.Purpose.TheVariants.{Named, Holding, Turning}
use Rattle.dv_world.specs.Found.{deferreds_at}
use Rattle.dv_world.specs.World.{World, step, cancel, make}
use Rattle.dv_objects.specs.Objects.{inlining}
use Rattle.dv_objects.specs.declared.inline_id.Inline.{Inline}
use Rattle.dv_inline.specs.Position.{Position, run_to_request, request_at}
use Rattle.dv_inline.specs.declared.request.Request.{Request}
use Rattle.dv_inline.specs.declared.request.Request.TheVariants.{Do, Await}
use Rattle.dv_objects.specs.declared.follow.Follow.{Follow}
use Rattle.dv_objects.specs.declared.follow.Follow.TheVariants as follow
use Rattle.std.proofs.Common.{sym, ap, subst, ◌∙◌, cond}
use Rattle.dv_world.specs.declared.found.Found.{Found}
use Rattle.dv_world.specs.declared.found.Found.TheVariants.{All, Unbound}
use Rattle.dv_objects.specs.Pair.{Pair, callback, errback, both, chain, continuing, watching}
use Rattle.dv_objects.specs.declared.pair.Side.{Side}
use Rattle.dv_objects.specs.declared.pair.Side.TheVariants as side
use Rattle.dv_objects.specs.declared.performed.Performed.{Performed}
use Rattle.dv_objects.specs.declared.performed.Performed.TheVariants.{Done, Gave, Raised, Awaits}
use Rattle.dv_objects.specs.declared.task.TaskEnd.{TaskEnd}
use Rattle.dv_objects.specs.declared.task.TaskEnd.TheVariants.{Finished, Stopped, Halted, Failed}
use Rattle.dv_objects.specs.declared.reached.Reached.{Reached}
use Rattle.dv_objects.specs.declared.reached.Reached.TheVariants as reached
use Rattle.dv_laws.proofs.Beside.{resting}
use Rattle.dv_laws.proofs.Clocks.{Leaves}
use Rattle.dv_journal.specs.Journal.{fits}
use Rattle.dv_definition.specs.Flags as page_flags
use Rattle.dv_definition.specs.Rule.{found}
use Rattle.dv_frames.specs.Turn.{Turned, settle_next, done, ◌over◌}
use Rattle.dv_loop.specs.Acting.{begun}
use Rattle.dv_loop.specs.Settling.{side_begun}
use Rattle.dv_loop.specs.Turning.{turned}
use Rattle.dv_definition.specs.Definition as page
use Rattle.dv_definition.specs.Scripts as scripts
use Rattle.dv_definition.specs.Words as words
use Rattle.dv_definition.specs.Rule.{Rule, Ends, By, If, Finds, Then, Asks, Fires, Unpauses, Over, run}
use Rattle.dv_definition.specs.Steps as steps
use Rattle.dv_definition.specs.Steps.{stepped, Question, Reply}
use Rattle.dv_world.specs.World as world
use Rattle.dv_world.specs.World.{state_of}
use Rattle.dv_loop.proofs.Kept.{Both, telling_of}
use Rattle.std.proofs.Common.{Result, Ok, Err}
use Rattle.dv_journal.specs.declared.error.Stop.{Stop}
use Rattle.dv_journal.specs.declared.error.Stop.TheVariants as stop
use Rattle.dv_store.specs.Record.{new_record}
use Rattle.dv_objects.specs.Refusals.{cancelled}
use Rattle.dv_objects.specs.declared.canceller.Canceller.{Canceller}
use Rattle.dv_objects.specs.declared.canceller.Canceller.TheVariants as canceller
use Rattle.dv_laws.proofs.Calm.{ReachesNoWaiter, handed, handed_to, asking, granted, same, by_aside, HasReached}
use Rattle.dv_laws.proofs.Calm.{IsCalm, step_quiet, question_quiet, quietly, join_calm, reached_by, cancel_reaches}
use Rattle.dv_laws.proofs.Calm.{IsMade}
use Rattle.dv_laws.proofs.Calm.{Calmly}

-- 1. What a rule leaves.

abbrev pub PutsNothing : Frame → Type 0
PutsNothing (frame.Settle d) = Unit {0}
PutsNothing (frame.Place d) = ⊥
PutsNothing (frame.Rest rest) = Unit {0}
PutsNothing (frame.Canceller d) = Unit {0}
PutsNothing (frame.Maybe purpose) = Unit {0}
PutsNothing (frame.Add d pair) = Unit {0}
PutsNothing (frame.Cancel d) = Unit {0}
PutsNothing (frame.Give given) = Unit {0}
PutsNothing (frame.Notify d t) = Unit {0}
PutsNothing (frame.Stepped t) = Unit {0}
PutsNothing (frame.Halt t) = Unit {0}
PutsNothing (frame.Tick k units) = Unit {0}
PutsNothing frame.Tell = Unit {0}
PutsNothing frame.Due = Unit {0}
PutsNothing (frame.Inline inlining) = Unit {0}

abbrev pub AllPutNothing : List Frame → Type 0
AllPutNothing [] = Unit {0}
AllPutNothing (f ∷ fs) = PutsNothing f × AllPutNothing fs

-- a rule leads on so, and leaves such frames
pub record Mild (w : World) (t : Turned) : Type 1 where
  pub comes : Calmly w t.2
  pub free : AllPutNothing t.0

free_append : (fs gs : List Frame) → AllPutNothing fs → AllPutNothing gs → AllPutNothing (fs ++ gs)
free_append [] gs h k = k
free_append (f ∷ fs) gs h k = (h.0, free_append fs gs h.1 k)

-- 2. The law.

-- the Deferred that a frame settles
abbrev pub settled_by : Frame → Option ℕ
settled_by (frame.Settle d) = Some d
settled_by (frame.Place d) = None
settled_by (frame.Rest rest) = None
settled_by (frame.Canceller d) = None
settled_by (frame.Maybe purpose) = None
settled_by (frame.Add d pair) = None
settled_by (frame.Cancel d) = None
settled_by (frame.Give given) = None
settled_by (frame.Notify d t) = None
settled_by (frame.Stepped t) = None
settled_by (frame.Halt t) = None
settled_by (frame.Tick k units) = None
settled_by frame.Tell = None
settled_by frame.Due = None
settled_by (frame.Inline inlining) = None

-- the first frame settles d
abbrev pub SettlesFirst : ℕ → List Frame → Type 0
SettlesFirst d [] = ⊥
SettlesFirst d (f ∷ fs) = settled_by f ≡ Some d

-- a rule calls for it that d is settled
abbrev pub CallsToSettle : ℕ → Rule → Type 0
CallsToSettle d (Ends p) = ⊥
CallsToSettle d (By rule) = ⊥
CallsToSettle d (If b one other) = ⊥
CallsToSettle d (Finds {A} o none some) = ⊥
CallsToSettle d (Then step rule) = ⊥
CallsToSettle d (Asks question rule) = ⊥
CallsToSettle d (Fires e v) = ⊥
CallsToSettle d (Unpauses e) = ⊥
CallsToSettle d (Over rule frames) = SettlesFirst d frames

-- a rule fires d with this value
abbrev pub IsFiring : ℕ → Value → Rule → Type 0
IsFiring d v (Ends p) = ⊥
IsFiring d v (By rule) = ⊥
IsFiring d v (If b one other) = ⊥
IsFiring d v (Finds {A} o none some) = (a : A) × (o ≡ Some a) × IsFiring d v (some a)
IsFiring d v (Then step rule) = ⊥
IsFiring d v (Asks question rule) = ⊥
IsFiring d v (Fires e u) = (e ≡ d) × (u ≡ v)
IsFiring d v (Unpauses e) = ⊥
IsFiring d v (Over rule frames) = ⊥

-- a rule takes d out of where it waits, by this step, and fires it with CancelledError
abbrev pub IsLeaving : steps.Step → ℕ → Rule → Type 0
IsLeaving step d (Ends p) = ⊥
IsLeaving step d (By rule) = ⊥
IsLeaving step d (If b one other) = ⊥
IsLeaving step d (Finds {A} o none some) = ⊥
IsLeaving step d (Then other rule) = (other ≡ step) × IsFiring d cancelled rule
IsLeaving step d (Asks question rule) = ⊥
IsLeaving step d (Fires e u) = ⊥
IsLeaving step d (Unpauses e) = ⊥
IsLeaving step d (Over rule frames) = ⊥

-- who is answered to have got a value is fired with it, and who is cancelled while waiting for one or for a token waits
-- no longer; one that asks a queue is made
abbrev pub AsksCalmly : World → (question : Question) → (Reply question → Rule) → Type 0
AsksCalmly w (steps.Cancel of) rule =
    ((d k : ℕ) → IsLeaving (steps.Withdraw k d) d (rule (reached.ForItem d k)))
    × ((d l : ℕ) → IsLeaving (steps.Forget l d) d (rule (reached.ForToken d l)))
AsksCalmly w (steps.PutInto k v) rule = (who : ℕ × Value) → IsFiring who.0 who.1 (rule (Some who))
AsksCalmly w (steps.GetFrom k d) rule =
    (w.stopped ≡ false → IsMade (canceller.Item k) d w.records) × ((v : Value) → IsFiring d v (rule (Some v)))
AsksCalmly w (steps.ChildFired l i v) rule = Unit {0}
AsksCalmly w (steps.CancelCall number) rule = Unit {0}
AsksCalmly w (steps.ResetCall number from delay) rule = Unit {0}
AsksCalmly w (steps.BeginBody declared) rule = Unit {0}
AsksCalmly w (steps.TakeStep k) rule = Unit {0}
AsksCalmly w (steps.EndTask t end) rule = Unit {0}
AsksCalmly w (steps.ResumeInline i v) rule = Unit {0}
AsksCalmly w (steps.EndAwait i e p) rule = Unit {0}
AsksCalmly w steps.TakeDue rule = Unit {0}
AsksCalmly w (steps.Moves d) rule = ⊥

-- who is granted a token of the lock s by a step is fired with the name of the lock
abbrev pub IsGranting : Option ℕ → Semaphore → Rule → Type 0
IsGranting who s rule = (e : ℕ) → who ≡ Some e → IsFiring e (Text s.name) rule

-- after a pair was added to d, and after d was fired since it was cancelled, it calls for it that d is settled; after a
-- lock was asked by one that is made, or a token of it released, it goes by the lock that was found before
abbrev pub Follows : World → steps.Step → Rule → Type 0
Follows w (steps.Append d pair) rule = CallsToSettle d rule
Follows w (steps.FireThenSwallow d) rule = CallsToSettle d rule
Follows w (steps.Ask l d) rule =
    (s : Semaphore) × (slice_get w.objects.semaphores l ≡ Some s)
    × (w.stopped ≡ false → IsMade (canceller.Token l) d w.records) × IsGranting (asking d s) s rule
Follows w (steps.Release l) rule =
    (s : Semaphore) × (slice_get w.objects.semaphores l ≡ Some s) × (is_unheld s ≡ false)
    × IsGranting (first_waiting s) s rule
Follows w step rule = Unit {0}

-- a rule, begun in a world, takes such steps alone, each with what follows it, and leaves nothing to be put in place
abbrev pub Mildly : Option Reached → World → Rule → Type 0
Mildly o w (Ends p) = Unit {0}
Mildly o w (By rule) = Mildly o w (rule w)
Mildly o w (If b one other) = (b ≡ true → Mildly o w one) × (b ≡ false → Mildly o w other)
Mildly o w (Finds {A} x none some) = Mildly o w none × ((a : A) → x ≡ Some a → Mildly o w (some a))
Mildly o w (Then step rule) = IsCalm o step × Follows w step rule × Mildly None (stepped step w) rule
Mildly o w (Asks question rule) =
    AsksCalmly w question rule
    × ((a : Reply question) → Mildly (reached_by question a) (steps.asked question w).1 (rule a))
Mildly o w (Fires d v) = Unit {0}
Mildly o w (Unpauses d) = Unit {0}
Mildly o w (Over rule frames) = Mildly o w rule × AllPutNothing frames

-- the world after a firing is the same where it is to be settled
next_same : (d : ℕ) (o : Follow) (u : World) → (settle_next d o u).2 ≡ u
next_same d follow.Settle u = refl
next_same d follow.Nothing u = refl
next_same d (follow.Raise failure) u = refl

firing_runs : (d : ℕ) (v : Value) (rule : Rule) (w : World) → IsFiring d v rule
    → (run rule w).2 ≡ (world.fire d v w).1
firing_runs d v (Ends p) w m = absurd m
firing_runs d v (By rule) w m = absurd m
firing_runs d v (If b one other) w m = absurd m
firing_runs d v (Finds o none some) w m =
    ap (λ x. (found x (run none w) (λ a. run (some a) w)).2) m.1 ∙ firing_runs d v (some m.0) w m.2
firing_runs d v (Then step rule) w m = absurd m
firing_runs d v (Asks question rule) w m = absurd m
firing_runs d v (Fires e u) w m =
    next_same e (world.fire e u w).0 (world.fire e u w).1
    ∙ ap (λ x. (world.fire x u w).1) m.0 ∙ ap (λ x. (world.fire d x w).1) m.1
firing_runs d v (Unpauses e) w m = absurd m
firing_runs d v (Over rule frames) w m = absurd m

leaving_runs : (step : steps.Step) (d : ℕ) (rule : Rule) (w : World) → IsLeaving step d rule
    → (run rule w).2 ≡ (world.fire d cancelled (stepped step w)).1
leaving_runs step d (Ends p) w m = absurd m
leaving_runs step d (By rule) w m = absurd m
leaving_runs step d (If b one other) w m = absurd m
leaving_runs step d (Finds o none some) w m = absurd m
leaving_runs step d (Then other rule) w m =
    firing_runs d cancelled rule (stepped other w) m.1
    ∙ ap (λ (s : steps.Step). (world.fire d cancelled (stepped s w)).1) m.0
leaving_runs step d (Asks question rule) w m = absurd m
leaving_runs step d (Fires e u) w m = absurd m
leaving_runs step d (Unpauses e) w m = absurd m
leaving_runs step d (Over rule frames) w m = absurd m

-- a cancel, by whom it reaches
other_calm : (r : Reached) (of : ℕ) (w u : World) → (cancel of w).0 ≡ r → ReachesNoWaiter r
    → (HasReached (Some r) (cancel of w).1 → Calmly (cancel of w).1 u) → Calmly w u
other_calm r of w u e q h =
    let none = subst ReachesNoWaiter (sym e) q in
    join_calm w (cancel of w).1 u (quietly w (cancel of w).1 (record { keeps = λ R l. l.by_cancel of w none }))
    (h (subst (λ x. HasReached (Some x) (cancel of w).1) e (cancel_reaches of w none)))

cancel_calm : (r : Reached) (of : ℕ) (rule : Reached → Rule) (w : World) → (cancel of w).0 ≡ r
    → AsksCalmly w (steps.Cancel of) rule
    → (HasReached (Some r) (cancel of w).1 → Calmly (cancel of w).1 (run (rule r) (cancel of w).1).2)
    → Calmly w (run (rule r) (cancel of w).1).2
cancel_calm reached.Nothing of rule w e m h = other_calm reached.Nothing of w _ e tt h
cancel_calm (reached.Fire d) of rule w e m h = other_calm (reached.Fire d) of w _ e tt h
cancel_calm (reached.Run d body) of rule w e m h = other_calm (reached.Run d body) of w _ e tt h
cancel_calm (reached.ForToken d l) of rule w e m h =
    subst (λ u. Calmly w u)
    (sym (leaving_runs (steps.Forget l d) d (rule (reached.ForToken d l)) (cancel of w).1 (m.1 d l)))
    (record { keeps = λ R c. c.by_forget of d l w e })
cancel_calm (reached.ForItem d k) of rule w e m h =
    subst (λ u. Calmly w u)
    (sym (leaving_runs (steps.Withdraw k d) d (rule (reached.ForItem d k)) (cancel of w).1 (m.0 d k)))
    (record { keeps = λ R c. c.by_withdraw of d k w e })
cancel_calm (reached.Children children) of rule w e m h = other_calm (reached.Children children) of w _ e tt h
cancel_calm (reached.Inline i) of rule w e m h = other_calm (reached.Inline i) of w _ e tt h

-- a value that is put, or asked for, by who gets one
put_calm : (o : Option (ℕ × Value)) (k : ℕ) (v : Value) (rule : Option (ℕ × Value) → Rule) (w : World)
    → (world.put_into k v w).0 ≡ o → ((who : ℕ × Value) → IsFiring who.0 who.1 (rule (Some who)))
    → (let u = (world.put_into k v w).1 in Calmly u (run (rule o) u).2 → Calmly w (run (rule o) u).2)
put_calm None k v rule w e m h =
    join_calm w (world.put_into k v w).1 _ (subst (λ x. Calmly w (handed x (world.put_into k v w).1)) e
    (record { keeps = λ R l. l.by_put k v w })) h
put_calm (Some who) k v rule w e m h =
    subst (λ u. Calmly w u) (sym (firing_runs who.0 who.1 (rule (Some who)) (world.put_into k v w).1 (m who)))
    (subst (λ x. Calmly w (handed x (world.put_into k v w).1)) e (record { keeps = λ R l. l.by_put k v w }))

get_calm : (o : Option Value) (k d : ℕ) (rule : Option Value → Rule) (w : World) → (world.get_from k d w).0 ≡ o
    → (w.stopped ≡ false → IsMade (canceller.Item k) d w.records) → ((v : Value) → IsFiring d v (rule (Some v)))
    → (let u = (world.get_from k d w).1 in Calmly u (run (rule o) u).2 → Calmly w (run (rule o) u).2)
get_calm None k d rule w e i m h =
    join_calm w (world.get_from k d w).1 _ (subst (λ x. Calmly w (handed_to d x (world.get_from k d w).1)) e
    (record { keeps = λ R l. l.by_get k d w i })) h
get_calm (Some v) k d rule w e i m h =
    subst (λ u. Calmly w u) (sym (firing_runs d v (rule (Some v)) (world.get_from k d w).1 (m v)))
    (subst (λ x. Calmly w (handed_to d x (world.get_from k d w).1)) e (record { keeps = λ R l. l.by_get k d w i }))

asked_calm : (question : Question) (rule : Reply question → Rule) (w : World) → AsksCalmly w question rule
    → (let a = steps.asked question w in
    (HasReached (reached_by question a.0) a.1 → Calmly a.1 (run (rule a.0) a.1).2) → Calmly w (run (rule a.0) a.1).2)
asked_calm (steps.Cancel d) rule w m h = cancel_calm (cancel d w).0 d rule w refl m h
asked_calm (steps.PutInto k v) rule w m h = put_calm (world.put_into k v w).0 k v rule w refl m (h tt)
asked_calm (steps.GetFrom k d) rule w m h = get_calm (world.get_from k d w).0 k d rule w refl m.0 m.1 (h tt)
asked_calm (steps.Moves d) rule w m h = absurd m
asked_calm question rule w m h =
    let u = (steps.asked question w).1 in join_calm w u _ (quietly w u (question_quiet question w tt)) (h tt)

-- a token that is asked for or released, by who is granted one
granted_calm : (o who : Option ℕ) (s : Semaphore) (rule : Rule) (w u : World) → who ≡ o → IsGranting who s rule
    → Calmly w (granted who s.name u) → Calmly u (run rule u).2 → Calmly w (run rule u).2
granted_calm None who s rule w u e m c h = join_calm w u _ (subst (λ x. Calmly w (granted x s.name u)) e c) h
granted_calm (Some d) who s rule w u e m c h =
    subst (λ v. Calmly w v) (sym (firing_runs d (Text s.name) rule u (m d e)))
    (subst (λ x. Calmly w (granted x s.name u)) e c)

-- each step, with what follows it
reached_so : (o : Option Reached) (r : Reached) (w : World) → HasReached o w → o ≡ Some r → HasReached (Some r) w
reached_so o r w h e = subst (λ x. HasReached x w) e h

by_swallows : (o : Option Reached) (d : ℕ) (w : World) → HasReached o w → o ≡ Some (reached.Fire d)
    → Calmly w (world.fire_then_swallow d w)
by_swallows o d w h e = record { keeps = λ R l. l.by_fire_then_swallow d w (reached_so o (reached.Fire d) w h e) }

stepped_calm : (step : steps.Step) (o : Option Reached) (rule : Rule) (w : World) → HasReached o w → IsCalm o step
    → Follows w step rule
    → (let u = stepped step w in Calmly u (run rule u).2 → Calmly w (run rule u).2)
stepped_calm (steps.Put d v) o rule w h m f k = absurd m
stepped_calm (steps.PutDeferred d e) o rule w h m f k = absurd m
stepped_calm (steps.Advance ticks) o rule w h m f k = absurd m
stepped_calm (steps.Withdraw n d) o rule w h m f k = absurd (reached_so o (reached.ForItem d n) w h m)
stepped_calm (steps.Forget l d) o rule w h m f k = absurd (reached_so o (reached.ForToken d l) w h m)
stepped_calm (steps.FireThenSwallow d) o rule w h m f k =
    join_calm w (world.fire_then_swallow d w) _ (by_swallows o d w h m) k
stepped_calm (steps.Name d name) o rule w h m f k =
    join_calm w (stepped (steps.Name d name) w) _ (record { keeps = λ R l. l.by_name d name w }) k
stepped_calm (steps.Append d pair) o rule w h m f k =
    join_calm w (world.append d pair w) _ (record { keeps = λ R l. l.by_append d pair w }) k
stepped_calm (steps.Ask l d) o rule w h m f k =
    granted_calm (asking d f.0) (asking d f.0) f.0 rule w (world.ask l d w) refl f.3
    (record { keeps = λ R c. c.by_ask l d f.0 w f.1 f.2 }) k
stepped_calm (steps.Release l) o rule w h m f k =
    granted_calm (first_waiting f.0) (first_waiting f.0) f.0 rule w (world.release l w) refl f.3
    (record { keeps = λ R c. c.by_release l f.0 w f.1 f.2 }) k
stepped_calm step o rule w h m f k =
    join_calm w (stepped step w) _ (quietly w (stepped step w) (step_quiet step w tt)) k

next_calm : (d : ℕ) (o : Follow) (w u : World) → Calmly w u → Calmly w (settle_next d o u).2
next_calm d o w u c = subst (λ x. Calmly w x) (sym (next_same d o u)) c

either_calm : (b : Bool) (w : World) (t u : Turned) → (b ≡ true → Calmly w t.2) → (b ≡ false → Calmly w u.2)
    → Calmly w (if b then t else u).2
either_calm true w t u c d = c refl
either_calm false w t u c d = d refl

found_calm : {A : Type 0} (o : Option A) (w : World) (t : Turned) (f : A → Turned) → Calmly w t.2
    → ((a : A) → o ≡ Some a → Calmly w (f a).2) → Calmly w (found o t f).2
found_calm None w t f c d = c
found_calm (Some a) w t f c d = d a refl

pub rule_calm : (rule : Rule) (o : Option Reached) (w : World) → HasReached o w → Mildly o w rule
    → Calmly w (run rule w).2
rule_calm (Ends p) o w h m = quietly w w (same w)
rule_calm (By rule) o w h m = rule_calm (rule w) o w h m
rule_calm (If b one other) o w h m =
    either_calm b w (run one w) (run other w) (λ e. rule_calm one o w h (m.0 e)) (λ e. rule_calm other o w h (m.1 e))
rule_calm (Finds x none some) o w h m =
    found_calm x w (run none w) (λ a. run (some a) w) (rule_calm none o w h m.0)
    (λ a e. rule_calm (some a) o w h (m.1 a e))
rule_calm (Then step rule) o w h m =
    stepped_calm step o rule w h m.0 m.1 (rule_calm rule None (stepped step w) tt m.2)
rule_calm (Asks question rule) o w h m =
    let a = steps.asked question w in
    asked_calm question rule w m.0 (λ r. rule_calm (rule a.0) (reached_by question a.0) a.1 r (m.1 a.0))
rule_calm (Fires d v) o w h m =
    next_calm d (world.fire d v w).0 w (world.fire d v w).1 (record { keeps = λ R l. l.by_fire d v w })
rule_calm (Unpauses d) o w h m =
    next_calm d (world.unpause d w).0 w (world.unpause d w).1 (record { keeps = λ R l. l.by_unpause d w })
rule_calm (Over rule frames) o w h m = rule_calm rule o w h m.0

next_free : (d : ℕ) (o : Follow) (u : World) → AllPutNothing (settle_next d o u).0
next_free d follow.Settle u = (tt, tt)
next_free d follow.Nothing u = tt
next_free d (follow.Raise failure) u = tt

either_free : (b : Bool) (t u : Turned) → (b ≡ true → AllPutNothing t.0) → (b ≡ false → AllPutNothing u.0)
    → AllPutNothing (if b then t else u).0
either_free true t u c d = c refl
either_free false t u c d = d refl

found_free : {A : Type 0} (o : Option A) (t : Turned) (f : A → Turned) → AllPutNothing t.0
    → ((a : A) → o ≡ Some a → AllPutNothing (f a).0) → AllPutNothing (found o t f).0
found_free None t f c d = c
found_free (Some a) t f c d = d a refl

pub rule_free : (rule : Rule) (o : Option Reached) (w : World) → Mildly o w rule → AllPutNothing (run rule w).0
rule_free (Ends p) o w m = tt
rule_free (By rule) o w m = rule_free (rule w) o w m
rule_free (If b one other) o w m =
    either_free b (run one w) (run other w) (λ e. rule_free one o w (m.0 e)) (λ e. rule_free other o w (m.1 e))
rule_free (Finds x none some) o w m =
    found_free x (run none w) (λ a. run (some a) w) (rule_free none o w m.0) (λ a e. rule_free (some a) o w (m.1 a e))
rule_free (Then step rule) o w m = rule_free rule None (stepped step w) m.2
rule_free (Asks question rule) o w m =
    let a = steps.asked question w in rule_free (rule a.0) (reached_by question a.0) a.1 (m.1 a.0)
rule_free (Fires d v) o w m = next_free d (world.fire d v w).0 (world.fire d v w).1
rule_free (Unpauses d) o w m = next_free d (world.unpause d w).0 (world.unpause d w).1
rule_free (Over rule frames) o w m = free_append (run rule w).0 frames (rule_free rule o w m.0) m.1

-- 3. The page: a tactic finds it of each rule; by hand what lists, tests of what is named, or another rule make.
add_free : (l d i : ℕ) (cs : List ℕ) → AllPutNothing (page.add_children l d i cs)
add_free l d i [] = tt
add_free l d i (c ∷ cs) = (tt, add_free l d (1 + i) cs)

children_free : (cs : List ℕ) → AllPutNothing (page.cancel_children cs)
children_free [] = tt
children_free (c ∷ cs) = (tt, (tt, children_free cs))

notify_free : (t : ℕ) (ds : List ℕ) → AllPutNothing (page.notify_all t ds)
notify_free t [] = tt
notify_free t (d ∷ ds) = (tt, (tt, notify_free t ds))

used_free : (purpose : Purpose) (d : ℕ) → AllPutNothing (page.used_for purpose d)
used_free (Named name) d = tt
used_free (Holding l) d = (tt, (tt, tt))
used_free (Turning l) d = (tt, tt)

all_mild : (o : Found) (r : List ℕ → Rule) (w : World) → ((ds : List ℕ) → Mildly None w (r ds))
    → Mildly None w (words.on_found o r)
all_mild (All ds) r w h = h ds
all_mild (Unbound name) r w h = tt

list_mild : (name children : List ℕ) (flags : Flags) (w : World) → Mildly None w (page.list name children flags)
list_mild name children flags w = (tt, tt, (tt, tt, ((λ b. tt, λ b. tt), add_free _ _ 0 children)))

-- a Deferred that is made with a queue or a lock that it asks
at_last : {X : Type 0} (l : List X) (x : X) → slice_get (l ++ x ∷ []) (length l) ≡ Some x
at_last [] x = refl
at_last (y ∷ l) x = at_last l x

made_named : (b : Bool) (name : List ℕ) (by : Canceller) (w : World)
    → (let made = new_record (Some name) (Some by) in
    let t = cond {A = Result ℕ Stop × Both} b (
      Ok (length w.records),
      telling_of (entry.New (length w.records) (Some name)) (w.records ++ made ∷ []) (state_of w),
    ) (Err stop.Limit, state_of w) in
    let u = world.named (Some name) t.0 t.1 w in u.stopped ≡ false → IsMade by (length w.records) u.records)
made_named true name by w h = record {
  made = new_record (Some name) (Some by);
  found = at_last w.records (new_record (Some name) (Some by));
  leaves = refl;
  fresh = refl;
}
made_named false name by w h = absurd cc

made_unless : (b : Bool) (w u : World) (d : ℕ) (by : Canceller) → w.stopped ≡ b
    → (u.stopped ≡ false → IsMade by d u.records)
    → (let v = cond b w u in v.stopped ≡ false → IsMade by d v.records)
made_unless true w u d by e m h = let wrong : true ≡ false = sym e ∙ h in absurd cc
made_unless false w u d by e m h = m h

made_there : (name : List ℕ) (by : Canceller) (w : World)
    → (let u = make (Some name) (Some by) w in u.stopped ≡ false → IsMade by (length w.records) u.records)
unfolding make
made_there name by w =
    made_unless w.stopped w _ (length w.records) by refl
    (made_named (fits w.journal (entry.New (length w.records) (Some name))) name by w)

-- one that a cancel reaches while it waits for a value, or for a token
cancel_leaves : (w : World) (of : ℕ) → AsksCalmly w (steps.Cancel of) page.cancel_reached
cancel_leaves w of = (λ d k. (refl, (refl, refl)), λ d l. (refl, (refl, refl)))

-- one that asks a lock, and a token that is released
granting : (who : Option ℕ) (s : Semaphore) → IsGranting who s (page.grant who s.name)
granting who s e q = (e, q, (refl, refl))

ask_mild : (l d : ℕ) (w : World) → (w.stopped ≡ false → IsMade (canceller.Token l) d w.records)
    → Mildly None w (page.ask_lock l d)
ask_mild l d w m = (tt, λ s g. (tt, (s, g, m, granting (asking d s) s), (tt, λ e q. tt)))

acquire_mild : (name : List ℕ) (l : ℕ) (w : World) → Mildly None w (page.acquire name l)
acquire_mild name l w =
    let by = canceller.Token l in
    (tt, tt, ask_mild l (length w.records) (make (Some name) (Some by) w) (made_there name by w))

release_mild : (l : ℕ) (w : World) → Mildly None w (page.release l)
release_mild l w = (tt, λ s g. (λ u. tt, λ u. (tt, (s, g, u, granting (first_waiting s) s), (tt, λ e q. tt))))

reached_mild : (r : Reached) (w : World) → Mildly (Some r) w (page.cancel_reached r)
reached_mild reached.Nothing w = tt
reached_mild (reached.Fire d) w = (refl, refl, (tt, (tt, tt)))
reached_mild (reached.Run d body) w = search [] depth 20
reached_mild (reached.ForToken d l) w = (refl, tt, tt)
reached_mild (reached.ForItem d k) w = (refl, tt, tt)
reached_mild (reached.Children children) w = (tt, children_free children)
reached_mild (reached.Inline i) w = search [] depth 20

add_mild : (d : ℕ) (pair : Pair) (w : World) → Mildly None w (page.add d pair)
add_mild d pair w = (tt, refl, (tt, (tt, tt)))

ended_mild : (k : ℕ) (w : World) → Mildly None w (page.tick_ended k)
ended_mild k w = (tt, tt, (tt, tt, tt))

begin_mild : (k : ℕ) (w : World) → Mildly None w (page.begin_tick k)
begin_mild k w = (tt, λ c e. (tt, tt, (tt, (tt, tt))))

end_mild : (t : ℕ) (end : TaskEnd) (w : World) → Mildly None w (page.end_task t end)
end_mild t end w = (tt, λ x e. (tt, λ ds. (tt, tt, (tt, notify_free t ds))))

halt_mild : (t : ℕ) (w : World) → Mildly None w (page.halt_task t)
halt_mild t w = (tt, λ x e. (λ b. end_mild t Halted w, λ b. tt))

joined_mild : (k t : ℕ) (w : World) → Mildly None w (page.joined_in k t)
joined_mild k t w = (tt, λ c e. (λ b. halt_mild t w, λ b. (tt, tt, tt)))

resumed_mild : (t : ℕ) (w : World) → Mildly None w (page.resume_task t)
resumed_mild t w =
    (tt, λ x e. (λ b. tt, λ b. (tt, tt, (λ again. joined_mild x.of t (stepped (steps.ResumeTask t) w), λ again. tt))))

halt_free : (ts : List ℕ) → AllPutNothing (page.halt_all ts)
halt_free [] = tt
halt_free (t ∷ ts) = (tt, halt_free ts)

await_mild : (i : Inline) (name : List ℕ) (p : Position) (w : World) → Mildly None w (page.await i name p)
await_mild i name p w = ((tt, (tt, tt)), λ e q. (tt, tt, (add_mild e (continuing i) w, (tt, tt))))

resume_mild : (i : Inline) (input : Value) (w : World) → Mildly None w (page.resume i input)
resume_mild i input w = search [] depth 20

awaited_mild : (i : Inline) (e : ℕ) (p : Position) (w : World) → Mildly None w (page.after_awaiting i e p)
awaited_mild i e p w = search [] depth 20

pub carry_mild : (itself : Option ℕ) (action : Action-F Action Statement body_of.Body) (w : World)
    → Mildly None w (page.carry_out itself action)
carry_mild itself (Action-F.Note text) w = search [] depth 20
carry_mild itself (Action-F.Deferred name canceller) w = search [] depth 20
carry_mild itself (Action-F.Callback name value) w = search [] depth 20
carry_mild itself (Action-F.Errback name class message) w = search [] depth 20
carry_mild itself (Action-F.AddCallback name body) w = (tt, λ d e. add_mild d (callback body) w)
carry_mild itself (Action-F.AddErrback name body) w = (tt, λ d e. add_mild d (errback body) w)
carry_mild itself (Action-F.AddBoth name body) w = (tt, λ d e. add_mild d (both body body) w)
carry_mild itself (Action-F.AddCallbacks name on_value on_failure) w =
    (tt, λ d e. add_mild d (both on_value on_failure) w)
carry_mild itself (Action-F.Chain name after) w = (tt, λ d q. (tt, λ e r. add_mild d (chain e) w))
carry_mild itself (Action-F.Pause name) w = search [] depth 20
carry_mild itself (Action-F.Unpause name) w = search [] depth 20
carry_mild itself (Action-F.Cancel name) w =
    (tt, λ d e. (cancel_leaves w d, λ r. reached_mild r (cancel d w).1))
carry_mild itself (Action-F.AddTimeout name delay body) w =
    (tt, λ d e. (tt, tt, (add_mild d (watching (length w.objects.clock.calls) body) w, (tt, tt))))
carry_mild itself (Action-F.Lock name) w = search [] depth 20
carry_mild itself (Action-F.Semaphore name tokens) w = search [] depth 20
carry_mild itself (Action-F.Acquire name lock) w = (tt, λ l e. acquire_mild name l w)
carry_mild itself (Action-F.RunWith name lock body) w = (tt, λ l e. (acquire_mild name l w, (tt, tt)))
carry_mild itself (Action-F.Release lock) w = (tt, λ l e. release_mild l w)
carry_mild itself (Action-F.Maybe name body) w = search [] depth 20
carry_mild itself (Action-F.Queue name size backlog) w = search [] depth 20
carry_mild itself (Action-F.Put queue value) w =
    (tt, λ k e. (tt, λ q g. (λ b. tt, λ b. (λ who. (who, refl, (refl, refl)), λ who. (tt, λ p h. tt)))))
carry_mild itself (Action-F.Get name queue) w = (
  tt,
  λ k e. (
    tt,
    λ q g. (
      λ b. tt,
      λ b. (
        tt,
        tt,
        ((made_there name (canceller.Item k) w, λ v. (v, refl, (refl, refl))), λ got. (tt, λ v h. tt)),
      ),
    ),
  ),
)
carry_mild itself (Action-F.List name children flags) w =
    all_mild (deferreds_at itself children w) _ w (λ ds. list_mild name ds (page_flags.list_flags flags) w)
carry_mild itself (Action-F.Gather name children flags) w =
    all_mild (deferreds_at itself children w) _ w
    (λ ds. (list_mild name ds (page_flags.gather_flags flags) w, (tt, tt)))
carry_mild itself (Action-F.Later name delay body) w = search [] depth 20
carry_mild itself (Action-F.CancelCall name) w = search [] depth 20
carry_mild itself (Action-F.ResetCall name delay) w = search [] depth 20
carry_mild itself (Action-F.DelayCall name delay) w = search [] depth 20
carry_mild itself (Action-F.Loop name of interval at_once body bodies) w = search [] depth 24
carry_mild itself (Action-F.StopLoop name) w = search [] depth 20
carry_mild itself (Action-F.Units units) w = search [] depth 20
carry_mild itself (Action-F.Cooperate name bodies) w = search [] depth 20
carry_mild itself (Action-F.WhenDone name task) w = search [] depth 20
carry_mild itself (Action-F.PauseTask name) w = search [] depth 20
carry_mild itself (Action-F.StopTask name) w = (tt, λ t e. (tt, λ x g. (end_mild t Stopped w, λ end f. tt)))
carry_mild itself (Action-F.ResumeTask name) w = (tt, λ t e. resumed_mild t w)
carry_mild itself (Action-F.CooperateIn name of bodies) w =
    let t = length w.objects.cooperators.tasks in
    (tt, λ k e. (tt, tt, joined_mild k t (stepped (steps.NewTaskIn k name of bodies) w)))
carry_mild itself (Action-F.UnitsIn name units) w = search [] depth 20
carry_mild itself (Action-F.StopCooperator name) w =
    (tt, λ k e. (tt, λ c f. (tt, tt, (tt, halt_free c.turns.tasks))))
carry_mild itself (Action-F.Inline name statements) w = search [] depth 20
carry_mild itself (Action-F.Thread name delay work) w = search [] depth 20
carry_mild itself (Action-F.ThreadIn name pool delay work) w = search [] depth 20

rest_mild : (itself : Option ℕ) (actions : List Action) (end : End) (input : Value) (w : World)
    → Mildly None w (page.perform_rest itself actions end input)
rest_mild itself [] end input w = (tt, λ declared e. (tt, λ begun. (tt, λ body f. (tt, (tt, tt)))))
rest_mild itself (action ∷ rest) end input w = (carry_mild itself (out-Action action) w, (tt, tt))

requested_mild : (i : Inline) (o : Option Request) (p : Position) (w : World) → Mildly None w (page.do_requested i o p)
requested_mild i None p w = tt
requested_mild i (Some (Do action)) p w = (carry_mild (Some i.of) (out-Action action) w, (tt, tt))
requested_mild i (Some (Await name)) p w = await_mild i name p w

inline_mild : (x : Inlining) (o : Performed) (w : World) → Mildly None w (scripts.inline_goes x o)
inline_mild (Goes i p) o w = (requested_mild i (request_at (run_to_request p)) (run_to_request p) w, λ result e. tt)
inline_mild (Acted i p) o w = search [] depth 20
inline_mild (Awaited i e p) o w = awaited_mild i e p w

unless_mild : (p : Performed) (r : Rule) (w : World) → Mildly None w r → Mildly None w (scripts.unless_raised p r)
unless_mild Done r w h = h
unless_mild (Gave v) r w h = h
unless_mild (Raised failure) r w h = tt
unless_mild (Awaits e) r w h = h

taken_mild : (purpose : Purpose) (e : ℕ) (w : World) → Mildly None w (page.taken_for purpose e)
taken_mild (Named name) e w = (tt, tt, tt)
taken_mild (Holding l) e w = (tt, (tt, (tt, tt)))
taken_mild (Turning l) e w = (tt, (tt, tt))

maybe_mild : (purpose : Purpose) (p : Performed) (w : World) → Mildly None w (page.deferred_of purpose p)
maybe_mild purpose Done w = (tt, tt, (tt, used_free purpose (length w.records)))
maybe_mild purpose (Gave v) w = (tt, tt, (tt, used_free purpose (length w.records)))
maybe_mild purpose (Raised failure) w = (tt, tt, (tt, used_free purpose (length w.records)))
maybe_mild purpose (Awaits e) w = taken_mild purpose e w

step_mild : (t : ℕ) (p : Performed) (w : World) → Mildly None w (page.after_step t p)
step_mild t Done w = tt
step_mild t (Gave v) w = (tt, λ failure e. end_mild t (Failed failure) w)
step_mild t (Raised failure) w = end_mild t (Failed failure) w
step_mild t (Awaits e) w = search [] depth 20

due_mild : (o : Option Due) (w : World) → Mildly None w (page.run_next o)
due_mild None w = tt
due_mild (Some (what.Call name key)) w = search [] depth 20
due_mild (Some (what.Turn name key)) w = search [] depth 20
due_mild (Some what.Tick) w = (begin_mild 0 w, (tt, tt))
due_mild (Some (what.TickIn name k)) w = (begin_mild k w, (tt, tt))
due_mild (Some (what.Delivery job d)) w = search [] depth 20
due_mild (Some (what.Timeout d)) w = search [] depth 20

-- each frame but those by which a Deferred is settled
abbrev pub IsMild : Frame → Type 0
IsMild (frame.Settle d) = ⊥
IsMild (frame.Place d) = ⊥
IsMild (frame.Rest rest) = Unit {0}
IsMild (frame.Canceller d) = Unit {0}
IsMild (frame.Maybe purpose) = Unit {0}
IsMild (frame.Add d pair) = Unit {0}
IsMild (frame.Cancel d) = Unit {0}
IsMild (frame.Give given) = Unit {0}
IsMild (frame.Notify d t) = Unit {0}
IsMild (frame.Stepped t) = Unit {0}
IsMild (frame.Halt t) = Unit {0}
IsMild (frame.Tick k units) = Unit {0}
IsMild frame.Tell = Unit {0}
IsMild frame.Due = Unit {0}
IsMild (frame.Inline inlining) = Unit {0}

pub rule_mild : (f : Frame) (p : Performed) (w : World) → IsMild f → Mildly None w (scripts.rule_of f p)
rule_mild (frame.Settle d) p w m = absurd m
rule_mild (frame.Place d) p w m = absurd m
rule_mild (frame.Rest rest) p w m =
    unless_mild p _ w (rest_mild rest.itself rest.actions rest.end rest.input w)
rule_mild (frame.Canceller d) p w m = search [] depth 20
rule_mild (frame.Maybe purpose) p w m = maybe_mild purpose p w
rule_mild (frame.Add d pair) p w m = add_mild d pair w
rule_mild (frame.Cancel d) p w m = (cancel_leaves w d, λ r. reached_mild r (cancel d w).1)
rule_mild (frame.Give given) p w m = unless_mild p _ w tt
rule_mild (frame.Notify d t) p w m = search [] depth 20
rule_mild (frame.Stepped t) p w m = (λ b. tt, λ b. step_mild t p w)
rule_mild (frame.Halt t) p w m = halt_mild t w
rule_mild (frame.Tick k units) p w m =
    let u = (steps.asked (steps.TakeStep k) w).1 in (
      λ b. ended_mild k w,
      λ b. (
        tt,
        λ taken. (ended_mild k u, λ now e. ((end_mild now.0 Finished u, λ body f. (tt, (tt, (tt, tt)))), (tt, tt))),
      ),
    )
rule_mild frame.Tell p w m = search [] depth 20
rule_mild frame.Due p w m = (tt, λ o. due_mild o (world.take_due w).1)
rule_mild (frame.Inline x) p w m = inline_mild x p w

pub side_rule_mild : (d : ℕ) (s : Option Side) (input : Value) (w : World) → Mildly None w (page.run_side d s input)
side_rule_mild d None input w = tt
side_rule_mild d (Some (side.Body body)) input w = search [] depth 20
side_rule_mild d (Some (side.Fire e)) input w = tt
side_rule_mild d (Some (side.Timed t)) input w = search [] depth 20
side_rule_mild d (Some (side.OnTimeout t body)) input w = search [] depth 20
side_rule_mild d (Some (side.EndTimer t)) input w = search [] depth 20
side_rule_mild d (Some (side.Report child)) input w = search [] depth 20
side_rule_mild d (Some side.Results) input w = search [] depth 20
side_rule_mild d (Some (side.Hold l body)) input w = search [] depth 20
side_rule_mild d (Some (side.Release l)) input w = (release_mild l w, (tt, tt))
side_rule_mild d (Some (side.NextTurn l)) input w = search [] depth 20
side_rule_mild d (Some (side.EndLoop l)) input w = search [] depth 20
side_rule_mild d (Some (side.ResumeTask t)) input w = (λ b. tt, λ b. resumed_mild t w)
side_rule_mild d (Some (side.FailTask t)) input w = (tt, λ failure e. end_mild t (Failed failure) w)
side_rule_mild d (Some (side.Resume i)) input w = resume_mild i input w

-- what a rule leaves, run
run_mild : (rule : Rule) (w : World) → Mildly None w rule → Mild w (run rule w)
run_mild rule w m = record { comes = rule_calm rule None w tt m; free = rule_free rule None w m }

pub side_mild : (d : ℕ) (s : Option Side) (input : Value) (w : World) → Mild w (side_begun d s input w)
side_mild d s input w = run_mild (page.run_side d s input) w (side_rule_mild d s input w)

pub turned_mild : (f : Frame) (p : Performed) (w : World) → IsMild f → Mild w (turned f p w)
turned_mild f p w m = run_mild (scripts.rule_of f p) w (rule_mild f p w m)

-- what happens begins so, but for that time goes on
pub action_mild : (action : Action) (w : World) → Mild w (begun None (out-Action action) w over (frame.Tell ∷ []))
action_mild action w =
    run_mild (Over (page.carry_out None (out-Action action)) (frame.Tell ∷ [])) w (
      carry_mild None (out-Action action) w,
      (tt, tt),
    )

pub drain_mild : (w : World) → Mild w (done (world.tell entry.Drain w))
drain_mild w = record {
  comes = quietly w _ (by_aside entry.Drain _ w refl (tt, tt) (λ k. Leaves (refl, refl, refl)) (λ k. k)
      (resting _ _ _ refl refl refl refl refl refl refl refl refl) refl);
  free = tt;
}

-- what is expected is logged, and may end the run
pub expect_mildly : (name : List ℕ) (expected : Expected) (w : World) → Mildly None w (scripts.expect name expected)
expect_mildly name expected w = (
  (tt, tt, (tt, tt, tt)),
  λ d is. (λ met. (tt, tt, tt), λ unmet. (tt, tt, (tt, tt, tt))),
)

pub expect_mild : (name : List ℕ) (expected : Expected) (w : World) → Mild w (run (scripts.expect name expected) w)
expect_mild name expected w = run_mild (scripts.expect name expected) w (expect_mildly name expected w)

pub post_comes : (caller index : ℕ) (w : World) → Calmly w (world.tell (entry.Post caller index) w)
post_comes caller index w =
    quietly w _ (by_aside (entry.Post caller index) _ w refl (tt, tt) (λ k. Leaves (refl, refl, refl)) (λ k. k)
    (resting _ _ _ refl refl refl refl refl refl refl refl refl) refl)
