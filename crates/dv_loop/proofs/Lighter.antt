-- How much is left of a text and of a frame, and that the rule of each action leaves lighter frames. An action has its
-- two lines here, in `action_within` and in `carry_out`.
use Rattle.std.proofs.Common.{◌≡◌, ℕ, ◌+◌, ◌<◌, List, map, arith, ◌≤◌, [], ◌∷◌, Option, None, Some}
use Rattle.std.specs.Option.{unwrap_or}
use Rattle.dv_definition.specs.Definition as page
use Rattle.dv_definition.specs.Flags.{list_flags, gather_flags}
use Rattle.dv_definition.specs.Rule.{Rule, Ends, By, If, Finds, Then, Asks, Fires, Unpauses, Over}
use Rattle.dv_definition.specs.Steps.{Question, Reply, Cancel, PutInto, GetFrom, ChildFired, CancelCall, ResetCall}
use Rattle.dv_definition.specs.Steps.{BeginBody, TakeStep, EndTask}
use Rattle.dv_definition.specs.Steps.{ResumeInline, EndAwait, TakeDue, Moves}
use Rattle.dv_definition.specs.Words as words
use Rattle.dv_frames.specs.declared.frame.Frame.TheVariants as frame
use Rattle.dv_frames.specs.declared.frame.Frame.{Frame}
use Rattle.dv_frames.specs.declared.frame.Inlining.TheVariants.{Goes, Acted, Awaited}
use Rattle.dv_frames.specs.declared.frame.Inlining.{Inlining}
use Rattle.dv_inline.specs.Position.{total, Position, request_at}
use Rattle.dv_inline.specs.declared.open.Inside.{Inside}
use Rattle.dv_inline.specs.declared.open.Inside.TheVariants as inside
use Rattle.dv_inline.specs.declared.open.Open.{Open}
use Rattle.dv_inline.specs.declared.request.Request.{Request}
use Rattle.dv_objects.specs.declared.reached.Reached.TheVariants as reached
use Rattle.dv_objects.specs.declared.reached.Reached.{Reached}
use Rattle.dv_objects.specs.declared.task.TaskEnd.TheVariants.{Stopped, Halted}
use Rattle.dv_objects.specs.declared.task.TaskEnd.{TaskEnd}
use Rattle.dv_loop.proofs.Budget.{reaches}
use Rattle.dv_prims.specs.declared.gather.Flags.{Flags}
use Rattle.dv_script.specs.declared.action.Action.TheFolds.{fold-Action, fold-Statement, fold-Body, fold_out-Action}
use Rattle.dv_script.specs.declared.action.Action.TheFolds.{fold_out-Statement, fold_out-Body}
use Rattle.dv_script.specs.declared.action.Action.TheOpen.{Action-F, Statement-F, Body-F}
use Rattle.dv_script.specs.declared.action.Action.{Action, out-Action, map-Action}
use Rattle.dv_script.specs.declared.body.Body.{Body, out-Body}
use Rattle.dv_script.specs.declared.body.Statement.{Statement, out-Statement, map-Statement}
use Rattle.dv_store.specs.Laws.{used}
use Rattle.dv_value.specs.declared.value.Value.{Value}
use Rattle.dv_world.specs.Found.{deferreds_at}
use Rattle.dv_world.specs.World.{World}
use Rattle.dv_world.specs.declared.found.Found.TheVariants.{All, Unbound}
use Rattle.dv_world.specs.declared.found.Found.{Found}

-- 1. How much text is left.

-- what lies in an action: one where a pair is to be added by it, or a body goes on, and what the bodies in it count
abbrev action_within : Action-F ℕ ℕ ℕ → ℕ
action_within (Action-F.Deferred name canceller) = unwrap_or canceller 0
action_within (Action-F.Callback name value) = 0
action_within (Action-F.Errback name class message) = 0
action_within (Action-F.AddCallback name body) = body
action_within (Action-F.AddErrback name body) = body
action_within (Action-F.AddBoth name body) = body
action_within (Action-F.AddCallbacks name on_value on_failure) = on_value + on_failure
action_within (Action-F.Chain name next) = 0
action_within (Action-F.Pause name) = 0
action_within (Action-F.Unpause name) = 0
action_within (Action-F.Cancel name) = 0
action_within (Action-F.AddTimeout name delay body) = 1 + unwrap_or body 0
action_within (Action-F.Note text) = 0
action_within (Action-F.List name children flags) = 1
action_within (Action-F.Gather name children flags) = 1
action_within (Action-F.Maybe name body) = 1 + body
action_within (Action-F.Lock name) = 0
action_within (Action-F.Semaphore name tokens) = 0
action_within (Action-F.Acquire name lock) = 0
action_within (Action-F.Release lock) = 0
action_within (Action-F.RunWith name lock body) = body
action_within (Action-F.Queue name size backlog) = 0
action_within (Action-F.Put queue value) = 0
action_within (Action-F.Get name queue) = 0
action_within (Action-F.Later name delay body) = body
action_within (Action-F.CancelCall name) = 0
action_within (Action-F.ResetCall name delay) = 0
action_within (Action-F.DelayCall name delay) = 0
action_within (Action-F.Loop name deferred interval at_once body bodies) = 1 + body + total bodies
action_within (Action-F.StopLoop name) = 0
action_within (Action-F.Units units) = 0
action_within (Action-F.Cooperate name bodies) = total bodies
action_within (Action-F.CooperateIn name of bodies) = 1 + total bodies
action_within (Action-F.UnitsIn name units) = 0
action_within (Action-F.StopCooperator name) = 2
action_within (Action-F.WhenDone name task) = 0
action_within (Action-F.PauseTask name) = 0
action_within (Action-F.StopTask name) = 1
action_within (Action-F.ResumeTask name) = 1
action_within (Action-F.Inline name statements) = 2 + total statements
action_within (Action-F.Thread name delay work) = 0
action_within (Action-F.ThreadIn name pool delay work) = 0

-- an action counts one, and what lies in it
abbrev action_step : Action-F ℕ ℕ ℕ → ℕ
action_step action = 1 + action_within action

-- so does a statement
abbrev statement_step : Statement-F ℕ ℕ ℕ → ℕ
statement_step (Statement-F.Do action) = 1 + action
statement_step (Statement-F.Await name) = 2
statement_step (Statement-F.Try first classes second) = 3 + total first + total second
statement_step (Statement-F.Finally first second) = 3 + total first + total second
statement_step Statement-F.Raise = 1
statement_step Statement-F.Caught = 1
statement_step (Statement-F.End end) = 1

-- a body counts one, and what its actions count
abbrev body_step : Body-F ℕ ℕ ℕ → ℕ
body_step body = 1 + total body.actions

-- how much text an action is, and a body, and several actions
abbrev pub action_size : Action → ℕ
action_size = fold-Action ℕ ℕ ℕ action_step statement_step body_step

abbrev pub body_size : Body → ℕ
body_size = fold-Body ℕ ℕ ℕ action_step statement_step body_step

abbrev pub actions_size : List Action → ℕ
actions_size actions = total (map action_size actions)

-- how much text a statement is, and several statements
abbrev pub statement_size : Statement → ℕ
statement_size = fold-Statement ℕ ℕ ℕ action_step statement_step body_step

abbrev pub statements_size : List Statement → ℕ
statements_size statements = total (map statement_size statements)

-- the same by one layer of it
abbrev pub layer_size : Statement-F Action Statement Body → ℕ
layer_size e = statement_step (map-Statement Action Statement Body ℕ ℕ ℕ action_size statement_size body_size e)

pub statement_size_out : (s : Statement) → statement_size s ≡ layer_size (out-Statement s)
statement_size_out = fold_out-Statement ℕ ℕ ℕ action_step statement_step body_step

pub body_size_out : (body : Body) → body_size body ≡ 1 + actions_size (out-Body body).actions
body_size_out = fold_out-Body ℕ ℕ ℕ action_step statement_step body_step

-- how much an action begins at once, of text and of pairs
abbrev pub begun_size : Action-F Action Statement Body → ℕ
begun_size x = action_within (map-Action Action Statement Body ℕ ℕ ℕ action_size statement_size body_size x)

-- an action is more text than what it begins at once
pub begun_fits : (action : Action) → begun_size (out-Action action) < action_size action
begun_fits action = omega (arith, fold_out-Action ℕ ℕ ℕ action_step statement_step body_step action)

-- what the tries and finallys hold that are round an inline body
abbrev pub inside_size : Inside → ℕ
inside_size (inside.Try catch) = 1 + statements_size catch.second
inside_size (inside.Caught failure) = 0
inside_size (inside.Finally second) = 1 + statements_size second
inside_size (inside.Ending how) = 0

abbrev pub opens_size : List Open → ℕ
opens_size [] = 0
opens_size (around ∷ opens) = 1 + inside_size around.inside + statements_size around.rest + opens_size opens

-- what is left of a body that isn't over
abbrev pub text_by : Option Value → Position → ℕ
text_by None p = 1 + statements_size p.statements + opens_size p.opens
text_by (Some result) p = 0

abbrev pub text_of : Position → ℕ
text_of p = text_by p.result p

-- the same where it waits for an answer; one that requests nothing only takes a turn more
abbrev pub waiting_by : Option Request → Position → ℕ
waiting_by None p = 2 + text_of p
waiting_by (Some request) p = text_of p

abbrev pub waiting_text : Position → ℕ
waiting_text p = waiting_by (request_at p) p

-- 2. How much is left of a frame.

-- of an inline body
abbrev pub inline_rank : Inlining → ℕ
inline_rank (Goes i p) = 1 + text_of p
inline_rank (Acted i p) = waiting_text p
inline_rank (Awaited i e p) = waiting_text p

-- of each frame
abbrev pub rank : Frame → ℕ
rank (frame.Settle d) = 0
rank (frame.Place d) = 1
rank (frame.Rest rest) = 1 + actions_size rest.actions
rank (frame.Canceller d) = 1
rank (frame.Maybe purpose) = 2
rank (frame.Add d pair) = 1
rank (frame.Cancel d) = 0
rank (frame.Give given) = 0
rank (frame.Notify d t) = 1
rank (frame.Stepped t) = 2
rank (frame.Halt t) = 2
rank (frame.Tick k units) = 0
rank frame.Tell = 0
rank frame.Due = 0
rank (frame.Inline inlining) = inline_rank inlining

-- so it is with each frame
abbrev pub Each : (Frame → Type 0) → List Frame → Type 0
Each P [] = Unit {0}
Each P (f ∷ fs) = P f × Each P fs

abbrev pub Lighter : ℕ → List Frame → Type 0
Lighter m fs = Each (λ f. rank f < m) fs

-- 3. What a question's answer pays, and what is known of it.

abbrev pub one_if_some : {A : Type 0} → Option A → ℕ
one_if_some None = 0
one_if_some (Some a) = 1

abbrev pub paid_by : (question : Question) → Reply question → ℕ
paid_by (BeginBody declared) a = one_if_some a
paid_by (Cancel d) a = reaches a
paid_by (PutInto k v) a = 0
paid_by (GetFrom k d) a = 0
paid_by (ChildFired l i v) a = 0
paid_by (CancelCall number) a = 0
paid_by (ResetCall number from delay) a = 0
paid_by (TakeStep k) a = one_if_some a
paid_by (EndTask t end) a = 0
paid_by (ResumeInline i v) a = 0
paid_by (EndAwait i e p) a = 0
paid_by TakeDue a = one_if_some a
paid_by (Moves d) a = used a

-- the body that goes on after its pair was added is the one that was to await
abbrev pub IsSame : Position → Option (Position × Value) → Type 0
IsSame p None = Unit {0}
IsSame p (Some came) = came.0 ≡ p

abbrev pub Known : (question : Question) → Reply question → Type 0
Known (BeginBody declared) a = Unit {0}
Known (Cancel d) a = Unit {0}
Known (PutInto k v) a = Unit {0}
Known (GetFrom k d) a = Unit {0}
Known (ChildFired l i v) a = Unit {0}
Known (CancelCall number) a = Unit {0}
Known (ResetCall number from delay) a = Unit {0}
Known (TakeStep k) a = Unit {0}
Known (EndTask t end) a = Unit {0}
Known (ResumeInline i v) a = Unit {0}
Known (EndAwait i e p) a = IsSame p a
Known TakeDue a = Unit {0}
Known (Moves d) a = Unit {0}

-- 4. That a rule leaves lighter frames.

pub data Or (A B : Type 0) : Type 0 where
  Pays : A → Or A B
  Light : B → Or A B

-- a rule leaves frames that are lighter than this, unless an answer pays for whatever follows
abbrev pub Within : ℕ → Rule → Type 0
Within m (Ends p) = Unit {0}
Within m (By rule) = (w : World) → Within m (rule w)
Within m (If b one other) = Within m one × Within m other
Within m (Finds {A} o none some) = Within m none × ((a : A) → o ≡ Some a → Within m (some a))
Within m (Then step rule) = Within m rule
Within m (Asks question rule) =
    (a : Reply question) → Known question a → Or (1 ≤ paid_by question a) (Within m (rule a))
Within m (Fires d v) = 0 < m
Within m (Unpauses d) = 0 < m
Within m (Over rule frames) = Within m rule × Lighter m frames

-- 5. The page: each rule that an action leads to is as light as it is to be. Its names, tests and steps are one
-- pattern.

bound : (m : ℕ) (o : Option ℕ) (name : List ℕ) (r : ℕ → Rule) → ((d : ℕ) → Within m (r d))
    → Within m (words.with_bound o name r)
bound m o name r h = (tt, λ d e. h d)

all_bound : (m : ℕ) (o : Found) (r : List ℕ → Rule) → ((ds : List ℕ) → Within m (r ds)) → Within m (words.on_found o r)
all_bound m (All ds) r h = h ds
all_bound m (Unbound name) r h = tt

cancel_reached : (m d : ℕ) (r : Reached) → Or (1 ≤ paid_by (Cancel d) r) (Within m (page.cancel_reached r))
cancel_reached m d reached.Nothing = Light tt
cancel_reached m d (reached.Fire e) = Pays (omega arith)
cancel_reached m d (reached.Run e body) = Pays (omega arith)
cancel_reached m d (reached.ForToken e l) = Pays (omega arith)
cancel_reached m d (reached.ForItem e k) = Pays (omega arith)
cancel_reached m d (reached.Children children) = Pays (omega arith)
cancel_reached m d (reached.Inline i) = Pays (omega arith)

pub cancel : (m d : ℕ) → Within m (page.cancel d)
cancel m d = λ r k. cancel_reached m d r

acquire : (m : ℕ) (name : List ℕ) (l : ℕ) → 0 < m → Within m (page.acquire name l)
acquire m name l q = λ w v. (tt, λ s e. (tt, λ d k. q))

release : (m l : ℕ) → 0 < m → Within m (page.release l)
release m l q = λ w. (tt, λ s e. (tt, (tt, λ d k. q)))

put_in : (m k : ℕ) (v : Value) → 0 < m → Within m (page.put_in k v)
put_in m k v q = λ w. (tt, λ s e. (tt, λ a known. Light (tt, λ given k. q)))

get_out : (m : ℕ) (name : List ℕ) (k : ℕ) → 0 < m → Within m (page.get_out name k)
get_out m name k q = λ w u. (tt, λ s e. (tt, λ a known. Light (tt, λ v j. q)))

add_children : (m l d i : ℕ) (cs : List ℕ) → 1 < m → Lighter m (page.add_children l d i cs)
add_children m l d i [] q = tt
add_children m l d i (c ∷ cs) q = (q, add_children m l d (1 + i) cs q)

list : (m : ℕ) (name children : List ℕ) (flags : Flags) → 1 < m → Within m (page.list name children flags)
list m name children flags q = λ w v. ((omega (arith, q), tt), add_children m _ _ 0 children q)

add_timeout : (m d delay : ℕ) (body : Option Body) → 1 < m → Within m (page.add_timeout d delay body)
add_timeout m d delay body q = λ w. ((tt, (omega (arith, q), tt)), (q, tt))

turn : (m l : ℕ) (body : Body) → 1 + body_size body < m → Within m (page.turn l body)
turn m l body q = (tt, (omega (arith, q, body_size_out body), (omega (arith, q, body_size_out body), tt)))

stop_loop : (m l : ℕ) → 0 < m → Within m (page.stop_loop l)
stop_loop m l q = λ w. (tt, λ x e. λ v. (tt, (q, tt)))

pub notify : (m d t : ℕ) → 0 < m → Within m (page.notify d t)
notify m d t q = λ w. (tt, λ x e. (tt, λ end k. q))

notify_all : (m t : ℕ) (ds : List ℕ) → 1 < m → Lighter m (page.notify_all t ds)
notify_all m t [] q = tt
notify_all m t (d ∷ ds) q = (q, (omega (arith, q), notify_all m t ds q))

pub end_task : (m t : ℕ) (end : TaskEnd) → 1 < m → Within m (page.end_task t end)
end_task m t end q = λ w. (tt, λ x e. λ ds known. Light (tt, notify_all m t ds q))

pub halt_task : (m t : ℕ) → 1 < m → Within m (page.halt_task t)
halt_task m t q = λ w. (tt, λ x e. (end_task m t Halted q, tt))

joined_in : (m k t : ℕ) → 1 < m → Within m (page.joined_in k t)
joined_in m k t q = λ w. (tt, λ c e. (halt_task m t q, tt))

halt_all : (m : ℕ) (ts : List ℕ) → 2 < m → Lighter m (page.halt_all ts)
halt_all m [] q = tt
halt_all m (t ∷ ts) q = (q, halt_all m ts q)

-- actions
pub carry_out : (m : ℕ) (itself : Option ℕ) (action : Action-F Action Statement Body) → begun_size action < m
    → Within m (page.carry_out itself action)
carry_out m itself (Action-F.Note text) q = tt
carry_out m itself (Action-F.Deferred name canceller) q = tt
carry_out m itself (Action-F.Callback name value) q = λ w. (tt, λ d e. omega (arith, q))
carry_out m itself (Action-F.Errback name class message) q = λ w. (tt, λ d e. omega (arith, q))
carry_out m itself (Action-F.AddCallback name body) q = λ w. (tt, λ d e. (tt, (omega (arith, q), tt)))
carry_out m itself (Action-F.AddErrback name body) q = λ w. (tt, λ d e. (tt, (omega (arith, q), tt)))
carry_out m itself (Action-F.AddBoth name body) q = λ w. (tt, λ d e. (tt, (omega (arith, q), tt)))
carry_out m itself (Action-F.AddCallbacks name on_value on_failure) q = λ w. (tt, λ d e. (tt, (omega (arith, q), tt)))
carry_out m itself (Action-F.Chain name after) q = λ w. (tt, λ d e. λ v. (tt, λ c k. (tt, (omega (arith, q), tt))))
carry_out m itself (Action-F.Pause name) q = λ w. (tt, λ d e. tt)
carry_out m itself (Action-F.Unpause name) q = λ w. (tt, λ d e. omega (arith, q))
carry_out m itself (Action-F.Cancel name) q = λ w. (tt, λ d e. cancel m d)
carry_out m itself (Action-F.AddTimeout name delay body) q =
    λ w. (tt, λ d e. add_timeout m d delay body (omega (arith, q)))
carry_out m itself (Action-F.Lock name) q = tt
carry_out m itself (Action-F.Semaphore name tokens) q = tt
carry_out m itself (Action-F.Acquire name lock) q = λ w. (tt, λ l e. acquire m name l (omega (arith, q)))
carry_out m itself (Action-F.RunWith name lock body) q = λ w. (
  tt,
  λ l e. λ v. (acquire m name l (omega (arith, q, body_size_out body)), (omega (arith, q, body_size_out body), tt)),
)
carry_out m itself (Action-F.Release lock) q = λ w. (tt, λ l e. release m l (omega (arith, q)))
carry_out m itself (Action-F.Maybe name body) q =
    (tt, (omega (arith, q, body_size_out body), (omega (arith, q, body_size_out body), tt)))
carry_out m itself (Action-F.Queue name size backlog) q = tt
carry_out m itself (Action-F.Put queue value) q = λ w. (tt, λ k e. put_in m k value (omega (arith, q)))
carry_out m itself (Action-F.Get name queue) q = λ w. (tt, λ k e. get_out m name k (omega (arith, q)))
carry_out m itself (Action-F.List name children flags) q =
    λ w. all_bound m (deferreds_at itself children w) _ (λ ds. list m name ds (list_flags flags) (omega (arith, q)))
carry_out m itself (Action-F.Gather name children flags) q =
    λ w. all_bound m (deferreds_at itself children w) _
    (λ ds. λ v. (list m name ds (gather_flags flags) (omega (arith, q)), (omega (arith, q), tt)))
carry_out m itself (Action-F.Later name delay body) q = tt
carry_out m itself (Action-F.CancelCall name) q = λ w. (tt, λ number e. λ a known. Light tt)
carry_out m itself (Action-F.ResetCall name delay) q = λ w. (tt, λ number e. λ a known. Light tt)
carry_out m itself (Action-F.DelayCall name delay) q = λ w. (tt, λ number e. λ a known. Light tt)
carry_out m itself (Action-F.Loop name of interval at_once body bodies) q =
    λ w v. (turn m 0 body (omega (arith, q)), tt)
carry_out m itself (Action-F.StopLoop name) q = λ w. (tt, λ l e. stop_loop m l (omega (arith, q)))
carry_out m itself (Action-F.Units units) q = tt
carry_out m itself (Action-F.Cooperate name bodies) q = tt
carry_out m itself (Action-F.CooperateIn name of bodies) q =
    λ w. (tt, λ k e. λ v. joined_in m k _ (omega (arith, q)))
carry_out m itself (Action-F.UnitsIn name units) q = λ w. (tt, λ k e. tt)
carry_out m itself (Action-F.StopCooperator name) q =
    λ w. (tt, λ k e. λ v. (tt, λ c j. (tt, halt_all m c.turns.tasks (omega (arith, q)))))
carry_out m itself (Action-F.WhenDone name task) q = λ w. (tt, λ t e. λ v. notify m 0 t (omega (arith, q)))
carry_out m itself (Action-F.PauseTask name) q = λ w. (tt, λ t e. λ v. (tt, λ x k. (tt, λ end j. tt)))
carry_out m itself (Action-F.StopTask name) q =
    λ w. (tt, λ t e. λ v. (tt, λ x k. (end_task m t Stopped (omega (arith, q)), λ end j. tt)))
carry_out m itself (Action-F.ResumeTask name) q =
    λ w. (tt, λ t e. λ v. (tt, λ x k. (tt, (joined_in m x.of t (omega (arith, q)), tt))))
carry_out m itself (Action-F.Inline name statements) q = λ u w v. (tt, (omega (arith, q), tt))
carry_out m itself (Action-F.Thread name delay work) q = λ w v. (tt, λ u. tt)
carry_out m itself (Action-F.ThreadIn name pool delay work) q = λ w v. (tt, λ u. tt)
