-- The grammar of scripts: which JSON stands for what, a rule a line (Twisted: the methods of `Deferred`, and of the
-- objects round it).
use Rattle.std.specs.Prelude.{◌≡◌, ℕ, zero, suc, nat_eq, nat_lt, if◌then◌else◌, ℤ, Bool, true, List, [], ◌∷◌, ◌++◌}
use Rattle.std.specs.Prelude.{Option, Some, None, codes}
use Rattle.std.specs.Prelude.{◌&&◌, min, max, nat_le}
use Rattle.serde_json.specs.Data.{Data, null, boolean, string, array, object, Items, no_items, item, Members}
use Rattle.serde_json.specs.Find.{get_member}
use Rattle.dv_value.specs.declared.failure.Failure.{Failure}
use Rattle.dv_value.specs.declared.value.Value.{Value, Fault}
use Rattle.dv_value.specs.declared.classes.Class.{Class}
use Rattle.dv_script.specs.declared.body.End.{End}
use Rattle.dv_script.specs.declared.body.End.TheVariants.{Return, Pass, Plus, Raise, Trap, Wait, Run, Throw}
use Rattle.dv_script.specs.declared.body.Body.{Body}
use Rattle.dv_script.specs.declared.body.Statement.{Statement, Do, Await, Try, Finally}
use Rattle.dv_script.specs.declared.body.Statement.{Raise as RaiseAgain, Caught, End as Leave}
use Rattle.dv_script.specs.declared.work.Work.{Work}
use Rattle.dv_script.specs.declared.action.ListFlag.{ListFlag}
use Rattle.dv_script.specs.declared.action.GatherFlag.{GatherFlag}
use Rattle.dv_script.specs.declared.action.Action.{Action, Deferred, Callback, Errback, AddCallback, AddErrback}
use Rattle.dv_script.specs.declared.action.Action.{AddBoth, AddCallbacks, Chain, Pause, Unpause, Cancel, AddTimeout}
use Rattle.dv_script.specs.declared.action.Action.{Note, List as ListOf, Gather, Maybe, Lock, Semaphore, Acquire}
use Rattle.dv_script.specs.declared.action.Action.{Release, RunWith, Queue, Put, Get, Later, CancelCall, ResetCall}
use Rattle.dv_script.specs.declared.action.Action.{DelayCall, Loop, StopLoop}
use Rattle.dv_script.specs.declared.action.Action.{Cooperate, WhenDone, PauseTask, StopTask, ResumeTask, Inline, Thread}
use Rattle.dv_script.specs.declared.action.Action.{ThreadIn, Units, CooperateIn, UnitsIn, StopCooperator}
use Rattle.dv_script.specs.declared.event.Event.{Event}
use Rattle.dv_value.specs.declared.expected.Expected.{Expected}
use Rattle.dv_value.specs.declared.expected.Expected.TheVariants as expected
use Rattle.dv_script.specs.declared.script.Cooperator.{Cooperator}
use Rattle.dv_script.specs.declared.script.NamedBody.{NamedBody}
use Rattle.dv_script.specs.declared.script.NamedCooperator.{NamedCooperator}
use Rattle.dv_script.specs.declared.script.NamedPool.{NamedPool}
use Rattle.dv_script.specs.declared.limits.TheConstants.{MOST_DRAINED, MOST_PLACE, MOST_PLACES, MOST_SUM, MOST_UNITS}
use Rattle.dv_script.specs.declared.limits.TheConstants.{MOST_WORKERS, USUAL_LIMIT}
use Rattle.dv_clock.specs.declared.limits.TheConstants.{MOST_DELAY, MOST_TICKS}
use Rattle.dv_forms.specs.declared.declaration.Declaration.{Declaration}
use Rattle.dv_forms.specs.declared.versions.TheConstants.{BODIES_SINCE, COOPERATORS_SINCE, ENDS_THROW_SINCE}
use Rattle.dv_forms.specs.declared.versions.TheConstants.{LAST_VERSION}
use Rattle.dv_forms.specs.declared.versions.TheConstants.{RULES_SINCE}
use Rattle.dv_script.specs.declared.turn_rule.TurnRule.{TurnRule}
use Rattle.dv_script.specs.declared.turn_rule.TurnRule.TheVariants as turn_rule
use Rattle.dv_grammar.specs.declared.draft.Draft.{Draft}
use Rattle.dv_forms.specs.Leaving.{may_leave}
use Rattle.dv_forms.specs.Forms.{call, IsList, Field, Key, is_keyed_by, IsText, IsInteger, IsNumber, IsClass, IsValue}
use Rattle.dv_forms.specs.Forms.{IsFailure}
use Rattle.dv_forms.specs.Limits.{most_limit}
use Rattle.dv_forms.specs.declared.limits.TheConstants.{MOST_TIMES}
use Rattle.dv_forms.specs.Table.{table_of, all_declared}
use Rattle.std.specs.List.{list_all}
use Rattle.dv_script.specs.declared.action.Action.TheFolds.{fold-Action, fold-Body, fold-Statement}
use Rattle.dv_script.specs.declared.action.Action.TheOpen.{Action-F, Body-F, Statement-F}
use Rattle.dv_script.specs.declared.work.Work.TheVariants as work
use Rattle.dv_script.specs.declared.action.ListFlag.TheVariants as flag
use Rattle.dv_script.specs.declared.action.GatherFlag.TheVariants as gather_flag
use Rattle.dv_script.specs.declared.event.Event.TheVariants as event

-- the keys of a body, besides that of a comment
abbrev pub body_keys : List (List ℕ)
body_keys = codes "do" ∷ codes "end" ∷ []

-- the keys of a cooperator in a script of this version: from the third on there is one more
abbrev pub cooperator_keys : ℕ → List (List ℕ)
cooperator_keys version =
    if nat_lt version RULES_SINCE then codes "units" ∷ codes "delay" ∷ []
    else codes "turns" ∷ codes "units" ∷ codes "delay" ∷ []

-- the keys of a script of version 1
abbrev pub script_keys : List (List ℕ)
script_keys =
    codes "version" ∷ codes "events" ∷ codes "limit" ∷ codes "classes" ∷ codes "cooperator" ∷ codes "callers" ∷ []

-- the keys of a script of this version: from the second on there is one more, and two others from the third on
abbrev pub keys_of : ℕ → List (List ℕ)
keys_of version =
    if nat_eq version 1 then script_keys else
    if nat_lt version BODIES_SINCE then codes "pools" ∷ script_keys
    else codes "cooperators" ∷ codes "bodies" ∷ codes "pools" ∷ script_keys

-- END: how a body gives its result
pub data IsEnd (table : List Class) : Data → End → Type 0 where
  -- ["return",VALUE]
  returns : (d : Data) (v : Value) → IsValue table d v → IsEnd table (call (codes "return") (d ∷ [])) (Return v)
  -- ["pass"]
  passes : IsEnd table (call (codes "pass") []) Pass
  -- ["plus",N]
  adds : (d : Data) (n : ℤ) → IsInteger d n → IsEnd table (call (codes "plus") (d ∷ [])) (Plus n)
  -- ["raise",CLASS,TEXT]
  raises : (c : Data) (class : ℕ) (text : List ℕ) → IsClass table c class
      → IsEnd table (call (codes "raise") (c ∷ string text ∷ [])) (Raise class text)
  -- ["trap",[CLASS..],VALUE]
  traps : (c : Data) (classes : List ℕ) (d : Data) (v : Value) → IsList (IsClass table) c classes → IsValue table d v
      → IsEnd table (call (codes "trap") (c ∷ d ∷ [])) (Trap classes v)
  -- ["wait",D]
  waits : (name : List ℕ) → IsEnd table (call (codes "wait") (string name ∷ [])) (Wait name)
  -- ["run",NAME]
  runs : (name : List ℕ) → IsEnd table (call (codes "run") (string name ∷ [])) (Run name)
  -- ["throw",[I..]]
  throws : (d : Data) (path : List ℕ) → IsList (IsNumber 0 MOST_PLACE) d path
      → IsEnd table (call (codes "throw") (d ∷ [])) (Throw path)

-- WORK: what a thread does
pub data IsWork (table : List Class) : Data → Work → Type 0 where
  -- ["value",VALUE]
  gives : (d : Data) (v : Value) → IsValue table d v → IsWork table (call (codes "value") (d ∷ [])) (work.Value v)
  -- ["raise",CLASS,TEXT]
  fails : (c : Data) (class : ℕ) (text : List ℕ) → IsClass table c class
      → IsWork table (call (codes "raise") (c ∷ string text ∷ [])) (work.Raise class text)
  -- ["sum",N]
  sums : (d : Data) (n : ℕ) → IsNumber 0 MOST_SUM d n → IsWork table (call (codes "sum") (d ∷ [])) (work.Sum n)

-- OUTCOME: what is expected of a Deferred
pub data IsOutcome (table : List Class) : Data → Expected → Type 0 where
  -- ["unfired"]
  is_unfired : IsOutcome table (call (codes "unfired") []) expected.Unfired
  -- ["waiting"]
  is_waiting : IsOutcome table (call (codes "waiting") []) expected.Waiting
  -- ["ok",VALUE]
  is_ok : (d : Data) (v : Value) → IsValue table d v → IsOutcome table (call (codes "ok") (d ∷ [])) (expected.Fired v)
  -- ["fail",FAILURE]
  is_failed : (d : Data) (f : Failure) → IsFailure table d f
      → IsOutcome table (call (codes "fail") (d ∷ [])) (expected.Fired (Fault f))

-- FLAG of a list
pub data IsListFlag : Data → ListFlag → Type 0 where
  fires_on_callback : IsListFlag (string (codes "fireOnOneCallback")) flag.FireOnOneCallback
  fires_on_errback : IsListFlag (string (codes "fireOnOneErrback")) flag.FireOnOneErrback
  consumes_errors : IsListFlag (string (codes "consumeErrors")) flag.ConsumeErrors

-- FLAG of what is gathered
pub data IsGatherFlag : Data → GatherFlag → Type 0 where
  gathers_errors : IsGatherFlag (string (codes "consumeErrors")) gather_flag.ConsumeErrors

-- the rule of the turns of a Cooperator
pub data IsTurnRule : Data → TurnRule → Type 0 where
  fair_turns : IsTurnRule (string (codes "fair")) turn_rule.Fair
  twisted_turns : IsTurnRule (string (codes "twisted")) turn_rule.Twisted

-- SIZE and BACKLOG of a queue
pub data IsBound : Data → Option ℕ → Type 0 where
  -- null
  no_bound : IsBound null None
  -- 0 to 65,536
  a_bound : (d : Data) (n : ℕ) → IsNumber 0 MOST_PLACES d n → IsBound d (Some n)

-- a body that has another run in its place
abbrev pub running : List ℕ → Body
running name = record { actions = []; end = Run name }

mutual
  -- ACTION: what a script does
  pub data IsAction (table : List Class) : Data → Action → Type 0 where
    -- ["deferred",D]
    deferred : (name : List ℕ) → IsAction table (call (codes "deferred") (string name ∷ [])) (Deferred name None)
    -- ["deferred",D,BODY]
    deferred_with : (name : List ℕ) (d : Data) (canceller : Body) → IsBody table d canceller
        → IsAction table (call (codes "deferred") (string name ∷ d ∷ [])) (Deferred name (Some canceller))
    -- ["callback",D,VALUE]
    callback : (name : List ℕ) (d : Data) (v : Value) → IsValue table d v
        → IsAction table (call (codes "callback") (string name ∷ d ∷ [])) (Callback name v)
    -- ["errback",D,CLASS,TEXT]
    errback : (name : List ℕ) (c : Data) (class : ℕ) (text : List ℕ) → IsClass table c class
        → IsAction table (call (codes "errback") (string name ∷ c ∷ string text ∷ [])) (Errback name class text)
    -- ["addCallback",D,BODY]
    add_callback : (name : List ℕ) (d : Data) (side : Body) → IsBody table d side
        → IsAction table (call (codes "addCallback") (string name ∷ d ∷ [])) (AddCallback name side)
    -- ["addErrback",D,BODY]
    add_errback : (name : List ℕ) (d : Data) (side : Body) → IsBody table d side
        → IsAction table (call (codes "addErrback") (string name ∷ d ∷ [])) (AddErrback name side)
    -- ["addBoth",D,BODY]
    add_both : (name : List ℕ) (d : Data) (side : Body) → IsBody table d side
        → IsAction table (call (codes "addBoth") (string name ∷ d ∷ [])) (AddBoth name side)
    -- ["addCallbacks",D,BODY,BODY]
    add_callbacks : (name : List ℕ) (c e : Data) (on_value on_failure : Body) → IsBody table c on_value
        → IsBody table e on_failure
        → IsAction table (call (codes "addCallbacks") (string name ∷ c ∷ e ∷ []))
        (AddCallbacks name on_value on_failure)
    -- ["chain",D,E]
    chain : (name other : List ℕ)
        → IsAction table (call (codes "chain") (string name ∷ string other ∷ [])) (Chain name other)
    -- ["pause",D]
    pause : (name : List ℕ) → IsAction table (call (codes "pause") (string name ∷ [])) (Pause name)
    -- ["unpause",D]
    unpause : (name : List ℕ) → IsAction table (call (codes "unpause") (string name ∷ [])) (Unpause name)
    -- ["cancel",D]
    cancel : (name : List ℕ) → IsAction table (call (codes "cancel") (string name ∷ [])) (Cancel name)
    -- ["addTimeout",D,N]
    add_timeout : (name : List ℕ) (d : Data) (delay : ℕ) → IsNumber 0 MOST_DELAY d delay
        → IsAction table (call (codes "addTimeout") (string name ∷ d ∷ [])) (AddTimeout name delay None)
    -- ["addTimeout",D,N,BODY]
    add_timeout_with : (name : List ℕ) (c d : Data) (delay : ℕ) (body : Body) → IsNumber 0 MOST_DELAY c delay
        → IsBody table d body
        → IsAction table (call (codes "addTimeout") (string name ∷ c ∷ d ∷ [])) (AddTimeout name delay (Some body))
    -- ["note",TEXT]
    note : (text : List ℕ) → IsAction table (call (codes "note") (string text ∷ [])) (Note text)
    -- ["list",D,[D..],[FLAG..]]
    list : (name : List ℕ) (c e : Data) (children : List (List ℕ)) (flags : List ListFlag) → IsList IsText c children
        → IsList IsListFlag e flags
        → IsAction table (call (codes "list") (string name ∷ c ∷ e ∷ [])) (ListOf name children flags)
    -- ["gather",D,[D..],[FLAG..]]
    gather : (name : List ℕ) (c e : Data) (children : List (List ℕ)) (flags : List GatherFlag)
        → IsList IsText c children → IsList IsGatherFlag e flags
        → IsAction table (call (codes "gather") (string name ∷ c ∷ e ∷ [])) (Gather name children flags)
    -- ["maybe",D,BODY]
    maybe : (name : List ℕ) (d : Data) (body : Body) → IsBody table d body
        → IsAction table (call (codes "maybe") (string name ∷ d ∷ [])) (Maybe name body)
    -- ["lock",L]
    lock : (name : List ℕ) → IsAction table (call (codes "lock") (string name ∷ [])) (Lock name)
    -- ["semaphore",L,N]
    semaphore : (name : List ℕ) (d : Data) (n : ℕ) → IsNumber 1 MOST_PLACES d n
        → IsAction table (call (codes "semaphore") (string name ∷ d ∷ [])) (Semaphore name n)
    -- ["acquire",D,L]
    acquire : (name lock : List ℕ)
        → IsAction table (call (codes "acquire") (string name ∷ string lock ∷ [])) (Acquire name lock)
    -- ["release",L]
    release : (name : List ℕ) → IsAction table (call (codes "release") (string name ∷ [])) (Release name)
    -- ["runWith",D,L,BODY]
    run_with : (name lock : List ℕ) (d : Data) (body : Body) → IsBody table d body
        → IsAction table (call (codes "runWith") (string name ∷ string lock ∷ d ∷ [])) (RunWith name lock body)
    -- ["queue",Q,SIZE,BACKLOG]
    queue : (name : List ℕ) (c e : Data) (size backlog : Option ℕ) → IsBound c size → IsBound e backlog
        → IsAction table (call (codes "queue") (string name ∷ c ∷ e ∷ [])) (Queue name size backlog)
    -- ["put",Q,VALUE]
    put : (name : List ℕ) (d : Data) (v : Value) → IsValue table d v
        → IsAction table (call (codes "put") (string name ∷ d ∷ [])) (Put name v)
    -- ["get",D,Q]
    get : (name queue : List ℕ) → IsAction table (call (codes "get") (string name ∷ string queue ∷ [])) (Get name queue)
    -- ["later",C,N,BODY]
    later : (name : List ℕ) (c d : Data) (delay : ℕ) (body : Body) → IsNumber 0 MOST_DELAY c delay → IsBody table d body
        → IsAction table (call (codes "later") (string name ∷ c ∷ d ∷ [])) (Later name delay body)
    -- ["cancelCall",C]
    cancel_call : (name : List ℕ) → IsAction table (call (codes "cancelCall") (string name ∷ [])) (CancelCall name)
    -- ["resetCall",C,N]
    reset_call : (name : List ℕ) (d : Data) (delay : ℕ) → IsNumber 0 MOST_DELAY d delay
        → IsAction table (call (codes "resetCall") (string name ∷ d ∷ [])) (ResetCall name delay)
    -- ["delayCall",C,N]
    delay_call : (name : List ℕ) (d : Data) (delay : ℕ) → IsNumber 0 MOST_DELAY d delay
        → IsAction table (call (codes "delayCall") (string name ∷ d ∷ [])) (DelayCall name delay)
    -- ["loop",P,D,N,NOW,BODY]
    loop : (name deferred : List ℕ) (c : Data) (interval : ℕ) (at_once : Bool) (d : Data) (body : Body)
        → IsNumber 1 MOST_DELAY c interval → IsBody table d body
        → IsAction table (call (codes "loop") (string name ∷ string deferred ∷ c ∷ boolean at_once ∷ d ∷ []))
        (Loop name deferred interval at_once body [])
    -- ["loop",P,D,N,NOW,[BODY..]], of one body or more
    loop_of_bodies : (name deferred : List ℕ) (c : Data) (interval : ℕ) (at_once : Bool) (d : Data) (ds : Items)
        (body : Body) (bodies : List Body) → IsNumber 1 MOST_DELAY c interval → IsBody table d body
        → AreBodies table ds bodies
        → IsAction table
        (call (codes "loop") (string name ∷ string deferred ∷ c ∷ boolean at_once ∷ array (item d ds) ∷ []))
        (Loop name deferred interval at_once body bodies)
    -- ["stopLoop",P]
    stop_loop : (name : List ℕ) → IsAction table (call (codes "stopLoop") (string name ∷ [])) (StopLoop name)
    -- ["cooperate",T,[BODY..]]
    cooperate : (name : List ℕ) (ds : Items) (bodies : List Body) → AreBodies table ds bodies
        → IsAction table (call (codes "cooperate") (string name ∷ array ds ∷ [])) (Cooperate name bodies)
    -- ["whenDone",D,T]
    when_done : (name task : List ℕ)
        → IsAction table (call (codes "whenDone") (string name ∷ string task ∷ [])) (WhenDone name task)
    -- ["pauseTask",T]
    pause_task : (name : List ℕ) → IsAction table (call (codes "pauseTask") (string name ∷ [])) (PauseTask name)
    -- ["stopTask",T]
    stop_task : (name : List ℕ) → IsAction table (call (codes "stopTask") (string name ∷ [])) (StopTask name)
    -- ["resumeTask",T]
    resume_task : (name : List ℕ) → IsAction table (call (codes "resumeTask") (string name ∷ [])) (ResumeTask name)
    -- ["inline",D,[STATEMENT..]]
    inline : (name : List ℕ) (ds : Items) (statements : List Statement) → AreStatements table ds statements
        → IsAction table (call (codes "inline") (string name ∷ array ds ∷ [])) (Inline name statements)
    -- ["thread",D,N,WORK]
    thread : (name : List ℕ) (c d : Data) (delay : ℕ) (job : Work) → IsNumber 0 MOST_DELAY c delay → IsWork table d job
        → IsAction table (call (codes "thread") (string name ∷ c ∷ d ∷ [])) (Thread name delay job)
    -- ["threadIn",D,POOL,N,WORK]
    thread_in : (name pool : List ℕ) (c d : Data) (delay : ℕ) (job : Work) → IsNumber 0 MOST_DELAY c delay
        → IsWork table d job
        → IsAction table (call (codes "threadIn") (string name ∷ string pool ∷ c ∷ d ∷ []))
        (ThreadIn name pool delay job)
    -- ["units",N]
    units : (d : Data) (n : ℕ) → IsNumber 1 MOST_UNITS d n
        → IsAction table (call (codes "units") (d ∷ [])) (Units n)
    -- ["cooperateIn",T,W,[BODY..]]
    cooperate_in : (name cooperator : List ℕ) (ds : Items) (bodies : List Body) → AreBodies table ds bodies
        → IsAction table (call (codes "cooperateIn") (string name ∷ string cooperator ∷ array ds ∷ []))
        (CooperateIn name cooperator bodies)
    -- ["unitsIn",W,N]
    units_in : (name : List ℕ) (d : Data) (n : ℕ) → IsNumber 1 MOST_UNITS d n
        → IsAction table (call (codes "unitsIn") (string name ∷ d ∷ [])) (UnitsIn name n)
    -- ["stopCooperator",W]
    stop_cooperator : (name : List ℕ)
        → IsAction table (call (codes "stopCooperator") (string name ∷ [])) (StopCooperator name)

  -- the items of an array of actions
  pub data AreActions (table : List Class) : Items → List Action → Type 0 where
    no_actions : AreActions table no_items []
    more_actions : (d : Data) (ds : Items) (a : Action) (rest : List Action) → IsAction table d a
        → AreActions table ds rest
        → AreActions table (item d ds) (a ∷ rest)

  -- the value of a body's key `do`, which may be absent
  pub data IsDo (table : List Class) : Option Data → List Action → Type 0 where
    does_nothing : IsDo table None []
    does : (ds : Items) (actions : List Action) → AreActions table ds actions → IsDo table (Some (array ds)) actions

  -- BODY: an object of the keys `do` and `end`, without which it performs nothing and passes its input on; as each
  -- object of the language it may have a comment, a text that says nothing. From version 3 on it may be a text, the
  -- name of a body, which runs then
  pub data IsBody (table : List Class) : Data → Body → Type 0 where
    body : (ms : Members) (actions : List Action) (end : End) → is_keyed_by body_keys ms ≡ true
        → IsDo table (get_member (codes "do") ms) actions → Field Pass (IsEnd table) (get_member (codes "end") ms) end
        → IsBody table (object ms) (record { actions = actions; end = end })
    -- NAME
    body_by_name : (name : List ℕ) → IsBody table (string name) (running name)

  -- the items of an array of bodies
  pub data AreBodies (table : List Class) : Items → List Body → Type 0 where
    no_bodies : AreBodies table no_items []
    more_bodies : (d : Data) (ds : Items) (b : Body) (rest : List Body) → IsBody table d b → AreBodies table ds rest
        → AreBodies table (item d ds) (b ∷ rest)

  -- STATEMENT: what an inline body does
  pub data IsStatement (table : List Class) : Data → Statement → Type 0 where
    -- ["do",ACTION]
    performs : (d : Data) (a : Action) → IsAction table d a → IsStatement table (call (codes "do") (d ∷ [])) (Do a)
    -- ["await",D]
    awaits : (name : List ℕ) → IsStatement table (call (codes "await") (string name ∷ [])) (Await name)
    -- ["try",[STATEMENT..],[CLASS..],[STATEMENT..]]
    tries : (ds : Items) (c : Data) (hs : Items) (first : List Statement) (classes : List ℕ) (second : List Statement)
        → AreStatements table ds first → IsList (IsClass table) c classes → AreStatements table hs second
        → IsStatement table (call (codes "try") (array ds ∷ c ∷ array hs ∷ [])) (Try first classes second)
    -- ["finally",[STATEMENT..],[STATEMENT..]]
    finishes : (ds : Items) (hs : Items) (first : List Statement) (second : List Statement)
        → AreStatements table ds first → AreStatements table hs second
        → IsStatement table (call (codes "finally") (array ds ∷ array hs ∷ [])) (Finally first second)
    -- ["raise"]
    raises_again : IsStatement table (call (codes "raise") []) RaiseAgain
    -- ["caught"]
    takes_caught : IsStatement table (call (codes "caught") []) Caught
    -- ["end",END]
    leaves : (d : Data) (end : End) → IsEnd table d end → may_leave end ≡ true
        → IsStatement table (call (codes "end") (d ∷ [])) (Leave end)

  -- the items of an array of statements
  pub data AreStatements (table : List Class) : Items → List Statement → Type 0 where
    no_statements : AreStatements table no_items []
    more_statements : (d : Data) (ds : Items) (s : Statement) (rest : List Statement) → IsStatement table d s
        → AreStatements table ds rest
        → AreStatements table (item d ds) (s ∷ rest)

-- an event: an action, or what happens to the clock or to the posts, or what is expected
pub data IsEvent (table : List Class) : Data → Event → Type 0 where
  acts : (d : Data) (a : Action) → IsAction table d a → IsEvent table d (event.Action a)
  -- ["advance",N]
  advances : (d : Data) (n : ℕ) → IsNumber 0 MOST_TICKS d n
      → IsEvent table (call (codes "advance") (d ∷ [])) (event.Advance n)
  -- ["drain",N]
  drains : (d : Data) (n : ℕ) → IsNumber 0 MOST_DRAINED d n
      → IsEvent table (call (codes "drain") (d ∷ [])) (event.Drain n)
  -- ["expect",D,OUTCOME]
  expects : (name : List ℕ) (d : Data) (x : Expected) → IsOutcome table d x
      → IsEvent table (call (codes "expect") (string name ∷ d ∷ [])) (event.Expect name x)

-- the events, so many times in a row
abbrev pub repeated : ℕ → List Event → List Event
repeated zero es = []
repeated (suc n) es = es ++ repeated n es

mutual
  -- an item of an array of events: one event, or a repeat, which stands for what it repeats, written out
  pub data IsListed (table : List Class) : Data → List Event → Type 0 where
    one_event : (d : Data) (e : Event) → IsEvent table d e → IsListed table d (e ∷ [])
    -- ["repeat",N,[EVENT..]]
    repeats : (d : Data) (n : ℕ) (ds : Items) (es : List Event) → IsNumber 0 MOST_TIMES d n → AreListed table ds es
        → IsListed table (call (codes "repeat") (d ∷ array ds ∷ [])) (repeated n es)

  -- the items of an array of events
  pub data AreListed (table : List Class) : Items → List Event → Type 0 where
    no_events : AreListed table no_items []
    more_events : (d : Data) (ds : Items) (es rest : List Event) → IsListed table d es → AreListed table ds rest
        → AreListed table (item d ds) (es ++ rest)

-- an array of events
abbrev pub AreEvents : List Class → Data → List Event → Type 0
AreEvents table d es = (ds : Items) × (d ≡ array ds) × AreListed table ds es

-- a class that is declared: [NAME,PARENT]
pub data IsDeclaration : Data → Declaration → Type 0 where
  declares : (name parent : List ℕ) → IsDeclaration (array (item (string name) (item (string parent) no_items)))
      (record { name = name; parent = parent })

-- a pool: [NAME,WORKERS]
pub data IsPool : Data → NamedPool → Type 0 where
  pools : (name : List ℕ) (d : Data) (workers : ℕ) → IsNumber 0 MOST_WORKERS d workers
      → IsPool (array (item (string name) (item d no_items))) (record { name = name; workers = workers })

-- a body that is named: [NAME,BODY]
pub data IsNamedBody (table : List Class) : Data → NamedBody → Type 0 where
  names_body : (name : List ℕ) (d : Data) (b : Body) → IsBody table d b
      → IsNamedBody table (array (item (string name) (item d no_items))) (record { name = name; body = b })

-- the usual rule of the turns of a Cooperator, by the version of the script
abbrev pub usual_turns : ℕ → TurnRule
usual_turns version = if nat_lt version RULES_SINCE then turn_rule.Earlier else turn_rule.Fair

-- an object of the keys of a cooperator, of which `units` and `delay` have to be there
pub record IsCooperator (version : ℕ) (d : Data) (c : Cooperator) : Type 0 where
  pub members : Members
  pub whole : d ≡ object members
  pub only : is_keyed_by (cooperator_keys version) members ≡ true
  pub units : Key (IsNumber 1 MOST_UNITS) (get_member (codes "units") members) c.units
  pub delay : Key (IsNumber 1 MOST_DELAY) (get_member (codes "delay") members) c.delay
  pub turns : Field (usual_turns version) IsTurnRule (get_member (codes "turns") members) c.turns

-- a Cooperator that is named: [NAME,COOPERATOR]
pub data IsNamedCooperator : Data → NamedCooperator → Type 0 where
  names_cooperator : (name : List ℕ) (d : Data) (c : Cooperator) → IsCooperator COOPERATORS_SINCE d c
      → IsNamedCooperator (array (item (string name) (item d no_items))) (record { name = name; settings = c })

-- one step a tick, a tick of the cooperator each tick of the clock
abbrev pub plain_cooperator : ℕ → Cooperator
plain_cooperator version = record { units = 1; delay = 1; turns = usual_turns version }

-- a script by its shape, with its version and the classes that it declares: an object of the keys of its version, of
-- which `version` and `events` have to be there
pub record IsScript (d : Data) (draft : Draft) : Type 0 where
  pub members : Members
  pub whole : d ≡ object members
  pub version : Key (IsNumber 1 LAST_VERSION) (get_member (codes "version") members) draft.version
  pub only : is_keyed_by (keys_of draft.version) members ≡ true
  pub declared : Field [] (IsList IsDeclaration) (get_member (codes "classes") members) draft.declared
  pub all_declared : draft.all_declared ≡ all_declared draft.version draft.declared
  pub table : draft.script.classes ≡ table_of draft.version draft.declared
  pub ends_throw : draft.script.ends_throw ≡ nat_le ENDS_THROW_SINCE draft.version
  pub limit : Field USUAL_LIMIT (IsNumber 0 (most_limit draft.version))
      (get_member (codes "limit") members) draft.script.limit
  pub cooperator : Field (plain_cooperator draft.version) (IsCooperator draft.version)
      (get_member (codes "cooperator") members) draft.script.cooperator
  pub cooperators : Field [] (IsList IsNamedCooperator)
      (get_member (codes "cooperators") members) draft.script.cooperators
  pub pools : Field [] (IsList IsPool) (get_member (codes "pools") members) draft.script.pools
  pub bodies : Field [] (IsList (IsNamedBody draft.script.classes))
      (get_member (codes "bodies") members) draft.script.bodies
  pub callers : Field [] (IsList (IsList (IsBody draft.script.classes)))
      (get_member (codes "callers") members) draft.script.callers
  pub events : Key (AreEvents draft.script.classes) (get_member (codes "events") members) draft.script.events

-- ---- times: the steps of the world cut a delay or an interval that is too long. None that stands in the grammar is.

-- of a body that may be absent
abbrev pub or_absent : Option Bool → Bool
or_absent None = true
or_absent (Some b) = b

-- cut, a delay is what it was
abbrev pub is_delay : ℕ → Bool
is_delay delay = nat_eq (min delay MOST_DELAY) delay

-- and an interval is
abbrev pub is_interval : ℕ → Bool
is_interval interval = nat_eq (max 1 (min interval MOST_DELAY)) interval

-- each time of an action is, by what is found of its bodies and statements
abbrev pub action_step : Action-F Bool Bool Bool → Bool
action_step (Action-F.Deferred name canceller) = or_absent canceller
action_step (Action-F.Callback name v) = true
action_step (Action-F.Errback name class text) = true
action_step (Action-F.AddCallback name side) = side
action_step (Action-F.AddErrback name side) = side
action_step (Action-F.AddBoth name side) = side
action_step (Action-F.AddCallbacks name on_value on_failure) = on_value && on_failure
action_step (Action-F.Chain name other) = true
action_step (Action-F.Pause name) = true
action_step (Action-F.Unpause name) = true
action_step (Action-F.Cancel name) = true
action_step (Action-F.AddTimeout name delay b) = is_delay delay && or_absent b
action_step (Action-F.Note text) = true
action_step (Action-F.List name children flags) = true
action_step (Action-F.Gather name children flags) = true
action_step (Action-F.Maybe name b) = b
action_step (Action-F.Lock name) = true
action_step (Action-F.Semaphore name n) = true
action_step (Action-F.Acquire name other) = true
action_step (Action-F.Release name) = true
action_step (Action-F.RunWith name other b) = b
action_step (Action-F.Queue name size backlog) = true
action_step (Action-F.Put name v) = true
action_step (Action-F.Get name other) = true
action_step (Action-F.Later name delay b) = is_delay delay && b
action_step (Action-F.CancelCall name) = true
action_step (Action-F.ResetCall name delay) = is_delay delay
action_step (Action-F.DelayCall name delay) = is_delay delay
action_step (Action-F.Loop name other interval at_once b bodies) =
    is_interval interval && (b && list_all (λ x. x) bodies)
action_step (Action-F.StopLoop name) = true
action_step (Action-F.Cooperate name bodies) = list_all (λ b. b) bodies
action_step (Action-F.WhenDone name task) = true
action_step (Action-F.PauseTask name) = true
action_step (Action-F.StopTask name) = true
action_step (Action-F.ResumeTask name) = true
action_step (Action-F.Inline name statements) = list_all (λ b. b) statements
action_step (Action-F.Thread name delay job) = is_delay delay
action_step (Action-F.ThreadIn name pool delay job) = is_delay delay
action_step (Action-F.Units n) = true
action_step (Action-F.CooperateIn name cooperator bodies) = list_all (λ b. b) bodies
action_step (Action-F.UnitsIn name n) = true
action_step (Action-F.StopCooperator name) = true

-- of a statement
abbrev pub statement_step : Statement-F Bool Bool Bool → Bool
statement_step (Statement-F.Do action) = action
statement_step (Statement-F.Await name) = true
statement_step (Statement-F.Try first classes second) = list_all (λ b. b) first && list_all (λ b. b) second
statement_step (Statement-F.Finally first second) = list_all (λ b. b) first && list_all (λ b. b) second
statement_step Statement-F.Raise = true
statement_step Statement-F.Caught = true
statement_step (Statement-F.End end) = true

-- of a body
abbrev pub body_step : Body-F Bool Bool Bool → Bool
body_step b = list_all (λ b. b) b.actions

-- each time of the action
abbrev pub times_action : Action → Bool
times_action = fold-Action Bool Bool Bool action_step statement_step body_step

-- of the statement
abbrev pub times_statement : Statement → Bool
times_statement = fold-Statement Bool Bool Bool action_step statement_step body_step

-- of the body
abbrev pub times_body : Body → Bool
times_body = fold-Body Bool Bool Bool action_step statement_step body_step
