-- What a JSON value reads as by its shape, step by step: the reader that the code follows.
use Rattle.std.specs.Prelude.{ℕ, zero, suc, Bool, true, List, [], ◌∷◌, Option, Some, None, option_and_then, option_map}
use Rattle.std.specs.Prelude.{if◌then◌else◌, codes, nat_le}
use Rattle.serde_json.specs.Data.{Data, Items, no_items, item}
use Rattle.serde_json.specs.Find.{as_array, as_bool, as_str, get}
use Rattle.serde_json.specs.Read.{max_depth}
use Rattle.dv_value.specs.declared.classes.Class.{Class}
use Rattle.dv_script.specs.declared.body.End.{End}
use Rattle.dv_script.specs.declared.body.End.TheVariants.{Return, Pass, Plus, Raise, Trap, Wait, Run, Throw}
use Rattle.dv_script.specs.declared.body.Body.{Body}
use Rattle.dv_script.specs.declared.body.Statement.{Statement, Do, Await, Try, Finally}
use Rattle.dv_script.specs.declared.body.Statement.{Raise as RaiseAgain, Caught, End as Leave}
use Rattle.dv_script.specs.declared.work.Work.{Work}
use Rattle.dv_script.specs.declared.work.Work.TheVariants as job
use Rattle.dv_script.specs.declared.action.Action.{Action, Deferred, Callback, Errback, AddCallback, AddErrback}
use Rattle.dv_script.specs.declared.action.Action.{AddBoth, AddCallbacks, Chain, Pause, Unpause, Cancel, AddTimeout}
use Rattle.dv_script.specs.declared.action.Action.{Note, List as ListOf, Gather, Maybe, Lock, Semaphore, Acquire}
use Rattle.dv_script.specs.declared.action.Action.{Release, RunWith, Queue, Put, Get, Later, CancelCall, ResetCall}
use Rattle.dv_script.specs.declared.action.Action.{DelayCall, Loop, StopLoop}
use Rattle.dv_script.specs.declared.action.Action.{Cooperate, WhenDone, PauseTask, StopTask, ResumeTask, Inline, Thread}
use Rattle.dv_script.specs.declared.action.Action.{ThreadIn, Units, CooperateIn, UnitsIn, StopCooperator}
use Rattle.dv_script.specs.declared.event.Event.{Event}
use Rattle.dv_script.specs.declared.event.Event.TheVariants as happens
use Rattle.dv_value.specs.declared.expected.Expected.{Expected}
use Rattle.dv_value.specs.declared.expected.Expected.TheVariants as expected
use Rattle.dv_script.specs.declared.script.Cooperator.{Cooperator}
use Rattle.dv_script.specs.declared.script.NamedBody.{NamedBody}
use Rattle.dv_script.specs.declared.script.NamedCooperator.{NamedCooperator}
use Rattle.dv_script.specs.declared.script.NamedPool.{NamedPool}
use Rattle.dv_script.specs.declared.limits.TheConstants.{MOST_DRAINED, MOST_PLACE, MOST_PLACES, MOST_SUM, MOST_UNITS}
use Rattle.dv_script.specs.declared.limits.TheConstants.{MOST_WORKERS, USUAL_LIMIT}
use Rattle.dv_clock.specs.declared.limits.TheConstants.{MOST_DELAY, MOST_TICKS}
use Rattle.dv_forms.specs.declared.versions.TheConstants.{COOPERATORS_SINCE, ENDS_THROW_SINCE, LAST_VERSION}
use Rattle.dv_grammar.specs.declared.draft.Draft.{Draft}
use Rattle.dv_grammar.specs.declared.reading.action.WithBody.{WithBody}
use Rattle.dv_grammar.specs.declared.reading.action.WithBody.TheVariants as with
use Rattle.dv_forms.specs.declared.words.ActionWord.{ActionWord}
use Rattle.dv_forms.specs.declared.words.ActionWord.TheVariants as word
use Rattle.dv_forms.specs.declared.words.EventWord.{EventWord}
use Rattle.dv_forms.specs.declared.words.EventWord.TheVariants as event
use Rattle.dv_forms.specs.declared.words.EndWord.{EndWord}
use Rattle.dv_forms.specs.declared.words.EndWord.TheVariants as end
use Rattle.dv_forms.specs.declared.words.StatementWord.{StatementWord}
use Rattle.dv_forms.specs.declared.words.StatementWord.TheVariants as statement
use Rattle.dv_forms.specs.declared.words.OutcomeWord.{OutcomeWord}
use Rattle.dv_forms.specs.declared.words.OutcomeWord.TheVariants as outcome
use Rattle.dv_forms.specs.declared.words.WorkWord.{WorkWord}
use Rattle.dv_forms.specs.declared.words.WorkWord.TheVariants as work
use Rattle.dv_forms.specs.Words.{action_word, event_word, end_word, outcome_word, statement_word, work_word}
use Rattle.dv_forms.specs.Leaving.{may_leave}
use Rattle.dv_forms.specs.Limits.{most_limit}
use Rattle.dv_forms.specs.Parts.{◌>>=◌, bound_at, call_at, class_at, declaration_at, each, field, fields_at, first}
use Rattle.dv_forms.specs.Parts.{five}
use Rattle.dv_forms.specs.Parts.{four, gather_flag_at, if_there, integer_at, list_at, list_flag_at, none, number_at}
use Rattle.dv_forms.specs.Parts.{one_of, turn_rule_at}
use Rattle.dv_forms.specs.Parts.{fault_at, one_or_two, table_for, text_at, three_of, two_of, two_or_three, value_at}
use Rattle.dv_forms.specs.Answer.{with_front}
use Rattle.dv_forms.specs.Repeat.{repeat_at}
use Rattle.dv_grammar.specs.Grammar.{body_keys, cooperator_keys, keys_of, plain_cooperator, usual_turns, repeated}
use Rattle.dv_grammar.specs.Grammar.{running}

-- an end, by its word
unfoldable pub end_of : List Class → EndWord → Items → Option End
end_of table end.Return ds = one_of (value_at table) Return ds
end_of table end.Pass ds = do
  _ ← none ds
  Some Pass
end_of table end.Plus ds = one_of integer_at Plus ds
end_of table end.Raise ds = two_of (class_at table) text_at Raise ds
end_of table end.Trap ds = two_of (list_at (class_at table)) (value_at table) Trap ds
end_of table end.Wait ds = one_of text_at Wait ds
end_of table end.Run ds = one_of text_at Run ds
end_of table end.Throw ds = one_of (list_at (number_at 0 MOST_PLACE)) Throw ds

-- an end
unfoldable pub end_at : List Class → Data → Option End
end_at table d = do
  c ← call_at d
  word ← end_word c.0
  end_of table word c.1

-- an end by which an inline body may be left
unfoldable pub leave_at : List Class → Data → Option End
leave_at table d = do
  e ← end_at table d
  if may_leave e then Some e else None

-- a work, by its word
unfoldable pub work_of : List Class → WorkWord → Items → Option Work
work_of table work.Value ds = one_of (value_at table) job.Value ds
work_of table work.Raise ds = two_of (class_at table) text_at job.Raise ds
work_of table work.Sum ds = one_of (number_at 0 MOST_SUM) job.Sum ds

-- a work
unfoldable pub work_at : List Class → Data → Option Work
work_at table d = do
  c ← call_at d
  word ← work_word c.0
  work_of table word c.1

-- a Deferred, whose canceller is read so
unfoldable pub new_deferred_of : (Data → Option Body) → Items → Option Action
new_deferred_of body ds = do
  p ← one_or_two ds
  name ← text_at p.0
  canceller ← if_there body p.1
  Some (Deferred name canceller)

-- a time-out, whose body is read so
unfoldable pub timeout_of : (Data → Option Body) → Items → Option Action
timeout_of body ds = do
  p ← two_or_three ds
  name ← text_at p.0
  delay ← number_at 0 MOST_DELAY p.1
  given ← if_there body p.2
  Some (AddTimeout name delay given)

-- a work that a thread of a pool does
unfoldable pub thread_in_of : List Class → Items → Option Action
thread_in_of table ds = do
  p ← four ds
  name ← text_at p.0
  pool ← text_at p.1
  delay ← number_at 0 MOST_DELAY p.2
  given ← work_at table p.3
  Some (ThreadIn name pool delay given)

-- the bodies of an array of one or more, the first apart
unfoldable pub some_bodies : (Data → Option Body) → Items → Option (Body × List Body)
some_bodies body ds = do
  p ← first ds
  b ← body p.0
  bodies ← each body p.1
  Some (b, bodies)

-- an array of bodies, or one body
abbrev pub turns_by : (Data → Option Body) → Option Items → Data → Option (Body × List Body)
turns_by body None d = option_map (λ b. (b, [])) (body d)
turns_by body (Some ds) d = some_bodies body ds

-- the bodies of a loop's turns, which are read so
unfoldable pub turns_at : (Data → Option Body) → Data → Option (Body × List Body)
turns_at body d = turns_by body (as_array d) d

-- a loop, whose bodies are read so
unfoldable pub loop_of : (Data → Option Body) → Items → Option Action
loop_of body ds = do
  p ← five ds
  name ← text_at p.0
  deferred ← text_at p.1
  interval ← number_at 1 MOST_DELAY p.2
  at_once ← as_bool p.3
  t ← turns_at body p.4
  Some (Loop name deferred interval at_once t.0 t.1)

-- an action that takes a name and a body
abbrev pub with_body : WithBody → List ℕ → Body → Action
with_body with.AddCallback = AddCallback
with_body with.AddErrback = AddErrback
with_body with.AddBoth = AddBoth
with_body with.Maybe = Maybe

-- an action by its word, whose bodies and statements are read so
unfoldable pub action_of : List Class → (Data → Option Body) → (Data → Option Statement) → ActionWord → Items
    → Option Action
action_of table body statement word.Deferred ds = new_deferred_of body ds
action_of table body statement word.Callback ds = two_of text_at (value_at table) Callback ds
action_of table body statement word.Errback ds = three_of text_at (class_at table) text_at Errback ds
action_of table body statement word.AddCallback ds = two_of text_at body AddCallback ds
action_of table body statement word.AddErrback ds = two_of text_at body AddErrback ds
action_of table body statement word.AddBoth ds = two_of text_at body AddBoth ds
action_of table body statement word.AddCallbacks ds = three_of text_at body body AddCallbacks ds
action_of table body statement word.Chain ds = two_of text_at text_at Chain ds
action_of table body statement word.Pause ds = one_of text_at Pause ds
action_of table body statement word.Unpause ds = one_of text_at Unpause ds
action_of table body statement word.Cancel ds = one_of text_at Cancel ds
action_of table body statement word.AddTimeout ds = timeout_of body ds
action_of table body statement word.Note ds = one_of text_at Note ds
action_of table body statement word.List ds = three_of text_at (list_at text_at) (list_at list_flag_at) ListOf ds
action_of table body statement word.Gather ds = three_of text_at (list_at text_at) (list_at gather_flag_at) Gather ds
action_of table body statement word.Maybe ds = two_of text_at body Maybe ds
action_of table body statement word.Lock ds = one_of text_at Lock ds
action_of table body statement word.Semaphore ds = two_of text_at (number_at 1 MOST_PLACES) Semaphore ds
action_of table body statement word.Acquire ds = two_of text_at text_at Acquire ds
action_of table body statement word.Release ds = one_of text_at Release ds
action_of table body statement word.RunWith ds = three_of text_at text_at body RunWith ds
action_of table body statement word.Queue ds = three_of text_at bound_at bound_at Queue ds
action_of table body statement word.Put ds = two_of text_at (value_at table) Put ds
action_of table body statement word.Get ds = two_of text_at text_at Get ds
action_of table body statement word.Later ds = three_of text_at (number_at 0 MOST_DELAY) body Later ds
action_of table body statement word.CancelCall ds = one_of text_at CancelCall ds
action_of table body statement word.ResetCall ds = two_of text_at (number_at 0 MOST_DELAY) ResetCall ds
action_of table body statement word.DelayCall ds = two_of text_at (number_at 0 MOST_DELAY) DelayCall ds
action_of table body statement word.Loop ds = loop_of body ds
action_of table body statement word.StopLoop ds = one_of text_at StopLoop ds
action_of table body statement word.Cooperate ds = two_of text_at (list_at body) Cooperate ds
action_of table body statement word.WhenDone ds = two_of text_at text_at WhenDone ds
action_of table body statement word.PauseTask ds = one_of text_at PauseTask ds
action_of table body statement word.StopTask ds = one_of text_at StopTask ds
action_of table body statement word.ResumeTask ds = one_of text_at ResumeTask ds
action_of table body statement word.Inline ds = two_of text_at (list_at statement) Inline ds
action_of table body statement word.Thread ds = three_of text_at (number_at 0 MOST_DELAY) (work_at table) Thread ds
action_of table body statement word.ThreadIn ds = thread_in_of table ds
action_of table body statement word.Units ds = one_of (number_at 1 MOST_UNITS) Units ds
action_of table body statement word.CooperateIn ds = three_of text_at text_at (list_at body) CooperateIn ds
action_of table body statement word.UnitsIn ds = two_of text_at (number_at 1 MOST_UNITS) UnitsIn ds
action_of table body statement word.StopCooperator ds = one_of text_at StopCooperator ds

-- an action, whose bodies and statements are read so
unfoldable pub action_by : List Class → (Data → Option Body) → (Data → Option Statement) → Data → Option Action
action_by table body statement d = do
  c ← call_at d
  word ← action_word c.0
  action_of table body statement word c.1

-- an object that is a body, whose actions are read so
unfoldable pub keyed_body_by : List Class → (Data → Option Action) → Data → Option Body
keyed_body_by table action d = do
  _ ← fields_at body_keys d
  performed ← field [] (list_at action) (get (codes "do") d)
  last ← field Pass (end_at table) (get (codes "end") d)
  Some (record { actions = performed; end = last })

-- the body that a name has run, where there is one, or else this
abbrev pub by_name_or : Option (List ℕ) → Option Body → Option Body
by_name_or None keyed = keyed
by_name_or (Some name) keyed = Some (running name)

-- a body, whose actions are read so
unfoldable pub body_by : List Class → (Data → Option Action) → Data → Option Body
body_by table action d = by_name_or (as_str d) (keyed_body_by table action d)

-- a statement by its word, whose actions and statements are read so
unfoldable pub statement_of : List Class → (Data → Option Action) → (Data → Option Statement) → StatementWord → Items
    → Option Statement
statement_of table action inner statement.Do ds = one_of action Do ds
statement_of table action inner statement.Await ds = one_of text_at Await ds
statement_of table action inner statement.Try ds =
    three_of (list_at inner) (list_at (class_at table)) (list_at inner) Try ds
statement_of table action inner statement.Finally ds = two_of (list_at inner) (list_at inner) Finally ds
statement_of table action inner statement.Raise ds = do
  _ ← none ds
  Some RaiseAgain
statement_of table action inner statement.Caught ds = do
  _ ← none ds
  Some Caught
statement_of table action inner statement.End ds = one_of (leave_at table) Leave ds

-- a statement, whose actions and statements are read so
unfoldable pub statement_by : List Class → (Data → Option Action) → (Data → Option Statement) → Data → Option Statement
statement_by table action inner d = do
  c ← call_at d
  word ← statement_word c.0
  statement_of table action inner word c.1

-- how bodies and statements are read
pub record Readers : Type 0 where
  pub body : Data → Option Body
  pub statement : Data → Option Statement

-- an action, whose bodies and statements the readers read
abbrev pub action_with : List Class → Readers → Data → Option Action
action_with table r = action_by table r.body r.statement

-- the readers of bodies and statements that nest to so many levels: a name has none
unfoldable pub readers : List Class → ℕ → Readers
readers table zero = record { body = λ d. by_name_or (as_str d) None; statement = λ d. None }
readers table (suc levels) = record {
  body = body_by table (action_with table (readers table levels));
  statement = statement_by table (action_with table (readers table levels)) (readers table levels).statement;
}

-- a body that nests to so many levels
abbrev pub body_at : List Class → ℕ → Data → Option Body
body_at table levels = (readers table levels).body

-- a statement that nests to so many levels
abbrev pub statement_at : List Class → ℕ → Data → Option Statement
statement_at table levels = (readers table levels).statement

-- an action whose bodies and statements nest to so many levels
abbrev pub action_at : List Class → ℕ → Data → Option Action
action_at table levels = action_with table (readers table levels)

-- what is expected of a Deferred, by its word
unfoldable pub outcome_of : List Class → OutcomeWord → Items → Option Expected
outcome_of table outcome.Unfired ds = do
  _ ← none ds
  Some expected.Unfired
outcome_of table outcome.Waiting ds = do
  _ ← none ds
  Some expected.Waiting
outcome_of table outcome.Ok ds = one_of (value_at table) expected.Fired ds
outcome_of table outcome.Fail ds = one_of (fault_at table) expected.Fired ds

-- what is expected of a Deferred
unfoldable pub outcome_at : List Class → Data → Option Expected
outcome_at table d = do
  c ← call_at d
  word ← outcome_word c.0
  outcome_of table word c.1

-- what is expected of the Deferred of a name
unfoldable pub expect_of : List Class → Items → Option Event
expect_of table ds = two_of text_at (outcome_at table) happens.Expect ds

-- an event that is no action, by its word
unfoldable pub event_of : List Class → EventWord → Items → Option Event
event_of table event.Advance ds = one_of (number_at 0 MOST_TICKS) happens.Advance ds
event_of table event.Drain ds = one_of (number_at 0 MOST_DRAINED) happens.Drain ds
event_of table event.Expect ds = expect_of table ds
event_of table event.Repeat ds = None

-- an event that is no action
unfoldable pub other_event : List Class → Data → Option Event
other_event table d = do
  c ← call_at d
  word ← event_word c.0
  event_of table word c.1

-- an action where there is one, or else another event
abbrev pub event_by : Option Action → Option Event → Option Event
event_by (Some a) other = Some (happens.Action a)
event_by None other = other

-- an event
unfoldable pub event_at : List Class → Data → Option Event
event_at table d = event_by (action_at table max_depth d) (other_event table d)

-- how often a repeat of so many times is read: never, where it isn't written out
abbrev pub times_of : Bool → ℕ → ℕ
times_of expands n = if expands then n else 0

-- what a repeat stands for, whose events are read so, or else the event
abbrev pub listed_by : (Items → Option (List Event)) → Bool → Option (ℕ × Items) → Option Event → Option (List Event)
listed_by inner expands None other = option_map (λ e. e ∷ []) other
listed_by inner expands (Some r) other = option_map (repeated (times_of expands r.0)) (inner r.1)

-- an item of an array of events, where those of a repeat are read so
abbrev pub listed_at : (Items → Option (List Event)) → Bool → List Class → Data → Option (List Event)
listed_at inner expands table d = listed_by inner expands (repeat_at d) (event_at table d)

-- the items in a row, where each is read so
abbrev pub all_listed : (Data → Option (List Event)) → Items → Option (List Event)
all_listed at no_items = Some []
all_listed at (item d ds) = option_and_then (λ es. with_front es (all_listed at ds)) (at d)

-- the items of an array of events, in which repeats nest to so many levels
unfoldable pub events_at : Bool → List Class → ℕ → Items → Option (List Event)
events_at expands table zero ds = None
events_at expands table (suc levels) ds = all_listed (listed_at (events_at expands table levels) expands table) ds

-- an array of events
abbrev pub events_in : Bool → List Class → Data → Option (List Event)
events_in expands table d = as_array d >>= events_at expands table max_depth

-- a cooperator in a script of this version
unfoldable pub cooperator_at : ℕ → Data → Option Cooperator
cooperator_at version d = do
  _ ← fields_at (cooperator_keys version) d
  units ← get (codes "units") d >>= number_at 1 MOST_UNITS
  delay ← get (codes "delay") d >>= number_at 1 MOST_DELAY
  turns ← field (usual_turns version) turn_rule_at (get (codes "turns") d)
  Some (record { units = units; delay = delay; turns = turns })

-- a Cooperator that is named
unfoldable pub named_cooperator_at : Data → Option NamedCooperator
named_cooperator_at d = do
  ds ← as_array d
  two_of text_at (cooperator_at COOPERATORS_SINCE) (λ name settings. record { name = name; settings = settings }) ds

-- a pool
unfoldable pub pool_at : Data → Option NamedPool
pool_at d = do
  ds ← as_array d
  two_of text_at (number_at 0 MOST_WORKERS) (λ name workers. record { name = name; workers = workers }) ds

-- a body that is named
unfoldable pub named_body_at : List Class → Data → Option NamedBody
named_body_at table d = do
  ds ← as_array d
  two_of text_at (body_at table max_depth) (λ name b. record { name = name; body = b }) ds

-- the posts of a caller
abbrev pub caller_at : List Class → Data → Option (List Body)
caller_at table = list_at (body_at table max_depth)

-- a script, with the classes that it declares. Where its repeats aren't written out, only its events are others
unfoldable pub script_by : Bool → Data → Option Draft
script_by expands d = do
  version ← get (codes "version") d >>= number_at 1 LAST_VERSION
  _ ← fields_at (keys_of version) d
  limit ← field USUAL_LIMIT (number_at 0 (most_limit version)) (get (codes "limit") d)
  cooperator ← field (plain_cooperator version) (cooperator_at version) (get (codes "cooperator") d)
  cooperators ← field [] (list_at named_cooperator_at) (get (codes "cooperators") d)
  pools ← field [] (list_at pool_at) (get (codes "pools") d)
  declared ← field [] (list_at declaration_at) (get (codes "classes") d)
  table ← table_for version declared
  bodies ← field [] (list_at (named_body_at table.0)) (get (codes "bodies") d)
  callers ← field [] (list_at (caller_at table.0)) (get (codes "callers") d)
  events ← get (codes "events") d >>= events_in expands table.0
  Some (record {
    version = version;
    declared = declared;
    all_declared = table.1;
    script = record {
      classes = table.0;
      ends_throw = nat_le ENDS_THROW_SINCE version;
      limit = limit;
      cooperator = cooperator;
      cooperators = cooperators;
      pools = pools;
      bodies = bodies;
      callers = callers;
      events = events;
    };
  })

-- a script, of which each repeat is written out
abbrev pub script_at : Data → Option Draft
script_at = script_by true
