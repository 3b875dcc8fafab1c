-- The pairs of a Deferred: what runs on its value (Twisted: `Deferred.addCallbacks`, `Deferred.chainDeferred`,
-- `Deferred.addTimeout`, `DeferredList`, `gatherResults`, `DeferredLock.run`, `LoopingCall`, `CooperativeTask`).
use Rattle.std.specs.Prelude.{ℕ, Bool, Option, Some, None, is_none, if◌then◌else◌}
use Rattle.dv_script.specs.declared.body.Body.{Body}
use Rattle.dv_objects.specs.declared.inline_id.Inline.{Inline}
use Rattle.dv_objects.specs.declared.pair.Child.{Child}
use Rattle.dv_objects.specs.declared.pair.Kind.{Kind}
use Rattle.dv_objects.specs.declared.pair.Kind.TheVariants as kind
use Rattle.dv_objects.specs.declared.pair.Side.{Side}
use Rattle.dv_objects.specs.declared.pair.Side.TheVariants as side

-- what runs on a plain result, and what on a failure, where there is something
pub record Pair : Type 0 where
  pub callback : Option Side
  pub errback : Option Side

-- a callback alone
abbrev pub callback : Body → Pair
callback body = record { callback = Some (side.Body body); errback = None }

-- an errback alone
abbrev pub errback : Body → Pair
errback body = record { callback = None; errback = Some (side.Body body) }

-- a callback and an errback
abbrev pub both : Body → Body → Pair
both on_value on_failure = record { callback = Some (side.Body on_value); errback = Some (side.Body on_failure) }

-- both fire another Deferred
abbrev pub chain : ℕ → Pair
chain to = record { callback = Some (side.Fire to); errback = Some (side.Fire to) }

-- both turn a cancellation into TimeoutError if a timer has expired
abbrev pub timing : ℕ → Pair
timing t = record { callback = Some (side.Timed t); errback = Some (side.Timed t) }

-- both run a body where the time of a timer has come
abbrev pub on_timeout : ℕ → Body → Pair
on_timeout t body = record { callback = Some (side.OnTimeout t body); errback = Some (side.OnTimeout t body) }

-- the first of the two pairs of a timer, by the body that its Deferred has for it
abbrev pub watching : ℕ → Option Body → Pair
watching t None = timing t
watching t (Some body) = on_timeout t body

-- both end a timer
abbrev pub ending : ℕ → Pair
ending t = record { callback = Some (side.EndTimer t); errback = Some (side.EndTimer t) }

-- both report to a DeferredList as its child
abbrev pub reporting : Child → Pair
reporting child = record { callback = Some (side.Report child); errback = Some (side.Report child) }

-- a callback that takes what the children gave out of the result of a list
abbrev pub results : Pair
results = record { callback = Some side.Results; errback = None }

-- a callback that performs a body with a token of a lock
abbrev pub holding : ℕ → Body → Pair
holding lock body = record { callback = Some (side.Hold lock body); errback = None }

-- both release a token of a lock
abbrev pub releasing : ℕ → Pair
releasing lock = record { callback = Some (side.Release lock); errback = Some (side.Release lock) }

-- a callback that schedules the next turn of a loop, and an errback that ends it
abbrev pub turning : ℕ → Pair
turning l = record { callback = Some (side.NextTurn l); errback = Some (side.EndLoop l) }

-- a callback that resumes a task, and an errback that ends it
abbrev pub resuming : ℕ → Pair
resuming t = record { callback = Some (side.ResumeTask t); errback = Some (side.FailTask t) }

-- both go on with an inline body
abbrev pub continuing : Inline → Pair
continuing inline = record { callback = Some (side.Resume inline); errback = Some (side.Resume inline) }

-- each by its kind
abbrev pub pair_of : Kind → Pair
pair_of (kind.Callback body) = callback body
pair_of (kind.Errback body) = errback body
pair_of (kind.Both on_value on_failure) = both on_value on_failure
pair_of (kind.Chain to) = chain to
pair_of (kind.Timing t) = timing t
pair_of (kind.OnTimeout t body) = on_timeout t body
pair_of (kind.Ending t) = ending t
pair_of (kind.Reporting child) = reporting child
pair_of kind.Results = results
pair_of (kind.Holding lock body) = holding lock body
pair_of (kind.Releasing lock) = releasing lock
pair_of (kind.Turning l) = turning l
pair_of (kind.Resuming t) = resuming t
pair_of (kind.Continuing inline) = continuing inline

-- the side for a value: the errback for a failure, else the callback
abbrev pub side_for : Pair → Bool → Option Side
side_for pair failed = if failed then pair.errback else pair.callback

-- a missing side passes the value on
abbrev pub passes : Pair → Bool → Bool
passes pair failed = is_none (side_for pair failed)
