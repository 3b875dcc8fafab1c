-- Whom a cancel reaches, by the record where the chain ends (Twisted: `Deferred.cancel`).
use Rattle.std.specs.Prelude.{ℕ, if◌then◌else◌, Option, None, Some}
use Rattle.dv_store.specs.declared.record.Record.{Record}
use Rattle.dv_objects.specs.declared.canceller.Canceller.{Canceller}
use Rattle.dv_objects.specs.declared.canceller.Canceller.TheVariants as canceller
use Rattle.dv_objects.specs.Pair.{Pair}
use Rattle.dv_objects.specs.declared.reached.Reached.{Reached}
use Rattle.dv_objects.specs.declared.reached.Reached.TheVariants as reached

-- an unfired Deferred is to be fired, after its canceller has run, or after it was taken out of where it waits; of a
-- list the children are to be cancelled, and of an inline body what it awaits
abbrev pub reached_unfired : ℕ → Option Canceller → Reached
reached_unfired d None = reached.Fire d
reached_unfired d (Some (canceller.Body body)) = reached.Run d body
reached_unfired d (Some (canceller.Token l)) = reached.ForToken d l
reached_unfired d (Some (canceller.Item k)) = reached.ForItem d k
reached_unfired d (Some (canceller.Children children)) = reached.Children children
reached_unfired d (Some (canceller.Inline i)) = reached.Inline i

-- nothing happens to one that is fired
abbrev pub reached_at : ℕ → Record Pair Canceller → Reached
reached_at d r = if r.fired then reached.Nothing else reached_unfired d r.canceller
