-- What waits for its time, and what the journal logs of it.
use Rattle.std.specs.Prelude.{ℕ}
use Rattle.dv_journal.specs.declared.entry.Entry.{Entry}
use Rattle.dv_journal.specs.declared.entry.Entry.TheVariants as entry
use Rattle.dv_clock.specs.declared.due.Due.{Due}
use Rattle.dv_clock.specs.declared.due.Due.TheVariants.{Call, Turn, Tick, TickIn, Delivery, Timeout}

-- what is logged when it is scheduled, with the time that it is due at
abbrev pub scheduling : Due → ℕ → Entry
scheduling (Call name key) time = entry.LaterCall name time
scheduling (Turn name key) time = entry.LaterLoop name time
scheduling Tick time = entry.LaterTick time
scheduling (TickIn name key) time = entry.LaterTickIn name time
scheduling (Delivery job key) time = entry.LaterJob job time
scheduling (Timeout d) time = entry.LaterTimeout d time

-- the entry that is logged when it is due
abbrev pub entry_when_due : Due → Entry
entry_when_due (Call name key) = entry.Call name
entry_when_due (Turn name key) = entry.Turn name
entry_when_due Tick = entry.Tick
entry_when_due (TickIn name key) = entry.TickIn name
entry_when_due (Delivery job key) = entry.Deliver job
entry_when_due (Timeout d) = entry.Timeout d
