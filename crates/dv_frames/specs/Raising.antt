-- What is raised is logged where nothing catches it.
use Rattle.std.specs.Prelude.{Option, None, Some}
use Rattle.dv_journal.specs.declared.entry.Entry.TheVariants as entry
use Rattle.dv_value.specs.declared.failure.Failure.{Failure}
use Rattle.dv_world.specs.World.{World, tell}

-- a failure is logged, and nothing else
abbrev pub told_of : Option Failure → World → World
told_of None w = w
told_of (Some failure) w = tell (entry.Unhandled failure) w
