-- How a run ended, by whether it has stopped, and by its last entry.
use Rattle.std.specs.Prelude.{◌-◌, Bool, true, false, if◌then◌else◌, List, length, slice_get}
use Rattle.std.specs.Option.{option_map_or}
use Rattle.dv_journal.specs.Told.{is_unmet}
use Rattle.dv_journal.specs.declared.ending.Ending.{Ending}
use Rattle.dv_journal.specs.declared.ending.Ending.TheVariants.{Over, AtLimit, Unmet}
use Rattle.dv_journal.specs.declared.entry.Entry.{Entry}

-- whether the last entry logs that a Deferred isn't as the script expects
abbrev pub ends_unmet : List Entry → Bool
ends_unmet entries = option_map_or is_unmet (slice_get entries (length entries - 1)) false

-- a run that stopped did so at what it expects, where its last entry logs that, and else at the limit of its journal
abbrev pub ending_of : Bool → List Entry → Ending
ending_of false es = Over
ending_of true es = if ends_unmet es then Unmet else AtLimit

-- whether a run stopped at the limit of its journal
abbrev pub is_at_limit : Ending → Bool
is_at_limit Over = false
is_at_limit AtLimit = true
is_at_limit Unmet = false

-- whether a run ended since a Deferred wasn't as the script expects
abbrev pub is_unmet_end : Ending → Bool
is_unmet_end Over = false
is_unmet_end AtLimit = false
is_unmet_end Unmet = true
