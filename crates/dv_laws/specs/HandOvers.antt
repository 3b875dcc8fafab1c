-- In which order a Deferred hands its value over, as its journal logs it (Twisted: the Deferred Reference, "Chaining
-- Deferreds").
use Rattle.std.specs.Prelude.{ℕ, ◌≡◌, if◌then◌else◌, nat_eq, List, [], ◌∷◌, ◌++◌}
use Rattle.std.specs.List.{flat_map}
use Rattle.dv_journal.specs.Told.{Change, change_of, Aside, Makes, Adds, Fires, Swallows, Refuses, Runs, Sets, Takes}
use Rattle.dv_journal.specs.Told.{Waits, Hands, Pauses, Unpauses, Cancels}
use Rattle.dv_journal.specs.declared.entry.Entry.{Entry}
use Rattle.dv_script.specs.declared.script.Script.{Script}
use Rattle.dv_engine.specs.Report.{Reports}
use Rattle.dv_engine.specs.declared.report.Report.{Report}
use Rattle.dv_laws.specs.Places.{AtEachPlace}

-- who begins to wait for m by what is logged, if anybody does
abbrev pub waits_by : ℕ → Change → List ℕ
waits_by m Aside = []
waits_by m (Makes d name) = []
waits_by m (Adds d) = []
waits_by m (Fires d value) = []
waits_by m (Swallows d) = []
waits_by m (Refuses d) = []
waits_by m (Runs d) = []
waits_by m (Sets d value) = []
waits_by m (Takes d e value) = []
waits_by m (Waits d e) = if nat_eq e m then d ∷ [] else []
waits_by m (Hands e d value) = []
waits_by m (Pauses d) = []
waits_by m (Unpauses d) = []
waits_by m (Cancels d) = []

abbrev pub waits_in : ℕ → Entry → List ℕ
waits_in m x = waits_by m (change_of x)

-- all that began to wait for m, in order
abbrev pub waiters : ℕ → List Entry → List ℕ
waiters m entries = flat_map (waits_in m) entries

-- or to whom m hands its value over
abbrev pub receives_by : ℕ → Change → List ℕ
receives_by m Aside = []
receives_by m (Makes d name) = []
receives_by m (Adds d) = []
receives_by m (Fires d value) = []
receives_by m (Swallows d) = []
receives_by m (Refuses d) = []
receives_by m (Runs d) = []
receives_by m (Sets d value) = []
receives_by m (Takes d e value) = []
receives_by m (Waits d e) = []
receives_by m (Hands e d value) = if nat_eq e m then d ∷ [] else []
receives_by m (Pauses d) = []
receives_by m (Unpauses d) = []
receives_by m (Cancels d) = []

abbrev pub receives_in : ℕ → Entry → List ℕ
receives_in m x = receives_by m (change_of x)

-- all that m handed its value over to, in order
abbrev pub receivers : ℕ → List Entry → List ℕ
receivers m entries = flat_map (receives_in m) entries

-- those that m handed its value over to, and after them those that still wait for it, are those that began to wait for
-- it, in that order
pub record HandsOverInTurn (m : ℕ) (told : List Entry) : Type 0 where
  pub waiting : List ℕ
  pub in_turn : waiters m told ≡ receivers m told ++ waiting

-- in a run a Deferred hands its value over to those that wait for it in the order in which they began to wait, each
-- once, by its report
abbrev pub ValuesAreHandedOverInTurn : Type 0
ValuesAreHandedOverInTurn =
    (script : Script) (report : Report) → Reports script report → (m : ℕ)
    → AtEachPlace (HandsOverInTurn m) report.journal.entries
