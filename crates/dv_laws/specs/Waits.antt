-- How a Deferred waits for another, as its journal logs it (Twisted: the Deferred Reference, "Chaining Deferreds").
use Rattle.std.specs.Prelude.{ℕ, ◌≡◌, ◌≤◌, ◌&&◌, ◌||◌, if◌then◌else◌, nat_eq, List, ◌∷◌, ◌++◌, sum_by}
use Rattle.dv_value.specs.declared.value.Value.{Value}
use Rattle.dv_journal.specs.Told.{Change, change_of, Aside, Makes, Adds, Fires, Swallows, Refuses, Runs, Sets, Takes}
use Rattle.dv_journal.specs.Told.{Waits, Hands, Pauses, Unpauses, Cancels}
use Rattle.dv_journal.specs.declared.entry.Entry.{Entry}
use Rattle.dv_journal.specs.declared.entry.Entry.TheVariants as entry
use Rattle.dv_script.specs.declared.script.Script.{Script}
use Rattle.dv_engine.specs.Report.{Reports}
use Rattle.dv_engine.specs.declared.report.Report.{Report}
use Rattle.dv_laws.specs.Places.{AtEachPlace, OfEachEntry}

-- what is logged counts one where it is that n waits for m
abbrev pub waits_of : ℕ → ℕ → Change → ℕ
waits_of n m Aside = 0
waits_of n m (Makes d name) = 0
waits_of n m (Adds d) = 0
waits_of n m (Fires d value) = 0
waits_of n m (Swallows d) = 0
waits_of n m (Refuses d) = 0
waits_of n m (Runs d) = 0
waits_of n m (Sets d value) = 0
waits_of n m (Takes d e value) = 0
waits_of n m (Waits d e) = if nat_eq d n && nat_eq e m then 1 else 0
waits_of n m (Hands e d value) = 0
waits_of n m (Pauses d) = 0
waits_of n m (Unpauses d) = 0
waits_of n m (Cancels d) = 0

abbrev pub waiting : ℕ → ℕ → Entry → ℕ
waiting n m x = waits_of n m (change_of x)

-- how often n begins to wait for m
abbrev pub waits : ℕ → ℕ → List Entry → ℕ
waits n m entries = sum_by (waiting n m) entries

-- or that m hands its value over to n
abbrev pub hands_of : ℕ → ℕ → Change → ℕ
hands_of n m Aside = 0
hands_of n m (Makes d name) = 0
hands_of n m (Adds d) = 0
hands_of n m (Fires d value) = 0
hands_of n m (Swallows d) = 0
hands_of n m (Refuses d) = 0
hands_of n m (Runs d) = 0
hands_of n m (Sets d value) = 0
hands_of n m (Takes d e value) = 0
hands_of n m (Waits d e) = 0
hands_of n m (Hands e d value) = if nat_eq d n && nat_eq e m then 1 else 0
hands_of n m (Pauses d) = 0
hands_of n m (Unpauses d) = 0
hands_of n m (Cancels d) = 0

abbrev pub handing : ℕ → ℕ → Entry → ℕ
handing n m x = hands_of n m (change_of x)

-- how often m hands its value over to n
abbrev pub hand_overs : ℕ → ℕ → List Entry → ℕ
hand_overs n m entries = sum_by (handing n m) entries

-- or that a side of n is run or the value of n changes: it is fired, gets what a side gave, takes or is handed the
-- value of another, begins to wait, or gives its value to another
abbrev pub touches_of : ℕ → Change → ℕ
touches_of n Aside = 0
touches_of n (Makes d name) = 0
touches_of n (Adds d) = 0
touches_of n (Fires d value) = if nat_eq d n then 1 else 0
touches_of n (Swallows d) = 0
touches_of n (Refuses d) = 0
touches_of n (Runs d) = if nat_eq d n then 1 else 0
touches_of n (Sets d value) = if nat_eq d n then 1 else 0
touches_of n (Takes d e value) = if nat_eq d n || nat_eq e n then 1 else 0
touches_of n (Waits d e) = if nat_eq d n then 1 else 0
touches_of n (Hands e d value) = if nat_eq d n || nat_eq e n then 1 else 0
touches_of n (Pauses d) = 0
touches_of n (Unpauses d) = 0
touches_of n (Cancels d) = 0

abbrev pub touching : ℕ → Entry → ℕ
touching n x = touches_of n (change_of x)

-- how often that is logged
abbrev pub touches : ℕ → List Entry → ℕ
touches n entries = sum_by (touching n) entries

-- by what was logged n waits for m: it began to, and since then none of its sides was run and its value hasn't changed
pub record StillWaits (n m : ℕ) (told : List Entry) : Type 0 where
  pub before : List Entry
  pub since : List Entry
  pub waited : told ≡ before ++ entry.Wait n m ∷ since
  pub untouched : touches n since ≡ 0

-- an entry is that m hands its value over to n
pub record HandsOver (m n : ℕ) (x : Entry) : Type 0 where
  pub value : Value
  pub hands : x ≡ entry.Hand m n value

-- n waits until it is handed a value: the first entry by which one of its sides is run or its value changes is that of
-- m, for which it waits; and m hands its value to n no more often than n waited for m
pub record WaitsForItsValue (n m : ℕ) (entries : List Entry) : Type 0 where
  pub until : OfEachEntry (λ told x. StillWaits n m told → touching n x ≡ 1 → HandsOver m n x) entries
  pub once : AtEachPlace (λ told. hand_overs n m told ≤ waits n m told) entries

-- in a run a Deferred that waits is left alone until it is handed the value that it waits for, by its report
abbrev pub WaitsEndByAHandOver : Type 0
WaitsEndByAHandOver =
    (script : Script) (report : Report) → Reports script report → (n m : ℕ)
    → WaitsForItsValue n m report.journal.entries
