-- The text of a run as JSON Lines.
use Rattle.std.specs.Prelude.{◌≡◌, ◌-◌, ℕ, suc, Bool, List, [], ◌∷◌, ◌++◌, length, codes, flat_map, All}
use Rattle.std.specs.Fmt.{decimal}
use Rattle.std.specs.Io.KnownBytes.{Appends}
use Rattle.json.specs.Print.{quoted}
use Rattle.dv_facts.specs.Events.{event_at}
use Rattle.dv_facts.specs.Lines.{IsEntryLine}
use Rattle.dv_facts.specs.Parts.{IsVisible, bool_text}
use Rattle.dv_journal.specs.Ending.{ending_of, is_at_limit}
use Rattle.dv_journal.specs.declared.ending.Ending.{Ending}
use Rattle.dv_journal.specs.declared.ending.Ending.TheVariants.{Over, AtLimit, Unmet}
use Rattle.dv_journal.specs.Journal.{Written, total_weight}
use Rattle.dv_journal.specs.Sink.{AppendsPrefix}
use Rattle.dv_json.specs.declared.marked.Marked.{Marked}
use Rattle.dv_posts.specs.Batches.{Batch}
use Rattle.dv_run.specs.Output.{outcome_line}
use Rattle.dv_run.specs.Headline.{Told}
use Rattle.dv_store.specs.declared.outcome.Outcome.{Outcome}
use Rattle.dv_survey.specs.Text.{batches_text}
use Rattle.dv_value.specs.declared.classes.Class.{Class}

-- a line with its end
abbrev pub ended : List ℕ → List ℕ
ended line = line ++ codes "\n"

-- the line that begins a run
abbrev pub start_line : List ℕ
start_line = codes "{\"type\":\"start\",\"version\":1}"

-- the line of the Deferred of a number has its outcome line as a string, without its end, then its number, and ends
-- nowhere within
pub record IsOutcomeLine (table : List Class) (number : ℕ) (outcome : Outcome) (line : List ℕ) : Type 0 where
  pub before : List ℕ
  pub shown : List ℕ
  pub between : List ℕ
  pub after : List ℕ
  pub shows : ended shown ≡ outcome_line table number outcome
  pub is : line
      ≡ before ++ (codes ",\"line\":" ++ quoted shown) ++ between ++ (codes ",\"number\":" ++ decimal number) ++ after
  pub visible : IsVisible line

-- the number of the last of so many entries, where that logs that a Deferred isn't as the script expects, and else null
abbrev pub unmet_text : Ending → ℕ → List ℕ
unmet_text Over entries = codes "null"
unmet_text AtLimit entries = codes "null"
unmet_text Unmet entries = decimal (entries - 1)

-- ,"limit":LIMIT,"stopped":STOPPED,"time":TIME,"type":"end","unmet":ENTRY,"weight":WEIGHT}
abbrev pub totals : ℕ → Ending → ℕ → ℕ → ℕ → List ℕ
totals limit ending entries time weight =
    (codes ",\"limit\":" ++ decimal limit) ++ (codes ",\"stopped\":" ++ bool_text (is_at_limit ending))
    ++ (codes ",\"time\":" ++ decimal time)
    ++ (codes ",\"type\":\"end\",\"unmet\":" ++ unmet_text ending entries)
    ++ (codes ",\"weight\":" ++ decimal weight) ++ codes "}"

-- {"batches":BATCHES
abbrev pub batches_member : List Batch → List ℕ
batches_member batches = codes "{\"batches\":" ++ batches_text batches

-- the line that ends a run has the batches in which posts were taken, the limit of the journal, whether the run stopped
-- there, the entry of what wasn't as the script expects, and what the entries weigh together
pub record IsEndLine (batches : List Batch) (journal : Written) (stopped : Bool) (line : List ℕ) : Type 0 where
  pub between : List ℕ
  pub time : ℕ
  pub is : line
      ≡ batches_member batches ++ between ++ totals journal.limit (ending_of stopped journal.entries) (length journal.entries) time
      (total_weight journal.entries)
  pub visible : IsVisible line

-- a line for each item in order, which are numbered from this number on
abbrev pub EachHasLine : {A : Type 0} → (ℕ → A → List ℕ → Type 0) → ℕ → List A → List (List ℕ) → Type 0
EachHasLine IsLine number [] [] = Unit {0}
EachHasLine IsLine number [] (line ∷ lines) = ⊥
EachHasLine IsLine number (item ∷ items) [] = ⊥
EachHasLine IsLine number (item ∷ items) (line ∷ lines) =
    IsLine number item line × EachHasLine IsLine (suc number) items lines

-- so many lines, of which none ends within
pub record AreSoMany (count : ℕ) (lines : List (List ℕ)) : Type 0 where
  pub as_many : length lines ≡ count
  pub visible : All IsVisible lines

-- the line that begins a run, one for each entry of the journal, one for each Deferred, so many for what is left, and
-- the line that ends it
pub record HasLines (table : List Class) (marks : List ℕ) (batches : List Batch) (journal : Written) (stopped : Bool)
    (outcomes : List Outcome) (left : ℕ) (text : List ℕ) : Type 0 where
  pub of_entries : List (List ℕ)
  pub of_deferreds : List (List ℕ)
  pub of_left : List (List ℕ)
  pub last : List ℕ
  pub each_entry : EachHasLine (λ number. IsEntryLine table (event_at marks number) number) 0 journal.entries of_entries
  pub each_deferred : EachHasLine (IsOutcomeLine table) 0 outcomes of_deferreds
  pub all_left : AreSoMany left of_left
  pub end : IsEndLine batches journal stopped last
  pub is : text ≡ flat_map ended (start_line ∷ of_entries ++ of_deferreds ++ of_left ++ last ∷ [])

-- the text of a run that ended so
abbrev pub IsText : List Class → Marked → List ℕ → Type 0
IsText table end text =
    HasLines table end.marks end.batches end.remains.journal end.remains.stopped end.remains.outcomes
    (length end.remains.left) text

-- a text of this kind was written
pub record Writes (IsText : List ℕ → Type 0) (old new : Told) : Type 0 where
  pub text : List ℕ
  pub is_text : IsText text
  pub written : Appends old new text

-- a prefix of a text of this kind was written
pub record WritesPrefix (IsText : List ℕ → Type 0) (old new : Told) : Type 0 where
  pub text : List ℕ
  pub is_text : IsText text
  pub written : AppendsPrefix old new text
