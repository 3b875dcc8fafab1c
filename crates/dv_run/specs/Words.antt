-- What the words after the program's name ask for.
use Rattle.std.specs.Prelude.{Bool, false, not, ℕ, nat_eq, ◌&&◌, ◌||◌, if◌then◌else◌, List, [], ◌∷◌, Option, None, Some}
use Rattle.std.specs.Prelude.{bytes_eq, codes, option_and_then, ◌≤◌, ⊤}
use Rattle.std.specs.List.{list_any}
use Rattle.dv_run.specs.Orders.{every_in, sample_in}
use Rattle.dv_run.specs.Workers.{few_workers, number_in}
use Rattle.dv_run.specs.declared.orders.Chosen.{Chosen}
use Rattle.dv_run.specs.declared.orders.Chosen.TheVariants.{Every}
use Rattle.dv_run.specs.declared.orders.TheConstants.{ORDERS}
use Rattle.dv_script.specs.declared.limits.TheConstants.{MOST_WORKERS}
use Rattle.dv_run.specs.declared.words.Form.{Form}
use Rattle.dv_run.specs.declared.words.Form.TheVariants as form
use Rattle.dv_run.specs.declared.words.Input.{Input}
use Rattle.dv_run.specs.declared.words.Input.TheVariants.{Standard, File}
use Rattle.dv_run.specs.declared.words.Task.{Task}
use Rattle.dv_run.specs.declared.words.Task.TheVariants as task
use Rattle.dv_run.specs.declared.words.Asked.{Asked}
use Rattle.dv_run.specs.declared.words.Asked.TheVariants as asked
use Rattle.dv_run.specs.declared.words.Flag.{Flag}
use Rattle.dv_run.specs.declared.words.Flag.TheVariants as flag

-- whether a byte is `/` or `.`
abbrev pub marks_file : ℕ → Bool
marks_file byte = nat_eq byte 47 || nat_eq byte 46

-- whether a word names a file: it has a `/` or a `.`, and doesn't begin with `-`
abbrev pub names_file : List ℕ → Bool
names_file [] = false
names_file (byte ∷ bytes) = not (nat_eq byte 45) && list_any marks_file (byte ∷ bytes)

-- what is read where this is the last word: `-` is standard input
abbrev pub input_in : List ℕ → Option Input
input_in word = if bytes_eq word (codes "-") then Some Standard else if names_file word then Some File else None

-- a run with so many workers, where both are known
abbrev pub run_with : Form → Option ℕ → Option Input → Option Asked
run_with form (Some workers) (Some input) = Some (asked.Script (task.Run form workers) input)
run_with form (Some workers) None = None
run_with form None input = None

-- one word is a number of workers, or else what is read
abbrev pub run_by_one : Form → List ℕ → Option ℕ → Option Asked
run_by_one form word (Some workers) = Some (asked.Script (task.Run form workers) Standard)
run_by_one form word None = run_with form (Some 0) (input_in word)

-- a run: no words, a number of workers, what is read, or both in this order
abbrev pub run_in : Form → List (List ℕ) → Option Asked
run_in form [] = Some (asked.Script (task.Run form 0) Standard)
run_in form (word ∷ []) = run_by_one form word (few_workers (number_in word))
run_in form (word ∷ last ∷ []) = run_with form (few_workers (number_in word)) (input_in last)
run_in form (word ∷ second ∷ third ∷ words) = None

-- the same task in batches that are given; only a run has such
abbrev pub replayed_task : Task → Input → Option Asked
replayed_task (task.Run form workers) input = Some (asked.Script (task.Replay form workers) input)
replayed_task (task.Replay form workers) input = None
replayed_task (task.Survey form chosen) input = None
replayed_task task.Why input = None

-- the same of what is asked for
abbrev pub replayed : Asked → Option Asked
replayed (asked.Script task input) = replayed_task task input
replayed asked.Language = None
replayed asked.Version = None
replayed asked.Help = None

-- a run in the batches of the first word
abbrev pub replay_in : Form → List (List ℕ) → Option Asked
replay_in form [] = None
replay_in form (batches ∷ words) = option_and_then replayed (run_in form words)

-- a run in each of these orders, where they and what is read are known
abbrev pub survey_of : Form → Option Chosen → Option Input → Option Asked
survey_of form (Some chosen) (Some input) = Some (asked.Script (task.Survey form chosen) input)
survey_of form (Some chosen) None = None
survey_of form None input = None

-- a run in each of these orders: no words, or what is read
abbrev pub survey_in : Form → Option Chosen → List (List ℕ) → Option Asked
survey_in form chosen [] = survey_of form chosen (Some Standard)
survey_in form chosen (word ∷ []) = survey_of form chosen (input_in word)
survey_in form chosen (word ∷ second ∷ words) = None

-- a run in each order of a sample of as many as the first word says: `--seed` and a number, and then what is read
abbrev pub sampled_in : Form → List ℕ → List (List ℕ) → Option Asked
sampled_in form size [] = None
sampled_in form size (flag ∷ []) = None
sampled_in form size (flag ∷ seed ∷ words) =
    if bytes_eq flag (codes "--seed") then survey_in form (sample_in size seed) words else None

-- a run in every order, or in each of a sample: `--most` and a number, `--sample` with what follows it, or neither, and
-- then what is read
abbrev pub orders_in : Form → List (List ℕ) → Option Asked
orders_in form [] = survey_of form (Some (Every ORDERS)) (Some Standard)
orders_in form (word ∷ []) = survey_of form (Some (Every ORDERS)) (input_in word)
orders_in form (flag ∷ number ∷ words) =
    if bytes_eq flag (codes "--most") then survey_in form (every_in number) words
    else if bytes_eq flag (codes "--sample") then sampled_in form number words
    else None

-- what is printed as JSON Lines: a run, in given batches where `--batches` comes first, or in every order where
-- `--orders` does
abbrev pub json_in : List (List ℕ) → Option Asked
json_in [] = run_in form.Json []
json_in (word ∷ words) =
    if bytes_eq word (codes "--batches") then replay_in form.Json words
    else if bytes_eq word (codes "--orders") then orders_in form.Json words
    else run_in form.Json (word ∷ words)

-- why a script is refused, where what is read is known
abbrev pub why_of : Option Input → Option Asked
why_of (Some input) = Some (asked.Script task.Why input)
why_of None = None

-- why a script is refused: no words, or what is read
abbrev pub why_in : List (List ℕ) → Option Asked
why_in [] = Some (asked.Script task.Why Standard)
why_in (word ∷ []) = why_of (input_in word)
why_in (word ∷ second ∷ words) = None

-- what stands alone
abbrev pub alone : Asked → List (List ℕ) → Option Asked
alone asked [] = Some asked
alone asked (word ∷ words) = None

-- the option that a word is
abbrev pub flag_in : List ℕ → Option Flag
flag_in word =
    if bytes_eq word (codes "--json") then Some flag.Json else if bytes_eq word (codes "--batches")
    then Some flag.Batches else if bytes_eq word (codes "--orders") then Some flag.Orders
    else if bytes_eq word (codes "--why") then Some flag.Why else if bytes_eq word (codes "--language")
    then Some flag.Language else if bytes_eq word (codes "--version") then Some flag.Version
    else if bytes_eq word (codes "--help") then Some flag.Help else None

-- what an option asks for, with the words after it
abbrev pub asked_by : Flag → List (List ℕ) → Option Asked
asked_by flag.Json words = json_in words
asked_by flag.Batches words = replay_in form.Lines words
asked_by flag.Orders words = orders_in form.Lines words
asked_by flag.Why words = why_in words
asked_by flag.Language words = alone asked.Language words
asked_by flag.Version words = alone asked.Version words
asked_by flag.Help words = alone asked.Help words

-- without an option first, a run whose journal is printed
abbrev pub asked_after : Option Flag → List ℕ → List (List ℕ) → Option Asked
asked_after None word words = run_in form.Lines (word ∷ words)
asked_after (Some flag) word words = asked_by flag words

abbrev pub asked_in : List (List ℕ) → Option Asked
asked_in [] = run_in form.Lines []
asked_in (word ∷ words) = asked_after (flag_in word) word words

-- no more workers than a run may have
abbrev pub HasFewWorkers : Task → Type 0
HasFewWorkers (task.Run form workers) = workers ≤ MOST_WORKERS
HasFewWorkers (task.Replay form workers) = workers ≤ MOST_WORKERS
HasFewWorkers (task.Survey form chosen) = ⊤
HasFewWorkers task.Why = ⊤

-- no more workers than a run may have, where a run is asked for
abbrev pub AsksFew : Asked → Type 0
AsksFew (asked.Script task input) = HasFewWorkers task
AsksFew asked.Language = ⊤
AsksFew asked.Version = ⊤
AsksFew asked.Help = ⊤

-- the word of the batches: the one after `--batches`
abbrev pub batches_word : List (List ℕ) → List ℕ
batches_word [] = []
batches_word (flag ∷ []) = []
batches_word (flag ∷ batches ∷ []) = batches
batches_word (flag ∷ second ∷ third ∷ words) = if bytes_eq flag (codes "--batches") then second else third
