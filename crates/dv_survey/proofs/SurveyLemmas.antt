-- What a survey keeps of its runs: the lines of each by their places, and how many ended unmet.
use Rattle.std.proofs.Common.{◌≡◌, ◌<◌, ◌≤◌, ℕ, zero, suc, ◌+◌, ◌∙◌, arith, List, [], ◌∷◌, ◌++◌, Bool, true, false}
use Rattle.std.proofs.Common.{◌||◌, if◌then◌else◌, cond, not, nat_eq, bytes_eq, map, fold, length, count_by, slice_get}
use Rattle.std.proofs.Common.{Some, refl, ap, sym, subst, inl, inr}
use Rattle.std.proofs.lemmas.Bool.Decides.{eqb_tells}
use Rattle.std.proofs.lemmas.List.Sums.{sum_by-cons}
use Rattle.std.proofs.lemmas.Option.{get_or_from_slice_get, slice_get-get_or, slice_get_within}
use Rattle.std.proofs.lemmas.Slice.Eq.{bytes_eq-Decides}
use Rattle.std.specs.List.{list_any}
use Rattle.dv_journal.specs.Ending.{is_unmet_end}
use Rattle.dv_posts.specs.Batches.{Batch}
use Rattle.dv_value.specs.declared.classes.Class.{Class}
use Rattle.dv_survey.proofs.PlacesLemmas.{same_places}
use Rattle.dv_survey.specs.Laws.{HasLinesOf, OneOutcomeIsOneSetOfLines, UnmetIsCounted, texts_of}
use Rattle.dv_survey.specs.Lines.{lines_of}
use Rattle.dv_survey.specs.Outcomes.{outcome_text, places_after}
use Rattle.dv_survey.specs.Survey.{Run, no_runs, survey_of, with_lines, with_run}
use Rattle.dv_survey.specs.Tallies.{count_of, with_tally}
use Rattle.dv_survey.specs.Texts.{place_of, with_text}
use Rattle.dv_survey.specs.declared.format.Format.{Format}
use Rattle.dv_survey.specs.declared.lines.Line.{Line}
use Rattle.dv_survey.specs.declared.survey.Survey.{Survey}
use Rattle.dv_survey.specs.declared.tallies.Tally.{Tally}

eq_itself : (n : ℕ) → nat_eq n n ≡ true
eq_itself n = elim (eqb_tells n n) [ inl is ↦ is.0 | inr not ↦ absurd (not.1 refl) ]

or_true : (b : Bool) → (b || true) ≡ true
or_true true = refl
or_true false = refl

-- what has a place keeps it
abbrev Keeps : List (List ℕ) → List (List ℕ) → Type 0
Keeps before after = (p : ℕ) (text : List ℕ) → slice_get before p ≡ Some text → slice_get after p ≡ Some text

append_keeps : (texts more : List (List ℕ)) → Keeps texts (texts ++ more)
append_keeps [] more p text e = cc
append_keeps (x ∷ texts) more zero text e = e
append_keeps (x ∷ texts) more (suc p) text e = append_keeps texts more p text e

with_text_keeps : (text : List ℕ) (texts : List (List ℕ)) → Keeps texts (with_text text texts)
with_text_keeps text texts = by (list_any (bytes_eq text) texts)
  where
    by : (met : Bool) → Keeps texts (if met then texts else texts ++ text ∷ [])
    by true = λ p other e. e
    by false = append_keeps texts (text ∷ [])

-- a text is found at its place
at_place : (text : List ℕ) (texts : List (List ℕ)) → slice_get (with_text text texts) (place_of text texts) ≡ Some text
at_place text [] = refl
at_place text (x ∷ texts) = by (bytes_eq text x) refl (at_place text texts)
  where
    later : (met : Bool) (n : ℕ) → slice_get (if met then texts else texts ++ text ∷ []) n ≡ Some text
        → slice_get (if met then x ∷ texts else x ∷ (texts ++ text ∷ [])) (suc n) ≡ Some text
    later true n e = e
    later false n e = e

    by : (same : Bool) → bytes_eq text x ≡ same → slice_get (with_text text texts) (place_of text texts) ≡ Some text
        → slice_get (if same || list_any (bytes_eq text) texts then x ∷ texts else x ∷ (texts ++ text ∷ []))
        (cond (not same) (1 + place_of text texts) 0) ≡ Some text
    by true e rest = ap Some (sym ((bytes_eq-Decides text x).0 e))
    by false e rest =
        let next : suc (place_of text texts) ≡ 1 + place_of text texts = omega arith in
        subst (λ n. slice_get (if list_any (bytes_eq text) texts then x ∷ texts else x ∷ (texts ++ text ∷ [])) n
        ≡ Some text) next (later (list_any (bytes_eq text) texts) (place_of text texts) rest)

-- the texts, with those of lines that are added in turn
abbrev texts_after : List (List ℕ) → List Line → List (List ℕ)
texts_after texts [] = texts
texts_after texts (line ∷ lines) = texts_after (with_text line.text texts) lines

texts_after_keeps : (texts : List (List ℕ)) (lines : List Line) → Keeps texts (texts_after texts lines)
texts_after_keeps texts [] p text e = e
texts_after_keeps texts (line ∷ lines) p text e =
    texts_after_keeps (with_text line.text texts) lines p text (with_text_keeps line.text texts p text e)

abbrev text_of : Line → List ℕ
text_of line = line.text

-- each line has one of the places that are noted
each_line : (texts : List (List ℕ)) (lines : List Line) (k : ℕ) (text : List ℕ)
    → slice_get (map text_of lines) k ≡ Some text
    → (p : ℕ) × (list_any (nat_eq p) (places_after texts lines) ≡ true)
    × (slice_get (texts_after texts lines) p ≡ Some text)
each_line texts [] k text e = absurd cc
each_line texts (line ∷ lines) zero text e =
    let place = place_of line.text texts in (
      place,
      ap (λ b. b || list_any (nat_eq place) (places_after (with_text line.text texts) lines)) (eq_itself place),
      texts_after_keeps (with_text line.text texts) lines place text (at_place line.text texts ∙ e),
    )
each_line texts (line ∷ lines) (suc k) text e =
    let rest = each_line (with_text line.text texts) lines k text e in (
      rest.0,
      ap (λ b. nat_eq rest.0 (place_of line.text texts) || b) rest.1
          ∙ or_true (nat_eq rest.0 (place_of line.text texts)),
      rest.2,
    )

-- each place that is noted is that of a line
each_place : (texts : List (List ℕ)) (lines : List Line) (p : ℕ)
    → list_any (nat_eq p) (places_after texts lines) ≡ true
    → (k : ℕ) × (text : List ℕ) × (slice_get (map text_of lines) k ≡ Some text)
    × (slice_get (texts_after texts lines) p ≡ Some text)
each_place texts [] p among = absurd cc
each_place texts (line ∷ lines) p among = elim (eqb_tells p (place_of line.text texts)) [
  | inl is ↦ (
    0,
    line.text,
    refl,
    texts_after_keeps (with_text line.text texts) lines p line.text
        (ap (slice_get (with_text line.text texts)) is.1 ∙ at_place line.text texts),
  )
  | inr other ↦
      let rest = each_place (with_text line.text texts) lines p
      (sym (ap (λ b. b || list_any (nat_eq p) (places_after (with_text line.text texts) lines)) other.0) ∙ among) in
      (suc rest.0, rest.1, rest.2, rest.3)
]

-- lines that are added change these, and nothing else that is looked at here
lines_added : (batches : List Batch) (lines : List Line) (survey : Survey)
    → (with_lines batches lines survey).lines ≡ texts_after survey.lines lines
lines_added batches [] survey = refl
lines_added batches (line ∷ lines) survey = lines_added batches lines (with_lines batches (line ∷ []) survey)

same_format : (batches : List Batch) (lines : List Line) (survey : Survey)
    → (with_lines batches lines survey).format ≡ survey.format
same_format batches [] survey = refl
same_format batches (line ∷ lines) survey = same_format batches lines (with_lines batches (line ∷ []) survey)

same_outcomes : (batches : List Batch) (lines : List Line) (survey : Survey)
    → (with_lines batches lines survey).outcomes ≡ survey.outcomes
same_outcomes batches [] survey = refl
same_outcomes batches (line ∷ lines) survey = same_outcomes batches lines (with_lines batches (line ∷ []) survey)

same_unmet : (batches : List Batch) (lines : List Line) (survey : Survey)
    → (with_lines batches lines survey).unmet ≡ survey.unmet
same_unmet batches [] survey = refl
same_unmet batches (line ∷ lines) survey = same_unmet batches lines (with_lines batches (line ∷ []) survey)

-- the places of a run among the texts of a survey, and the outcome that they are
record HasPlaces (format : Format) (table : List Class) (survey : Survey) (run : Run) : Type 0 where
  places : List ℕ
  len : ℕ
  number : ℕ
  counted : slice_get survey.outcomes number ≡ Some (outcome_text places len)
  each : (k : ℕ) (text : List ℕ) → slice_get (texts_of format table run) k ≡ Some text
      → (p : ℕ) × (p < len) × (list_any (nat_eq p) places ≡ true) × (slice_get survey.lines p ≡ Some text)
  from : (p : ℕ) → p < len → list_any (nat_eq p) places ≡ true
      → (k : ℕ) × (text : List ℕ) × (slice_get (texts_of format table run) k ≡ Some text)
      × (slice_get survey.lines p ≡ Some text)

-- what a survey keeps as runs are added
record Grows (before after : Survey) : Type 0 where
  lines : Keeps before.lines after.lines
  outcomes : Keeps before.outcomes after.outcomes

has_places_still : (format : Format) (table : List Class) (before after : Survey) (run : Run) → Grows before after
    → HasPlaces format table before run → HasPlaces format table after run
has_places_still format table before after run grows has = record {
  places = has.places;
  len = has.len;
  number = has.number;
  counted = grows.outcomes has.number (outcome_text has.places has.len) has.counted;
  each = λ k text e. let at = has.each k text e in (at.0, at.1, at.2, grows.lines at.0 text at.3);
  from = λ p low among. let at = has.from p low among in (at.0, at.1, at.2, grows.lines p at.1 at.3);
}

run_grows : (table : List Class) (survey : Survey) (run : Run) → Grows survey (with_run table survey run)
run_grows table survey run =
    let lines = lines_of survey.format table run.outcomes in
    let all = with_lines run.batches lines survey in
    let outcome = outcome_text (places_after survey.lines lines) (length all.lines) in record {
      lines = λ p text e. ap (λ l. slice_get l p) (lines_added run.batches lines survey)
          ∙ texts_after_keeps survey.lines lines p text e;
      outcomes = λ p text e. with_text_keeps outcome all.outcomes p text
          (ap (λ l. slice_get l p) (same_outcomes run.batches lines survey) ∙ e);
    }

-- a run that is added has places
run_has_places : (table : List Class) (survey : Survey) (run : Run)
    → HasPlaces survey.format table (with_run table survey run) run
run_has_places table survey run =
    let lines = lines_of survey.format table run.outcomes in
    let all = with_lines run.batches lines survey in
    let places = places_after survey.lines lines in
    let outcome = outcome_text places (length all.lines) in
    let added : all.lines ≡ texts_after survey.lines lines = lines_added run.batches lines survey in record {
      places = places;
      len = length all.lines;
      number = place_of outcome all.outcomes;
      counted = at_place outcome all.outcomes;
      each = λ k text e.
          let at = each_line survey.lines lines k text e in
          let found = ap (λ l. slice_get l at.0) added ∙ at.2 in
          (at.0, slice_get_within all.lines at.0 text found, at.1, found);
      from = λ p low among.
          let at = each_place survey.lines lines p among in
          (at.0, at.1, at.2, ap (λ l. slice_get l p) added ∙ at.3);
    }

-- each run of a survey has places
all_keep : (format : Format) (table : List Class) (runs : List Run) (survey : Survey) (run : Run)
    → HasPlaces format table survey run → HasPlaces format table (fold (with_run table) survey runs) run
all_keep format table [] survey run has = has
all_keep format table (next ∷ runs) survey run has =
    all_keep format table runs (with_run table survey next) run
    (has_places_still format table survey (with_run table survey next) run (run_grows table survey next) has)

all_have : (format : Format) (table : List Class) (runs : List Run) (survey : Survey) (k : ℕ) (run : Run)
    → survey.format ≡ format → slice_get runs k ≡ Some run
    → HasPlaces format table (fold (with_run table) survey runs) run
all_have format table [] survey k run same e = absurd cc
all_have format table (next ∷ runs) survey zero run same e =
    let is : next ≡ run = cc in
    subst (λ (r : Run). HasPlaces format table (fold (with_run table) survey (next ∷ runs)) r) is
    (all_keep format table runs (with_run table survey next) next
    (subst (λ f. HasPlaces f table (with_run table survey next) next) same (run_has_places table survey next)))
all_have format table (next ∷ runs) survey (suc k) run same e =
    all_have format table runs (with_run table survey next) k run
    (same_format next.batches (lines_of survey.format table next.outcomes) survey ∙ same) e

-- a list of one element at most has one text at most
only_one : (texts : List (List ℕ)) (m n : ℕ) (a b : List ℕ) → length texts ≤ 1 → slice_get texts m ≡ Some a
    → slice_get texts n ≡ Some b → a ≡ b
only_one texts m n a b few first second =
    let low = slice_get_within texts m a first in
    let other = slice_get_within texts n b second in
    let same : m ≡ n = omega (arith, low, other, few) in
    some_same (sym first ∙ ap (slice_get texts) same ∙ second)
  where
    some_same : Some a ≡ Some b → a ≡ b
    some_same e = cc

-- runs of one outcome have the same lines
same_lines : (format : Format) (table : List Class) (survey : Survey) (run other : Run) → length survey.outcomes ≤ 1
    → HasPlaces format table survey run → HasPlaces format table survey other → HasLinesOf format table other run
same_lines format table survey run other few has others text contains =
    let mine = texts_of format table run in
    let theirs = texts_of format table other in
    let found = slice_get-get_or mine contains.0 text contains.1 ∙ ap Some contains.2 in
    let at = has.each contains.0 text found in
    let outcome = only_one survey.outcomes has.number others.number (outcome_text has.places has.len)
    (outcome_text others.places others.len) few has.counted others.counted in
    let among = same_places has.places others.places has.len others.len outcome at.0 at.1 at.2 in
    let there = others.from at.0 among.0 among.1 in
    let is : there.1 ≡ text = some_same there.1 text (sym there.3 ∙ at.3) in
    let line : slice_get theirs there.0 ≡ Some text = there.2 ∙ ap Some is in
    (there.0, slice_get_within theirs there.0 text line, get_or_from_slice_get theirs there.0 text text line)
  where
    some_same : (a b : List ℕ) → Some a ≡ Some b → a ≡ b
    some_same a b e = cc

pub one_outcome_is_one_set : OneOutcomeIsOneSetOfLines
one_outcome_is_one_set format table runs run other few one two =
    let survey = survey_of format table runs in
    let first = slice_get-get_or runs one.0 run one.1 ∙ ap Some one.2 in
    let second = slice_get-get_or runs two.0 other two.1 ∙ ap Some two.2 in
    same_lines format table survey other run few (all_have format table runs (no_runs format) two.0 other refl second)
    (all_have format table runs (no_runs format) one.0 run refl first)

-- what came once more is counted once more
one_more : (batches : List Batch) (tallies : List Tally)
    → count_of (with_tally 0 batches tallies) ≡ count_of tallies + 1
one_more batches [] = refl
one_more batches (tally ∷ tallies) = refl

-- a run more is counted if it ended unmet
run_counted : (table : List Class) (survey : Survey) (run : Run)
    → count_of (with_run table survey run).unmet ≡ count_of survey.unmet + cond (is_unmet_end run.ending) 1 0
run_counted table survey run =
    let all = with_lines run.batches (lines_of survey.format table run.outcomes) survey in
    by (is_unmet_end run.ending) all.unmet
    ∙ ap (λ tallies. count_of tallies + cond (is_unmet_end run.ending) 1 0)
    (same_unmet run.batches (lines_of survey.format table run.outcomes) survey)
  where
    by : (unmet : Bool) (tallies : List Tally)
        → count_of (if unmet then with_tally 0 run.batches tallies else tallies) ≡ count_of tallies + cond unmet 1 0
    by true tallies = one_more run.batches tallies
    by false tallies = omega arith

all_counted : (table : List Class) (runs : List Run) (survey : Survey)
    → count_of (fold (with_run table) survey runs).unmet
    ≡ count_of survey.unmet + count_by (λ (run : Run). is_unmet_end run.ending) runs
all_counted table [] survey = omega arith
all_counted table (run ∷ runs) survey =
    let rest = all_counted table runs (with_run table survey run) in
    let next = run_counted table survey run in
    let counts = sum_by-cons (λ (r : Run). cond (is_unmet_end r.ending) 1 0) run runs in
    omega (arith, rest, next, counts)

pub unmet_is_counted : UnmetIsCounted
unmet_is_counted format table runs = all_counted table runs (no_runs format) ∙ omega arith
