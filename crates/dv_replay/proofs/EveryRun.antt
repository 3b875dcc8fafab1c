-- What a survey of every order says of every run.
use Rattle.std.proofs.Common.{arith, ◌≡◌, ◌≢◌, ◌<◌, ◌≤◌, ℕ, List, [], ◌∷◌, Bool, true, false, if◌then◌else◌, cond}
use Rattle.std.proofs.Common.{Contains, count_by, length, map, nat_le, nat_lt, refl, sym, ap, subst, ◌∙◌, inl, inr}
use Rattle.std.proofs.Common.{true≢false}
use Rattle.std.proofs.lemmas.Bool.Decides.{Decides-ltb, leb_tells}
use Rattle.std.proofs.lemmas.List.Elements.{All-contains}
use Rattle.std.proofs.lemmas.List.Sums.{sum_by-cons}
use Rattle.dv_engine.specs.declared.report.Report.{Report}
use Rattle.dv_journal.specs.Ending.{ending_of, is_unmet_end}
use Rattle.dv_journal.specs.declared.ending.Ending.{Ending}
use Rattle.dv_journal.specs.declared.ending.Ending.TheVariants.{Over, AtLimit, Unmet}
use Rattle.dv_journal.specs.declared.journal.Journal.{Journal}
use Rattle.dv_orders.proofs.Members.{In, contains_from, in_from, in_map, of_map}
use Rattle.dv_orders.specs.Orders.{orders}
use Rattle.dv_replay.proofs.TwoRuns.{every_run_is_surveyed}
use Rattle.dv_replay.specs.Exit.{survey_status}
use Rattle.dv_replay.specs.Laws.{AreAlike, AreSumsOf, EndsUnmet, OneOutcomeHoldsOfEveryRun, UnmetIsFoundExactly}
use Rattle.dv_replay.specs.Surveying.{HasSurveyed, run_of}
use Rattle.dv_replay.specs.declared.exit.Sums.{Sums}
use Rattle.dv_run.specs.Headline.{IsRun}
use Rattle.dv_script.specs.declared.script.Script.{Script}
use Rattle.dv_survey.proofs.SurveyLemmas.{one_outcome_is_one_set, unmet_is_counted}
use Rattle.dv_survey.specs.Laws.{HasLinesOf}
use Rattle.dv_survey.specs.Lines.{lines_of}
use Rattle.dv_survey.specs.Survey.{Run}
use Rattle.dv_survey.specs.Tallies.{count_of}
use Rattle.dv_survey.specs.declared.format.Format.{Format}
use Rattle.dv_survey.specs.declared.lines.Line.{Line}
use Rattle.dv_survey.specs.declared.survey.Survey.{Survey}

abbrev one_if : Bool → ℕ
one_if b = cond b 1 0

-- what is among the elements and passes the test is counted
counted : {X : Type 0} (p : X → Bool) (x : X) (xs : List X) → In x xs → p x ≡ true → 0 < count_by p xs
counted p x [] among is = absurd among
counted p x (y ∷ xs) (inl same) is =
    let yes : one_if (p y) ≡ 1 = ap one_if (ap p same ∙ is) in
    omega (arith, sum_by-cons (λ z. one_if (p z)) y xs, yes)
counted p x (y ∷ xs) (inr among) is =
    omega (arith, sum_by-cons (λ z. one_if (p z)) y xs, counted p x xs among is)

-- what is counted is among the elements
first_found : {X : Type 0} (p : X → Bool) (y : X) (xs : List X) (b : Bool) → p y ≡ b → 0 < count_by p (y ∷ xs)
    → (0 < count_by p xs → (x : X) × In x xs × (p x ≡ true)) → (x : X) × In x (y ∷ xs) × (p x ≡ true)
first_found p y xs true is some later = (y, inl refl, is)
first_found p y xs false not some later =
    let no : one_if (p y) ≡ 0 = ap one_if not in
    let rest = later (omega (arith, some, no, sum_by-cons (λ z. one_if (p z)) y xs)) in
    (rest.0, inr rest.1, rest.2)

found : {X : Type 0} (p : X → Bool) (xs : List X) → 0 < count_by p xs → (x : X) × In x xs × (p x ≡ true)
found p [] some = absurd (omega (arith, some))
found p (y ∷ xs) some = first_found p y xs (p y) refl some (found p xs)

-- what the statuses say of the sums
abbrev status_by : Bool → Bool → ℕ
status_by unmet few = if unmet then 8 else if few then 0 else 6

by_zero : (unmet few : Bool) → status_by unmet few ≡ 0 → (unmet ≡ false) × (few ≡ true)
by_zero true few e = absurd (omega (arith, e))
by_zero false true e = (refl, refl)
by_zero false false e = absurd (omega (arith, e))

by_eight : (unmet few : Bool) → status_by unmet few ≡ 8 → unmet ≡ true
by_eight true few e = refl
by_eight false true e = absurd (omega (arith, e))
by_eight false false e = absurd (omega (arith, e))

status_zero : (sums : Sums) → survey_status sums ≡ 0 → (sums.unmet ≡ 0) × (sums.outcomes ≤ 1)
status_zero sums zero =
    let said = by_zero (nat_lt 0 sums.unmet) (nat_le sums.outcomes 1) zero in
    let none : 0 < sums.unmet → ⊥ = λ some. true≢false (sym ((Decides-ltb 0 sums.unmet).1 some) ∙ said.0) in
    let few : sums.outcomes ≤ 1 = elim (leb_tells sums.outcomes 1) [
      | inl low ↦ low.1
      | inr more ↦ absurd (true≢false (sym said.1 ∙ more.0))
    ] in
    (omega (arith, none), few)

some_unmet : (sums : Sums) → survey_status sums ≡ 8 → 0 < sums.unmet
some_unmet sums eight =
    (Decides-ltb 0 sums.unmet).0 (by_eight (nat_lt 0 sums.unmet) (nat_le sums.outcomes 1) eight)

status_eight : (sums : Sums) → 0 < sums.unmet → survey_status sums ≡ 8
status_eight sums some =
    ap (λ unmet. status_by unmet (nat_le sums.outcomes 1)) ((Decides-ltb 0 sums.unmet).1 some)

-- an ending is unmet exactly if it is tested to be
unmet_end : (ending : Ending) → is_unmet_end ending ≡ true → ending ≡ Unmet
unmet_end Over e = absurd (true≢false (sym e))
unmet_end AtLimit e = absurd (true≢false (sym e))
unmet_end Unmet e = refl

-- alike runs end in one way, and have the same lines
same_end : (script : Script) (a b : Report) → AreAlike script script a b → (run_of a).ending ≡ (run_of b).ending
same_end script a b alike =
    ap (λ (j : Journal). ending_of a.stopped j.entries) alike.journal
    ∙ ap (λ stopped. ending_of stopped b.journal.entries) alike.stopped

same_lines : (format : Format) (script : Script) (run other a b : Report) → AreAlike script script run a
    → AreAlike script script other b → HasLinesOf format script.classes (run_of a) (run_of b)
    → HasLinesOf format script.classes (run_of run) (run_of other)
same_lines format script run other a b alike others has text contains =
    subst (λ outcomes. Contains (map (λ (line : Line). line.text) (lines_of format script.classes outcomes)) text)
    (sym alike.outcomes) (has text (subst
    (λ outcomes. Contains (map (λ (line : Line). line.text) (lines_of format script.classes outcomes)) text)
    others.outcomes contains))

-- the runs of a survey
gathered : (format : Format) (script : Script) (survey : Survey)
    (all : HasSurveyed format script (orders script) survey) (report : Report) → Contains all.reports report
    → In (run_of report) (map run_of all.reports)
gathered format script survey all report contains =
    in_map run_of report all.reports (in_from report all.reports contains)

unmet_gathered : (format : Format) (script : Script) (survey : Survey) (sums : Sums)
    (all : HasSurveyed format script (orders script) survey) → AreSumsOf survey sums
    → sums.unmet ≡ count_by (λ (run : Run). is_unmet_end run.ending) (map run_of all.reports)
unmet_gathered format script survey sums all are =
    are.unmet
    ∙ ap (λ (s : Survey). count_of s.unmet) all.gathers
    ∙ unmet_is_counted format script.classes (map run_of all.reports)

-- a run that ends unmet is counted
unmet_counted : (format : Format) (script : Script) (survey : Survey) (sums : Sums)
    → HasSurveyed format script (orders script) survey → AreSumsOf survey sums → (report : Report)
    → IsRun script report → EndsUnmet report → 0 < sums.unmet
unmet_counted format script survey sums all are report runs unmet =
    let surveyed = every_run_is_surveyed format script survey all report runs in
    let end = ap is_unmet_end (sym (same_end script report surveyed.0 surveyed.2) ∙ unmet) in
    subst (λ n. 0 < n) (sym (unmet_gathered format script survey sums all are))
    (counted (λ (run : Run). is_unmet_end run.ending) (run_of surveyed.0) (map run_of all.reports)
    (gathered format script survey all surveyed.0 surveyed.1) end)

-- a run has each line of another
has_lines : (format : Format) (script : Script) (survey : Survey) (sums : Sums)
    → HasSurveyed format script (orders script) survey → AreSumsOf survey sums → survey_status sums ≡ 0
    → (a b : Report) → IsRun script a → IsRun script b → HasLinesOf format script.classes (run_of a) (run_of b)
has_lines format script survey sums all are zero a b runs others =
    let mine = every_run_is_surveyed format script survey all a runs in
    let theirs = every_run_is_surveyed format script survey all b others in
    let reports = map run_of all.reports in
    let one = subst (λ n. n ≤ 1) are.ways (status_zero sums zero).1 in
    let few = subst (λ (s : Survey). length s.outcomes ≤ 1) all.gathers one in
    same_lines format script a b mine.0 theirs.0 mine.2 theirs.2
    (one_outcome_is_one_set format script.classes reports (run_of mine.0) (run_of theirs.0) few
    (contains_from (run_of mine.0) reports (gathered format script survey all mine.0 mine.1))
    (contains_from (run_of theirs.0) reports (gathered format script survey all theirs.0 theirs.1)))

-- a run doesn't end unmet
is_met : (format : Format) (script : Script) (survey : Survey) (sums : Sums)
    → HasSurveyed format script (orders script) survey → AreSumsOf survey sums → survey_status sums ≡ 0
    → (report : Report) → IsRun script report → (run_of report).ending ≢ Unmet
is_met format script survey sums all are zero report runs unmet =
    let some = unmet_counted format script survey sums all are report runs unmet in
    let none = (status_zero sums zero).0 in
    omega (arith, some, none)

pub one_outcome_holds : OneOutcomeHoldsOfEveryRun
one_outcome_holds format script survey sums all are zero a b runs others = record {
  lines = has_lines format script survey sums all are zero a b runs others;
  other_lines = has_lines format script survey sums all are zero b a others runs;
  met = is_met format script survey sums all are zero a runs;
  other_met = is_met format script survey sums all are zero b others;
}

pub unmet_is_found : UnmetIsFoundExactly
unmet_is_found format script survey sums all are = (
  λ eight.
      let some = subst (λ n. 0 < n) (unmet_gathered format script survey sums all are) (some_unmet sums eight) in
      let run = found (λ (run : Run). is_unmet_end run.ending) (map run_of all.reports) some in
      let report = of_map run_of run.0 all.reports run.1 in (
        report.0,
        All-contains (IsRun script) all.reports report.0 all.runs (contains_from report.0 all.reports report.1),
        unmet_end (run_of report.0).ending (ap (λ (r : Run). is_unmet_end r.ending) report.2 ∙ run.2),
      ),
  λ is. status_eight sums (unmet_counted format script survey sums all are is.0 is.1 is.2),
)
