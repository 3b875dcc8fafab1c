-- What is gathered of runs in several orders, and what is written of that, by how its parts end.
use Rattle.std.proofs.Common.{arith, ◌≡◌, ℕ, Some, None, true, List, [], ◌∷◌, ◌++◌, OnOk, Ok, Err, Result, length, map}
use Rattle.std.proofs.Common.{inl, inr, refl, ap, sym, subst, ◌∙◌}
use Rattle.std.proofs.KnownBytes.{Keeps-refl, Appends-trans}
use Rattle.std.proofs.lemmas.List.{append-nil, map-append}
use Rattle.std.proofs.lemmas.List.Elements.{All-append, All-cons, All-nil}
use Rattle.std.proofs.lemmas.List.Sums.{fold-append}
use Rattle.std.specs.Io.KnownBytes.{Appends}
use Rattle.dv_engine.specs.declared.report.Report.{Report}
use Rattle.dv_journal.proofs.Taken.{but_all}
use Rattle.dv_journal.specs.Sink.{AppendsPrefix}
use Rattle.dv_journal.specs.declared.error.PrintFault.{PrintFault}
use Rattle.dv_journal.specs.declared.error.PrintFault.TheVariants as printing
use Rattle.dv_orders.specs.Orders.{orders}
use Rattle.dv_run.proofs.OutputLemmas.{first_then_prefix}
use Rattle.dv_run.specs.Faults.{of_print}
use Rattle.dv_run.specs.declared.error.RunFault.{RunFault}
use Rattle.dv_run.specs.declared.error.RunFault.TheVariants.{ScriptRefused, OutOfMemory, ReadFault, WriteFault}
use Rattle.dv_posts.specs.Batches.{Batch}
use Rattle.dv_replay.specs.Surveying as surveying
use Rattle.dv_replay.specs.Surveying.{CountFails, GivesUp, HasSurveyed, OrdersGiveUp, format_of, PrintsOrders, Surveys}
use Rattle.dv_replay.specs.Surveying.{chosen_orders, is_few, orders_text, ran, run_of}
use Rattle.dv_replay.specs.declared.error.SurveyFault.{SurveyFault}
use Rattle.dv_replay.specs.declared.exit.Sums.{Sums}
use Rattle.dv_survey.specs.Tallies.{count_of}
use Rattle.dv_replay.specs.declared.error.SurveyFault.TheVariants as failing
use Rattle.dv_run.specs.declared.orders.Chosen.{Chosen}
use Rattle.dv_run.specs.Headline.{IsRun, Told}
use Rattle.dv_run.specs.Run.{GivesNoScript, HasRead, LeavesAfter, ReaderFailedBy, SaysScript, WriterFailedBy}
use Rattle.dv_script.specs.declared.script.Script.{Script}
use Rattle.dv_survey.specs.Survey.{Run, no_runs, survey_of, with_run}
use Rattle.dv_survey.specs.Text.{number_text, survey_text}
use Rattle.dv_survey.specs.declared.format.Format.{Format}
use Rattle.dv_survey.specs.declared.format.Format.TheVariants.{Lines, Json}
use Rattle.dv_survey.specs.declared.survey.Survey.{Survey}

-- nothing was performed yet
none_yet : (format : Format) (script : Script) → HasSurveyed format script [] (no_runs format)
none_yet format script = record { reports = []; runs = All-nil (IsRun script); took = refl; gathers = refl }

-- a run in one order more was gathered
one_more : (format : Format) (script : Script) (seen : List (List Batch)) (old new : Survey) (batches : List Batch)
    (report : Report) (run : Run) → IsRun script report → report.batches ≡ batches → run ≡ run_of report
    → new ≡ with_run script.classes old run → HasSurveyed format script seen old
    → HasSurveyed format script (seen ++ batches ∷ []) new
one_more format script seen old new batches report run runs took is added has = record {
  reports = has.reports ++ report ∷ [];
  runs =
      All-append (IsRun script) has.reports (report ∷ []) has.runs
      (All-cons (IsRun script) report [] runs (All-nil (IsRun script)));
  took =
      map-append (λ (r : Report). r.batches) has.reports (report ∷ []) ∙ ap (λ l. l ++ report.batches ∷ []) has.took
      ∙ ap (λ b. seen ++ b ∷ []) took;
  gathers =
      added
      ∙ ap (with_run script.classes old) is
      ∙ ap (λ s. with_run script.classes s (run_of report)) has.gathers
      ∙ sym (fold-append (with_run script.classes) (no_runs format) (map run_of has.reports) (run_of report ∷ []))
      ∙ ap (survey_of format script.classes) (sym (map-append run_of has.reports (report ∷ [])));
}

-- the same of a script that is the surveyor's own
pub visited : (format : Format) (script own : Script) (old new : Survey) (batches : List Batch) (report : Report)
    (run : Run) → script ≡ own → IsRun script report → report.batches ≡ batches → run ≡ run_of report
    → new ≡ with_run script.classes old run → (seen : List (List Batch)) → HasSurveyed format own seen old
    → HasSurveyed format own (seen ++ batches ∷ []) new
visited format script own old new batches report run same runs took is added seen =
    subst (λ s. HasSurveyed format s seen old → HasSurveyed format s (seen ++ batches ∷ []) new) same
    (one_more format script seen old new batches report run runs took is added)

-- all orders were visited, from none on
all_visited : (format : Format) (script own : Script) (all : List (List Batch)) (none new : Survey) → own ≡ script
    → none ≡ no_runs format
    → ((seen : List (List Batch)) → HasSurveyed format script seen none → HasSurveyed format own (seen ++ all) new)
    → HasSurveyed format script all new
all_visited format script own all none new is are more =
    subst (λ s. HasSurveyed format s all new) is
    (more [] (subst (HasSurveyed format script []) (sym are) (none_yet format script)))

-- whatever the format
pub all_surveyed : (format : Format) (script own : Script) (all : List (List Batch)) (none new : Survey) → own ≡ script
    → none ≡ no_runs format
    → ((mark : List ℕ) (seen : List (List Batch)) → HasSurveyed (format_of mark) script seen none
    → HasSurveyed (format_of mark) own (seen ++ all) new) → HasSurveyed format script all new
all_surveyed (Lines None) script own all none new is are more =
    all_visited (Lines None) script own all none new is are (more [])
all_surveyed (Lines (Some size)) script own all none new is are more =
    all_visited (Lines (Some size)) script own all none new is are (more (size ∷ []))
all_surveyed (Json None) script own all none new is are more =
    all_visited (Json None) script own all none new is are (more (0 ∷ 0 ∷ []))
all_surveyed (Json (Some size)) script own all none new is are more =
    all_visited (Json (Some size)) script own all none new is are (more (size ∷ 0 ∷ 0 ∷ []))

pub on_ok : {A E P Q : Type 0} (result : Result A E) → OnOk result P → (P → Q) → OnOk result Q
on_ok (Ok a) p more = more p
on_ok (Err e) p more = tt

-- the orders aren't performed: nothing was written
pub count_fails : (format : Format) (fault : SurveyFault) (chosen : Chosen) (told : Told) (script : Script)
    → CountFails fault chosen script → OrdersGiveUp format fault chosen told told script
count_fails format (failing.Run (ScriptRefused fault)) chosen told script none = none
count_fails format (failing.Run OutOfMemory) chosen told script none =
    inl (number_text format (length (orders script)), but_all told (number_text format (length (orders script))))
count_fails format (failing.Run ReadFault) chosen told script none = none
count_fails format (failing.Run WriteFault) chosen told script none = absurd none
count_fails format (failing.TooMany number) chosen told script exceeds = (exceeds, Keeps-refl told)

pub count_writer : (fault : SurveyFault) (chosen : Chosen) (count : ℕ) (script : Script)
    → CountFails fault chosen script → surveying.WriterFailedBy fault count count
unfolding WriterFailedBy
count_writer (failing.Run (ScriptRefused fault)) chosen count script none = refl
count_writer (failing.Run OutOfMemory) chosen count script none = refl
count_writer (failing.Run ReadFault) chosen count script none = refl
count_writer (failing.Run WriteFault) chosen count script none = absurd none
count_writer (failing.TooMany number) chosen count script exceeds = refl

-- the line of their number wasn't written whole
pub number_fails : (format : Format) (fault : PrintFault) (chosen : Chosen) (n : ℕ) (old new : Told) (script : Script)
    → n ≡ length (orders script) → AppendsPrefix old new (number_text format n)
    → OrdersGiveUp format (failing.Run (of_print fault)) chosen old new script
number_fails format printing.WriteFault chosen n old new script number cut =
    inl (subst (λ m. AppendsPrefix old new (number_text format m)) number cut)
number_fails format printing.OutOfMemory chosen n old new script number cut =
    inl (subst (λ m. AppendsPrefix old new (number_text format m)) number cut)

-- what was written whole is a prefix of itself
whole : (old new : Told) (text : List ℕ) → Appends old new text → AppendsPrefix old new text
whole old new text written = ([], (text, written, sym (append-nil text)))

-- the runs failed after that line
pub runs_fail : (format : Format) (chosen : Chosen) (n : ℕ) (old new : Told) (script : Script)
    → n ≡ length (orders script) → Appends old new (number_text format n)
    → OrdersGiveUp format (failing.Run OutOfMemory) chosen old new script
runs_fail format chosen n old new script number written =
    inl
    (subst (λ m. AppendsPrefix old new (number_text format m)) number (whole old new (number_text format n) written))

-- the rest wasn't written whole
some_of : (format : Format) (chosen : Chosen) (n : ℕ) (old mid new : Told) (script : Script) (survey : Survey)
    → n ≡ length (orders script) → Appends old mid (number_text format n)
    → AppendsPrefix mid new (survey_text survey (ran chosen n))
    → AppendsPrefix old new (orders_text format chosen (length (orders script)) survey)
some_of format chosen n old mid new script survey number line cut =
    subst (λ m. AppendsPrefix old new (orders_text format chosen m survey)) number
    (first_then_prefix old mid new (number_text format n) (survey_text survey (ran chosen n)) line cut)

pub survey_fails : (format : Format) (fault : PrintFault) (chosen : Chosen) (n : ℕ) (old mid new : Told)
    (script : Script) (survey : Survey) → n ≡ length (orders script)
    → HasSurveyed format script (chosen_orders chosen script) survey
    → Appends old mid (number_text format n) → AppendsPrefix mid new (survey_text survey (ran chosen n))
    → OrdersGiveUp format (failing.Run (of_print fault)) chosen old new script
survey_fails format printing.WriteFault chosen n old mid new script survey number has line cut = inr (record {
  survey = survey;
  surveyed = has;
  written = some_of format chosen n old mid new script survey number line cut;
})
survey_fails format printing.OutOfMemory chosen n old mid new script survey number has line cut = inr (record {
  survey = survey;
  surveyed = has;
  written = some_of format chosen n old mid new script survey number line cut;
})

-- all was written
pub all_written : (format : Format) (chosen : Chosen) (n : ℕ) (sums : Sums) (old mid new : Told) (script : Script)
    (survey : Survey) → n ≡ length (orders script) → is_few chosen n ≡ true
    → HasSurveyed format script (chosen_orders chosen script) survey
    → Appends old mid (number_text format n) → Appends mid new (survey_text survey (ran chosen n))
    → sums.outcomes ≡ length survey.outcomes → sums.unmet ≡ count_of survey.unmet
    → PrintsOrders format chosen old new sums script
all_written format chosen n sums old mid new script survey number few has line text counted unmet = record {
  few = subst (λ m. is_few chosen m ≡ true) number few;
  survey = survey;
  surveyed = has;
  written =
      subst (λ m. Appends old new (orders_text format chosen m survey)) number
      (Appends-trans old mid new (number_text format n) (survey_text survey (ran chosen n)) line text);
  ways = counted;
  unmet = unmet;
}

-- memory ran out after a print, by which the writer hasn't failed
pub memory_writer : (old new : ℕ) → new ≡ old → WriterFailedBy OutOfMemory old new
unfolding WriterFailedBy
memory_writer old new kept = kept

-- there is no script: nothing was written
pub no_script : (format : Format) (fault : RunFault) (chosen : Chosen) (input rest told : Told) (old new : ℕ)
    → GivesNoScript fault input rest old new → GivesUp format (failing.Run fault) chosen input told told
unfolding WriterFailedBy
no_script format (ScriptRefused fault) chosen input rest told old new none = none.untouched told
no_script format OutOfMemory chosen input rest told old new none = inl (Keeps-refl told)
no_script format ReadFault chosen input rest told old new none = none.untouched told
no_script format WriteFault chosen input rest told old new none =
    elim (none.writer 0) [ inl fewer ↦ absurd (omega (arith, fewer)) | inr more ↦ absurd (omega (arith, more)) ]

-- the input says the script, whose orders were all performed or weren't
pub says_all : (format : Format) (chosen : Chosen) (sums : Sums) (input old new : Told) (script : Script)
    → SaysScript input script → PrintsOrders format chosen old new sums script
    → Surveys format chosen input old new sums
says_all format chosen sums input old new script says prints =
    record { script = script; says = says; holds = prints }

pub says_fault : (format : Format) (fault : SurveyFault) (chosen : Chosen) (input old new : Told) (script : Script)
    → SaysScript input script → OrdersGiveUp format fault chosen old new script
    → GivesUp format fault chosen input old new
says_fault format (failing.Run (ScriptRefused fault)) chosen input old new script says holds = absurd holds
says_fault format (failing.Run OutOfMemory) chosen input old new script says holds =
    inr (record { script = script; says = says; holds = holds })
says_fault format (failing.Run ReadFault) chosen input old new script says holds = absurd holds
says_fault format (failing.Run WriteFault) chosen input old new script says holds =
    record { script = script; says = says; holds = holds }
says_fault format (failing.TooMany number) chosen input old new script says holds =
    record { script = script; says = says; holds = holds }

-- the reader hasn't failed, and was read to its end
pub fault_reader : (format : Format) (fault : SurveyFault) (chosen : Chosen) (told after : Told) (script : Script)
    (old new : ℕ) → OrdersGiveUp format fault chosen told after script → new ≡ old
    → surveying.ReaderFailedBy fault old new
unfolding ReaderFailedBy
fault_reader format (failing.Run (ScriptRefused fault)) chosen told after script old new holds kept = kept
fault_reader format (failing.Run OutOfMemory) chosen told after script old new holds kept = kept
fault_reader format (failing.Run ReadFault) chosen told after script old new holds kept = absurd holds
fault_reader format (failing.Run WriteFault) chosen told after script old new holds kept = kept
fault_reader format (failing.TooMany number) chosen told after script old new holds kept = kept

pub fault_left : (format : Format) (fault : SurveyFault) (chosen : Chosen) (told after : Told) (script : Script)
    (input rest : Told) → OrdersGiveUp format fault chosen told after script → HasRead input rest
    → surveying.LeavesAfter fault input rest
unfolding LeavesAfter
fault_left format (failing.Run (ScriptRefused fault)) chosen told after script input rest holds read = absurd holds
fault_left format (failing.Run OutOfMemory) chosen told after script input rest holds read = (read.bytes, read.taken)
fault_left format (failing.Run ReadFault) chosen told after script input rest holds read = absurd holds
fault_left format (failing.Run WriteFault) chosen told after script input rest holds read = read
fault_left format (failing.TooMany number) chosen told after script input rest holds read = read
