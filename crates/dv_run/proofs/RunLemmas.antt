-- How a run ends, by how its parts do.
use Rattle.std.proofs.Common.{arith, ◌≡◌, ◌≢◌, ◌≤◌, ℕ, zero, suc, nat_le, Bool, true, false, ◌&&◌, List, [], ◌∷◌}
use Rattle.std.proofs.Common.{length, inl, inr, refl, subst}
use Rattle.std.proofs.lemmas.Bool.Decides.{nat_tests}
use Rattle.std.specs.List.{list_all}
use Rattle.std.proofs.KnownBytes.{Keeps-refl}
use Rattle.std.specs.Io.KnownBytes.{Appends, Consumes}
use Rattle.dv_posts.specs.Batches.{Callers, bodies_of}
use Rattle.dv_engine.specs.declared.report.Report.{Report}
use Rattle.dv_journal.specs.Sink.{AppendsPrefix, HasFailed}
use Rattle.dv_journal.specs.declared.error.PrintFault.{PrintFault}
use Rattle.dv_journal.specs.declared.error.PrintFault.TheVariants as printing
use Rattle.dv_reader.specs.Limits.{are_few}
use Rattle.dv_reader.specs.Refusal.{Says, Refuses}
use Rattle.dv_reader.specs.declared.error.ScriptFault.{ScriptFault}
use Rattle.dv_reader.specs.declared.error.ScriptFault.TheVariants as script
use Rattle.dv_script.specs.declared.script.Script.{Script}
use Rattle.dv_posts.specs.Callers.{AreFew}
use Rattle.dv_run.specs.Faults.{of_read, of_script, of_print}
use Rattle.dv_run.specs.Headline.{IsRun, Prints, SaysReport, Told, most_read}
use Rattle.dv_run.specs.Output.{report_text}
use Rattle.dv_run.specs.Run.{SaysScript, RefusesInput, GivesUp, HasRead, LeavesAfter, ReaderFailedBy, WriterFailedBy}
use Rattle.dv_run.specs.Run.{GivesNoScript}
use Rattle.dv_source.specs.Source.{ConsumesSome, IsFrontOf}
use Rattle.dv_run.specs.declared.error.RunFault.TheVariants.{OutOfMemory}
use Rattle.dv_source.specs.declared.source.ReadError.{ReadError}
use Rattle.dv_source.specs.declared.source.ReadError.TheVariants as reading

-- a read that failed: nothing was written
after_read : (input old : Told) (error : ReadError) → GivesUp (of_read error) input old old
after_read input old reading.ReadFault = Keeps-refl old
after_read input old reading.OutOfMemory = inl (Keeps-refl old)

-- bytes that are refused, for a reason other than out of memory: nothing was written
refused_as : (input old : Told) (bytes : List ℕ) (fault : ScriptFault) → IsFrontOf input most_read bytes
    → Refuses fault bytes → fault ≢ script.OutOfMemory → RefusesInput input old old fault
refused_as input old bytes fault front refused reason =
    record { bytes = bytes; read = front; refused = refused; reason = reason; written = Keeps-refl old }

-- a script that is refused: nothing was written
after_script : (input old : Told) (bytes : List ℕ) (fault : ScriptFault) → IsFrontOf input most_read bytes
    → Refuses fault bytes → GivesUp (of_script fault) input old old
after_script input old bytes script.TooLong front refused =
    refused_as input old bytes script.TooLong front refused (λ e. cc)
after_script input old bytes script.NotJson front refused =
    refused_as input old bytes script.NotJson front refused (λ e. cc)
after_script input old bytes script.BadVersion front refused =
    refused_as input old bytes script.BadVersion front refused (λ e. cc)
after_script input old bytes script.BadShape front refused =
    refused_as input old bytes script.BadShape front refused (λ e. cc)
after_script input old bytes script.TooMany front refused =
    refused_as input old bytes script.TooMany front refused (λ e. cc)
after_script input old bytes script.BadName front refused =
    refused_as input old bytes script.BadName front refused (λ e. cc)
after_script input old bytes script.BadClass front refused =
    refused_as input old bytes script.BadClass front refused (λ e. cc)
after_script input old bytes script.OutOfMemory front refused = inl (Keeps-refl old)
after_script input old bytes script.BadPool front refused =
    refused_as input old bytes script.BadPool front refused (λ e. cc)
after_script input old bytes script.BadBody front refused =
    refused_as input old bytes script.BadBody front refused (λ e. cc)
after_script input old bytes script.BadCooperator front refused =
    refused_as input old bytes script.BadCooperator front refused (λ e. cc)

-- a script that isn't performed on allocation failure: nothing was written
pub after_perform : (input old : Told) → GivesUp OutOfMemory input old old
after_perform input old = inl (Keeps-refl old)

-- the report of the script that the input says
says_report : (input : Told) (read : Script) (report : Report) → SaysScript input read → IsRun read report
    → SaysReport input read report
says_report input read report says runs = record { bytes = says.bytes; read = says.read; says = says.says; runs = runs }

-- a print that failed: a prefix was written
pub after_print : (input old new : Told) (read : Script) (report : Report) (fault : PrintFault) → SaysScript input read
    → IsRun read report
    → AppendsPrefix old new (report_text read.classes report) → GivesUp (of_print fault) input old new
after_print input old new read report printing.WriteFault says runs written =
    record { script = read; report = report; says = says_report input read report says runs; written = written }
after_print input old new read report printing.OutOfMemory says runs written =
    inr (record { script = read; report = report; says = says_report input read report says runs; written = written })

-- all was written
pub after_all : (input old new : Told) (read : Script) (report : Report) → SaysScript input read → IsRun read report
    → Appends old new (report_text read.classes report) → Prints input old new report
after_all input old new read report says runs written =
    record { script = read; says = says_report input read report says runs; written = written }

-- what the reader's count says after a read that failed
reader_after_read : (error : ReadError) (old new : ℕ) → ((error ≡ reading.ReadFault) → HasFailed old new)
    → ((error ≡ reading.OutOfMemory) → new ≡ old) → ReaderFailedBy (of_read error) old new
unfolding ReaderFailedBy
reader_after_read reading.ReadFault old new failed kept = failed refl
reader_after_read reading.OutOfMemory old new failed kept = kept refl

-- and the writer's: it hasn't failed
writer_after_read : (error : ReadError) (old : ℕ) → WriterFailedBy (of_read error) old old
unfolding WriterFailedBy
writer_after_read reading.ReadFault old = refl
writer_after_read reading.OutOfMemory old = refl

-- where a script is refused, the reader hasn't failed
reader_after_script : (fault : ScriptFault) (old new : ℕ) → new ≡ old → ReaderFailedBy (of_script fault) old new
unfolding ReaderFailedBy
reader_after_script script.TooLong old new kept = kept
reader_after_script script.NotJson old new kept = kept
reader_after_script script.BadVersion old new kept = kept
reader_after_script script.BadShape old new kept = kept
reader_after_script script.TooMany old new kept = kept
reader_after_script script.BadName old new kept = kept
reader_after_script script.BadClass old new kept = kept
reader_after_script script.OutOfMemory old new kept = kept
reader_after_script script.BadPool old new kept = kept
reader_after_script script.BadBody old new kept = kept
reader_after_script script.BadCooperator old new kept = kept

-- nor has the writer
writer_after_script : (fault : ScriptFault) (old : ℕ) → WriterFailedBy (of_script fault) old old
unfolding WriterFailedBy
writer_after_script script.TooLong old = refl
writer_after_script script.NotJson old = refl
writer_after_script script.BadVersion old = refl
writer_after_script script.BadShape old = refl
writer_after_script script.TooMany old = refl
writer_after_script script.BadName old = refl
writer_after_script script.BadClass old = refl
writer_after_script script.OutOfMemory old = refl
writer_after_script script.BadPool old = refl
writer_after_script script.BadBody old = refl
writer_after_script script.BadCooperator old = refl

-- where a print failed, the reader hasn't failed
pub reader_after_print : (fault : PrintFault) (old new : ℕ) → new ≡ old → ReaderFailedBy (of_print fault) old new
unfolding ReaderFailedBy
reader_after_print printing.WriteFault old new kept = kept
reader_after_print printing.OutOfMemory old new kept = kept

-- and the writer's count says what the print said of it
pub writer_after_print : (fault : PrintFault) (old new : ℕ) → ((fault ≡ printing.WriteFault) → HasFailed old new)
    → ((fault ≡ printing.OutOfMemory) → new ≡ old) → WriterFailedBy (of_print fault) old new
unfolding WriterFailedBy
writer_after_print printing.WriteFault old new failed kept = failed refl
writer_after_print printing.OutOfMemory old new failed kept = kept refl

-- a read that failed leaves the rest
left_after_read : (error : ReadError) (input rest : Told) → ConsumesSome input rest
    → LeavesAfter (of_read error) input rest
unfolding LeavesAfter
left_after_read reading.ReadFault input rest some = some
left_after_read reading.OutOfMemory input rest some = some

-- what was read was taken
some_read : (input rest : Told) → HasRead input rest → ConsumesSome input rest
some_read input rest read = (read.bytes, read.taken)

-- where a script is refused, as much was read as a script may have
left_after_script : (fault : ScriptFault) (input rest : Told) → HasRead input rest
    → LeavesAfter (of_script fault) input rest
unfolding LeavesAfter
left_after_script script.TooLong input rest read = read
left_after_script script.NotJson input rest read = read
left_after_script script.BadVersion input rest read = read
left_after_script script.BadShape input rest read = read
left_after_script script.TooMany input rest read = read
left_after_script script.BadName input rest read = read
left_after_script script.BadClass input rest read = read
left_after_script script.OutOfMemory input rest read = some_read input rest read
left_after_script script.BadPool input rest read = read
left_after_script script.BadBody input rest read = read
left_after_script script.BadCooperator input rest read = read

-- and where it isn't performed, or isn't printed
pub left_after_perform : (input rest : Told) → HasRead input rest → LeavesAfter OutOfMemory input rest
unfolding LeavesAfter
left_after_perform input rest read = some_read input rest read

pub left_after_print : (fault : PrintFault) (input rest : Told) → HasRead input rest
    → LeavesAfter (of_print fault) input rest
unfolding LeavesAfter
left_after_print printing.WriteFault input rest read = read
left_after_print printing.OutOfMemory input rest read = some_read input rest read

-- a read that failed leads to no script
pub read_gives_none : (input rest : Told) (error : ReadError) (old new : ℕ)
    → ((error ≡ reading.ReadFault) → HasFailed old new) → ((error ≡ reading.OutOfMemory) → new ≡ old)
    → ConsumesSome input rest → GivesNoScript (of_read error) input rest old new
read_gives_none input rest error old new failed kept some =
    record {
      untouched = λ told. after_read input told error;
      reader = reader_after_read error old new failed kept;
      writer = λ count. writer_after_read error count;
      left = left_after_read error input rest some;
    }

-- the bytes of the front were read
pub front_read : (input rest : Told) (bytes : List ℕ) → IsFrontOf input most_read bytes → Consumes input rest bytes
    → HasRead input rest
front_read input rest bytes front taken = record { bytes = bytes; front = front; taken = taken }

-- nor do bytes that say none
pub bytes_give_none : (input rest : Told) (bytes : List ℕ) (fault : ScriptFault) (old new : ℕ)
    → IsFrontOf input most_read bytes → Consumes input rest bytes → Refuses fault bytes → new ≡ old
    → GivesNoScript (of_script fault) input rest old new
bytes_give_none input rest bytes fault old new front taken refused kept =
    record {
      untouched = λ told. after_script input told bytes fault front refused;
      reader = reader_after_script fault old new kept;
      writer = λ count. writer_after_script fault count;
      left = left_after_script fault input rest (front_read input rest bytes front taken);
    }

-- any others say a script
pub bytes_say : (input : Told) (bytes : List ℕ) (read : Script) → IsFrontOf input most_read bytes → Says bytes read
    → SaysScript input read
bytes_say input bytes read front says = record { bytes = bytes; read = front; says = says }

-- of few callers, each of few posts
and_first : (a b : Bool) → (a && b) ≡ true → a ≡ true
and_first true b e = refl
and_first false b e = e

and_second : (a b : Bool) → (a && b) ≡ true → b ≡ true
and_second true b e = e
and_second false b e = absurd cc

below_most : (n most : ℕ) → nat_le n most ≡ true → n ≤ most
below_most n most e = grind (arith, nat_tests)

few_at : (callers : Callers) (c : ℕ) → list_all are_few callers ≡ true → length (bodies_of callers c) ≤ 256
few_at [] c e = omega arith
few_at (bodies ∷ callers) zero e = below_most (length bodies) 256 (and_first _ _ e)
few_at (bodies ∷ callers) (suc c) e = few_at callers c (and_second _ _ e)

pub says_few : (bytes : List ℕ) (read : Script) → Says bytes read → AreFew read.callers
says_few bytes read says = subst (λ (s : Script). AreFew s.callers) says.same (record {
  callers_few =
      below_most (length says.draft.script.callers) 8 (and_second _ _ (and_first _ _ (and_first _ _ says.small)));
  posts_few = λ c. few_at says.draft.script.callers c (and_second _ _ (and_first _ _ says.small));
})

-- nor has either where a script isn't performed on allocation failure
pub reader_after_perform : (old new : ℕ) → new ≡ old → ReaderFailedBy OutOfMemory old new
unfolding ReaderFailedBy
reader_after_perform old new kept = kept

pub writer_after_perform : (old : ℕ) → WriterFailedBy OutOfMemory old old
unfolding WriterFailedBy
writer_after_perform old = refl

pub ruleset script_rules = (read_gives_none, front_read, bytes_give_none, bytes_say, says_few)

pub ruleset run_rules = (
  after_perform,
  after_print,
  after_all,
  reader_after_perform,
  writer_after_perform,
  reader_after_print,
  writer_after_print,
  left_after_perform,
  left_after_print,
)
