-- What is logged submits nothing, and the works that are submitted are the first of those that a run has made.
use Rattle.std.proofs.Common.{◌≡◌, ℕ, zero, suc, Bool, true, false, cond, List, [], ◌∷◌, ◌++◌, Option, None, Some, refl}
use Rattle.std.proofs.Common.{sym, subst, ap, ◌∙◌, length, length-append, ◌+◌, ◌<◌, ◌≤◌, slice_get, arith}
use Rattle.dv_journal.specs.Journal.{fits}
use Rattle.dv_journal.specs.declared.entry.Entry.{Entry}
use Rattle.dv_script.specs.declared.work.Work.{Work}
use Rattle.dv_threads.specs.Threading.{GoesOn, job_result}
use Rattle.dv_jobs.specs.declared.job.Job.{Job}
use Rattle.dv_jobs.specs.Jobs.{numbered, works_of}
use Rattle.dv_jobs.specs.Sources.{AreInRow, IsSubmitted, IsValueUnder}
use Rattle.dv_jobs.proofs.JobLemmas.{at_row, length-works, row-snoc}
use Rattle.dv_jobs.specs.Works.{value_of}
use Rattle.dv_value.specs.declared.value.Value.{Value}
use Rattle.std.specs.Option.{option_map}
use Rattle.dv_objects.specs.Objects.{Objects}
use Rattle.dv_world.specs.World.{World, aside, tell}

one_same : (b : Bool) (u v w : World) → u.works ≡ w.works → v.works ≡ w.works → (cond b u v).works ≡ w.works
one_same true u v w e f = e
one_same false u v w e f = f

pub aside_same : (e : Entry) (change : Objects → Objects) (w : World) → (aside e change w).works ≡ w.works
unfolding aside
aside_same e change w = one_same w.stopped w _ w refl (one_same (fits w.journal e) _ _ w refl refl)

pub told_works : (e : Entry) (w u : World) → u ≡ tell e w → u.works ≡ w.works
told_works e w u same = ap (λ x. x.works) same ∙ aside_same e (λ objects. objects) w

some_injective : {x y : Work} → Some x ≡ Some y → x ≡ y
some_injective h = cc

-- one more that is submitted is the next of them
next_after : (s more : List Work) (work : Work) → slice_get (s ++ more) (length s) ≡ Some work
    → GoesOn (s ++ work ∷ []) (s ++ more)
next_after [] [] work h = absurd cc
next_after [] (x ∷ more) work h = record { more = more; same = ap (λ (y : Work). y ∷ more) (some_injective h) }
next_after (y ∷ s) more work h =
    let rest = next_after s more work h in record { more = rest.more; same = ap (λ (z : List Work). y ∷ z) rest.same }

pub next_goes_on : (s works : List Work) (work : Work) → GoesOn s works → slice_get works (length s) ≡ Some work
    → GoesOn (s ++ work ∷ []) works
next_goes_on s works work g h =
    subst (λ (x : List Work). GoesOn (s ++ work ∷ []) x) (sym g.same)
    (next_after s g.more work (subst (λ (x : List Work). slice_get x (length s) ≡ Some work) g.same h))

-- where as many are submitted as there are, these are they
all_after : (s more : List Work) → length (s ++ more) ≤ length s → s ≡ s ++ more
all_after [] [] h = refl
all_after [] (x ∷ more) h = absurd (omega (arith, h))
all_after (y ∷ s) more h = ap (λ (z : List Work). y ∷ z) (all_after s more (omega (arith, h)))

pub all_goes_on : (s works : List Work) → GoesOn s works → length works ≤ length s → s ≡ works
all_goes_on s works g h = all_after s g.more (subst (λ (x : List Work). length x ≤ length s) g.same h) ∙ sym g.same

-- one more job stands in the row
pub one_more_row : (old new : List Job) (count : ℕ) (work : Work) → count ≡ length old → AreInRow old
    → new ≡ old ++ numbered (length old) work ∷ [] → (count + 1 ≡ length new) × AreInRow new
one_more_row old new count work so_many row grown = (
  omega (arith, so_many, ap length grown, length-append old (numbered (length old) work ∷ [])),
  subst AreInRow (sym grown) (row-snoc old work row),
)

there : (works : List Work) (job : ℕ) → job < length works → (work : Work) × (slice_get works job ≡ Some work)
there [] job low = absurd (omega (arith, low))
there (x ∷ works) zero low = (x, refl)
there (x ∷ works) (suc job) low = there works job (omega (arith, low))

-- a number below their count is that of a job
pub low_submitted : (jobs : List Job) (count job : ℕ) → count ≡ length jobs → AreInRow jobs → job < count
    → IsSubmitted job jobs
low_submitted jobs count job so_many row low =
    let found = there (works_of jobs) job (omega (arith, low, so_many, length-works jobs)) in
    (found.0, at_row jobs job row ∙ found.1)

-- the value of the work under a number is the result of that job
pub result_at : (job : ℕ) (jobs : List Job) (value : Value) → AreInRow jobs → IsValueUnder job jobs value
    → Some value ≡ job_result job (works_of jobs)
result_at job jobs value row h =
    ap Some h.2 ∙ ap (λ (o : Option Work). option_map value_of o) (sym h.1 ∙ at_row jobs job row)

-- a number past them is of no job
none_past : (job : ℕ) (works : List Work) → length works ≤ job → slice_get works job ≡ None
none_past job [] h = refl
none_past zero (x ∷ works) h = absurd (omega (arith, h))
none_past (suc job) (x ∷ works) h = none_past job works (omega (arith, h))

pub no_result : (job : ℕ) (works : List Work) → length works ≤ job → None ≡ job_result job works
no_result job works h = ap (λ (o : Option Work). option_map value_of o) (sym (none_past job works h))
