use Rattle.std.proofs.Common.{◌≡◌, ◌+◌, ◌∷◌, [], length, List, slice_get, Some, sym, subst, length-append, arith}
use Rattle.dv_threads.proofs.JobLemmas.{next_goes_on}
use Rattle.dv_threads.specs.Threading.{GoesOn}
use Rattle.dv_script.specs.declared.work.Work.{Work}
use Rattle.dv_threads.proofs.submissions.Submissions.submit_all.Goals as goal

pub loop-number-preserved : goal.loop-number-preserved
loop-number-preserved g c =
    let found : slice_get c.args.works.now.works (length c.loop-number.self) ≡ Some c.work.result = subst
    (λ n. slice_get c.args.works.now.works n ≡ Some c.work.result) (sym c.loop-number.invariant.count) c.work.ensures in
    subst (λ (s : List Work). record {
      first : GoesOn s c.args.works.now.works;
      count : length s ≡ c.loop-number.number + 1;
    }) (sym c.in_ok-submit.ensures)
    (record {
      first = next_goes_on c.loop-number.self c.args.works.now.works c.work.result c.loop-number.invariant.first found;
      count = omega (arith, length-append c.loop-number.self (c.work.result ∷ []), c.loop-number.invariant.count);
    })
