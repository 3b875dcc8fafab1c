use Rattle.std.proofs.Common.{◌+◌, drop, slice_index_or, sym, subst}
use Rattle.std.proofs.lemmas.List.{get_or_default}
use Rattle.dv_posts.proofs.CountLemmas.{drop_at}
use Rattle.dv_engine.proofs.EngineLemmas.{run_bounded, runs_joined}
use Rattle.dv_loop.specs.Meaning.{Runs}
use Rattle.dv_definition.specs.Scripts.{posting, postings}
use Rattle.dv_posts.specs.declared.posted.Posted.{Posted}
use Rattle.dv_engine.proofs.draining.run_posts.Goals as goal

pub loop-posted-preserved : goal.loop-posted-preserved
loop-posted-preserved g c =
    let none : Posted = record { caller = 0; index = 0 } in
    let callers = c.args.callers.now in
    let batch = c.args.batch.now in
    let i = c.loop-posted.posted-index in
    let p = slice_index_or batch i none in
    let old = c.loop-posted.turn.world in
    let next = c.run_post_if_there.new.turn.world in
    let came = c.in_ok-run_post_if_there.ensures in
    record {
      leads = λ v runs. c.loop-posted.invariant.leads v
          (subst (λ l. Runs (postings callers l) old v)
          (sym (drop_at batch i p c.loop-posted-test.true (get_or_default batch i none p c.loop-posted-test.true)))
          (runs_joined (posting callers p) (postings callers (drop (i + 1) batch)) old next v came.runs runs));
      bounded = run_bounded (posting callers p) old next came.runs c.loop-posted.invariant.bounded;
      jobs = came.jobs;
    }
