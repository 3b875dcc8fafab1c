use Rattle.std.proofs.Common.{◌++◌, ◌≡◌, ◌∙◌, Err, ap, sym, subst}
use Rattle.dv_posts.specs.Batches.{joined}
use Rattle.dv_engine.specs.Engine.{RanBatch, IsStrange, IsWithin, phase_after}
use Rattle.dv_engine.specs.declared.engine.Phase.{Phase}
use Rattle.dv_engine.specs.declared.error.EngineFault.{EngineFault}
use Rattle.dv_posts.specs.Posts.{of}
use Rattle.dv_posts.proofs.CallerLemmas.{joined_more}
use Rattle.dv_run.proofs.driving.drain.Goals as goal

pub returns-in-Ok-clause-yes : goal.returns-in-Ok-clause-yes
returns-in-Ok-clause-yes g c lawful =
    let e = c.args.engine.now in
    let batch = c.in_ok-batch.batch in
    let got = c.in_ok-batch.ensures in
    let takes = c.in-Ok.ensures in
    let all : joined c.run_batch.new.self.batches ≡ joined e.batches ++ batch =
    ap joined (ap (λ x. x.batches) takes.same) ∙ joined_more e.batches batch in
    record {
      script = ap (λ x. x.script) takes.same;
      left = ap (λ x. x.left) takes.same;
      going = ap (λ x. x.phase) takes.same ∙ ap phase_after c.requires.draining;
      agree = λ caller. ap (of caller) all ∙ got.taken (joined e.batches) c.requires.agree caller;
    }

pub returns-in-Err-Stranger-clause-no : goal.returns-in-Err-Stranger-clause-no
returns-in-Err-Stranger-clause-no g c unlawful =
    let e = c.args.engine.now in
    let batch = c.in_ok-batch.batch in
    let got = c.in_ok-batch.ensures in
    let strange : IsStrange batch e c.run_batch.new.self =
    subst (λ (fault : EngineFault). RanBatch (Err fault) batch e c.run_batch.new.self) c.in-Err-Stranger.field-0-is
    c.in-Err-Stranger.ensures in
    record {
      posts = joined e.batches ++ batch;
      took = got.taken (joined e.batches) c.requires.agree;
      strange =
          λ next.
          strange.strange (subst (λ (phase : Phase). IsWithin phase batch) (sym c.requires.draining) got.few, next);
    }
