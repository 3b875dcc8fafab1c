use Rattle.std.proofs.Common.{◌++◌, ◌≡◌, ◌∙◌, Err, ap, sym, subst}
use Rattle.dv_posts.specs.Batches.{joined, posts_of}
use Rattle.dv_engine.specs.Engine.{RanBatch, IsStrange, IsWithin, phase_after}
use Rattle.dv_engine.specs.declared.engine.Phase.{Phase}
use Rattle.dv_engine.specs.declared.error.EngineFault.{EngineFault}
use Rattle.dv_posts.specs.Posts.{of}
use Rattle.dv_posts.proofs.CallerLemmas.{all_next, joined_more}
use Rattle.dv_run.proofs.driving.take_rest.Goals as goal

pub returns-in-Ok : goal.returns-in-Ok
returns-in-Ok g c =
    let e = c.args.engine.now in
    let rest = c.args.rest in
    let takes = c.in-Ok.ensures in
    let all : joined c.run_batch.new.self.batches ≡ joined e.batches ++ rest =
    ap joined (ap (λ x. x.batches) takes.same) ∙ joined_more e.batches rest in
    record {
      script = ap (λ x. x.script) takes.same;
      over = ap (λ x. x.phase) takes.same ∙ ap phase_after c.requires.ended;
      complete =
          λ caller. ap (of caller) all ∙ c.requires.all caller
          ∙ sym (ap (λ x. posts_of x.script.callers caller) takes.same);
    }

pub unreachable-requires-in-Err-Stranger : goal.unreachable-requires-in-Err-Stranger
unreachable-requires-in-Err-Stranger g c =
    let e = c.args.engine.now in
    let rest = c.args.rest in
    let strange : IsStrange rest e c.run_batch.new.self =
    subst (λ (fault : EngineFault). RanBatch (Err fault) rest e c.run_batch.new.self) c.in-Err-Stranger.field-0-is
    c.in-Err-Stranger.ensures in
    strange.strange (
      subst (λ (phase : Phase). IsWithin phase rest) (sym c.requires.ended) tt,
      all_next e.script.callers (joined e.batches ++ rest) c.requires.all,
    )
