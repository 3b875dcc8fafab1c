use Rattle.std.proofs.Common.{subst}
use Rattle.dv_engine.proofs.EngineLemmas.{over_ends}
use Rattle.dv_posts.specs.Batches.{AreNext, Callers, joined}
use Rattle.dv_engine.specs.Engine.{Engine, HasEnd, Stands}
use Rattle.dv_engine.specs.declared.engine.Phase.{Phase}
use Rattle.dv_engine.specs.declared.engine.Phase.TheVariants.{Over}
use Rattle.dv_engine.proofs.engine.Engine.into_end.Goals as goal

pub returns : goal.returns
returns g c =
    let e = c.self.inside in
    let r = c.in_ok-end-in-Over.field-0 in
    let told = c.in_ok-end-in-Over.ensures in
    let before : Engine = record {
      script = e.script.now;
      left = e.left;
      batches = e.batches.batches;
      world = e.turn.world;
      phase = e.phase;
    } in
    let stands : Stands Over before = subst (λ (p : Phase). Stands p before) c.in-Over.is c.self.invariant.0 in
    subst (λ (x : Engine). HasEnd x r) c.self.view_is (record {
      over = c.in-Over.is;
      batches = told.batches;
      world = told.world;
      ends = over_ends e.script.now e.turn.world r e.batches.batches told.batches told.world stands.0 stands.1
          (subst (λ (k : Callers). AreNext k (joined r.batches)) c.self.invariant.2 told.next) told.ran;
    })
