use Rattle.std.proofs.Common.{◌≡◌, ◌++◌, ◌∷◌, ◌∙◌, [], List, ap, subst, sym}
use Rattle.dv_engine.proofs.EngineLemmas.{submitted_after, taken_stands}
use Rattle.dv_posts.specs.Batches.{AreNext, Batch, Callers, joined}
use Rattle.dv_engine.specs.Engine.{Engine, HasSubmitted, MayTake, Stands, Takes, taken_for}
use Rattle.dv_loop.specs.Meaning.{Runs}
use Rattle.dv_engine.specs.declared.engine.Phase.{Phase}
use Rattle.dv_engine.proofs.engine.Engine.perform.Goals as goal

pub invariant_of-self-in-Ok : goal.invariant_of-self-in-Ok
invariant_of-self-in-Ok g c =
    let e = c.self.inside in
    let w = c.run_batch.new.turn.world in
    let before : Engine = record {
      script = e.script.now;
      left = e.left;
      batches = e.batches.batches;
      world = e.turn.world;
      phase = e.phase;
    } in
    let may : MayTake before c.args.batch =
    subst (λ (x : Engine). MayTake x c.args.batch) (sym c.self.view_is) c.requires in
    let runs : Runs (taken_for e.phase e.script.now.callers c.args.batch) e.turn.world w = subst
    (λ (k : Callers). Runs (taken_for e.phase k c.args.batch) e.turn.world w) c.self.invariant.2 c.in-Ok.ensures.runs in
    let is : c.run_batch.new.batches.batches ≡ e.batches.batches ++ c.args.batch ∷ [] =
    ap (λ t. t.batches) c.in-Ok.ensures.batches in
    let q = c.phase_after-self-inside.result in (
      subst (λ (all : List Batch).
          Stands q (record { script = e.script.now; left = e.left; batches = all; world = w; phase = q })) (sym is)
          (subst (λ (p : Phase). Stands p (record {
            script = e.script.now;
            left = e.left;
            batches = e.batches.batches ++ c.args.batch ∷ [];
            world = w;
            phase = p;
          })) (sym c.phase_after-self-inside.ensures)
          (taken_stands e.phase c.args.batch before w may.0 c.self.invariant.0 runs)),
      subst (λ (p : Phase). HasSubmitted p c.run_batch.new.jobs w) (sym c.phase_after-self-inside.ensures)
          (submitted_after e.phase c.run_batch.new.jobs w c.in-Ok.ensures.jobs),
      c.in-Ok.ensures.callers ∙ c.self.invariant.2,
    )

pub returns-in-Ok : goal.returns-in-Ok
returns-in-Ok g c =
    let e = c.self.inside in
    let w = c.run_batch.new.turn.world in
    let q = c.phase_after-self-inside.result in
    let before : Engine = record {
      script = e.script.now;
      left = e.left;
      batches = e.batches.batches;
      world = e.turn.world;
      phase = e.phase;
    } in
    let after : Engine =
    record { script = e.script.now; left = e.left; batches = c.run_batch.new.batches.batches; world = w; phase = q } in
    let may : MayTake before c.args.batch =
    subst (λ (x : Engine). MayTake x c.args.batch) (sym c.self.view_is) c.requires in
    let runs : Runs (taken_for e.phase e.script.now.callers c.args.batch) e.turn.world w = subst
    (λ (k : Callers). Runs (taken_for e.phase k c.args.batch) e.turn.world w) c.self.invariant.2 c.in-Ok.ensures.runs in
    let is : c.run_batch.new.batches.batches ≡ e.batches.batches ++ c.args.batch ∷ [] =
    ap (λ t. t.batches) c.in-Ok.ensures.batches in
    subst (λ (b : Engine). Takes c.args.batch b after) c.self.view_is (record {
      may = may;
      runs = runs;
      same =
          ap (λ (all : List Batch).
          record { script = e.script.now; left = e.left; batches = all; world = w; phase = q }) is
          ∙ ap (λ (p : Phase). record {
            script = e.script.now;
            left = e.left;
            batches = e.batches.batches ++ c.args.batch ∷ [];
            world = w;
            phase = p;
          }) c.phase_after-self-inside.ensures;
    })

pub run_batch-requires-clause-next : goal.run_batch-requires-clause-next
run_batch-requires-clause-next g c =
    let e = c.self.inside in
    let before : Engine = record {
      script = e.script.now;
      left = e.left;
      batches = e.batches.batches;
      world = e.turn.world;
      phase = e.phase;
    } in
    let may : MayTake before c.args.batch =
    subst (λ (x : Engine). MayTake x c.args.batch) (sym c.self.view_is) c.requires in
    subst (λ (k : Callers). AreNext k (joined e.batches.batches ++ c.args.batch)) (sym c.self.invariant.2) may.1
