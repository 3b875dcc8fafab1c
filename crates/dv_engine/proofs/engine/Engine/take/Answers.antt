use Rattle.std.proofs.Common.{◌≡◌, ◌++◌, ap, refl, subst, sym}
use Rattle.dv_engine.proofs.EngineLemmas.{within_waits}
use Rattle.dv_posts.specs.Batches.{AreNext, Batch, Callers, joined}
use Rattle.dv_engine.specs.Engine.{Engine, IsStrange, IsWithin, MayTake}
use Rattle.dv_posts.specs.Taking.{Taken}
use Rattle.dv_engine.proofs.engine.Engine.take.Goals as goal

pub returns-then-not-are_next : goal.returns-then-not-are_next
returns-then-not-are_next g c =
    let e = c.self.inside in
    let before : Engine = record {
      script = e.script.now;
      left = e.left;
      batches = e.batches.batches;
      world = e.turn.world;
      phase = e.phase;
    } in
    let after : Engine = record {
      script = e.script.now;
      left = e.left;
      batches = c.are_next.new.self.batches;
      world = e.turn.world;
      phase = e.phase;
    } in
    let within : IsWithin e.phase c.args.batch =
    subst (λ (x : Engine). IsWithin x.phase c.args.batch) (sym c.self.view_is) c.requires in
    let refused : MayTake before c.args.batch → ⊥ =
    (λ may. c.if-not-are_next.ensures.no refl
    (subst (λ (k : Callers). AreNext k (joined e.batches.batches ++ c.as_slice.result.now)) (sym c.self.invariant.2)
    (subst (λ (b : Batch). AreNext e.script.now.callers (joined e.batches.batches ++ b))
    (sym c.as_slice.ensures) may.1))) in
    let same : after ≡ before = ap (λ (t : Taken).
    record { script = e.script.now; left = e.left; batches = t.batches; world = e.turn.world; phase = e.phase })
    c.if-not-are_next.ensures.same in
    subst (λ (x : Engine). IsStrange c.args.batch x after) c.self.view_is
    (record { waits = within_waits e.phase c.args.batch within; strange = refused; same = same })

pub perform-requires : goal.perform-requires
perform-requires g c =
    let e = c.self.inside in
    let next : AreNext e.script.now.callers (joined e.batches.batches ++ c.args.batch) =
    subst (λ (k : Callers). AreNext k (joined e.batches.batches ++ c.args.batch)) c.self.invariant.2
    (subst (λ (b : Batch). AreNext e.batches.callers (joined e.batches.batches ++ b)) c.as_slice.ensures
    (c.if-not-are_next.ensures.yes refl)) in (
      subst (λ (x : Engine). IsWithin x.phase c.args.batch) (sym c.self.view_is) c.requires,
      subst (λ (t : Taken). AreNext e.script.now.callers (joined t.batches ++ c.args.batch))
          (sym c.if-not-are_next.ensures.same) next,
    )
