use Rattle.std.proofs.Common.{rules, ◌≡◌, sym, ap, subst, ◌∙◌}
use Rattle.dv_engine.proofs.EngineLemmas.{first_follows}
use Rattle.dv_engine.proofs.engine.Engine.new.Goals as goal
use Rattle.dv_engine.specs.Engine.{Follows}
use Rattle.dv_engine.specs.declared.engine.Phase.TheVariants as phase
use Rattle.dv_frames.specs.declared.turn.Turn.{Turn}
use Rattle.dv_world.specs.World.{World}

pub invariant_of-result : goal.invariant_of-result
invariant_of-result g c =
    let script = c.args.script.now in
    let left = c.new-5.result in
    let batches = c.in_ok-batches.batches.batches in
    subst (λ (turn : Turn).
    Follows (record { script = script; left = left; batches = batches; world = turn.world; phase = phase.Going })
    × (c.new-4.result ≡ turn.world.works) × (c.in_ok-batches.batches.callers ≡ script.callers))
    (sym c.new-6.ensures) (
      first_follows script left batches c.in_ok-world.world (search rules) (search rules)
          (search rules) c.requires.limited,
      c.new-4.ensures ∙ sym (ap (λ (w : World). w.works) c.in_ok-world.ensures),
      search rules,
    )
