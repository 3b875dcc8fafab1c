use Rattle.std.proofs.Common.{arith, ◌≡◌, ◌-◌, ◌≤◌, ◌∙◌, ℕ, sym, ap}
use Rattle.dv_orders.specs.Sampling.{number_of, number_used, state_used}
use Rattle.dv_orders.proofs.SamplingLemmas.{last_state, next_one, this_state}
use Rattle.dv_orders.proofs.sampling.Generator.below.Goals as goal
use Rattle.dv_orders.proofs.sampling.Generator.below.Goals.{then-loop-others-test+else-number-last}
use Rattle.dv_orders.proofs.sampling.Generator.below.Goals.{else-loop-others-test}

pub loop-others-init : goal.loop-others-init
loop-others-init c = record {
  number = c.draw-number.ensures.number;
  state = ap (state_used c.args.n 63) c.draw-number.ensures.state;
}

pub loop-others-preserved : goal.loop-others-preserved
loop-others-preserved c =
    let n = c.args.n in
    let others = c.loop-others.others in
    let state = c.loop-others.self in
    let past : number_used n ≤ number_of state =
    omega (arith, c.if-number-last.true, c.loop-others.invariant.number, c.last_used-last.ensures) in
    record {
      number = c.draw-number-in-loop-others.ensures.number;
      state =
          ap (state_used n (others - 1)) c.draw-number-in-loop-others.ensures.state
          ∙ sym (next_one n others state c.loop-others-test.true past)
          ∙ c.loop-others.invariant.state;
    }

pub returns-clause-state : goal.returns-clause-state
returns-clause-state c =
    let n = c.args.n in
    let others = c.loop-others.others in
    let state = c.loop-others.self in
    let here : state_used n others state ≡ state = elim c.loop-others-test.branch [
      | then-loop-others-test+else-number-last w ↦ this_state n others state
          (omega (arith, w.if-number-last.false, c.loop-others.invariant.number, c.last_used-last.ensures))
      | else-loop-others-test w ↦ let none : others ≡ 0 = omega (arith, w.loop-others-test.false) in
          ap (λ (k : ℕ). state_used n k state) none ∙ last_state n state
    ] in
    sym here ∙ c.loop-others.invariant.state
