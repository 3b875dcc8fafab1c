use Rattle.std.proofs.Common.{arith, ◌≡◌, ◌-◌, ◌≤◌, ℕ, suc, min, subst}
use Rattle.dv_orders.specs.Numbers.{number_of_cuts}
use Rattle.dv_orders.specs.Ranking.{length_before}
use Rattle.dv_orders.proofs.ranking.taken_of.Goals as goal

pub returns : goal.returns
returns c =
    let end : c.loop-taken.taken ≡ suc (min c.args.most c.args.posts) =
    omega (arith, c.loop-taken-test.false, c.loop-taken.auto.taken-end, c.min-taken-end.ensures) in
    subst (λ (n : ℕ). length_before (λ taken. number_of_cuts c.args.events.now (c.args.posts - taken)) n
    ≤ c.args.number) end (omega (arith, c.loop-taken.invariant))
