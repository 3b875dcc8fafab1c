use Rattle.std.proofs.Common.{[]}
use Rattle.dv_why.specs.declared.misfit.Step.TheVariants as step
use Rattle.dv_why.proofs.Under.{undeclarable_under}
use Rattle.dv_why.proofs.classes.declare_next.Goals as goal

pub returns-in_ok-under-in-Some-2-clause-wrong : goal.returns-in_ok-under-in-Some-2-clause-wrong
returns-in_ok-under-in-Some-2-clause-wrong c =
    let under = c.in_ok-under-in-Some-2.ensures in
    undeclarable_under _ [] (step.Item c.args.number) c.in-Some-2.part _
    (record { steps = under.steps; found = under.found }) (rw c.in-Some-2.is at c.in_ok-part.ensures.wrong)
