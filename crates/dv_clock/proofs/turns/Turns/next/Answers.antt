use Rattle.std.proofs.Common.{◌+◌, Some, arith, ap, sym, ◌∙◌}
use Rattle.dv_clock.specs.Turns.{turn_of, gone_on}
use Rattle.dv_clock.proofs.TurnsLemmas.{kept_on, nobody_is, nobody_rests, turn_is, turn_given}
use Rattle.dv_clock.proofs.turns.Turns.next.Goals as goal

pub invariant_of-self : goal.invariant_of-self
invariant_of-self c =
    kept_on c.self.inside.order.entries c.self.inside.numbers.entries c.self.inside.given 0 c.self.inside.place
    c.self.invariant (omega arith)

pub returns-in_default-clause-turn : goal.returns-in_default-clause-turn
returns-in_default-clause-turn c =
    let nobody = nobody_is c.self.inside.rule c.self.inside.order.entries c.self.inside.place
    (sym c.in_default.is ∙ c.turn.ensures) in
    sym nobody ∙ ap turn_of c.self.view_is

pub returns-in_default-clause-rest : goal.returns-in_default-clause-rest
returns-in_default-clause-rest c =
    nobody_rests c.self.inside.rule c.self.inside.order.entries c.self.inside.place
    (sym c.in_default.is ∙ c.turn.ensures)
    ∙ ap gone_on c.self.view_is

pub overflow_add-self : goal.overflow_add-self
overflow_add-self c =
    let given = turn_given c.self.inside.given c.self.inside.order.entries c.self.inside.place.next
    (c.in-Some.number, c.in-Some.task) c.self.invariant.below (sym c.in-Some.is ∙ c.turn.ensures) in
    omega (arith, given)

pub invariant_of-self-2 : goal.invariant_of-self-2
invariant_of-self-2 c =
    let given = turn_given c.self.inside.given c.self.inside.order.entries c.self.inside.place.next
    (c.in-Some.number, c.in-Some.task) c.self.invariant.below (sym c.in-Some.is ∙ c.turn.ensures) in
    kept_on c.self.inside.order.entries c.self.inside.numbers.entries c.self.inside.given (c.in-Some.number + 1)
    c.self.inside.place c.self.invariant (omega (arith, given))

pub returns-clause-turn : goal.returns-clause-turn
returns-clause-turn c =
    let turn = turn_is c.self.inside.rule c.self.inside.order.entries c.self.inside.place
    (c.in-Some.number, c.in-Some.task) c.self.invariant.ascends c.self.invariant.past
    (sym c.in-Some.is ∙ c.turn.ensures) in
    ap Some c.new.ensures ∙ sym turn.turn ∙ ap turn_of c.self.view_is

pub returns-clause-rest : goal.returns-clause-rest
returns-clause-rest c =
    let turn = turn_is c.self.inside.rule c.self.inside.order.entries c.self.inside.place
    (c.in-Some.number, c.in-Some.task) c.self.invariant.ascends c.self.invariant.past
    (sym c.in-Some.is ∙ c.turn.ensures) in
    sym turn.rest ∙ ap gone_on c.self.view_is
