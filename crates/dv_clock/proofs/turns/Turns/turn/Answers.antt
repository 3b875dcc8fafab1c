use Rattle.std.proofs.Common.{Some, ap, sym, ◌∙◌}
use Rattle.dv_clock.specs.Turns.{turn_of}
use Rattle.dv_clock.proofs.TurnsLemmas.{turn_is}
use Rattle.dv_clock.proofs.turns.Turns.turn.Goals as goal

pub returns-in-Some : goal.returns-in-Some
returns-in-Some c =
    let turn = turn_is c.self.inside.rule c.self.inside.order.entries c.self.inside.place
    (c.in-Some.field-0-0, c.in-Some.task) c.self.invariant.ascends c.self.invariant.past
    (sym c.in-Some.is ∙ c.turn.ensures) in
    ap Some c.new.ensures ∙ sym turn.turn ∙ ap turn_of c.self.view_is
