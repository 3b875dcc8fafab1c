use Rattle.std.proofs.Common.{sym, ap, ◌∙◌}
use Rattle.std.specs.Option.{option_map}
use Rattle.dv_clock.specs.Clock.{with_number}
use Rattle.dv_clock.proofs.NextLemmas.{next_is}
use Rattle.dv_clock.proofs.clock.Clock.next.Goals as goal

pub returns-in_err-what-clause-next : goal.returns-in_err-what-clause-next
returns-in_err-what-clause-next c =
    rw c.from_residual-in_err-what.ensures (ap (option_map (with_number c.in_ok-number.number)) c.in_err-what.ensures
    ∙ sym (next_is c.args.self.now c.in_ok-number.number c.in_ok-number.ensures))

pub returns-clause-next : goal.returns-clause-next
returns-clause-next c =
    ap (option_map (with_number c.in_ok-number.number)) c.in_ok-what.ensures
    ∙ sym (next_is c.args.self.now c.in_ok-number.number c.in_ok-number.ensures)
