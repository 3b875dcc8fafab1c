use Rattle.dv_grammar.proofs.Repeats.{again}
use Rattle.dv_grammar.proofs.reading.event.+events.Goals as goal

pub repeated-loop-preserved : goal.repeated-loop-preserved
repeated-loop-preserved t c =
    again c.loop.invariant.0 c.in_ok-more.more _ _ c.loop.counter c.loop.invariant.1 c.in_ok-more.ensures
    c.loop.invariant.2 c.in_ok-append.ensures
