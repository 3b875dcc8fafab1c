use Rattle.std.proofs.Common.{◌+◌, ◌++◌, drop, refl, sym, ap, rules, string_bytes}
use Rattle.dv_journal.specs.Sink.{AppendsBut, AppendsPrefix}
use Rattle.dv_journal.proofs.Taken.{but_cut, prefix_next}
use Rattle.dv_run.specs.Output.{output, lines_from}
use Rattle.dv_run.proofs.OutputLemmas.{gathered_next}
use Rattle.dv_run.proofs.output.print_outcomes.Goals as goal

pub returns-in_err-write_line-clause-err : goal.returns-in_err-write_line-clause-err
returns-in_err-write_line-clause-err g c =
    let cut : AppendsPrefix (g.W.Sink.taken c.args.sink.now) (g.W.Sink.taken c.loop-number.sink)
    (output c.args.classes.now c.args.outcomes.now) = (_, c.loop-number.invariant.0) in
    search rules

pub returns-in_err-write_when_full-clause-err : goal.returns-in_err-write_when_full-clause-err
returns-in_err-write_when_full-clause-err g c =
    let so_far : AppendsBut (g.W.Sink.taken c.args.sink.now) (g.W.Sink.taken c.loop-number.sink)
    (output c.args.classes.now c.args.outcomes.now)
    (string_bytes c.write_line.new.line
    ++ lines_from c.args.classes.now (c.loop-number.number + 1) (drop (c.loop-number.number + 1) c.args.outcomes.now)) =
    gathered_next _ _ _ c.args.classes.now c.args.outcomes.now c.loop-number.number c.index-outcomes-number.result
    (string_bytes c.loop-number.gathered) (string_bytes c.write_line.new.line)
    c.loop-number-test.true c.index-outcomes-number.is c.in_ok-write_line.ensures c.loop-number.invariant.0 in
    let cut : AppendsPrefix (g.W.Sink.taken c.args.sink.now) (g.W.Sink.taken c.write_when_full.new.sink)
    (output c.args.classes.now c.args.outcomes.now) =
    prefix_next _ _ _ _ _ _ _ so_far refl c.in_err-write_when_full.ensures.err in
    search rules

pub loop-number-preserved : goal.loop-number-preserved
loop-number-preserved g c =
    let so_far : AppendsBut (g.W.Sink.taken c.args.sink.now) (g.W.Sink.taken c.loop-number.sink)
    (output c.args.classes.now c.args.outcomes.now)
    (string_bytes c.write_line.new.line
    ++ lines_from c.args.classes.now (c.loop-number.number + 1) (drop (c.loop-number.number + 1) c.args.outcomes.now)) =
    gathered_next _ _ _ c.args.classes.now c.args.outcomes.now c.loop-number.number c.index-outcomes-number.result
    (string_bytes c.loop-number.gathered) (string_bytes c.write_line.new.line)
    c.loop-number-test.true c.index-outcomes-number.is c.in_ok-write_line.ensures c.loop-number.invariant.0 in
    (but_cut _ _ _ _ _ _ _ so_far c.in_ok-write_when_full.ensures.ok, search rules)

pub returns-in_err-write_all-clause-err : goal.returns-in_err-write_all-clause-err
returns-in_err-write_all-clause-err g c =
    let cut : AppendsPrefix (g.W.Sink.taken c.args.sink.now) (g.W.Sink.taken c.write_all.new.sink)
    (output c.args.classes.now c.args.outcomes.now) =
    prefix_next _ _ _ _ c.as_bytes.result.now _ _ c.loop-number.invariant.0
    (ap (λ l. l ++ lines_from c.args.classes.now c.loop-number.number (drop c.loop-number.number c.args.outcomes.now))
    (sym c.as_bytes.ensures.value)) c.in_err-write_all.ensures.err in
    search rules
