use Rattle.std.proofs.Common.{◌≡◌, ◌+◌, ◌++◌, drop, refl, sym, ◌∙◌, ap, rules, string_bytes}
use Rattle.dv_journal.specs.Journal.{Written}
use Rattle.dv_journal.specs.Sink.{AppendsBut, AppendsPrefix}
use Rattle.dv_journal.specs.Line.{text_of}
use Rattle.dv_journal.proofs.Taken.{but_cut, prefix_next}
use Rattle.dv_journal.proofs.JournalLemmas.{gathered_next}
use Rattle.dv_journal.proofs.journal.Journal.print.Goals as goal

pub returns-in_err-write_line-clause-err : goal.returns-in_err-write_line-clause-err
returns-in_err-write_line-clause-err g c =
    let cut : AppendsPrefix (g.W.Sink.taken c.args.sink.now) (g.W.Sink.taken c.loop-entry.sink)
    (text_of c.args.classes.now c.args.self.now.entries) = (_, c.loop-entry.invariant.0) in
    search rules

pub returns-in_err-write_when_full-clause-err : goal.returns-in_err-write_when_full-clause-err
returns-in_err-write_when_full-clause-err g c =
    let same : c.as_slice-entry-items.result.now ≡ c.args.self.now.entries =
    c.as_slice-entry-items.ensures ∙ ap (λ (w : Written). w.entries) c.self.view_is in
    let so_far : AppendsBut (g.W.Sink.taken c.args.sink.now) (g.W.Sink.taken c.loop-entry.sink)
    (text_of c.args.classes.now c.args.self.now.entries)
    (string_bytes c.write_line.new.out
    ++ text_of c.args.classes.now (drop (c.loop-entry.entry-index + 1) c.args.self.now.entries)) =
    gathered_next _ _ _ c.args.classes.now c.args.self.now.entries c.loop-entry.entry-index c.entry-item.result
    (string_bytes c.loop-entry.gathered) (string_bytes c.write_line.new.out)
    (rw (← same) c.loop-entry-test.true)
    (rw (← same) c.entry-item.is) c.in_ok-write_line.ensures c.loop-entry.invariant.0 in
    let cut : AppendsPrefix (g.W.Sink.taken c.args.sink.now) (g.W.Sink.taken c.write_when_full.new.sink)
    (text_of c.args.classes.now c.args.self.now.entries) =
    prefix_next _ _ _ _ _ _ _ so_far refl c.in_err-write_when_full.ensures.err in
    search rules

pub loop-entry-preserved : goal.loop-entry-preserved
loop-entry-preserved g c =
    let same : c.as_slice-entry-items.result.now ≡ c.args.self.now.entries =
    c.as_slice-entry-items.ensures ∙ ap (λ (w : Written). w.entries) c.self.view_is in
    let so_far : AppendsBut (g.W.Sink.taken c.args.sink.now) (g.W.Sink.taken c.loop-entry.sink)
    (text_of c.args.classes.now c.args.self.now.entries)
    (string_bytes c.write_line.new.out
    ++ text_of c.args.classes.now (drop (c.loop-entry.entry-index + 1) c.args.self.now.entries)) =
    gathered_next _ _ _ c.args.classes.now c.args.self.now.entries c.loop-entry.entry-index c.entry-item.result
    (string_bytes c.loop-entry.gathered) (string_bytes c.write_line.new.out)
    (rw (← same) c.loop-entry-test.true)
    (rw (← same) c.entry-item.is) c.in_ok-write_line.ensures c.loop-entry.invariant.0 in
    (but_cut _ _ _ _ _ _ _ so_far c.in_ok-write_when_full.ensures.ok, search rules)

pub returns-in_err-write_all-clause-err : goal.returns-in_err-write_all-clause-err
returns-in_err-write_all-clause-err g c =
    let cut : AppendsPrefix (g.W.Sink.taken c.args.sink.now) (g.W.Sink.taken c.write_all.new.sink)
    (text_of c.args.classes.now c.args.self.now.entries) =
    prefix_next _ _ _ _ c.as_bytes.result.now _ _ c.loop-entry.invariant.0
    (ap (λ l. l ++ text_of c.args.classes.now (drop c.loop-entry.entry-index c.args.self.now.entries))
    (sym c.as_bytes.ensures.value)) c.in_err-write_all.ensures.err in
    search rules
