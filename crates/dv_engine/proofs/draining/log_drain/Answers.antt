use Rattle.dv_threads.proofs.JobLemmas.{told_works}
use Rattle.dv_journal.specs.declared.entry.Entry.TheVariants as entry
use Rattle.dv_engine.proofs.draining.log_drain.Goals as goal

pub returns-in_ok-tell-in-Draining-clause-works : goal.returns-in_ok-tell-in-Draining-clause-works
returns-in_ok-tell-in-Draining-clause-works c =
    told_works entry.Drain c.args.world.now c.tell.new.self c.in_ok-tell-in-Draining.ensures
