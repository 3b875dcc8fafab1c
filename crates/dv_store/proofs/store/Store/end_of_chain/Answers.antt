use Rattle.std.proofs.Common.{◌∙◌, sym}
use Rattle.std.proofs.lemmas.Bool.{eqb-true}
use Rattle.dv_store.proofs.ChainLemmas.{comes_back}
use Rattle.dv_store.proofs.store.Store.end_of_chain.Goals as goal

pub returns-then-eq : goal.returns-then-eq
returns-then-eq g c =
    comes_back c.args.self.now c.loop-links.links c.loop-links.mark c.loop-links.here c.in-Some.next _
    c.loop-links.invariant.marked (sym c.link.ensures ∙ c.in-Some.is)
    (eqb-true c.in-Some.next c.loop-links.mark (sym c.eq.ensures ∙ c.if-eq.true)) c.loop-links.invariant.same
