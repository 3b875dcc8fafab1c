use Rattle.dv_objects.proofs.InlinesLemmas.{kept_more}
use Rattle.dv_objects.proofs.inlines.Inlines.push.Goals as goal

pub invariant_of-self-2 : goal.invariant_of-self-2
invariant_of-self-2 c =
    rw c.in_ok-push.ensures.items (kept_more c.self.inside.parked c.self.inside.kept.items c.self.invariant)
