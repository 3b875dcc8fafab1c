use Rattle.std.proofs.Common.{ap, ◌∙◌}
use Rattle.dv_objects.specs.Inlines.{awaited_by}
use Rattle.dv_objects.proofs.InlinesLemmas.{found_at, awaited_is}
use Rattle.dv_objects.proofs.inlines.Inlines.awaited.Goals as goal

pub returns : goal.returns
returns c =
    let found = found_at c.deref.result.now c.args.place c.in_ok-get.field-0.now c.in_ok-get.ensures.lookup.3.0
    c.in_ok-get.ensures.lookup.1 in
    let kept = rw c.deref.ensures.value at found in
    c.awaited.ensures ∙ awaited_is c.self.inside.parked c.args.place c.self.inside.kept.items c.in_ok-get.field-0.now
    c.self.invariant kept ∙ ap (awaited_by c.args.place) c.self.view_is
