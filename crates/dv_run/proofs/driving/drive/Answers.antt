use Rattle.std.proofs.Common.{subst}
use Rattle.dv_posts.specs.Batches.{AreNext, Callers}
use Rattle.dv_run.proofs.driving.drive.Goals as goal

pub unreachable-requires : goal.unreachable-requires
unreachable-requires g c =
    let stranger = c.in-Ok.ensures.no c.if-not-is_lawful.true in
    stranger.strange (subst (λ (callers : Callers). AreNext callers stranger.posts) c.requires.bodies
    (c.in-Ok-end.ensures.next stranger.posts stranger.took))
