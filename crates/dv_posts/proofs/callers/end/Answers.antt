use Rattle.dv_posts.proofs.CallerLemmas.{all_posts, next_posts}
use Rattle.dv_posts.proofs.callers.end.Goals as goal

pub returns-clause-next : goal.returns-clause-next
returns-clause-next g c before took =
    let joined = c.in_ok-posters.ensures c.args.bodies.now c.args.inbox c.requires in
    next_posts c.args.bodies.now c.args.inbox c.in_ok-posters.posters.items c.in_ok-taken.taken.rest before joined.1
    c.in_ok-taken.ensures.rest took

pub returns-clause-all : goal.returns-clause-all
returns-clause-all g c before took =
    let joined = c.in_ok-posters.ensures c.args.bodies.now c.args.inbox c.requires in
    all_posts c.args.bodies.now c.args.inbox c.in_ok-posters.posters.items c.in_ok-taken.taken.rest before joined.1
    c.in_ok-taken.ensures.rest took
