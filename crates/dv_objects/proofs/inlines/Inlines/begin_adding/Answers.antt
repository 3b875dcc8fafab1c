use Rattle.std.proofs.Common.{ap, ◌∙◌, slice_set}
use Rattle.dv_objects.specs.Inlines.{Inlines}
use Rattle.dv_objects.specs.declared.waiting.Waiting.TheVariants.{Adding}
use Rattle.dv_objects.proofs.InlinesLemmas.{found_at, kept_begun, seen_begun, kept_put, seen_put}
use Rattle.dv_objects.proofs.inlines.Inlines.begin_adding.Goals as goal

pub invariant_of-self-in-Some-begin_adding : goal.invariant_of-self-in-Some-begin_adding
invariant_of-self-in-Some-begin_adding c =
    let found = found_at c.self.inside.kept.items c.args.place c.in-Some.waiting.now c.in-Some.ensures.item.3.0
    c.in-Some.ensures.value in
    rw c.begin_adding.ensures.rest
    (kept_begun c.self.inside.parked c.discard.new.self c.args.place c.in-Some-begin_adding.key c.self.inside.kept.items
    c.in-Some.waiting.now c.self.invariant found c.in-Some-begin_adding.ensures.body c.discard.ensures)

pub invariant_of-self-in_default-begin_adding : goal.invariant_of-self-in_default-begin_adding
invariant_of-self-in_default-begin_adding c =
    rw c.begin_adding.ensures.rest
    (kept_put c.self.inside.parked c.self.inside.kept.items c.args.place Adding tt c.self.invariant)

pub returns-in-Some-begin_adding : goal.returns-in-Some-begin_adding
returns-in-Some-begin_adding c =
    let found = found_at c.self.inside.kept.items c.args.place c.in-Some.waiting.now c.in-Some.ensures.item.3.0
    c.in-Some.ensures.value in
    let seen =
    seen_begun c.self.inside.parked c.discard.new.self c.args.place c.in-Some-begin_adding.key c.self.inside.kept.items
    c.in-Some.waiting.now c.self.invariant found c.in-Some-begin_adding.ensures.body c.discard.ensures in
    rw c.begin_adding.ensures.rest (seen ∙ ap (λ (xs : Inlines). slice_set xs c.args.place Adding) c.self.view_is)

pub returns-in_default-begin_adding : goal.returns-in_default-begin_adding
returns-in_default-begin_adding c =
    let seen = seen_put c.self.inside.parked c.self.inside.kept.items c.args.place Adding in
    rw c.begin_adding.ensures.rest (seen ∙ ap (λ (xs : Inlines). slice_set xs c.args.place Adding) c.self.view_is)
