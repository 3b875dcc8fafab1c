use Rattle.std.proofs.Common.{ap, sym, ◌∙◌}
use Rattle.dv_objects.specs.Inlines.{end_adding}
use Rattle.dv_objects.proofs.InlinesLemmas.{found_at, took_keyless, kept_put, end_some, end_none, kept_in, end_adds}
use Rattle.dv_objects.proofs.InlinesLemmas.{none_put}
use Rattle.dv_objects.proofs.inlines.Inlines.end_adding.Goals as goal

pub invariant_of-self-in-Some-take : goal.invariant_of-self-in-Some-take
invariant_of-self-in-Some-take c =
    kept_put c.self.inside.parked c.self.inside.kept.items c.args.place c.take.new.self
    (took_keyless c.in-Some-take.input c.in-Some.waiting.now c.take.new.self c.in-Some-take.ensures) c.self.invariant

pub returns-in-Some-take-clause-ok : goal.returns-in-Some-take-clause-ok
returns-in-Some-take-clause-ok c =
    let found = found_at c.self.inside.kept.items c.args.place c.in-Some.waiting.now c.in-Some.ensures.item.3.0
    c.in-Some.ensures.value in
    end_some c.self.inside.parked c.args.place c.args.awaited c.self.inside.kept.items c.args.body c.in-Some-take.input
    c.in-Some.waiting.now c.take.new.self found c.in-Some-take.ensures
    ∙ ap (end_adding c.args.place c.args.awaited c.args.body) c.self.view_is

pub returns-then-not-is_adding-clause-ok : goal.returns-then-not-is_adding-clause-ok
returns-then-not-is_adding-clause-ok c =
    let found = found_at c.self.inside.kept.items c.args.place c.in-Some.waiting.now c.in-Some.ensures.item.3.0
    c.in-Some.ensures.value in
    end_none c.self.inside.parked c.args.place c.args.awaited c.self.inside.kept.items c.args.body c.in-Some.waiting.now
    c.take.new.self found c.in_default-take.ensures (sym c.is_adding.ensures ∙ c.if-not-is_adding.true)
    ∙ ap (end_adding c.args.place c.args.awaited c.args.body) c.self.view_is

pub returns-in-Err-clause-err : goal.returns-in-Err-clause-err
returns-in-Err-clause-err c =
    let found = found_at c.self.inside.kept.items c.args.place c.in-Some.waiting.now c.in-Some.ensures.item.3.0
    c.in-Some.ensures.value in
    none_put c.self.inside.parked c.park.new.self c.args.place c.self.inside.kept.items c.in-Some.waiting.now
    c.take.new.self found c.in_default-take.ensures c.in-Err.ensures.err
    ∙ c.self.view_is

pub invariant_of-self-2 : goal.invariant_of-self-2
invariant_of-self-2 c =
    rw c.set.ensures (kept_in c.self.inside.parked c.park.new.self c.args.place c.args.awaited c.in-Ok.key
    c.self.inside.kept.items c.args.body c.self.invariant c.in-Ok.ensures.vacant c.in-Ok.ensures.parked)

pub returns-clause-ok : goal.returns-clause-ok
returns-clause-ok c =
    let found = found_at c.self.inside.kept.items c.args.place c.in-Some.waiting.now c.in-Some.ensures.item.3.0
    c.in-Some.ensures.value in
    rw c.set.ensures
    (end_adds c.self.inside.parked c.park.new.self c.args.place c.args.awaited c.in-Ok.key c.self.inside.kept.items
    c.args.body c.in-Some.waiting.now c.take.new.self c.self.invariant found c.in_default-take.ensures
    (sym c.is_adding.ensures ∙ c.if-not-is_adding.false) c.in-Ok.ensures.vacant c.in-Ok.ensures.parked
    ∙ ap (end_adding c.args.place c.args.awaited c.args.body) c.self.view_is)
