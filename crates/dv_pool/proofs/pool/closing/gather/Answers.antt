use Rattle.std.proofs.Common.{rules, ◌≡◌, ◌++◌, ◌∷◌, [], length, Some, Ok, ap, ◌∙◌, sym, append-nil}
use Rattle.std.specs.Vec.Iter.{into_iter_items}
use Rattle.dv_jobs.specs.Sources.{jobs_of}
use Rattle.dv_pool.proofs.Gathers.{placed_jobs, all_gathered, none_left, skipped, counted}
use Rattle.dv_pool.proofs.pool.closing.gather.Goals as goal

pub loop-place-init : goal.loop-place-init
loop-place-init c =
    let all = all_gathered c.args.works.now c.args.parts c.requires.placed c.requires.submitted c.requires.jobs
    c.requires.answers in
    let ran : c.new-ran.result.dones ≡ [] = search rules in
    let places : into_iter_items c.into_iter-place-iterator.result ≡ c.args.parts.places.items = search rules in
    ap (λ l. jobs_of l ++ placed_jobs (into_iter_items c.into_iter-place-iterator.result)) ran ∙ ap placed_jobs places
    ∙ all

pub loop-place-preserved-in-None-place : goal.loop-place-preserved-in-None-place
loop-place-preserved-in-None-place c =
    skipped _ _ _ c.in-Some.place _ c.in-Some.ensures.steps.0 c.in-None-place.is c.loop-place.invariant

pub loop-place-preserved : goal.loop-place-preserved
loop-place-preserved c =
    let place : c.in-Some.place ≡ Some (Ok c.in-Some-Ok.done) = search rules in
    let dones : c.add.new.self.dones ≡ c.loop-place.ran.dones ++ c.in-Some-Ok.done ∷ [] = search rules in
    counted _ _ c.in-Some-Ok.done _ _ c.in-Some.place _ c.in-Some.ensures.steps.0 place dones c.loop-place.invariant

pub returns : goal.returns
returns c =
    let empty : length (into_iter_items c.loop-place.place-iterator) ≡ 0 = search rules in
    let none : placed_jobs (into_iter_items c.loop-place.place-iterator) ≡ [] = none_left _ empty in
    sym (append-nil _) ∙ ap (λ l. jobs_of c.loop-place.ran.dones ++ l) (sym none) ∙ c.loop-place.invariant
