use Rattle.std.proofs.Common.{◌≡◌, ◌∙◌, Err, List, [], slice_index_or, subst}
use Rattle.std.proofs.lemmas.List.{get_or_default}
use Rattle.dv_engine.specs.Engine.{RanBatch, IsStrange}
use Rattle.dv_engine.specs.declared.error.EngineFault.{EngineFault}
use Rattle.dv_posts.specs.Batches.{Batch}
use Rattle.dv_replay.proofs.TakingLemmas.{none_is_strange, took_one}
use Rattle.dv_replay.proofs.taking.take_one.Goals as goal

pub returns-in-Ok : goal.returns-in-Ok
returns-in-Ok g c =
    let batches : List Batch = c.args.batches.now in
    let n = c.args.number in
    let batch = c.in_ok-batch.batch in
    let is : batch ≡ slice_index_or batches n [] = c.in_ok-batch.ensures ∙ c.as_slice.ensures
    ∙ c.index-batches-number.is ∙ get_or_default batches n c.index-batches-number.result [] c.requires.there in
    took_one c.args.engine.now c.run_batch.new.self batches n batch c.requires.there c.requires.before is
    c.in-Ok.ensures

pub unreachable-requires-in-Err-Stranger : goal.unreachable-requires-in-Err-Stranger
unreachable-requires-in-Err-Stranger g c =
    let e = c.args.engine.now in
    let batches : List Batch = c.args.batches.now in
    let n = c.args.number in
    let batch = c.in_ok-batch.batch in
    let is : batch ≡ slice_index_or batches n [] = c.in_ok-batch.ensures ∙ c.as_slice.ensures
    ∙ c.index-batches-number.is ∙ get_or_default batches n c.index-batches-number.result [] c.requires.there in
    let strange : IsStrange batch e c.run_batch.new.self =
    subst (λ (fault : EngineFault). RanBatch (Err fault) batch e c.run_batch.new.self) c.in-Err-Stranger.field-0-is
    c.in-Err-Stranger.ensures in
    none_is_strange e c.run_batch.new.self batches n batch c.requires.there c.requires.before is c.requires.waits
    c.requires.next strange
