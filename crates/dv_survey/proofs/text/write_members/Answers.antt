use Rattle.std.proofs.Common.{◌++◌, ◌∙◌, ap, codes, string_bytes}
use Rattle.std.specs.Fmt.{decimal}
use Rattle.dv_survey.proofs.Pieces.{on_ok, with_piece}
use Rattle.dv_survey.specs.Text.{batches_text}
use Rattle.dv_survey.proofs.text.write_members.Goals as goal

pub returns : goal.returns
returns c =
    let old = string_bytes c.args.out.now in
    let n1 = string_bytes c.write_text.new.out in
    let n2 = string_bytes c.write_batches.new.out in
    let n3 = string_bytes c.write_text-2.new.out in
    let n4 = string_bytes c.write_u64.new.out in
    let n5 = string_bytes c.write_text-3.new.out in
    let first = codes "{\"batches\":" in
    let batches = batches_text c.args.tally.now.first in
    let key = codes ",\"count\":" in
    let count = decimal c.args.tally.now.count in
    let upto_batches = with_piece old n1 n2 first batches c.in_ok-write_text.ensures
    (c.in_ok-write_batches.ensures ∙ ap (λ l. n1 ++ batches_text l) c.as_slice.ensures) in
    let upto_key = with_piece old n2 n3 (first ++ batches) key upto_batches c.in_ok-write_text-2.ensures in
    let upto_count = with_piece old n3 n4 (first ++ batches ++ key) count upto_key c.in_ok-write_u64.ensures in
    on_ok c.write_text-3.result c.write_text-3.ensures
    (λ e. with_piece old n4 n5 (first ++ batches ++ key ++ count) (codes ",") upto_count e)
