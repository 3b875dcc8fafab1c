use Rattle.std.proofs.Common.{◌++◌, codes, string_bytes}
use Rattle.std.specs.Fmt.{decimal}
use Rattle.dv_survey.proofs.Pieces.{on_ok, with_piece}
use Rattle.dv_survey.proofs.text.write_end_json.Goals as goal

pub returns : goal.returns
returns c =
    let old = string_bytes c.args.out.now in
    let n1 = string_bytes c.write_text.new.out in
    let n2 = string_bytes c.write_u64.new.out in
    let n3 = string_bytes c.write_text-2.new.out in
    let n4 = string_bytes c.write_u64-2.new.out in
    let n5 = string_bytes c.write_text-3.new.out in
    let first = codes ",\"stopped\":" in
    let number = decimal c.args.stopped in
    let second = codes ",\"type\":\"end\",\"unmet\":" in
    let other = decimal c.args.unmet in
    let upto_number = with_piece old n1 n2 first number c.in_ok-write_text.ensures c.in_ok-write_u64.ensures in
    let upto_second = with_piece old n2 n3 (first ++ number) second upto_number c.in_ok-write_text-2.ensures in
    let upto_other = with_piece old n3 n4 (first ++ number ++ second) other upto_second c.in_ok-write_u64-2.ensures in
    on_ok c.write_text-3.result c.write_text-3.ensures
    (λ e. with_piece old n4 n5 (first ++ number ++ second ++ other) (codes "}\n") upto_other e)
