use Rattle.std.proofs.Common.{◌++◌, codes, string_bytes}
use Rattle.dv_survey.proofs.Pieces.{on_ok, with_piece}
use Rattle.dv_survey.specs.Lines.{paused_json}
use Rattle.dv_survey.proofs.lines.write_label_and_pauses.Goals as goal

pub returns : goal.returns
returns c =
    let old = string_bytes c.args.out.now in
    let n1 = string_bytes c.write_text.new.out in
    let n2 = string_bytes c.write_text-2.new.out in
    let n3 = string_bytes c.write_paused_json.new.out in
    let first = codes "\"deferred\":" in
    let label = c.args.label.now in
    let upto_label = with_piece old n1 n2 first label c.in_ok-write_text.ensures c.in_ok-write_text-2.ensures in
    on_ok c.write_paused_json.result c.write_paused_json.ensures
    (λ e. with_piece old n2 n3 (first ++ label) (paused_json c.args.pauses) upto_label e)
