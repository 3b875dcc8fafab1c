use Rattle.std.proofs.Common.{◌++◌, ◌∙◌, ap, codes, string_bytes}
use Rattle.dv_survey.proofs.Pieces.{on_ok, with_piece}
use Rattle.dv_survey.specs.Lines.{value_json, waits_json}
use Rattle.dv_survey.proofs.lines.write_rest_json.Goals as goal

pub returns : goal.returns
returns c =
    let old = string_bytes c.args.out.now in
    let n1 = string_bytes c.write_text.new.out in
    let n2 = string_bytes c.write_value.new.out in
    let n3 = string_bytes c.write_text-2.new.out in
    let n4 = string_bytes c.write_text-3.new.out in
    let type = codes ",\"type\":\"deferred\",\"value\":" in
    let value = value_json c.args.classes.now c.args.state.now in
    let key = codes ",\"waits_for\":" in
    let waits = waits_json c.args.labels.now c.args.state.now in
    let upto_value = with_piece old n1 n2 type value c.in_ok-write_text.ensures c.in_ok-write_value.ensures in
    let upto_key = with_piece old n2 n3 (type ++ value) key upto_value c.in_ok-write_text-2.ensures in
    on_ok c.write_text-3.result c.write_text-3.ensures
    (λ e. with_piece old n3 n4 (type ++ value ++ key) waits upto_key (e ∙ ap (λ l. n3 ++ l) c.waits_for.ensures))
