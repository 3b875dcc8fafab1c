use Rattle.std.proofs.Common.{◌++◌, ◌∙◌, ap, codes, string_bytes}
use Rattle.dv_survey.proofs.Pieces.{on_ok, with_piece}
use Rattle.dv_survey.specs.Lines.{label_json, sample_json, state_word}
use Rattle.dv_survey.proofs.lines.write_head_json.Goals as goal

pub returns : goal.returns
returns c =
    let old = string_bytes c.args.out.now in
    let n1 = string_bytes c.write_label_and_pauses.new.out in
    let n2 = string_bytes c.write_sample_json.new.out in
    let n3 = string_bytes c.write_text.new.out in
    let n4 = string_bytes c.write_text-2.new.out in
    let n5 = string_bytes c.write_text-3.new.out in
    let label = label_json c.args.label.now c.args.outcome.now.pauses in
    let sample = sample_json c.args.sample in
    let state = codes ",\"state\":\"" in
    let word = state_word c.args.outcome.now.state in
    let upto_sample =
    with_piece old n1 n2 label sample c.in_ok-write_label_and_pauses.ensures c.in_ok-write_sample_json.ensures in
    let upto_state = with_piece old n2 n3 (label ++ sample) state upto_sample c.in_ok-write_text.ensures in
    let upto_word = with_piece old n3 n4 (label ++ sample ++ state) word upto_state
    (c.in_ok-write_text-2.ensures ∙ ap (λ l. n3 ++ l) c.state_word.ensures) in
    on_ok c.write_text-3.result c.write_text-3.ensures
    (λ e. with_piece old n4 n5 (label ++ sample ++ state ++ word) (codes "\"") upto_word e)
