use Rattle.std.proofs.Common.{◌≡◌, drop, get_or, true, false, ◌==◌, sym, ap, ◌∙◌, arith, take_all, length-drop}
use Rattle.std.specs.Prelude.{is_some}
use Rattle.fast_float.specs.Text.{scan}
use Rattle.serde_json.specs.Read.{number_of, number_from}
use Rattle.dv_document.proofs.Numbers.{number_of-minus, number_of-no_minus}
use Rattle.dv_document.proofs.number.is_in_range.Goals as goal

pub returns-then-has_minus : goal.returns-then-has_minus
returns-then-has_minus c =
    let s = c.as_bytes-bytes.result.now in
    let signed : (get_or s 0 0 == 45) ≡ true = sym c.if-has_minus.ensures.value in
    let parts : c.scan.result ≡ scan (drop 1 s) = c.scan.ensures.parts ∙ ap scan (take_all _ (drop 1 s) (omega (arith, length-drop 1 s))) in
    c.is_negative_in_range.ensures ∙ ap (λ p. is_some (number_from true p)) parts ∙ ap is_some (sym (number_of-minus s signed) ∙ ap number_of c.as_bytes-bytes.ensures.value)

pub returns-else-has_minus : goal.returns-else-has_minus
returns-else-has_minus c =
    let s = c.as_bytes-bytes.result.now in
    let unsigned : (get_or s 0 0 == 45) ≡ false = sym c.if-has_minus.ensures.value in
    c.is_positive_in_range.ensures ∙ ap (λ p. is_some (number_from false p)) c.scan-else-has_minus.ensures.parts
    ∙ ap is_some (sym (number_of-no_minus s unsigned) ∙ ap number_of c.as_bytes-bytes.ensures.value)
