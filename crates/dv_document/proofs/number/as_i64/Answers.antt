use Rattle.std.proofs.Common.{◌≡◌, drop, get_or, true, false, ◌==◌, ℤ, Option, sym, ap, ◌∙◌, arith, take_all, length-drop}
use Rattle.std.specs.Float.{float_zero}
use Rattle.fast_float.specs.Text.{scan}
use Rattle.serde_json.specs.Data.{Num, float}
use Rattle.serde_json.specs.Find as find
use Rattle.serde_json.specs.Read.{number_of, number_from}
use Rattle.dv_document.specs.Tokens.{or_this}
use Rattle.dv_document.proofs.Numbers.{number_of-minus, number_of-no_minus}
use Rattle.dv_document.proofs.number.as_i64.Goals as goal

abbrev integer : Option Num → Option ℤ
integer n = find.as_i64 (or_this (float float_zero) n)

pub returns-then-has_minus : goal.returns-then-has_minus
returns-then-has_minus c =
    let s = c.as_bytes-bytes.result.now in
    let signed : (get_or s 0 0 == 45) ≡ true = sym c.if-has_minus.ensures.value in
    let parts : c.scan.result ≡ scan (drop 1 s) = c.scan.ensures.parts ∙ ap scan (take_all _ (drop 1 s) (omega (arith, length-drop 1 s))) in
    c.below_zero.ensures ∙ ap (λ p. integer (number_from true p)) parts ∙ ap integer (sym (number_of-minus s signed) ∙ ap number_of c.as_bytes-bytes.ensures.value)

pub returns-else-has_minus : goal.returns-else-has_minus
returns-else-has_minus c =
    let s = c.as_bytes-bytes.result.now in
    let unsigned : (get_or s 0 0 == 45) ≡ false = sym c.if-has_minus.ensures.value in
    c.not_below_zero.ensures ∙ ap (λ p. integer (number_from false p)) c.scan-else-has_minus.ensures.parts
    ∙ ap integer (sym (number_of-no_minus s unsigned) ∙ ap number_of c.as_bytes-bytes.ensures.value)
