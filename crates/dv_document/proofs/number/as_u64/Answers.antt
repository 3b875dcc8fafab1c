use Rattle.std.proofs.Common.{◌≡◌, ◌^◌, ℕ, drop, get_or, Bool, true, false, ◌==◌, ◌&&◌, Option, Some, None, cond, nat_lt, nat_le, refl, sym, ap, ◌∙◌}
use Rattle.std.specs.Float.{binary64, float_zero, float_is_finite}
use Rattle.fast_float.specs.Text.{scan, Parts, digits_of, nearest, with_sign}
use Rattle.serde_json.specs.Data.{Num, float, negative}
use Rattle.serde_json.specs.Find as find
use Rattle.serde_json.specs.Read.{is_integer, number_of, number_from}
use Rattle.dv_document.specs.Tokens.{or_this}
use Rattle.dv_document.proofs.Numbers.{number_of-minus, number_of-no_minus}
use Rattle.dv_document.proofs.number.as_u64.Goals as goal

abbrev natural : Option Num → Option ℕ
natural n = find.as_u64 (or_this (float float_zero) n)

-- a number below 0 is none
signed_case : (whole finite : Bool) (n m : Num) → find.as_u64 n ≡ None → find.as_u64 m ≡ None → natural (cond whole (Some n) (cond finite (Some m) None)) ≡ None
signed_case true finite n m e f = e
signed_case false true n m e f = f
signed_case false false n m e f = refl

signed : (p : Parts) → natural (number_from true p) ≡ None
signed p = signed_case (is_integer p && nat_lt 0 (digits_of p) && nat_le (digits_of p) (2 ^ 63)) (float_is_finite (nearest binary64 true p)) (negative (with_sign true (digits_of p))) (float (nearest binary64 true p)) refl refl

pub returns-then-has_minus : goal.returns-then-has_minus
returns-then-has_minus c =
    let s = c.as_bytes-bytes.result.now in
    let minus : (get_or s 0 0 == 45) ≡ true = sym c.if-has_minus.ensures.value in
    sym (signed (scan (drop 1 s))) ∙ ap natural (sym (number_of-minus s minus) ∙ ap number_of c.as_bytes-bytes.ensures.value)

pub returns-else-has_minus : goal.returns-else-has_minus
returns-else-has_minus c =
    let s = c.as_bytes-bytes.result.now in
    let no_minus : (get_or s 0 0 == 45) ≡ false = sym c.if-has_minus.ensures.value in
    c.unsigned.ensures ∙ ap (λ p. natural (number_from false p)) c.scan.ensures.parts ∙ ap natural (sym (number_of-no_minus s no_minus) ∙ ap number_of c.as_bytes-bytes.ensures.value)
