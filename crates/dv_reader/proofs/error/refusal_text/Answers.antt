use Rattle.std.proofs.Common.{◌≡◌, ◌++◌, codes, decimal, refl, ap, ◌∙◌, arith}
use Rattle.std.proofs.lemmas.Fmt.{decimal_digit, decimal_step}
use Rattle.dv_reader.proofs.error.refusal_text.Goals as goal

pub returns-in-TooLong : goal.returns-in-TooLong
returns-in-TooLong c = rw c.in-TooLong.is (rw (decimal_digit 1 (omega arith)) refl)

pub returns-in-NotJson : goal.returns-in-NotJson
returns-in-NotJson c = rw c.in-NotJson.is (rw (decimal_digit 2 (omega arith)) refl)

pub returns-in-BadVersion : goal.returns-in-BadVersion
returns-in-BadVersion c = rw c.in-BadVersion.is (rw (decimal_digit 3 (omega arith)) refl)

pub returns-in-BadShape : goal.returns-in-BadShape
returns-in-BadShape c = rw c.in-BadShape.is (rw (decimal_digit 4 (omega arith)) refl)

pub returns-in-TooMany : goal.returns-in-TooMany
returns-in-TooMany c = rw c.in-TooMany.is (rw (decimal_digit 5 (omega arith)) refl)

pub returns-in-BadName : goal.returns-in-BadName
returns-in-BadName c = rw c.in-BadName.is (rw (decimal_digit 6 (omega arith)) refl)

pub returns-in-BadClass : goal.returns-in-BadClass
returns-in-BadClass c = rw c.in-BadClass.is (rw (decimal_digit 7 (omega arith)) refl)

pub returns-in-OutOfMemory : goal.returns-in-OutOfMemory
returns-in-OutOfMemory c = rw c.in-OutOfMemory.is (rw (decimal_digit 8 (omega arith)) refl)

pub returns-in-BadPool : goal.returns-in-BadPool
returns-in-BadPool c = rw c.in-BadPool.is (rw (decimal_digit 9 (omega arith)) refl)

ten : decimal 10 ≡ codes "10"
ten = decimal_step 10 (omega arith) (omega arith) ∙ ap (λ digits. digits ++ codes "0") (decimal_digit 1 (omega arith))

pub returns-in-BadBody : goal.returns-in-BadBody
returns-in-BadBody c = rw c.in-BadBody.is (rw ten refl)

eleven : decimal 11 ≡ codes "11"
eleven = decimal_step 11 (omega arith) (omega arith) ∙ ap (λ digits. digits ++ codes "1") (decimal_digit 1 (omega arith))

pub returns-in-BadCooperator : goal.returns-in-BadCooperator
returns-in-BadCooperator c = rw c.in-BadCooperator.is (rw eleven refl)
