-- The parts of a value of which each part answers a question well.
use Rattle.std.proofs.Common.{◌≡◌, ℕ, Bool, true, ◌&&◌, List, Some, refl}
use Rattle.serde_json.specs.Data.{Data}
use Rattle.serde_json.specs.Find.{at, get as value_of}
use Rattle.dv_forms.specs.declared.want.Want.{Want}
use Rattle.dv_why.specs.declared.question.Question.{Question}
use Rattle.dv_why.specs.Places.{part_want, value_want}
use Rattle.dv_why.specs.Fits.{suits}
use Rattle.dv_why.specs.AllSuit.{AllSuit, all_suit}

-- both are true
pub both : {a b : Bool} → a ≡ true → b ≡ true → (a && b) ≡ true
both h k = rw (h, k) refl

pub here : {q : Question} {w : Want} {d : Data} → AllSuit q w d → suits q w d ≡ true
here (all_suit w d suit items values) = suit

pub part : {q : Question} {w v : Want} {d e : Data} (n : ℕ) → AllSuit q w d → part_want w d n ≡ Some v → at n d ≡ Some e
    → AllSuit q v e
part n (all_suit w d suit items values) wants is = items n _ _ wants is

pub value : {q : Question} {w v : Want} {d e : Data} (key : List ℕ) → AllSuit q w d → value_want w key ≡ Some v
    → value_of key d ≡ Some e → AllSuit q v e
value key (all_suit w d suit items values) wants is = values key _ _ wants is
