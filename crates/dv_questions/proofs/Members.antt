-- What is neither an array nor an object has no text that is asked of.
use Rattle.std.proofs.Common.{◌≡◌, ℕ, zero, suc, true, refl}
use Rattle.serde_json.specs.Data.{Data, null, boolean, number, string, array, object}
use Rattle.dv_forms.specs.Wants.{member_want}
use Rattle.dv_questions.specs.Asking.{all_suit, is_scalar}
use Rattle.dv_questions.specs.Questions.{Asked}

pub scalar_suits : (a : Asked) (levels : ℕ) (d : Data) → is_scalar d ≡ true → all_suit a levels (member_want d) d ≡ true
unfolding all_suit
scalar_suits a zero d h = refl
scalar_suits a (suc n) null h = refl
scalar_suits a (suc n) (boolean b) h = refl
scalar_suits a (suc n) (number x) h = refl
scalar_suits a (suc n) (string text) h = refl
scalar_suits a (suc n) (array ds) h = cc
scalar_suits a (suc n) (object ms) h = cc
