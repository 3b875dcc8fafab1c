-- Where nothing is left to ask.
use Rattle.std.proofs.Common.{◌≡◌, ◌≢◌, ◌-◌, ℕ, zero, suc, Bool, true, List, [], ◌∷◌, refl, ap, arith}
use Rattle.serde_json.specs.Data.{Data, Items, no_items}
use Rattle.dv_forms.specs.declared.want.Want.{Want}
use Rattle.dv_questions.specs.Asking.{all_suit, in_parts, one_for_one}
use Rattle.dv_questions.specs.Questions.{Asked}

-- where no item is left, nothing is asked
pub none_left : (good : Want → Data → Bool) (ws : List Want) (ds : Items) → ds ≡ no_items → one_for_one good ws ds ≡ true
none_left good [] ds h = refl
none_left good (w ∷ ws) ds h = ap (one_for_one good (w ∷ ws)) h

-- one level down, the parts are asked
pub one_level : (a : Asked) (levels : ℕ) (w : Want) (d : Data) → levels ≢ 0
    → all_suit a levels w d ≡ in_parts a (all_suit a (levels - 1)) w d
unfolding all_suit
one_level a zero w d some = absurd (some refl)
one_level a (suc n) w d some =
    let below : n ≡ suc n - 1 = omega arith in ap (λ (k : ℕ). in_parts a (all_suit a k) w d) below
