-- Wants and items, counted.
use Rattle.std.proofs.Common.{◌≡◌, ◌≢◌, ℕ, zero, suc, ◌-◌, ◌<◌, ◌≤◌, List, [], ◌∷◌, length, get_or, Some, None, refl}
use Rattle.std.proofs.Common.{ap, arith, option_and_then, option_map}
use Rattle.serde_json.specs.Data.{Data}
use Rattle.serde_json.specs.Find.{at}
use Rattle.serde_json.specs.View.{items_view}
use Rattle.serde_json.specs.declared.value.Value.{Value}
use Rattle.dv_document.specs.View.{count}
use Rattle.dv_forms.specs.declared.want.Want.{Want}
use Rattle.dv_forms.specs.declared.want.CallKind.{CallKind}
use Rattle.dv_forms.specs.Wants.{want_for}
use Rattle.dv_why.specs.Places.{argument_want, call_want, nth}

-- the item of a number below the length
pub nth_within : (ws : List Want) (n : ℕ) (default : Want) → n < length ws → nth ws n ≡ Some (get_or ws n default)
nth_within [] n default h = absurd (omega arith)
nth_within (w ∷ ws) zero default h = refl
nth_within (w ∷ ws) (suc n) default h = nth_within ws n default (omega arith)

-- there is none of another number
pub nth_past : (ws : List Want) (n : ℕ) → length ws ≤ n → nth ws n ≡ None
nth_past [] n h = refl
nth_past (w ∷ ws) zero h = absurd (omega arith)
nth_past (w ∷ ws) (suc n) h = nth_past ws n (omega arith)

-- a part of a call after its word is an argument
pub after_word : (c : CallKind) (d : Data) (n : ℕ) → n ≢ 0
    → option_and_then (λ w. option_map (want_for w) (at n d)) (argument_want c d (n - 1)) ≡ call_want c d n
after_word c d zero h = absurd (h refl)
after_word c d (suc n) h =
    let e : suc n - 1 ≡ n = omega arith in
    ap (λ (k : ℕ). option_and_then (λ w. option_map (want_for w) (at (suc n) d)) (argument_want c d k)) e

-- there are as many items as values
pub count_items : (vs : List Value) → count (items_view vs) ≡ length vs
count_items [] = refl
count_items (v ∷ vs) = ap suc (count_items vs)
