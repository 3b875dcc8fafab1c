-- Two values are equal just where their codes are.
use Rattle.std.proofs.Common.{◌≡◌, ◌↔◌, ◌&&◌, Bool, true, false, true≢false, IsTrue, refl, ap, subst, sym, arith}
use base.Stored.{Gv, gnil, gnum, gcons}
use Rattle.dv_value.specs.contracts.value.Value as value_contract
use Rattle.dv_value.specs.declared.value.Value.{Value}
use Rattle.dv_script.specs.Same.{same_code, is_same}

and_left : (p q : Bool) → (p && q) ≡ true → p ≡ true
and_left true q e = refl
and_left false q e = e

and_right : (p q : Bool) → (p && q) ≡ true → q ≡ true
and_right true q e = e
and_right false q e = absurd (true≢false (sym e))

-- equal codes are the same
pub same_code_sound : (a b : Gv) → same_code a b ≡ true → a ≡ b
same_code_sound gnil gnil e = refl
same_code_sound gnil (gnum n) e = absurd (true≢false (sym e))
same_code_sound gnil (gcons c d) e = absurd (true≢false (sym e))
same_code_sound (gnum m) gnil e = absurd (true≢false (sym e))
same_code_sound (gnum m) (gnum n) e = let h : m ≡ n = grind (arith, e) in ap gnum h
same_code_sound (gnum m) (gcons c d) e = absurd (true≢false (sym e))
same_code_sound (gcons a b) gnil e = absurd (true≢false (sym e))
same_code_sound (gcons a b) (gnum n) e = absurd (true≢false (sym e))
same_code_sound (gcons a b) (gcons c d) e =
    let x = same_code_sound a c (and_left _ _ e) in
    let y = same_code_sound b d (and_right (same_code a c) _ e) in
    λ i. gcons (x i) (y i)

-- a code equals itself
pub same_code_refl : (a : Gv) → same_code a a ≡ true
same_code_refl gnil = refl
same_code_refl (gnum n) = grind arith
same_code_refl (gcons a b) = rw (same_code_refl a) (same_code_refl b)

-- so what says of two values whether they are equal says what the codes say
same_by_code : (b c : Bool) → (b ≡ true → c ≡ true) → (c ≡ true → b ≡ true) → b ≡ c
same_by_code true true f g = refl
same_by_code true false f g = sym (f refl)
same_by_code false true f g = g refl
same_by_code false false f g = refl

pub same_by : (b : Bool) (v w : Value) → (IsTrue b ↔ (v ≡ w)) → b ≡ is_same v w
same_by b v w h =
    same_by_code b (is_same v w)
    (λ e. subst (λ u. is_same v u ≡ true) (h.0 e) (same_code_refl (value_contract.the_row.coded.code v)))
    (λ e. h.1 (value_contract.the_row.coded.inj v w (same_code_sound _ _ e)))
