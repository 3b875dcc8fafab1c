-- Which state's number is used.
use Rattle.std.proofs.Common.{arith, ◌≡◌, ◌-◌, ◌<◌, ◌≤◌, ◌∙◌, nat_lt, Bool, true, false, cond, ℕ, zero, suc, refl, ap}
use Rattle.std.proofs.lemmas.Bool.Decides.{nat_tests}
use Rattle.dv_orders.specs.Sampling.{next_state, number_of, number_used, state_used}

is_less : (a b : ℕ) → a < b → nat_lt a b ≡ true
is_less a b less = grind (arith, nat_tests)

not_less : (a b : ℕ) → b ≤ a → nat_lt a b ≡ false
not_less a b past = grind (arith, nat_tests)

pub last_state : (n state : ℕ) → state_used n 0 state ≡ state
unfolding state_used
last_state n state = refl

-- where the number is used, no other is drawn
pub this_state : (n others state : ℕ) → number_of state < number_used n → state_used n others state ≡ state
unfolding state_used
this_state n zero state used = refl
this_state n (suc others) state used =
    ap (λ (b : Bool). cond b state (state_used n others (next_state state)))
    (is_less (number_of state) (number_used n) used)

-- where it isn't, the next one is
pub next_one : (n others state : ℕ) → 0 < others → number_used n ≤ number_of state
    → state_used n others state ≡ state_used n (others - 1) (next_state state)
unfolding state_used
next_one n zero state some past = absurd (omega (arith, some))
next_one n (suc others) state some past =
    let e : others ≡ suc others - 1 = omega arith in
    ap (λ (b : Bool). cond b state (state_used n others (next_state state)))
    (not_less (number_of state) (number_used n) past)
    ∙ ap (λ k. state_used n k (next_state state)) e
