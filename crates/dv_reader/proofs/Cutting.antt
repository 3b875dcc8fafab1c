-- Sums and products that are cut at the last number of 64 bits.
use Rattle.std.proofs.Common.{◌≡◌, ℕ, zero, suc, ◌+◌, ◌-◌, ◌*◌, ◌^◌, ◌≤◌, ◌<◌, min, nat_lt, Bool, true, false, refl, sym, ap}
use Rattle.std.proofs.Common.{◌∙◌, arith, suc-mul, zero-mul}
use Rattle.std.proofs.lemmas.Bool.Decides.{nat_tests}
use Rattle.dv_reader.specs.Limits.{added_by}

-- the last number of 64 bits
abbrev pub last : ℕ
last = 2 ^ 64 - 1

lower : (m n : ℕ) → nat_lt m n ≡ true → m < n
lower m n h = grind (arith, nat_tests)

not_lower : (m n : ℕ) → nat_lt m n ≡ false → n ≤ m
not_lower m n h = grind (arith, nat_tests)

cut_more : (j x : ℕ) (b : Bool) → nat_lt last x ≡ b → min (suc j * min x last) last ≡ min (suc j * x) last
cut_more j x true is =
    let large : last < x = lower last x is in
    let cut : min x last ≡ last = omega (arith, large) in
    let left : last ≤ suc j * min x last = omega (arith, cut, suc-mul j (min x last)) in
    let right : last ≤ suc j * x = omega (arith, large, suc-mul j x) in
    omega (arith, left, right)
cut_more j x false is =
    let small : x ≤ last = not_lower last x is in
    let whole : min x last ≡ x = omega (arith, small) in
    rw whole refl

-- a product is cut alike whether its second factor is cut before
pub cut_times : (k x : ℕ) → min (k * min x last) last ≡ min (k * x) last
cut_times zero x = rw (zero-mul (min x last), zero-mul x) refl
cut_times (suc j) x = cut_more j x (nat_lt last x) refl

-- what a repeat adds is cut alike whether what it has is cut before
pub cut_added : (times weight added : ℕ)
    → min (added_by times (min (min weight last + 1) last) (min added last)) last
    ≡ min (added_by times (1 + weight) added) last
cut_added times weight added =
    let k = times - 1 in
    let sums : min (min (min weight last + 1) last + min added last) last ≡ min (1 + weight + added) last =
    omega arith in
    let parts : min (k * (min (min weight last + 1) last + min added last)) last
    ≡ min (k * (1 + weight + added)) last =
    sym (cut_times k (min (min weight last + 1) last + min added last)) ∙ ap (λ (x : ℕ). min (k * x) last) sums
    ∙ cut_times k (1 + weight + added) in
    omega (arith, parts)

-- what a repeat adds, as it is computed
pub adding : (k weight added : ℕ)
    → min (min (k * min (weight + added) last) last + added) last ≡ min (added + k * (weight + added)) last
adding k weight added = let parts = cut_times k (weight + added) in omega (arith, parts)
