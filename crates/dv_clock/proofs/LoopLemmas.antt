-- A loop's next turn is the first after now.
use Rattle.std.proofs.Common.{ℕ, ◌+◌, ◌-◌, ◌*◌, ◌/◌, ◌<◌, ◌≤◌, refl, arith}
use Rattle.std.proofs.Math.Nat.{lt-div-mul-add, div-mul-le_self, lt_of_mul-lt-mul_right, mul-le-mul_right, add-mul}
use Rattle.dv_clock.specs.LoopingCall.{IsNextTurn}
use Rattle.dv_clock.specs.Laws.{TheNextTurnIsTheFirstLater}

next_by : (start interval now past : ℕ) → start ≤ now → past * interval ≤ now - start
    → now - start < past * interval + interval → IsNextTurn start interval now (start + (past + 1) * interval)
next_by start interval now past h low high =
    let more = add-mul past 1 interval in
    record {
      intervals = past + 1;
      on_time = refl;
      later = omega (arith, more);
      least = λ k late.
          let few : past < k = lt_of_mul-lt-mul_right interval (omega arith) in
          let most = mul-le-mul_right {m = past + 1} {n = k} interval (omega arith) in
          omega arith;
    }

pub next_is_first : TheNextTurnIsTheFirstLater
next_is_first start interval now h k =
    next_by start interval now ((now - start) / interval) h (div-mul-le_self (now - start) interval) (lt-div-mul-add k)
