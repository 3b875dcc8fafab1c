use Rattle.std.proofs.Common.{arith, ◌≡◌, ◌+◌, ◌%◌, ◌<◌, ◌^◌, ◌-◌}
use Rattle.std.proofs.Math.Nat.{mod-add-mod, mod-lt}
use Rattle.std.proofs.lemmas.Nat.{div-add-mod'}
use Rattle.dv_orders.proofs.sampling.last_used.Goals as goal

pub returns : goal.returns
returns c =
    let n = c.args.n in
    let fits : n < 2 ^ 64 = c.ranges.n.fits in
    let rest : ((2 ^ 64 - 1) % n + 1) % n ≡ 2 ^ 64 % n = mod-add-mod (2 ^ 64 - 1) n 1 in
    let all = div-add-mod' (2 ^ 64) n in
    let less = mod-lt (2 ^ 64) c.requires in
    omega (arith, fits, rest, all, less)
