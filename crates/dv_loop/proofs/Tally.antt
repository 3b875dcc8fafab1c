-- Sums over all Deferreds, after one of them is changed.
use Rattle.std.proofs.Common.{◌≡◌, ℕ, ◌+◌, ◌≤◌, Option, None, Some, length, slice_get, slice_set, sum_by, refl, ap}
use Rattle.std.proofs.Common.{arith}
use Rattle.std.proofs.lemmas.List.{length-set}
use Rattle.std.proofs.lemmas.List.Sums.{sum_by-set}
use Rattle.std.proofs.lemmas.Option.{slice_get_within, get_or_from_slice_get}
use Rattle.dv_store.specs.Record.{changed, changing}
use Rattle.dv_loop.proofs.Kept.{Kind}
use Rattle.dv_world.specs.World.{Records}

pub tally_set : (f : Kind → ℕ) (rs : Records) (d : ℕ) (r s : Kind) → slice_get rs d ≡ Some r
    → sum_by f (slice_set rs d s) + f r ≡ sum_by f rs + f s
tally_set f rs d r s h =
    omega (arith, sum_by-set f rs d s r (slice_get_within rs d r h), ap f (get_or_from_slice_get rs d r r h))

tally_changed : (f : Kind → ℕ) (n : ℕ) (rs : Records) (d : ℕ) (change : Kind → Kind) (o : Option Kind)
    → slice_get rs d ≡ o → ((r : Kind) → f (change r) ≤ f r + n) → sum_by f (changed d change o rs) ≤ sum_by f rs + n
tally_changed f n rs d change None h p = omega arith
tally_changed f n rs d change (Some r) h p = omega (arith, tally_set f rs d r (change r) h, p r)

-- a change that adds so much at most
pub tally_changing : (f : Kind → ℕ) (n : ℕ) (rs : Records) (d : ℕ) (change : Kind → Kind)
    → ((r : Kind) → f (change r) ≤ f r + n) → sum_by f (changing d change rs) ≤ sum_by f rs + n
tally_changing f n rs d change p = tally_changed f n rs d change _ refl p

length_changed : (rs : Records) (d : ℕ) (change : Kind → Kind) (o : Option Kind)
    → length (changed d change o rs) ≡ length rs
length_changed rs d change None = refl
length_changed rs d change (Some r) = length-set rs d (change r)

pub length_changing : (rs : Records) (d : ℕ) (change : Kind → Kind) → length (changing d change rs) ≡ length rs
length_changing rs d change = length_changed rs d change _
