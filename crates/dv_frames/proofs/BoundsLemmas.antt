-- There is room for one more Deferred.
use Rattle.std.proofs.Common.{◌≡◌, Bool, true, false, cond, subst, sym, ◌<◌, ◌^◌, ◌-◌, length, refl, arith}
use Rattle.dv_frames.specs.Bounds.{Bounded}
use Rattle.dv_objects.specs.Objects.{Objects}
use Rattle.dv_world.specs.World.{World, arrange}

pub records_within : (w : World) → Bounded w → length w.records < 2 ^ 32 - 1
records_within w b = omega (arith, b.told, b.within, b.limited)

same_records : (b : Bool) (change : Objects → Objects) (w : World)
    → (cond b w (record w { objects = change w.objects })).records ≡ w.records
same_records true change w = refl
same_records false change w = refl

-- what stands beside them is arranged
pub arranged_within : (change : Objects → Objects) (w u : World) → u ≡ arrange change w → Bounded w
    → length u.records < 2 ^ 32 - 1
unfolding arrange
arranged_within change w u e b =
    subst (λ (v : World). length v.records < 2 ^ 32 - 1) (sym e)
    (subst (λ rs. length rs < 2 ^ 32 - 1) (sym (same_records w.stopped change w)) (records_within w b))
