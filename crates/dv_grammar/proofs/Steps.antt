-- Steps of a reader, taken apart.
use Rattle.std.proofs.Common.{◌≡◌, Bool, true, false, cond, Option, Some, None, option_and_then, option_map, refl, ◌⊎◌}
use Rattle.std.proofs.Common.{inl, inr, Ordering, Less, Equal, Greater}
use Rattle.std.specs.Ordering.{match_ordering}

pub some_injective : {A : Type 0} {x y : A} → Some x ≡ Some y → x ≡ y
some_injective h = cc

pub bind : {A B P : Type 0} (o : Option A) (f : A → Option B) (y : B) → option_and_then f o ≡ Some y
    → ((x : A) → o ≡ Some x → f x ≡ Some y → P) → P
bind (Some x) f y e k = k x refl e
bind None f y e k = cc

pub mapped : {A B P : Type 0} (o : Option A) (f : A → B) (y : B) → option_map f o ≡ Some y
    → ((x : A) → o ≡ Some x → f x ≡ y → P) → P
mapped (Some x) f y e k = k x refl (some_injective e)
mapped None f y e k = cc

pub chosen : {A : Type 0} (b : Bool) (x y z : A) → cond b x y ≡ z → ((b ≡ true) × (x ≡ z)) ⊎ (y ≡ z)
chosen true x y z e = inl (refl, e)
chosen false x y z e = inr e

pub either_way : {A P : Type 0} (b : Bool) (x y z : A) → cond b x y ≡ z → (b ≡ true → x ≡ z → P)
    → (b ≡ false → y ≡ z → P) → P
either_way true x y z e k l = k refl e
either_way false x y z e k l = l refl e

pub picked : {A : Type 0} (o : Ordering) (rest : Option A) (x y : A) → match_ordering o rest (Some x) rest ≡ Some y
    → (rest ≡ Some y) ⊎ (x ≡ y)
picked Less rest x y e = inl e
picked Equal rest x y e = inr (some_injective e)
picked Greater rest x y e = inl e
