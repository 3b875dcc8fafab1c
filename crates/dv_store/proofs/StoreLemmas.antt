-- What is put back leaves all as it was.
use Rattle.std.proofs.Common.{◌≡◌, refl, ℕ, zero, suc, ◌-◌, List, [], ◌∷◌, ◌++◌, length, take, Option, None, Some}
use Rattle.std.proofs.Common.{slice_get, slice_set, ap, sym, ◌∙◌, arith, length-append}
use Rattle.std.proofs.lemmas.Option.{none-some, same_Some}
use Rattle.std.proofs.Math.Seq.{take-append_seam}
use Rattle.dv_store.specs.Record.{with_item, without_last, changed, changing}
use Rattle.dv_store.specs.declared.record.Item.{Item}
use Rattle.dv_store.specs.declared.record.Record.{Record}

one_less : {X : Type 0} (items : List X) (item : X) → length (items ++ item ∷ []) - 1 ≡ length items
one_less items item = omega (arith, length-append items (item ∷ []))

item_taken_back : {X : Type 0} (items : List X) (item : X)
    → take (length (items ++ item ∷ []) - 1) (items ++ item ∷ []) ≡ items
item_taken_back items item =
    ap (λ n. take n (items ++ item ∷ [])) (one_less items item) ∙ take-append_seam items (item ∷ [])

-- a record that was set is found
set_found : {X : Type 0} (xs : List X) (i : ℕ) (a x : X) → slice_get xs i ≡ Some x
    → slice_get (slice_set xs i a) i ≡ Some a
set_found [] i a x e = absurd (none-some x e)
set_found (y ∷ ys) zero a x e = refl
set_found (y ∷ ys) (suc i) a x e = set_found ys i a x e

-- and set to what it was before
set_back : {X : Type 0} (xs : List X) (i : ℕ) (a x : X) → slice_get xs i ≡ Some x
    → slice_set (slice_set xs i a) i x ≡ xs
set_back [] i a x e = absurd (none-some x e)
set_back (y ∷ ys) zero a x e = ap (λ z. z ∷ ys) (sym (same_Some y x e))
set_back (y ∷ ys) (suc i) a x e = ap (λ l. y ∷ l) (set_back ys i a x e)

last_taken_back : {P K : Type 0} (r : Record P K) (item : Item P) → without_last (with_item item r) ≡ r
last_taken_back r item = ap (λ items. record r { items = items }) (item_taken_back r.items item)

put_back_found : {P K : Type 0} (rs : List (Record P K)) (id : ℕ) (item : Item P) (o : Option (Record P K))
    → slice_get rs id ≡ o
    → changing id without_last (changed id (with_item item) o rs) ≡ rs
put_back_found rs id item None e = rw e refl
put_back_found rs id item (Some r) e =
    rw (set_found rs id (with_item item r) r e, last_taken_back r item) (set_back rs id (with_item item r) r e)

-- an item that is added and dropped again leaves the records
pub put_back : {P K : Type 0} (rs added left : List (Record P K)) (id : ℕ) (item : Item P)
    → added ≡ changing id (with_item item) rs → left ≡ changing id without_last added → left ≡ rs
put_back rs added left id item a l = l ∙ ap (λ x. changing id without_last x) a ∙ put_back_found rs id item _ refl
