-- Members put under different keys come out the same in any order.
use Rattle.std.proofs.Common.{◌≡◌, ◌≢◌, ℕ, suc, ◌<◌, List, length, slice_index_or, Ordering, Less, Equal, Greater, false, true, refl, sym, ap, ◌∙◌, arith}
use Rattle.std.specs.Ordering.{nat_cmp, match_ordering, ordering_reverse}
use Rattle.std.specs.Cmp.Lexicographic.{slice_cmp}
use Rattle.std.specs.Prelude.{⊤}
use Rattle.std.proofs.lemmas.Bool.{false≢true}
use Rattle.std.proofs.lemmas.Cmp.{nat_list_cmp_total}
use Rattle.std.proofs.lemmas.Map.Lookups.{exact_bytes}
use Rattle.json.specs.Json as json
use Rattle.json.specs.Strict.{AreDistinct, keys}
use Rattle.serde_json.specs.Data.{Data, Members, no_members, member, put}
use Rattle.serde_json.specs.Find.{get_member}
use Rattle.serde_json.proofs.Views.{get_member-put_other}
use Rattle.dv_document.specs.Tokens.{data_of, members_of}

abbrev Key : Type 0
Key = List ℕ

abbrev by_key : Key → Key → Ordering
by_key = slice_cmp nat_cmp

back : (k l : Key) (r : Ordering) → by_key k l ≡ r → by_key l k ≡ ordering_reverse r
back k l r is = nat_list_cmp_total.antisymm l k ∙ ap ordering_reverse is

Less≢Greater : {A : Type 0} → Less ≡ Greater → A
Less≢Greater e = absurd (false≢true (ap (λ o. match_ordering o false false true) e))

Equal≢Greater : {A : Type 0} → Equal ≡ Greater → A
Equal≢Greater e = absurd (false≢true (ap (λ o. match_ordering o false false true) e))

-- with the first key below the second, at a member whose key compares to them like this
swap_at : (k l m : Key) (d e f : Data) (r : Members) (a b : Ordering) → by_key k l ≡ Less → by_key k m ≡ a → by_key l m ≡ b
    → put k d (put l e r) ≡ put l e (put k d r)
    → put k d (put l e (member m f r)) ≡ put l e (put k d (member m f r))
swap_at k l m d e f r Less Less below at_k at_l ih = rw (at_k, at_l, below, back k l Less below) refl
swap_at k l m d e f r Less Equal below at_k at_l ih = rw (at_k, at_l, at_k, back k l Less below) refl
swap_at k l m d e f r Less Greater below at_k at_l ih = rw (at_k, at_l, at_k, back k l Less below) refl
swap_at k l m d e f r Equal Less below at_k at_l ih =
    Less≢Greater (sym at_l ∙ ap (by_key l) (sym (exact_bytes k m at_k)) ∙ back k l Less below)
swap_at k l m d e f r Equal Equal below at_k at_l ih =
    Equal≢Greater (sym at_l ∙ ap (by_key l) (sym (exact_bytes k m at_k)) ∙ back k l Less below)
swap_at k l m d e f r Equal Greater below at_k at_l ih = rw (at_k, at_l, at_k) refl
swap_at k l m d e f r Greater Less below at_k at_l ih =
    Less≢Greater (sym at_l ∙ back m l Less (nat_list_cmp_total.trans m k l (back k m Greater at_k) below))
swap_at k l m d e f r Greater Equal below at_k at_l ih =
    Equal≢Greater (sym at_l ∙ back m l Less (nat_list_cmp_total.trans m k l (back k m Greater at_k) below))
swap_at k l m d e f r Greater Greater below at_k at_l ih = rw (at_k, at_l, at_k) (ap (member m f) ih)

swap_below : (k l : Key) (d e : Data) (ms : Members) → by_key k l ≡ Less → put k d (put l e ms) ≡ put l e (put k d ms)
swap_below k l d e no_members below = rw (below, back k l Less below) refl
swap_below k l d e (member m f r) below =
    swap_at k l m d e f r (by_key k m) (by_key l m) below refl refl (swap_below k l d e r below)

swap_by : (k l : Key) (d e : Data) (ms : Members) (o : Ordering) → by_key k l ≡ o → k ≢ l
    → put k d (put l e ms) ≡ put l e (put k d ms)
swap_by k l d e ms Less is other = swap_below k l d e ms is
swap_by k l d e ms Equal is other = absurd (other (exact_bytes k l is))
swap_by k l d e ms Greater is other = sym (swap_below l k e d ms (back k l Greater is))

swap : (k l : Key) (d e : Data) (ms : Members) → k ≢ l → put k d (put l e ms) ≡ put l e (put k d ms)
swap k l d e ms other = swap_by k l d e ms (by_key k l) refl other

-- no member has the key
abbrev pub Lacks : Key → json.Members → Type 0
Lacks k json.no_members = ⊤
Lacks k (json.member l j ms) = (k ≢ l) × Lacks k ms

lacks_all : (k : Key) (ms : json.Members) → ((i : ℕ) (d : Key) → i < length (keys ms) → k ≢ slice_index_or (keys ms) i d)
    → Lacks k ms
lacks_all k json.no_members h = tt
lacks_all k (json.member l j ms) h =
    (h 0 l (omega arith), lacks_all k ms (λ i d within. h (suc i) d (omega (arith, within))))

-- of distinct keys the first is none of the others, and those are distinct
pub first_lacks : (k : Key) (j : json.Json) (ms : json.Members) → AreDistinct (keys (json.member k j ms)) → Lacks k ms
first_lacks k j ms h = lacks_all k ms (λ i d within. h 0 (suc i) d (omega arith) (omega (arith, within)))

pub others_distinct : (k : Key) (j : json.Json) (ms : json.Members) → AreDistinct (keys (json.member k j ms))
    → AreDistinct (keys ms)
others_distinct k j ms h i l d below within = h (suc i) (suc l) d (omega (arith, below)) (omega (arith, within))

-- what is put first can be put last, if no other has its key
pub put_last : (k : Key) (d : Data) (ms : json.Members) (found : Members) → Lacks k ms
    → members_of ms (put k d found) ≡ put k d (members_of ms found)
put_last k d json.no_members found h = refl
put_last k d (json.member l j ms) found h =
    ap (members_of ms) (swap l k (data_of j) d found (λ e. h.0 (sym e)))
    ∙ put_last k d ms (put l (data_of j) found) h.1

-- a key that no member has isn't found among them
pub not_among : (k : Key) (ms : json.Members) (found : Members) → Lacks k ms
    → get_member k (members_of ms found) ≡ get_member k found
not_among k json.no_members found h = refl
not_among k (json.member l j ms) found h =
    not_among k ms (put l (data_of j) found) h.1 ∙ get_member-put_other k l (data_of j) found h.0
