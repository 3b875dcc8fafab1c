-- The posters of an inbox are its posters further on, whatever was posted and taken.
use Rattle.std.proofs.Common.{arith, ◌≡◌, ◌≢◌, ℕ, zero, suc, ◌<◌, ◌==◌, Bool, true, false, List, [], ◌∷◌, ◌∙◌, length}
use Rattle.std.proofs.Common.{slice_index_or, slice_set, slice_get, Some, refl, sym, ap, subst}
use Rattle.std.proofs.lemmas.List.{length-set, get_or-set_same}
use Rattle.std.proofs.lemmas.Option.{slice_get_read}
use Rattle.dv_posts.specs.Posts.{AreOf, ArePosters, Inbox, IsOf, Poster, SameInbox, SamePoster, rings_of}
use Rattle.dv_posts.proofs.InboxLemmas.{other_at, same_at, some_same}

-- the inbox changed
pub still_of : (old new : Inbox) (posters : List Poster) → SameInbox old new → AreOf old posters → AreOf new posters
still_of old new posters same are = subst (λ rings. ArePosters rings posters) (sym same) are

-- one poster
pub one_of : (inbox : Inbox) (posters : List Poster) (n : ℕ) (p : Poster) → n < length posters
    → p ≡ slice_index_or posters n p → AreOf inbox posters → (p.caller ≡ n) × IsOf inbox p
one_of inbox posters n p low is are = are.each n p (slice_get_read posters (length posters) n p refl low is)

-- a poster that is the same and then the same
pub same_then : (a b c : Poster) → SamePoster a b → SamePoster b c → SamePoster a c
same_then a b c before after = (after.0 ∙ before.0, after.1 ∙ before.1, after.2 ∙ before.2)

-- one poster changed, and the inbox
pub still_is_of : (old new : Inbox) (p q : Poster) → SameInbox old new → SamePoster p q → IsOf old p → IsOf new q
still_is_of old new p q same later of =
    ap (λ rings. slice_get rings q.caller) same ∙ ap (slice_get (rings_of old)) later.0 ∙ of ∙ ap Some (sym later.1)

get_other : {X : Type 0} (xs : List X) (n k : ℕ) (x : X) → k ≢ n → slice_get (slice_set xs n x) k ≡ slice_get xs k
get_other [] n k x apart = refl
get_other (y ∷ ys) zero zero x apart = absurd (apart refl)
get_other (y ∷ ys) zero (suc k) x apart = refl
get_other (y ∷ ys) (suc n) zero x apart = refl
get_other (y ∷ ys) (suc n) (suc k) x apart = get_other ys n k x (λ same. apart (ap suc same))

-- one of the posters changed
pub set_of : (inbox : Inbox) (posters : List Poster) (n : ℕ) (p q : Poster) → n < length posters
    → p ≡ slice_index_or posters n p → SamePoster p q → AreOf inbox posters → AreOf inbox (slice_set posters n q)
set_of inbox posters n p q low is later are = record {
  count = length-set posters n q ∙ are.count;
  each = λ k x at. each_in k x at (n == k) refl;
}
  where
    each_in : (k : ℕ) (x : Poster) → slice_get (slice_set posters n q) k ≡ Some x → (b : Bool) → (n == k) ≡ b
        → (x.caller ≡ k) × IsOf inbox x
    each_in k x at true e =
        let here : slice_get (slice_set posters n q) n ≡ Some q =
        slice_get_read (slice_set posters n q) (length (slice_set posters n q)) n q refl
        (omega (arith, low, length-set posters n q)) (sym (get_or-set_same posters n q q low)) in
        let it : q ≡ x = some_same q x (sym here ∙ ap (slice_get (slice_set posters n q)) (same_at k n e) ∙ at) in
        let t = one_of inbox posters n p low is are in
        subst (λ x. (x.caller ≡ k)
        × IsOf inbox x) it (later.0 ∙ t.0 ∙ same_at k n e, still_is_of inbox inbox p q refl later t.1)
    each_in k x at false e = are.each k x (sym (get_other posters n k q (other_at k n e)) ∙ at)
