-- What is asked of all keys, where one more member is put among others.
use Rattle.std.proofs.Common.{◌≡◌, List, ℕ, Bool, true, false, ◌&&◌, ◌||◌, Ordering, Less, Equal, Greater, refl, sym, ap, ◌∙◌}
use Rattle.std.specs.Prelude.{codes, bytes_eq}
use Rattle.std.specs.List.{list_any}
use Rattle.std.specs.Ordering.{nat_cmp, match_ordering}
use Rattle.std.specs.Cmp.Lexicographic.{slice_cmp}
use Rattle.std.proofs.lemmas.Map.Lookups.{exact_bytes}
use Rattle.serde_json.specs.Data.{Data, Members, no_members, member, put}
use Rattle.dv_forms.specs.Forms.{has_none_but, has_only}

both_twice : (a b : Bool) → (a && b) ≡ (a && (a && b))
both_twice true b = refl
both_twice false b = refl

other_way : (a b c : Bool) → (a && (b && c)) ≡ (b && (a && c))
other_way true true c = refl
other_way true false c = refl
other_way false true c = refl
other_way false false c = refl

-- whether a key is one of these
abbrev Among : List (List ℕ) → List ℕ → Bool
Among keys k = list_any (λ q. bytes_eq k q) keys

bare_at_put : (keys : List (List ℕ)) (k l : List ℕ) (d e : Data) (ms : Members) (o : Ordering) → slice_cmp nat_cmp k l ≡ o
    → has_none_but keys (put k d ms) ≡ (Among keys k && has_none_but keys ms)
    → has_none_but keys (match_ordering o (member k d (member l e ms)) (member l d ms) (member l e (put k d ms)))
    ≡ (Among keys k && has_none_but keys (member l e ms))
unfolding has_none_but
bare_at_put keys k l d e ms Less is ih = refl
bare_at_put keys k l d e ms Equal is ih =
    both_twice (Among keys l) (has_none_but keys ms)
    ∙ ap (λ q. Among keys q && (Among keys l && has_none_but keys ms)) (sym (exact_bytes k l is))
bare_at_put keys k l d e ms Greater is ih =
    ap (λ r. Among keys l && r) ih ∙ other_way (Among keys l) (Among keys k) (has_none_but keys ms)

pub has_none_but_put : (keys : List (List ℕ)) (k : List ℕ) (d : Data) (ms : Members)
    → has_none_but keys (put k d ms) ≡ (Among keys k && has_none_but keys ms)
unfolding has_none_but
has_none_but_put keys k d no_members = refl
has_none_but_put keys k d (member l e ms) =
    bare_at_put keys k l d e ms (slice_cmp nat_cmp k l) refl (has_none_but_put keys k d ms)

-- the same, or that of a comment
abbrev Allowed : List (List ℕ) → List ℕ → Bool
Allowed keys k = list_any (λ q. bytes_eq k q) keys || bytes_eq k (codes "comment")

only_at_put : (keys : List (List ℕ)) (k l : List ℕ) (d e : Data) (ms : Members) (o : Ordering) → slice_cmp nat_cmp k l ≡ o
    → has_only keys (put k d ms) ≡ (Allowed keys k && has_only keys ms)
    → has_only keys (match_ordering o (member k d (member l e ms)) (member l d ms) (member l e (put k d ms)))
    ≡ (Allowed keys k && has_only keys (member l e ms))
unfolding has_only
only_at_put keys k l d e ms Less is ih = refl
only_at_put keys k l d e ms Equal is ih =
    both_twice (Allowed keys l) (has_only keys ms)
    ∙ ap (λ q. Allowed keys q && (Allowed keys l && has_only keys ms)) (sym (exact_bytes k l is))
only_at_put keys k l d e ms Greater is ih =
    ap (λ r. Allowed keys l && r) ih ∙ other_way (Allowed keys l) (Allowed keys k) (has_only keys ms)

pub has_only_put : (keys : List (List ℕ)) (k : List ℕ) (d : Data) (ms : Members)
    → has_only keys (put k d ms) ≡ (Allowed keys k && has_only keys ms)
unfolding has_only
has_only_put keys k d no_members = refl
has_only_put keys k d (member l e ms) =
    only_at_put keys k l d e ms (slice_cmp nat_cmp k l) refl (has_only_put keys k d ms)
