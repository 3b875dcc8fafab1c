-- The weight of members, where one more is put among others that lack its key.
use Rattle.std.proofs.Common.{◌≡◌, List, ℕ, ◌+◌, Option, Some, None, Ordering, Less, Equal, Greater, refl, arith}
use Rattle.std.specs.Ordering.{nat_cmp, match_ordering}
use Rattle.std.specs.Cmp.Lexicographic.{slice_cmp}
use Rattle.serde_json.specs.Data.{Data, Members, no_members, member, put}
use Rattle.serde_json.specs.Find.{get_member}
use Rattle.dv_reader.specs.Limits.{member_weights, weight}

abbrev Found : List ℕ → List ℕ → Data → Members → Ordering → Option Data
Found k l e ms o = match_ordering o (get_member k ms) (Some e) (get_member k ms)

weights_at : (k l : List ℕ) (d e : Data) (ms : Members) (o : Ordering) → Found k l e ms o ≡ None
    → (get_member k ms ≡ None → member_weights (put k d ms) ≡ weight d + member_weights ms)
    → member_weights (match_ordering o (member k d (member l e ms)) (member l d ms) (member l e (put k d ms)))
    ≡ weight d + member_weights (member l e ms)
weights_at k l d e ms Less none ih = refl
weights_at k l d e ms Equal none ih = cc
weights_at k l d e ms Greater none ih = omega (arith, ih none)

pub weights_put : (k : List ℕ) (d : Data) (ms : Members) → get_member k ms ≡ None
    → member_weights (put k d ms) ≡ weight d + member_weights ms
weights_put k d no_members none = refl
weights_put k d (member l e ms) none = weights_at k l d e ms (slice_cmp nat_cmp k l) none (weights_put k d ms)
