-- The failure in a failure is found by its key.
use Rattle.std.proofs.Common.{◌≡◌, List, ℕ, Option, Some, option_and_then, Ordering, Less, Equal, Greater, refl, sym, ap, ◌∙◌}
use Rattle.std.specs.Prelude.{codes, bytes_eq, if◌then◌else◌}
use Rattle.std.specs.Ordering.{is_eq, match_ordering, nat_cmp, ordering_reverse}
use Rattle.std.specs.Cmp.Lexicographic.{slice_cmp}
use Rattle.std.proofs.lemmas.Cmp.{nat_list_cmp_total}
use Rattle.std.proofs.lemmas.Map.Text.{is_eq-slice_cmp}
use Rattle.serde_json.specs.Data.{Data, Members, no_members, member}
use Rattle.serde_json.specs.Find.{get_member}
use Rattle.dv_value.specs.declared.classes.Class.{Class}
use Rattle.dv_value.specs.declared.failure.Failure.{Failure}
use Rattle.dv_forms.specs.Parts.{failure_at, sub_at}

either_way : (o : Ordering) → is_eq (ordering_reverse o) ≡ is_eq o
either_way Less = refl
either_way Equal = refl
either_way Greater = refl

same : (q k : List ℕ) → bytes_eq k q ≡ is_eq (slice_cmp nat_cmp q k)
same q k =
    sym (is_eq-slice_cmp k q) ∙ ap is_eq (nat_list_cmp_total.antisymm k q) ∙ either_way (slice_cmp nat_cmp q k)

step : (f : Data → Option Failure) (d : Data) (rest : Option Data) (read : Option Failure) (o : Ordering)
    → read ≡ option_and_then f rest
    → (if is_eq o then f d else read) ≡ option_and_then f (match_ordering o rest (Some d) rest)
step f d rest read Less h = h
step f d rest read Equal h = refl
step f d rest read Greater h = h

pub sub_found : (table : List Class) (ms : Members)
    → sub_at table ms ≡ option_and_then (failure_at table) (get_member (codes "sub") ms)
sub_found table no_members = refl
sub_found table (member k d ms) =
    ap (λ b. if b then failure_at table d else sub_at table ms) (same (codes "sub") k)
    ∙ step (failure_at table) d (get_member (codes "sub") ms) (sub_at table ms) (slice_cmp nat_cmp (codes "sub") k)
    (sub_found table ms)
