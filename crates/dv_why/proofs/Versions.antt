-- The version that a document says, and that a script of the first has no pools, and one before the third no bodies
-- and no Cooperators by name.
use Rattle.std.proofs.Common.{is_eq, true≢false, Ordering, Less, Equal, Greater, nat_cmp, ◌≡◌, ℕ, ◌≤◌, Bool, true}
use Rattle.std.proofs.Common.{false}
use Rattle.std.proofs.Common.{◌||◌, nat_eq, nat_lt, List, ◌∷◌, Option, Some, None, option_and_then, bytes_eq, refl, sym}
use Rattle.std.proofs.Common.{ap, subst, ◌∙◌, arith, codes}
use Rattle.std.specs.List.{list_any}
use Rattle.std.proofs.lemmas.Bool.{and_parts, le-leb}
use Rattle.std.proofs.lemmas.Bool.Decides.{nat_tests}
use Rattle.std.proofs.lemmas.Map.Text.{is_eq-slice_cmp}
use Rattle.std.proofs.lemmas.Slice.Eq.{bytes_eq-Decides}
use Rattle.std.specs.Ordering.{match_ordering}
use Rattle.std.specs.Cmp.Lexicographic.{slice_cmp}
use Rattle.serde_json.specs.Data.{Data, Members, no_members, member}
use Rattle.serde_json.specs.Find.{get_member, as_number, as_u64}
use Rattle.dv_forms.specs.Forms.{Key, has_only, is_keyed_by, IsNumber}
use Rattle.dv_forms.specs.declared.versions.TheConstants.{BODIES_SINCE, COOPERATORS_SINCE, LAST_VERSION}
use Rattle.dv_grammar.specs.declared.draft.Draft.{Draft}
use Rattle.dv_grammar.specs.Grammar.{keys_of, script_keys, IsScript}
use Rattle.dv_why.specs.Documents.{version_in, or_last}

within_last : (n : ℕ) → 1 ≤ n → n ≤ LAST_VERSION → or_last (Some n) ≡ n
within_last n low high = rw (le-leb 1 n low, le-leb n LAST_VERSION high) refl

pub version_of : (o : Option Data) (n : ℕ) → Key (IsNumber 1 LAST_VERSION) o n
    → or_last (option_and_then as_u64 (option_and_then as_number o)) ≡ n
version_of None n h = absurd h
version_of (Some d) n h = rw (h.0) (within_last n h.1 h.2)

pub same_version : (d : Data) (draft : Draft) → IsScript d draft → version_in d ≡ draft.version
same_version d draft g = rw (g.whole) (version_of (get_member (codes "version") g.members) draft.version g.version)

either_side : (o : Ordering) (a b : Option Data) → is_eq o ≡ false → match_ordering o a b a ≡ a
either_side Less a b e = refl
either_side Equal a b e = absurd (true≢false e)
either_side Greater a b e = refl

differ : (xs ys : List ℕ) (b : Bool) → bytes_eq xs ys ≡ b → (xs ≡ ys → ⊥) → b ≡ false
differ xs ys true e other = absurd (other ((bytes_eq-Decides xs ys).0 e))
differ xs ys false e other = refl

-- an object that may not have this key hasn't it
lacks : (word : List ℕ) (keys : List (List ℕ))
    → (list_any (λ k. bytes_eq word k) keys || bytes_eq word (codes "comment")) ≡ false → (ms : Members)
    → has_only keys ms ≡ true → get_member word ms ≡ None
unfolding has_only
lacks word keys may_not no_members h = refl
lacks word keys may_not (member key d ms) h =
    let parts =
    and_parts (list_any (λ k. bytes_eq key k) keys || bytes_eq key (codes "comment")) (has_only keys ms) h in
    let P : List ℕ → Type 0 = λ x. ((list_any (λ k. bytes_eq x k) keys || bytes_eq x (codes "comment")) ≡ true) in
    let other : word ≡ key → ⊥ = λ e. true≢false (sym (subst P (sym e) parts.0) ∙ may_not) in
    either_side (slice_cmp nat_cmp word key) _ _ (is_eq-slice_cmp word key ∙ differ word key _ refl other)
    ∙ lacks word keys may_not ms parts.1

pub first_has_no_pools : (d : Data) (draft : Draft) (g : IsScript d draft) → nat_eq (version_in d) 1 ≡ true
    → get_member (codes "pools") g.members ≡ None
first_has_no_pools d draft g one =
    let same : nat_eq draft.version 1 ≡ true = ap (λ v. nat_eq v 1) (sym (same_version d draft g)) ∙ one in
    lacks (codes "pools") script_keys refl g.members (and_parts _ _ (rw same at g.only)).0

-- an object of the keys of a version before the third has no bodies
no_bodies : (v : ℕ) (b : Bool) → nat_eq v 1 ≡ b → nat_lt v BODIES_SINCE ≡ true → (ms : Members)
    → is_keyed_by (keys_of v) ms ≡ true → get_member (codes "bodies") ms ≡ None
no_bodies v true one early ms h = lacks (codes "bodies") script_keys refl ms (and_parts _ _ (rw one at h)).0
no_bodies v false two early ms h =
    lacks (codes "bodies") (codes "pools" ∷ script_keys) refl ms (and_parts _ _ (rw (two, early) at h)).0

-- and no Cooperators by name
no_cooperators : (v : ℕ) (b : Bool) → nat_eq v 1 ≡ b → nat_lt v COOPERATORS_SINCE ≡ true → (ms : Members)
    → is_keyed_by (keys_of v) ms ≡ true → get_member (codes "cooperators") ms ≡ None
no_cooperators v true one early ms h =
    lacks (codes "cooperators") script_keys refl ms (and_parts _ _ (rw one at h)).0
no_cooperators v false two early ms h =
    lacks (codes "cooperators") (codes "pools" ∷ script_keys) refl ms (and_parts _ _ (rw (two, early) at h)).0

pub early_has_no_cooperators : (d : Data) (draft : Draft) (g : IsScript d draft)
    → nat_lt (version_in d) COOPERATORS_SINCE ≡ true → get_member (codes "cooperators") g.members ≡ None
early_has_no_cooperators d draft g early =
    no_cooperators draft.version (nat_eq draft.version 1) refl
    (ap (λ v. nat_lt v COOPERATORS_SINCE) (sym (same_version d draft g)) ∙ early) g.members g.only

pub early_has_no_bodies : (d : Data) (draft : Draft) (g : IsScript d draft) → nat_lt (version_in d) BODIES_SINCE ≡ true
    → get_member (codes "bodies") g.members ≡ None
early_has_no_bodies d draft g early =
    no_bodies draft.version (nat_eq draft.version 1) refl
    (ap (λ v. nat_lt v BODIES_SINCE) (sym (same_version d draft g)) ∙ early) g.members g.only

-- a version is 1 at least
pub least_version : (o : Option Data) (n : ℕ) → Key (IsNumber 1 LAST_VERSION) o n → 1 ≤ n
least_version None n h = absurd h
least_version (Some d) n h = h.1

-- one that is neither the first nor the second may name bodies
pub since_third : (v : ℕ) → 1 ≤ v → nat_eq v 1 ≡ false → nat_eq v 2 ≡ false → nat_lt v BODIES_SINCE ≡ false
since_third v low one two = grind (arith, nat_tests)
