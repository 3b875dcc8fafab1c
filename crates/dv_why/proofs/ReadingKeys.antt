-- Objects whose keys fit have the keys of a body, of a Cooperator or of a script.
use Rattle.std.proofs.Common.{nat_cmp, ◌≡◌, ℕ, ◌≤◌, nat_eq, nat_le}
use Rattle.std.proofs.Common.{nat_lt}
use Rattle.std.proofs.Common.{Bool, true, false, ◌||◌, List, Option, Some, None, is_some}
use Rattle.std.proofs.Common.{bytes_eq, refl}
use Rattle.std.proofs.Common.{ap, ◌∙◌, codes}
use Rattle.std.specs.List.{list_any}
use Rattle.std.specs.Cmp.Lexicographic.{slice_cmp}
use Rattle.std.proofs.lemmas.Bool.{and_parts, eqb-true}
use Rattle.std.proofs.lemmas.Map.Text.{is_eq-slice_cmp}
use Rattle.std.proofs.lemmas.Slice.Eq.{bytes_eq-Decides}
use Rattle.serde_json.specs.Data.{Data, object, Members}
use Rattle.serde_json.specs.Data.{no_members, member}
use Rattle.serde_json.specs.Find.{as_str, get_member}
use Rattle.dv_forms.specs.Forms.{has_only, is_comment, is_keyed_by}
use Rattle.dv_grammar.specs.Grammar.{body_keys, cooperator_keys, keys_of}
use Rattle.dv_forms.specs.declared.versions.TheConstants.{BODIES_SINCE, COMMENTS_SINCE, RULES_SINCE}
use Rattle.dv_forms.specs.declared.want.Want.TheVariants as want
use Rattle.dv_forms.specs.declared.want.Keyed.{Keyed}
use Rattle.dv_forms.specs.declared.want.Keyed.TheVariants as keyed
use Rattle.dv_why.specs.declared.question.Question.TheVariants as question
use Rattle.dv_forms.specs.Wants.{a_comment, key_want}
use Rattle.dv_forms.specs.Wants.{keys_in}
use Rattle.dv_why.specs.Fits.{fits}
use Rattle.dv_why.specs.AllSuit.{AllSuit}
use Rattle.dv_why.proofs.Asked.{EachKey, known_key}
use Rattle.dv_why.proofs.Parts.{both, here, value}
use Rattle.dv_why.proofs.Values.{first_there, not_other, still_there}
use Rattle.dv_why.proofs.Versions.{since_third}

-- ---- keys

-- whether a key is one of these, or that of a comment
abbrev is_key : List (List ℕ) → List ℕ → Bool
is_key keys key = list_any (λ k. bytes_eq key k) keys || bytes_eq key (codes "comment")

-- each key that is there is one of these
only_of : (keys : List (List ℕ)) (ms : Members)
    → ((key : List ℕ) (e : Data) → get_member key ms ≡ Some e → is_key keys key ≡ true)
    → has_only keys ms ≡ true
unfolding has_only
only_of keys no_members h = refl
only_of keys (member k d ms) h =
    let first : get_member k (member k d ms) ≡ Some d =
    first_there (slice_cmp nat_cmp k k) (get_member k ms) d (is_eq-slice_cmp k k ∙ (bytes_eq-Decides k k).1 refl) in
    both (h k d first) (only_of keys ms (λ key e is. let f =
    still_there (slice_cmp nat_cmp key k) (get_member key ms) d e is in h key f.0 f.1))

comment_fits : (v : ℕ) (o : Option Data) → ((e : Data) → o ≡ Some e → fits v a_comment e ≡ true) → is_comment o ≡ true
comment_fits v None h = refl
comment_fits v (Some e) h = (and_parts (nat_le COMMENTS_SINCE v) (is_some (as_str e)) (h e refl)).1

-- a comment that is there is a text
comment_of : (v : ℕ) (k : Keyed) (ms : Members) → key_want k (codes "comment") ≡ a_comment
    → AllSuit (question.Shape v) (want.Keyed k) (object ms) → is_comment (get_member (codes "comment") ms) ≡ true
comment_of v k ms asks h =
    comment_fits v (get_member (codes "comment") ms) (λ e is. here (value (codes "comment") h (ap Some asks) is))

pub body_only : (v since : ℕ) (ms : Members) → AllSuit (question.Shape v) (want.Keyed (keyed.Body since)) (object ms)
    → is_keyed_by body_keys ms ≡ true
body_only v since ms h = both (only_of body_keys ms (λ key e is.
    let P : List ℕ → Type 0 = λ x. (is_key body_keys x ≡ true) in
    known_key P (keyed.Body since) key (refl, (refl, (refl, tt)))
    (λ other. absurd (not_other v (keyed.Body since) ms h key e is other))))
    (comment_of v (keyed.Body since) ms refl h)

each_cooperator_key : (u : ℕ) (b : Bool) → nat_lt u RULES_SINCE ≡ b
    → EachKey (λ x. is_key (cooperator_keys u) x ≡ true) (keys_in (keyed.Cooperator u))
each_cooperator_key u true early = simp early (refl, (refl, (refl, tt)))
each_cooperator_key u false late = simp late (refl, (refl, (refl, (refl, tt))))

pub cooperator_only : (v u : ℕ) (ms : Members)
    → AllSuit (question.Shape v) (want.Keyed (keyed.Cooperator u)) (object ms)
    → is_keyed_by (cooperator_keys u) ms ≡ true
cooperator_only v u ms h = both (only_of (cooperator_keys u) ms (λ key e is.
    let P : List ℕ → Type 0 = λ x. (is_key (cooperator_keys u) x ≡ true) in
    known_key P (keyed.Cooperator u) key (each_cooperator_key u (nat_lt u RULES_SINCE) refl)
    (λ other. absurd (not_other v (keyed.Cooperator u) ms h key e is other))))
    (comment_of v (keyed.Cooperator u) ms refl h)

each_script_key : (v : ℕ) → 1 ≤ v → (b c : Bool) → nat_eq v 1 ≡ b → nat_eq v 2 ≡ c
    → EachKey (λ x. is_key (keys_of v) x ≡ true) (keys_in (keyed.Script v))
each_script_key v low true c one two = simp one (refl, (refl, (refl, (refl, (refl, (refl, (refl, tt)))))))
each_script_key v low false true one two =
    let early : nat_lt v BODIES_SINCE ≡ true = rw (eqb-true v 2 two) refl in
    simp (one, two, early) (refl, (refl, (refl, (refl, (refl, (refl, (refl, (refl, tt))))))))
each_script_key v low false false one two =
    let late : nat_lt v BODIES_SINCE ≡ false = since_third v low one two in
    simp (one, two, late) (refl, (refl, (refl, (refl, (refl, (refl, (refl, (refl, (refl, (refl, tt))))))))))

pub script_only : (v : ℕ) → 1 ≤ v → (ms : Members)
    → AllSuit (question.Shape v) (want.Keyed (keyed.Script v)) (object ms)
    → is_keyed_by (keys_of v) ms ≡ true
script_only v low ms h = both (only_of (keys_of v) ms (λ key e is.
    let P : List ℕ → Type 0 = λ x. (is_key (keys_of v) x ≡ true) in
    known_key P (keyed.Script v) key (each_script_key v low (nat_eq v 1) (nat_eq v 2) refl refl)
    (λ other. absurd (not_other v (keyed.Script v) ms h key e is other))))
    (comment_of v (keyed.Script v) ms refl h)
