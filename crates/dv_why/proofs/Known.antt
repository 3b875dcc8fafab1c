-- Where each class, each pool and each body is as a question asks, the script knows its classes, its pools and its
-- bodies.
use Rattle.std.proofs.Common.{◌≡◌, ◌≢◌, ℕ, zero, suc, ◌≤◌, Bool, true, false, not, ◌||◌, nat_eq, nat_le, nat_lt, List}
use Rattle.std.proofs.Common.{[], ◌∷◌}
use Rattle.std.proofs.Common.{length, Option, Some, None, option_and_then, bytes_eq, refl, sym, ap, subst, ◌∙◌, arith}
use Rattle.std.proofs.Common.{codes, is_some, ◌&&◌}
use Rattle.std.proofs.Common.{inl, inr}
use Rattle.std.specs.List.{list_any}
use Rattle.std.proofs.lemmas.Bool.{and_parts, leb-true}
use Rattle.std.proofs.Math.Bool.{or-true}
use Rattle.std.proofs.lemmas.Slice.Eq.{bytes_eq-Decides}
use Rattle.serde_json.specs.Data.{Data, string, Items, no_items, item, depth}
use Rattle.serde_json.specs.Find.{as_array, as_object, as_str, get, get_member}
use Rattle.dv_value.specs.declared.classes.Class.{Class}
use Rattle.dv_script.specs.declared.script.NamedBody.{NamedBody}
use Rattle.dv_script.specs.declared.script.NamedCooperator.{NamedCooperator}
use Rattle.dv_script.specs.declared.script.NamedPool.{NamedPool}
use Rattle.dv_script.specs.declared.limits.TheConstants.{MOST_CLASSES, MOST_LEVELS}
use Rattle.dv_forms.specs.Forms.{Each, IsList, Field}
use Rattle.dv_grammar.specs.declared.draft.Draft.{Draft}
use Rattle.dv_grammar.specs.Grammar.{IsNamedBody, names_body, IsPool, pools, IsScript, IsNamedCooperator}
use Rattle.dv_grammar.specs.Grammar.{names_cooperator}
use Rattle.dv_grammar.proofs.Steps.{some_injective}
use Rattle.dv_questions.specs.Questions.{Asked, words, names, classes, pools as pools_asked, is_known, is_pool}
use Rattle.dv_questions.specs.Questions.{is_among, object_stands, stands, bodies as bodies_asked, is_body, has_body}
use Rattle.dv_questions.specs.Questions.{has_object, cooperators as cooperators_asked, is_cooperator, has_cooperator}
use Rattle.dv_forms.specs.declared.versions.TheConstants.{BODIES_SINCE, COMMENTS_SINCE, COOPERATORS_SINCE}
use Rattle.dv_forms.specs.declared.want.Leaf.{Leaf}
use Rattle.dv_forms.specs.declared.want.Leaf.TheVariants as leaf
use Rattle.dv_forms.specs.declared.want.Object.TheVariants as object_of
use Rattle.dv_reader.specs.Limits.{is_small}
use Rattle.dv_reader.specs.Refusal.{answers, are_named, are_known, are_distinct, are_pooled, have_own_names}
use Rattle.dv_reader.specs.Refusal.{have_bodies, are_apart, have_cooperators}
use Rattle.dv_reader.specs.declared.error.ScriptFault.TheVariants.{BadCooperator}
use Rattle.dv_reader.specs.declared.error.ScriptFault.TheVariants.{BadShape, BadName, BadClass, BadPool, BadBody}
use Rattle.dv_why.specs.Fits.{fits, has_keys, is_declared, leaf_fits}
use Rattle.dv_why.specs.declared.question.Question.{Question}
use Rattle.dv_why.specs.declared.question.Question.TheVariants as question
use Rattle.dv_why.specs.AllSuit.{AllSuit}
use Rattle.dv_questions.specs.Asking.{all_suit}
use Rattle.serde_json.specs.View.{items_view}
use Rattle.serde_json.specs.declared.value.Value.{Value}
use Rattle.dv_why.specs.Declaring.{AllMayDeclare, table_in}
use Rattle.dv_why.specs.Documents.{or_no_items, list_in, name_in, script_in, version_in, AreDistinct, PoolsDistinct}
use Rattle.dv_why.specs.Documents.{BodiesDistinct, CooperatorsDistinct}
use Rattle.dv_why.specs.Finds.{Misfits}
use Rattle.dv_why.specs.Reasons.{IsRefusedFor}
use Rattle.dv_why.specs.Wrong.{IsMisshaped, IsMisnamed, IsBadClass, IsBadPool, IsBadBody, IsBadCooperator}
use Rattle.dv_why.specs.declared.misfit.Misfit.{Misfit}
use Rattle.dv_forms.specs.declared.want.Want.TheVariants as want
use Rattle.dv_forms.specs.declared.want.Keyed.{Keyed}
use Rattle.dv_forms.specs.declared.want.Keyed.TheVariants as keyed
use Rattle.dv_why.proofs.Parts.{both}
use Rattle.dv_why.proofs.Texts.{Tells, texts_suit}
use Rattle.dv_why.proofs.Reading.{script_fine}
use Rattle.dv_why.proofs.GivenNames.{declared_one}
use Rattle.dv_why.proofs.Versions.{early_has_no_bodies, early_has_no_cooperators, first_has_no_pools, same_version}
use Rattle.dv_why.proofs.Suits.{IsOfBodies, IsOfClasses, IsOfPools, misnamed, misused_body, misused_class}
use Rattle.dv_why.proofs.Suits.{misused_pool, IsOfCooperators, misused_cooperator}
use Rattle.dv_why.proofs.Tables.{tables_same}

-- where each part answers well, each text does
answered : {q : Question} {a : Asked} (d : Data) (draft : Draft) → Tells q a → IsScript d draft
    → AllSuit q (script_in d) d → answers a d draft ≡ true
answered {a = a} d draft t g h =
    subst (λ (v : ℕ). all_suit a (suc MOST_LEVELS) (want.Keyed (keyed.Script v)) d ≡ true) (same_version d draft g)
    (texts_suit t (suc MOST_LEVELS) (script_in d) d h)

-- ---- names

names_asked : (v w : ℕ) → v ≡ w → Tells (question.Names v) (names w)
names_asked v w same =
    record {
      leaf = λ l x h. rw (← same) h;
      word = λ c x h. refl;
      object = λ k e h. refl;
      body = λ since x h. rw (← same) h;
    }

-- ---- classes

classes_asked : (q : Question) (d : Data) (table : List Class) → IsOfClasses d q → table_in d ≡ table
    → Tells q (classes table)
classes_asked (question.Shape version) d table of same = absurd of
classes_asked (question.Names version) d table of same = absurd of
classes_asked (question.Classes given) d table of same =
    record {
      leaf = λ l x h. ap (λ t. is_known t l x) (sym (of ∙ same)) ∙ h;
      word = λ c x h. refl;
      object = λ k e h. refl;
      body = λ since x h. ap (λ t. is_known t (leaf.Found object_of.Body) x) (sym (of ∙ same)) ∙ h;
    }
classes_asked (question.Pools ps) d table of same = absurd of
classes_asked (question.Bodies bs) d table of same = absurd of
classes_asked (question.Cooperators cs) d table of same = absurd of

few_declared : (d : Data) (draft : Draft) → is_small d draft ≡ true → length draft.declared ≤ MOST_CLASSES
few_declared d draft h =
    let a = and_parts _ _ h in
    let b = and_parts _ _ a.0 in
    let c = and_parts _ _ b.0 in
    let e = and_parts _ _ c.0 in
    let f = and_parts _ _ e.0 in
    let i = and_parts _ _ f.0 in
    leb-true (length draft.declared) MOST_CLASSES (and_parts _ _ i.0).1

-- a script in which each class may be declared and each that is used is in the table knows its classes
pub classes_good : (q : Question) (d : Data) (draft : Draft) → IsOfClasses d q
    → AllMayDeclare (version_in d) (list_in (codes "classes") d) → IsScript d draft → is_small d draft ≡ true
    → AllSuit q (script_in d) d → are_known d draft ≡ true
classes_good q d draft of may g small h =
    let value : get (codes "classes") d ≡ get_member (codes "classes") g.members = ap (get (codes "classes")) g.whole in
    let may_so : AllMayDeclare draft.version
    (or_no_items (option_and_then as_array (get_member (codes "classes") g.members))) =
    rw (value, same_version d draft g) at may in
    let same = tables_same draft.version (get_member (codes "classes") g.members) draft.declared g.declared
    (few_declared d draft small) may_so in
    let table : table_in d ≡ draft.script.classes = rw (value, same_version d draft g) (sym same.1 ∙ sym g.table) in
    both (g.all_declared ∙ same.0) (answered d draft (classes_asked q d draft.script.classes of table) g h)

-- ---- pools

differ : (xs ys : List ℕ) (b : Bool) → bytes_eq xs ys ≡ b → xs ≢ ys → b ≡ false
differ xs ys true e other = absurd (other ((bytes_eq-Decides xs ys).0 e))
differ xs ys false e other = refl

neither : {a b : Bool} → a ≡ false → b ≡ false → (a || b) ≡ false
neither h k = rw (h, k) refl

-- each begins with its name
abbrev Begins : {X : Type 0} → (X → List ℕ) → (Data → X → Type 0) → Type 0
Begins {X = X} name_of Is = (d : Data) (ds : Items) (x : X) → Is d x → name_in 0 (item d ds) ≡ Some (name_of x)

-- a name that one has is among them
some_named : {X : Type 0} (name_of : X → List ℕ) (Is : Data → X → Type 0) → Begins name_of Is → (ds : Items)
    (xs : List X) → Each Is ds xs → (n : ℕ) (name : List ℕ) → name_in n ds ≡ Some name
    → list_any (λ x. bytes_eq (name_of x) name) xs ≡ true
some_named name_of Is begins no_items [] g n name is = cc
some_named name_of Is begins no_items (x ∷ xs) g n name is = absurd g
some_named name_of Is begins (item d ds) [] g n name is = absurd g
some_named name_of Is begins (item d ds) (x ∷ xs) g zero name is =
    let same : name_of x ≡ name = some_injective (sym (begins d ds x g.0) ∙ is) in
    rw ((bytes_eq-Decides (name_of x) name).1 same) refl
some_named name_of Is begins (item d ds) (x ∷ xs) g (suc n) name is =
    rw (some_named name_of Is begins ds xs g.1 n name is) (or-true (bytes_eq (name_of x) name))

-- a name that none has isn't
none_named : {X : Type 0} (name_of : X → List ℕ) (Is : Data → X → Type 0) → Begins name_of Is → (ds : Items)
    (xs : List X) → Each Is ds xs → (name : List ℕ) → ((n : ℕ) → name_in n ds ≢ Some name)
    → list_any (λ x. bytes_eq (name_of x) name) xs ≡ false
none_named name_of Is begins no_items [] g name none = refl
none_named name_of Is begins no_items (x ∷ xs) g name none = absurd g
none_named name_of Is begins (item d ds) [] g name none = absurd g
none_named name_of Is begins (item d ds) (x ∷ xs) g name none =
    neither (differ (name_of x) name (bytes_eq (name_of x) name) refl
    (λ same. none 0 (begins d ds x g.0 ∙ ap Some same)))
    (none_named name_of Is begins ds xs g.1 name (λ n. none (suc n)))

field_named : {X : Type 0} (name_of : X → List ℕ) (Is : Data → X → Type 0) → Begins name_of Is → (o : Option Data)
    (xs : List X) → Field [] (IsList Is) o xs → (n : ℕ) (name : List ℕ)
    → name_in n (or_no_items (option_and_then as_array o)) ≡ Some name
    → list_any (λ x. bytes_eq (name_of x) name) xs ≡ true
field_named name_of Is begins None xs g n name is = cc
field_named name_of Is begins (Some d) xs g n name is =
    some_named name_of Is begins g.0 xs g.2 n name (rw (g.1) at is)

abbrev pool_name : NamedPool → List ℕ
pool_name pool = pool.name

name_of_pool : (d : Data) (ds : Items) (p : NamedPool) → IsPool d p → name_in 0 (item d ds) ≡ Some p.name
name_of_pool _ ds _ (pools name d workers g) = refl

distinct : (ds : Items) (ps : List NamedPool) → Each IsPool ds ps → AreDistinct ds → are_distinct ps ≡ true
distinct no_items [] g h = refl
distinct no_items (p ∷ ps) g h = absurd g
distinct (item d ds) [] g h = absurd g
distinct (item d ds) (p ∷ ps) g h =
    both (ap not (none_named pool_name IsPool name_of_pool ds ps g.1 p.name
    (λ n is. h (suc n) 0 p.name (omega arith) (name_of_pool d ds p g.0) is)))
    (distinct ds ps g.1 (λ n k name less is. h (suc n) (suc k) name (omega (arith, less)) is))

field_distinct : (o : Option Data) (ps : List NamedPool) → Field [] (IsList IsPool) o ps
    → AreDistinct (or_no_items (option_and_then as_array o)) → are_distinct ps ≡ true
field_distinct None ps g h = rw g refl
field_distinct (Some d) ps g h = distinct g.0 ps g.2 (rw (g.1) at h)

or_also : (a b c : Bool) → (b ≡ true → c ≡ true) → (a || b) ≡ true → (a || c) ≡ true
or_also true b c k h = refl
or_also false b c k h = k h

among_declared : (d : Data) (draft : Draft) (ps : List Value) → items_view ps ≡ list_in (codes "pools") d
    → IsScript d draft → (x : List ℕ) → is_declared ps x ≡ true → is_among x draft.script.pools ≡ true
among_declared d draft ps of g x h =
    let one = declared_one ps x h in
    let value : list_in (codes "pools") d
    ≡ or_no_items (option_and_then as_array (get_member (codes "pools") g.members)) =
    ap (λ e. or_no_items (option_and_then as_array (get (codes "pools") e))) g.whole in
    field_named pool_name IsPool name_of_pool (get_member (codes "pools") g.members) draft.script.pools g.pools one.0 x
    (ap (name_in one.0) (sym (of ∙ value)) ∙ one.1)

pools_tell : (q : Question) (d : Data) (draft : Draft) → IsOfPools d q → IsScript d draft
    → Tells q (pools_asked draft.script.pools)
pools_tell (question.Shape version) d draft of g = absurd of
pools_tell (question.Names version) d draft of g = absurd of
pools_tell (question.Classes given) d draft of g = absurd of
pools_tell (question.Bodies bs) d draft of g = absurd of
pools_tell (question.Cooperators cs) d draft of g = absurd of
pools_tell (question.Pools ps) d draft of g = record {
  leaf =
      λ l x h. or_also (not (is_pool l)) (is_declared ps.now x) (is_among x draft.script.pools)
      (among_declared d draft ps.now of g x) h;
  word = λ c x h. refl;
  object = λ k e h. refl;
  body = λ since x h. refl;
}

all_distinct : (d : Data) (draft : Draft) (b : Bool) → nat_eq (version_in d) 1 ≡ b → IsScript d draft → PoolsDistinct d
    → are_distinct draft.script.pools ≡ true
all_distinct d draft true one g h =
    let none : Field [] (IsList IsPool) None draft.script.pools = rw (first_has_no_pools d draft g one) at g.pools in
    rw none refl
all_distinct d draft false two g h =
    let value : list_in (codes "pools") d
    ≡ or_no_items (option_and_then as_array (get_member (codes "pools") g.members)) =
    ap (λ e. or_no_items (option_and_then as_array (get (codes "pools") e))) g.whole in
    field_distinct (get_member (codes "pools") g.members) draft.script.pools g.pools (subst AreDistinct value (h two))

-- a script in which no name of a pool is given twice and each pool that is used is declared has its pools
pub pools_good : (q : Question) (d : Data) (draft : Draft) → IsOfPools d q → PoolsDistinct d → IsScript d draft
    → AllSuit q (script_in d) d → are_pooled d draft ≡ true
pools_good q d draft of h g suit =
    both (all_distinct d draft (nat_eq (version_in d) 1) refl g h) (answered d draft (pools_tell q d draft of g) g suit)

-- ---- bodies

abbrev body_name : NamedBody → List ℕ
body_name named = named.name

name_of_body : (table : List Class) (d : Data) (ds : Items) (b : NamedBody) → IsNamedBody table d b
    → name_in 0 (item d ds) ≡ Some b.name
name_of_body table _ ds _ (names_body name d b g) = refl

own_names : (table : List Class) (ds : Items) (bs : List NamedBody) → Each (IsNamedBody table) ds bs → AreDistinct ds
    → have_own_names bs ≡ true
own_names table no_items [] g h = refl
own_names table no_items (b ∷ bs) g h = absurd g
own_names table (item d ds) [] g h = absurd g
own_names table (item d ds) (b ∷ bs) g h =
    both (ap not (none_named body_name (IsNamedBody table) (name_of_body table) ds bs g.1 b.name
    (λ n is. h (suc n) 0 b.name (omega arith) (name_of_body table d ds b g.0) is)))
    (own_names table ds bs g.1 (λ n k name less is. h (suc n) (suc k) name (omega (arith, less)) is))

field_own_names : (table : List Class) (o : Option Data) (bs : List NamedBody)
    → Field [] (IsList (IsNamedBody table)) o bs
    → AreDistinct (or_no_items (option_and_then as_array o)) → have_own_names bs ≡ true
field_own_names table None bs g h = rw g refl
field_own_names table (Some d) bs g h = own_names table g.0 bs g.2 (rw (g.1) at h)

body_declared : (d : Data) (draft : Draft) (bs : List Value) → items_view bs ≡ list_in (codes "bodies") d
    → IsScript d draft → (x : List ℕ) → is_declared bs x ≡ true → has_body x draft.script.bodies ≡ true
body_declared d draft bs of g x h =
    let one = declared_one bs x h in
    let value : list_in (codes "bodies") d
    ≡ or_no_items (option_and_then as_array (get_member (codes "bodies") g.members)) =
    ap (λ e. or_no_items (option_and_then as_array (get (codes "bodies") e))) g.whole in
    field_named body_name (IsNamedBody draft.script.classes) (name_of_body draft.script.classes)
    (get_member (codes "bodies") g.members) draft.script.bodies g.bodies one.0 x
    (ap (name_in one.0) (sym (of ∙ value)) ∙ one.1)

bodies_tell : (q : Question) (d : Data) (draft : Draft) → IsOfBodies d q → IsScript d draft
    → Tells q (bodies_asked draft.script.bodies)
bodies_tell (question.Shape version) d draft of g = absurd of
bodies_tell (question.Names version) d draft of g = absurd of
bodies_tell (question.Classes given) d draft of g = absurd of
bodies_tell (question.Pools ps) d draft of g = absurd of
bodies_tell (question.Cooperators cs) d draft of g = absurd of
bodies_tell (question.Bodies bs) d draft of g = record {
  leaf =
      λ l x h. or_also (not (is_body l)) (is_declared bs.now x) (has_body x draft.script.bodies)
      (body_declared d draft bs.now of g x) h;
  word = λ c x h. refl;
  object = λ k e h. refl;
  body = λ since x h. body_declared d draft bs.now of g x h;
}

all_own_names : (d : Data) (draft : Draft) (b : Bool) → nat_lt (version_in d) BODIES_SINCE ≡ b → IsScript d draft
    → BodiesDistinct d → have_own_names draft.script.bodies ≡ true
all_own_names d draft true early g h =
    let none : Field [] (IsList (IsNamedBody draft.script.classes)) None draft.script.bodies =
    rw (early_has_no_bodies d draft g early) at g.bodies in
    rw none refl
all_own_names d draft false late g h =
    let value : list_in (codes "bodies") d
    ≡ or_no_items (option_and_then as_array (get_member (codes "bodies") g.members)) =
    ap (λ e. or_no_items (option_and_then as_array (get (codes "bodies") e))) g.whole in
    field_own_names draft.script.classes (get_member (codes "bodies") g.members) draft.script.bodies g.bodies
    (subst AreDistinct value (h late))

-- a script in which no name of a body is given twice and each body that is used is declared has its bodies
pub bodies_good : (q : Question) (d : Data) (draft : Draft) → IsOfBodies d q → BodiesDistinct d → IsScript d draft
    → AllSuit q (script_in d) d → have_bodies d draft ≡ true
bodies_good q d draft of h g suit =
    both (all_own_names d draft (nat_lt (version_in d) BODIES_SINCE) refl g h)
    (answered d draft (bodies_tell q d draft of g) g suit)

-- ---- Cooperators

abbrev cooperator_name : NamedCooperator → List ℕ
cooperator_name named = named.name

name_of_cooperator : (d : Data) (ds : Items) (c : NamedCooperator) → IsNamedCooperator d c
    → name_in 0 (item d ds) ≡ Some c.name
name_of_cooperator _ ds _ (names_cooperator name d c g) = refl

apart : (ds : Items) (cs : List NamedCooperator) → Each IsNamedCooperator ds cs → AreDistinct ds → are_apart cs ≡ true
apart no_items [] g h = refl
apart no_items (c ∷ cs) g h = absurd g
apart (item d ds) [] g h = absurd g
apart (item d ds) (c ∷ cs) g h =
    both (ap not (none_named cooperator_name IsNamedCooperator name_of_cooperator ds cs g.1 c.name
    (λ n is. h (suc n) 0 c.name (omega arith) (name_of_cooperator d ds c g.0) is)))
    (apart ds cs g.1 (λ n k name less is. h (suc n) (suc k) name (omega (arith, less)) is))

field_apart : (o : Option Data) (cs : List NamedCooperator) → Field [] (IsList IsNamedCooperator) o cs
    → AreDistinct (or_no_items (option_and_then as_array o)) → are_apart cs ≡ true
field_apart None cs g h = rw g refl
field_apart (Some d) cs g h = apart g.0 cs g.2 (rw (g.1) at h)

cooperator_declared : (d : Data) (draft : Draft) (cs : List Value) → items_view cs ≡ list_in (codes "cooperators") d
    → IsScript d draft → (x : List ℕ) → is_declared cs x ≡ true → has_cooperator x draft.script.cooperators ≡ true
cooperator_declared d draft cs of g x h =
    let one = declared_one cs x h in
    let value : list_in (codes "cooperators") d
    ≡ or_no_items (option_and_then as_array (get_member (codes "cooperators") g.members)) =
    ap (λ e. or_no_items (option_and_then as_array (get (codes "cooperators") e))) g.whole in
    field_named cooperator_name IsNamedCooperator name_of_cooperator (get_member (codes "cooperators") g.members)
    draft.script.cooperators g.cooperators one.0 x (ap (name_in one.0) (sym (of ∙ value)) ∙ one.1)

cooperators_tell : (q : Question) (d : Data) (draft : Draft) → IsOfCooperators d q → IsScript d draft
    → Tells q (cooperators_asked draft.script.cooperators)
cooperators_tell (question.Shape version) d draft of g = absurd of
cooperators_tell (question.Names version) d draft of g = absurd of
cooperators_tell (question.Classes given) d draft of g = absurd of
cooperators_tell (question.Pools ps) d draft of g = absurd of
cooperators_tell (question.Bodies bs) d draft of g = absurd of
cooperators_tell (question.Cooperators cs) d draft of g = record {
  leaf =
      λ l x h. or_also (not (is_cooperator l)) (is_declared cs.now x) (has_cooperator x draft.script.cooperators)
      (cooperator_declared d draft cs.now of g x) h;
  word = λ c x h. refl;
  object = λ k e h. refl;
  body = λ since x h. refl;
}

all_apart : (d : Data) (draft : Draft) (b : Bool) → nat_lt (version_in d) COOPERATORS_SINCE ≡ b → IsScript d draft
    → CooperatorsDistinct d → are_apart draft.script.cooperators ≡ true
all_apart d draft true early g h =
    let none : Field [] (IsList IsNamedCooperator) None draft.script.cooperators =
    rw (early_has_no_cooperators d draft g early) at g.cooperators in
    rw none refl
all_apart d draft false late g h =
    let value : list_in (codes "cooperators") d
    ≡ or_no_items (option_and_then as_array (get_member (codes "cooperators") g.members)) =
    ap (λ e. or_no_items (option_and_then as_array (get (codes "cooperators") e))) g.whole in
    field_apart (get_member (codes "cooperators") g.members) draft.script.cooperators g.cooperators
    (subst AreDistinct value (h late))

-- a script in which no name of a Cooperator is given twice and each that is used is declared has its Cooperators
pub cooperators_good : (q : Question) (d : Data) (draft : Draft) → IsOfCooperators d q → CooperatorsDistinct d
    → IsScript d draft → AllSuit q (script_in d) d → have_cooperators d draft ≡ true
cooperators_good q d draft of h g suit =
    both (all_apart d draft (nat_lt (version_in d) COOPERATORS_SINCE) refl g h)
    (answered d draft (cooperators_tell q d draft of g) g suit)

-- ---- what is found where a script is refused so

differs : {X : Type 0} (b : Bool) → b ≡ true → b ≡ false → X
differs true is isnt = cc
differs false is isnt = cc

-- refused for a name, a name is found
pub found_name : (d : Data) (m : Misfit) → IsRefusedFor BadName d → depth d ≤ MOST_LEVELS
    → Misfits (question.Names (version_in d)) d m → IsMisnamed d m
found_name d m h shallow (inl bad) = misnamed d m bad
found_name d m h shallow (inr whole) =
    let same : version_in d ≡ h.0.version = same_version d h.0 h.1.shape in
    differs (are_named d h.0) (answered d h.0 (names_asked (version_in d) h.0.version same) h.1.shape (whole.1 shallow))
    h.3

-- refused for a class, a class is found, where each may be declared
pub found_class : (q : Question) (d : Data) (m : Misfit) → IsOfClasses d q
    → AllMayDeclare (version_in d) (list_in (codes "classes") d) → IsRefusedFor BadClass d → depth d ≤ MOST_LEVELS
    → Misfits q d m → IsBadClass d m
found_class q d m of may h shallow (inl bad) = misused_class q d m of bad
found_class q d m of may h shallow (inr whole) =
    differs (are_known d h.0) (classes_good q d h.0 of may h.1.shape h.2 (whole.1 shallow)) h.4

-- refused for a pool, a pool is found, where each is given once
pub found_pool : (q : Question) (d : Data) (m : Misfit) → IsOfPools d q → PoolsDistinct d → IsRefusedFor BadPool d
    → depth d ≤ MOST_LEVELS → Misfits q d m → IsBadPool d m
found_pool q d m of once h shallow (inl bad) = misused_pool q d m of bad
found_pool q d m of once h shallow (inr whole) =
    differs (are_pooled d h.0) (pools_good q d h.0 of once h.1.shape (whole.1 shallow)) h.5

-- refused for a body, a body is found, where each has a name of its own
pub found_body : (q : Question) (d : Data) (m : Misfit) → IsOfBodies d q → BodiesDistinct d → IsRefusedFor BadBody d
    → depth d ≤ MOST_LEVELS → Misfits q d m → IsBadBody d m
found_body q d m of once h shallow (inl bad) = misused_body q d m of bad
found_body q d m of once h shallow (inr whole) =
    differs (have_bodies d h.0) (bodies_good q d h.0 of once h.1.shape (whole.1 shallow)) h.6

-- refused for a Cooperator, one is found, where each has a name of its own
pub found_cooperator : (q : Question) (d : Data) (m : Misfit) → IsOfCooperators d q → CooperatorsDistinct d
    → IsRefusedFor BadCooperator d → depth d ≤ MOST_LEVELS → Misfits q d m → IsBadCooperator d m
found_cooperator q d m of once h shallow (inl bad) = misused_cooperator q d m of bad
found_cooperator q d m of once h shallow (inr whole) =
    differs (have_cooperators d h.0) (cooperators_good q d h.0 of once h.1.shape (whole.1 shallow)) h.7

-- ---- shapes

-- a leaf that fits may stand in its version
leaf_stands : (v : ℕ) (l : Leaf) (x : List ℕ) → leaf_fits v l (string x) ≡ true → stands v l ≡ true
leaf_stands v leaf.Comment x h = (and_parts (nat_le COMMENTS_SINCE v) true h).0
leaf_stands v leaf.Text x h = refl
leaf_stands v (leaf.New o) x h = refl
leaf_stands v (leaf.Found o) x h = (and_parts (has_object v o) true h).0
leaf_stands v leaf.Integer x h = refl
leaf_stands v (leaf.Number low high) x h = refl
leaf_stands v leaf.Boolean x h = refl
leaf_stands v leaf.Bound x h = refl
leaf_stands v leaf.ListFlag x h = refl
leaf_stands v leaf.GatherFlag x h = refl
leaf_stands v leaf.Turns x h = refl

-- an object that fits may stand in its version
keyed_stands : (v : ℕ) (k : Keyed) (d : Data) → fits v (want.Keyed k) d ≡ true → object_stands v k ≡ true
keyed_stands v (keyed.Script version) d h = refl
keyed_stands v (keyed.Cooperator version) d h = refl
keyed_stands v (keyed.Body since) d h =
    (and_parts (nat_le since v) (is_some (as_object d) || (is_some (as_str d) && nat_le BODIES_SINCE v)) h).0
keyed_stands v keyed.Failure d h =
    let p = and_parts (is_some (as_object d) && object_stands v keyed.Failure) (has_keys keyed.Failure d) h in
    (and_parts (is_some (as_object d)) (object_stands v keyed.Failure) p.0).1

shape_asked : (v w : ℕ) → v ≡ w → Tells (question.Shape v) (words w)
shape_asked v w same =
    record {
      leaf = λ l x h. rw (← same) (leaf_stands v l x h);
      word = λ c x h. rw (← same) h;
      object = λ k d h. rw (← same) (keyed_stands v k d h);
      body = λ since x h. rw (← same) (and_parts (nat_le since v) (nat_le BODIES_SINCE v) h).1;
    }

-- refused for its shape, a part is found that doesn't fit
pub found_shape : (d : Data) (m : Misfit) → IsRefusedFor BadShape d → depth d ≤ MOST_LEVELS
    → Misfits (question.Shape (version_in d)) d m → IsMisshaped d m
found_shape d m h shallow (inl bad) = bad
found_shape d m h shallow (inr whole) =
    let suit = whole.1 shallow in
    let s = script_fine d suit in
    absurd (h.1 s.0 s.1 (answered d s.0 (shape_asked (version_in d) s.0.version (same_version d s.0 s.1)) s.1 suit))
