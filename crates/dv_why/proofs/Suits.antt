-- What answers a question of names badly.
use Rattle.std.proofs.Common.{◌≡◌, ◌≢◌, ℕ, Bool, true, false, not, ◌||◌, List, Option, Some, None, is_some, refl, sym}
use Rattle.std.proofs.Common.{ap, subst, ◌∙◌, codes, Result, Ok, Err, inl, inr}
use Rattle.std.specs.Prelude.{IfOk}
use Rattle.serde_json.specs.Data.{Data, Items}
use Rattle.serde_json.specs.Find.{as_str}
use Rattle.serde_json.specs.View.{view, items_view}
use Rattle.dv_value.specs.Classes.{find_class}
use Rattle.dv_forms.specs.declared.want.Leaf.{Leaf}
use Rattle.dv_forms.specs.declared.want.Leaf.TheVariants as leaf
use Rattle.dv_forms.specs.declared.want.Object.TheVariants as object
use Rattle.dv_forms.specs.declared.want.Keyed.TheVariants as keyed
use Rattle.dv_forms.specs.declared.want.Want.{Want}
use Rattle.dv_forms.specs.declared.want.Want.TheVariants as want
use Rattle.dv_why.specs.declared.misfit.Misfit.{Misfit}
use Rattle.dv_why.specs.declared.question.Question.{Question}
use Rattle.dv_why.specs.declared.question.Question.TheVariants as question
use Rattle.dv_why.specs.Declaring.{table_in}
use Rattle.dv_why.specs.Documents.{list_in, name_in, version_in}
use Rattle.dv_questions.specs.Questions.{is_body, is_class, is_cooperator, is_pool}
use Rattle.dv_why.specs.Fits.{is_declared, leaf_suits, name_suits, names_suit, suits}
use Rattle.dv_why.specs.Wrong.{IsMisnamed, IsBadClass, unknown_class, IsBadPool, unknown_pool, IsBadBody, unknown_body}
use Rattle.dv_why.specs.Wrong.{AsksFor, a_named_body, IsBadCooperator, unknown_cooperator}
use Rattle.dv_why.proofs.GivenNames.{declared_none}

-- a text stands where a leaf is asked for
record IsBadText (q : Question) (w : Want) (d : Data) : Type 0 where
  leaf : Leaf
  name : List ℕ
  asks : AsksFor leaf w
  text : as_str d ≡ Some name
  bad : name_suits q leaf name ≡ false

bad_leaf : (q : Question) (l : Leaf) (d : Data) (o : Option (List ℕ)) → as_str d ≡ o → leaf_suits q l o ≡ false
    → IsBadText q (want.Leaf l) d
bad_leaf q l d None is h = cc
bad_leaf q l d (Some name) is h = record { leaf = l; name = name; asks = inl refl; text = is; bad = h }

bad_body : (q : Question) (since : ℕ) (d : Data) (o : Option (List ℕ)) → as_str d ≡ o
    → leaf_suits q a_named_body o ≡ false → IsBadText q (want.Keyed (keyed.Body since)) d
bad_body q since d None is h = cc
bad_body q since d (Some name) is h =
    record { leaf = a_named_body; name = name; asks = inr (since, refl, refl); text = is; bad = h }

bad_text : (q : Question) (w : Want) (d : Data) → names_suit q w d ≡ false → IsBadText q w d
bad_text q (want.Leaf l) d h = bad_leaf q l d (as_str d) refl h
bad_text q (want.Keyed (keyed.Body since)) d h = bad_body q since d (as_str d) refl h
bad_text q _ d h = cc

or_not : (a b : Bool) → (not a || b) ≡ false → (a ≡ true) × (b ≡ false)
or_not true b h = (refl, h)
or_not false b h = cc

not_some : {X : Type 0} (o : Option X) → is_some o ≡ false → o ≡ None
not_some None h = refl
not_some (Some x) h = cc

class_is : (l : Leaf) → is_class l ≡ true → l ≡ leaf.Found object.Class
class_is (leaf.Found object.Class) h = refl
class_is _ h = cc

pool_is : (l : Leaf) → is_pool l ≡ true → l ≡ leaf.Found object.Pool
pool_is (leaf.Found object.Pool) h = refl
pool_is _ h = cc

body_is : (l : Leaf) → is_body l ≡ true → l ≡ leaf.Found object.Body
body_is (leaf.Found object.Body) h = refl
body_is _ h = cc

cooperator_is : (l : Leaf) → is_cooperator l ≡ true → l ≡ leaf.Found object.Cooperator
cooperator_is (leaf.Found object.Cooperator) h = refl
cooperator_is _ h = cc

-- a place that asks for another leaf than the name of a body asks for this
asks_itself : (l k : Leaf) (w : Want) → AsksFor l w → l ≡ k → is_body k ≡ false → w ≡ want.Leaf k
asks_itself l k w (inl asks) is other = asks ∙ ap (λ (x : Leaf). want.Leaf x) is
asks_itself l k w (inr named) is other =
    let body : is_body k ≡ true = ap is_body (sym is ∙ named.2) in cc

-- a part that answers badly is a name that hasn't its form
pub misnamed : (d : Data) (m : Misfit) → suits (question.Names (version_in d)) m.want (view m.found.now) ≡ false
    → IsMisnamed d m
misnamed d m bad =
    let b = bad_text (question.Names (version_in d)) m.want (view m.found.now) bad in
    record { name = b.name; leaf = b.leaf; asks = b.asks; found = b.text; wrong = b.bad }

-- the question asks for the classes of this document
abbrev pub IsOfClasses : Data → Question → Type 0
IsOfClasses d (question.Shape version) = ⊥
IsOfClasses d (question.Names version) = ⊥
IsOfClasses d (question.Classes classes) = classes.now ≡ table_in d
IsOfClasses d (question.Pools pools) = ⊥
IsOfClasses d (question.Bodies bodies) = ⊥
IsOfClasses d (question.Cooperators cooperators) = ⊥

-- a part that answers badly is a class that isn't in the table
pub misused_class : (q : Question) (d : Data) (m : Misfit) → IsOfClasses d q → suits q m.want (view m.found.now) ≡ false
    → IsBadClass d m
misused_class (question.Shape version) d m of h = absurd of
misused_class (question.Names version) d m of h = absurd of
misused_class (question.Pools pools) d m of h = absurd of
misused_class (question.Bodies bodies) d m of h = absurd of
misused_class (question.Cooperators cooperators) d m of h = absurd of
misused_class (question.Classes classes) d m of bad =
    let b = bad_text (question.Classes classes) m.want (view m.found.now) bad in
    let c = or_not (is_class b.leaf) (is_some (find_class b.name classes.now)) b.bad in
    unknown_class b.name (asks_itself b.leaf _ m.want b.asks (class_is b.leaf c.0) refl) b.text
    (ap (find_class b.name) (sym of) ∙ not_some (find_class b.name classes.now) c.1)

-- the question asks for the pools of this document
abbrev pub IsOfPools : Data → Question → Type 0
IsOfPools d (question.Shape version) = ⊥
IsOfPools d (question.Names version) = ⊥
IsOfPools d (question.Classes classes) = ⊥
IsOfPools d (question.Pools pools) = items_view pools.now ≡ list_in (codes "pools") d
IsOfPools d (question.Bodies bodies) = ⊥
IsOfPools d (question.Cooperators cooperators) = ⊥

-- a part that answers badly is a pool that isn't declared
pub misused_pool : (q : Question) (d : Data) (m : Misfit) → IsOfPools d q → suits q m.want (view m.found.now) ≡ false
    → IsBadPool d m
misused_pool (question.Shape version) d m of h = absurd of
misused_pool (question.Names version) d m of h = absurd of
misused_pool (question.Classes classes) d m of h = absurd of
misused_pool (question.Bodies bodies) d m of h = absurd of
misused_pool (question.Cooperators cooperators) d m of h = absurd of
misused_pool (question.Pools pools) d m of bad =
    let b = bad_text (question.Pools pools) m.want (view m.found.now) bad in
    let c = or_not (is_pool b.leaf) (is_declared pools.now b.name) b.bad in
    let none : (n : ℕ) → name_in n (list_in (codes "pools") d) ≢ Some b.name =
    subst (λ (ds : Items). (n : ℕ) → name_in n ds ≢ Some b.name) of (declared_none pools.now b.name c.1) in
    unknown_pool b.name (asks_itself b.leaf _ m.want b.asks (pool_is b.leaf c.0) refl) b.text none

-- the question asks for the bodies of this document
abbrev pub IsOfBodies : Data → Question → Type 0
IsOfBodies d (question.Shape version) = ⊥
IsOfBodies d (question.Names version) = ⊥
IsOfBodies d (question.Classes classes) = ⊥
IsOfBodies d (question.Pools pools) = ⊥
IsOfBodies d (question.Bodies bodies) = items_view bodies.now ≡ list_in (codes "bodies") d
IsOfBodies d (question.Cooperators cooperators) = ⊥

-- a part that answers badly is a body that isn't declared
pub misused_body : (q : Question) (d : Data) (m : Misfit) → IsOfBodies d q → suits q m.want (view m.found.now) ≡ false
    → IsBadBody d m
misused_body (question.Shape version) d m of h = absurd of
misused_body (question.Names version) d m of h = absurd of
misused_body (question.Classes classes) d m of h = absurd of
misused_body (question.Pools pools) d m of h = absurd of
misused_body (question.Cooperators cooperators) d m of h = absurd of
misused_body (question.Bodies bodies) d m of bad =
    let b = bad_text (question.Bodies bodies) m.want (view m.found.now) bad in
    let c = or_not (is_body b.leaf) (is_declared bodies.now b.name) b.bad in
    let none : (n : ℕ) → name_in n (list_in (codes "bodies") d) ≢ Some b.name =
    subst (λ (ds : Items). (n : ℕ) → name_in n ds ≢ Some b.name) of (declared_none bodies.now b.name c.1) in
    unknown_body b.name (subst (λ (l : Leaf). AsksFor l m.want) (body_is b.leaf c.0) b.asks) b.text none

-- the question asks for the Cooperators of this document
abbrev pub IsOfCooperators : Data → Question → Type 0
IsOfCooperators d (question.Shape version) = ⊥
IsOfCooperators d (question.Names version) = ⊥
IsOfCooperators d (question.Classes classes) = ⊥
IsOfCooperators d (question.Pools pools) = ⊥
IsOfCooperators d (question.Bodies bodies) = ⊥
IsOfCooperators d (question.Cooperators cooperators) =
    items_view cooperators.now ≡ list_in (codes "cooperators") d

-- a part that answers badly is a Cooperator that isn't declared
pub misused_cooperator : (q : Question) (d : Data) (m : Misfit) → IsOfCooperators d q
    → suits q m.want (view m.found.now) ≡ false → IsBadCooperator d m
misused_cooperator (question.Shape version) d m of h = absurd of
misused_cooperator (question.Names version) d m of h = absurd of
misused_cooperator (question.Classes classes) d m of h = absurd of
misused_cooperator (question.Pools pools) d m of h = absurd of
misused_cooperator (question.Bodies bodies) d m of h = absurd of
misused_cooperator (question.Cooperators cooperators) d m of bad =
    let b = bad_text (question.Cooperators cooperators) m.want (view m.found.now) bad in
    let c = or_not (is_cooperator b.leaf) (is_declared cooperators.now b.name) b.bad in
    let none : (n : ℕ) → name_in n (list_in (codes "cooperators") d) ≢ Some b.name =
    subst (λ (ds : Items). (n : ℕ) → name_in n ds ≢ Some b.name) of (declared_none cooperators.now b.name c.1) in
    unknown_cooperator b.name (asks_itself b.leaf _ m.want b.asks (cooperator_is b.leaf c.0) refl) b.text none

-- what two clauses say of a result
pub both_ok : {X E : Type 0} (r : Result X E) (P Q R : X → Type 0) → ((x : X) → P x → Q x → R x) → IfOk r P → IfOk r Q
    → IfOk r R
both_ok (Ok x) P Q R k p q = k x p q
both_ok (Err e) P Q R k p q = tt
