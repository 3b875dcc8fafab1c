-- What answers a question well answers each weaker one well.
use Rattle.std.proofs.Common.{◌≡◌, ℕ, zero, suc, Bool, true, ◌&&◌, List, [], ◌∷◌, Option, Some, None, refl}
use Rattle.std.proofs.lemmas.Bool.{and_parts}
use Rattle.serde_json.specs.Data.{Data, Items, no_items, item}
use Rattle.serde_json.specs.Find.{as_str, as_array, get}
use Rattle.dv_value.specs.declared.classes.Class.{Class}
use Rattle.dv_script.specs.declared.script.NamedBody.{NamedBody}
use Rattle.dv_script.specs.declared.script.NamedCooperator.{NamedCooperator}
use Rattle.dv_script.specs.declared.script.NamedPool.{NamedPool}
use Rattle.dv_forms.specs.declared.want.Want.{Want}
use Rattle.dv_forms.specs.declared.want.Want.TheVariants as want
use Rattle.dv_forms.specs.declared.want.Leaf.{Leaf}
use Rattle.dv_forms.specs.declared.want.CallKind.{CallKind}
use Rattle.dv_forms.specs.declared.want.Keyed.{Keyed}
use Rattle.dv_forms.specs.declared.want.Keyed.TheVariants as keyed
use Rattle.dv_forms.specs.declared.want.Leaf.TheVariants as leaf_of
use Rattle.dv_forms.specs.declared.want.Object.TheVariants as object
use Rattle.dv_forms.specs.Wants.{item_want, key_want, keys_in, member_want, pair_wants, want_for}
use Rattle.dv_forms.specs.Words.{wants_of}
use Rattle.dv_questions.specs.Questions.{Asked, words, names, classes, pools, bodies, every, stands, is_named}
use Rattle.dv_questions.specs.Questions.{is_known, is_pooled, is_declared, is_scheduled, cooperators}
use Rattle.dv_document.specs.View.{count}
use Rattle.dv_questions.specs.Asking.{if_there, each_item, each_member, one_for_one, arguments_suit, word_suits}
use Rattle.dv_document.specs.View.{count}
use Rattle.dv_questions.specs.Asking.{call_suits}
use Rattle.dv_document.specs.View.{count}
use Rattle.dv_questions.specs.Asking.{keys_suit, name_suits, in_parts, all_suit}

both : {a b : Bool} → a ≡ true → b ≡ true → (a && b) ≡ true
both h k = rw (h, k) refl

-- the second asks of no text more than the first
pub record IsWeaker (a b : Asked) : Type 0 where
  pub leaf : (l : Leaf) (x : List ℕ) → a.of_leaf l x ≡ true → b.of_leaf l x ≡ true
  pub word : (c : CallKind) (x : List ℕ) → a.of_word c x ≡ true → b.of_word c x ≡ true
  pub object : (k : Keyed) → a.of_object k ≡ true → b.of_object k ≡ true

-- what is good in the first way is in the second
abbrev pub Leads : (Want → Data → Bool) → (Want → Data → Bool) → Type 0
Leads f g = (w : Want) (d : Data) → f w d ≡ true → g w d ≡ true

there_too : {X : Type 0} (f g : X → Bool) → ((x : X) → f x ≡ true → g x ≡ true) → (o : Option X) → if_there f o ≡ true
    → if_there g o ≡ true
there_too f g k None h = refl
there_too f g k (Some x) h = k x h

each_too : (f g : Data → Bool) → ((d : Data) → f d ≡ true → g d ≡ true) → (ds : Items) → each_item f ds ≡ true
    → each_item g ds ≡ true
each_too f g k no_items h = refl
each_too f g k (item d ds) h = let p = and_parts (f d) (each_item f ds) h in both (k d p.0) (each_too f g k ds p.1)

member_too : (f g : Want → Data → Bool) → Leads f g → (ds : Items) → each_member f ds ≡ true → each_member g ds ≡ true
member_too f g k no_items h = refl
member_too f g k (item d ds) h =
    let p = and_parts (f (member_want d) d) (each_member f ds) h in
    both (k (member_want d) d p.0) (member_too f g k ds p.1)

one_too : (f g : Want → Data → Bool) → Leads f g → (ws : List Want) (ds : Items) → one_for_one f ws ds ≡ true
    → one_for_one g ws ds ≡ true
one_too f g k [] ds h = refl
one_too f g k (w ∷ ws) no_items h = refl
one_too f g k (w ∷ ws) (item d ds) h =
    let p = and_parts (f (want_for w d) d) (one_for_one f ws ds) h in
    both (k (want_for w d) d p.0) (one_too f g k ws ds p.1)

arguments_too : (f g : Want → Data → Bool) → Leads f g → (o : Option (List Want)) (ds : Items)
    → arguments_suit f o ds ≡ true → arguments_suit g o ds ≡ true
arguments_too f g k None ds h = refl
arguments_too f g k (Some ws) ds h = one_too f g k ws ds h

call_too : (a b : Asked) (f g : Want → Data → Bool) → IsWeaker a b → Leads f g → (c : CallKind) (ds : Items)
    → call_suits a f c ds ≡ true → call_suits b g c ds ≡ true
call_too a b f g weak k c no_items h = refl
call_too a b f g weak k c (item d ds) h =
    there_too (word_suits a f c ds) (word_suits b g c ds)
    (λ x is. let p = and_parts (a.of_word c x) (arguments_suit f (wants_of c x (count ds)) ds) is in
    both (weak.word c x p.0) (arguments_too f g k (wants_of c x (count ds)) ds p.1))
    (as_str d) h

keys_too : (f g : Want → Data → Bool) → Leads f g → (o : Keyed) (d : Data) (keys : List (List ℕ))
    → keys_suit f o d keys ≡ true → keys_suit g o d keys ≡ true
keys_too f g k o d [] h = refl
keys_too f g k o d (key ∷ keys) h =
    let p = and_parts (if_there (f (key_want o key)) (get key d)) (keys_suit f o d keys) h in
    both (there_too (f (key_want o key)) (g (key_want o key)) (k (key_want o key)) (get key d) p.0)
    (keys_too f g k o d keys p.1)

name_too : (a b : Asked) → IsWeaker a b → (o : Keyed) (x : List ℕ) → name_suits a o x ≡ true → name_suits b o x ≡ true
name_too a b weak (keyed.Script version) x h = refl
name_too a b weak (keyed.Cooperator v) x h = refl
name_too a b weak keyed.Failure x h = refl
name_too a b weak (keyed.Body since) x h = weak.leaf (leaf_of.Found object.Body) x h

parts_too : (a b : Asked) (f g : Want → Data → Bool) → IsWeaker a b → Leads f g → (w : Want) (d : Data)
    → in_parts a f w d ≡ true → in_parts b g w d ≡ true
parts_too a b f g weak k (want.Leaf l) d h = there_too (a.of_leaf l) (b.of_leaf l) (weak.leaf l) (as_str d) h
parts_too a b f g weak k want.Value d h = there_too (each_member f) (each_member g) (member_too f g k) (as_array d) h
parts_too a b f g weak k (want.Call c) d h =
    there_too (call_suits a f c) (call_suits b g c) (call_too a b f g weak k c) (as_array d) h
parts_too a b f g weak k (want.Pair p) d h =
    there_too (one_for_one f (pair_wants p)) (one_for_one g (pair_wants p)) (one_too f g k (pair_wants p))
    (as_array d) h
parts_too a b f g weak k (want.Keyed o) d h =
    let p = and_parts (a.of_object o) (if_there (name_suits a o) (as_str d) && keys_suit f o d (keys_in o)) h in
    let q = and_parts (if_there (name_suits a o) (as_str d)) (keys_suit f o d (keys_in o)) p.1 in
    both (weak.object o p.0)
    (both (there_too (name_suits a o) (name_suits b o) (name_too a b weak o) (as_str d) q.0)
    (keys_too f g k o d (keys_in o) q.1))
parts_too a b f g weak k (want.Array i) d h =
    there_too (each_item (f (item_want i))) (each_item (g (item_want i)))
    (each_too (f (item_want i)) (g (item_want i)) (k (item_want i))) (as_array d) h
parts_too a b f g weak k (want.Word c) d h = there_too (a.of_word c) (b.of_word c) (weak.word c) (as_str d) h
parts_too a b f g weak k (want.Other o) d h = refl

pub weaker : (a b : Asked) → IsWeaker a b → (levels : ℕ) (w : Want) (d : Data) → all_suit a levels w d ≡ true
    → all_suit b levels w d ≡ true
unfolding all_suit
weaker a b weak zero w d h = refl
weaker a b weak (suc n) w d h = parts_too a b (all_suit a n) (all_suit b n) weak (weaker a b weak n) w d h

-- ---- each of the six is weaker than all

module _ (v : ℕ) (table : List Class) (declared : List NamedPool) (named : List NamedBody)
    (scheduled : List NamedCooperator) where
  -- what answers all six well at the place of a leaf answers each
  six_parts : (l : Leaf) (x : List ℕ) → (every v table declared named scheduled).of_leaf l x ≡ true
      → (stands v l ≡ true) × (is_named v l x ≡ true) × (is_known table l x ≡ true) × (is_pooled declared l x ≡ true)
      × (is_declared named l x ≡ true) × (is_scheduled scheduled l x ≡ true)
  six_parts l x h =
      let five =
      and_parts (stands v l && is_named v l x && is_known table l x && is_pooled declared l x && is_declared named l x)
      (is_scheduled scheduled l x) h in
      let four =
      and_parts (stands v l && is_named v l x && is_known table l x && is_pooled declared l x)
      (is_declared named l x) five.0 in
      let three = and_parts (stands v l && is_named v l x && is_known table l x) (is_pooled declared l x) four.0 in
      let two = and_parts (stands v l && is_named v l x) (is_known table l x) three.0 in
      let one = and_parts (stands v l) (is_named v l x) two.0 in
      (one.0, one.1, two.1, three.1, four.1, five.1)

  pub words_too : IsWeaker (every v table declared named scheduled) (words v)
  words_too = record { leaf = λ l x h. (six_parts l x h).0; word = λ c x h. h; object = λ k h. h }

  pub names_too : IsWeaker (every v table declared named scheduled) (names v)
  names_too = record { leaf = λ l x h. (six_parts l x h).1; word = λ c x h. refl; object = λ k h. refl }

  pub classes_too : IsWeaker (every v table declared named scheduled) (classes table)
  classes_too = record { leaf = λ l x h. (six_parts l x h).2; word = λ c x h. refl; object = λ k h. refl }

  pub pools_too : IsWeaker (every v table declared named scheduled) (pools declared)
  pools_too = record { leaf = λ l x h. (six_parts l x h).3; word = λ c x h. refl; object = λ k h. refl }

  pub bodies_too : IsWeaker (every v table declared named scheduled) (bodies named)
  bodies_too = record { leaf = λ l x h. (six_parts l x h).4; word = λ c x h. refl; object = λ k h. refl }

  pub cooperators_too : IsWeaker (every v table declared named scheduled) (cooperators scheduled)
  cooperators_too = record { leaf = λ l x h. (six_parts l x h).5; word = λ c x h. refl; object = λ k h. refl }
