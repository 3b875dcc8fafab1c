-- Where each part of a value answers a question well, each of its texts does.
use Rattle.std.proofs.Common.{◌≡◌, ℕ, zero, suc, Bool, true, List, [], ◌∷◌, Option, Some, None, option_and_then, refl}
use Rattle.std.proofs.Common.{ap, option_map}
use Rattle.serde_json.specs.Data.{Data, null, boolean, number, string, array, object, Items, no_items, item}
use Rattle.serde_json.specs.Find.{as_str, as_array, get, get_item}
use Rattle.dv_forms.specs.declared.want.Want.{Want}
use Rattle.dv_forms.specs.declared.want.Want.TheVariants as want
use Rattle.dv_forms.specs.declared.want.Leaf.{Leaf}
use Rattle.dv_forms.specs.declared.want.CallKind.{CallKind}
use Rattle.dv_forms.specs.declared.want.PairKind.{PairKind}
use Rattle.dv_forms.specs.declared.want.PairKind.TheVariants as pair
use Rattle.dv_forms.specs.declared.want.Leaf.TheVariants as leaf_of
use Rattle.dv_forms.specs.declared.want.Object.TheVariants as object_of
use Rattle.dv_forms.specs.declared.want.Keyed.{Keyed}
use Rattle.dv_forms.specs.declared.want.Keyed.TheVariants as keyed
use Rattle.dv_forms.specs.Parts.{call_at}
use Rattle.dv_forms.specs.Wants.{item_want, key_want, keys_in, member_want, pair_wants, want_for}
use Rattle.dv_forms.specs.Words.{wants_of}
use Rattle.dv_questions.specs.Questions.{Asked}
use Rattle.dv_document.specs.View.{count}
use Rattle.dv_questions.specs.Asking.{if_there, each_item, each_member, one_for_one, arguments_suit, word_suits}
use Rattle.dv_questions.specs.Asking.{call_suits}
use Rattle.dv_questions.specs.Asking.{keys_suit, name_suits, in_parts, all_suit}
use Rattle.dv_why.specs.declared.question.Question.{Question}
use Rattle.dv_why.specs.Places.{nth}
use Rattle.dv_why.specs.Fits.{suits}
use Rattle.dv_why.specs.AllSuit.{AllSuit}
use Rattle.dv_grammar.proofs.Steps.{some_injective}
use Rattle.dv_why.proofs.Parts.{both, here, part, value}

-- a text or an object that answers one question well answers the other well
pub record Tells (q : Question) (a : Asked) : Type 0 where
  pub leaf : (l : Leaf) (x : List ℕ) → suits q (want.Leaf l) (string x) ≡ true → a.of_leaf l x ≡ true
  pub word : (c : CallKind) (x : List ℕ) → suits q (want.Word c) (string x) ≡ true → a.of_word c x ≡ true
  pub object : (k : Keyed) (d : Data) → suits q (want.Keyed k) d ≡ true → a.of_object k ≡ true
  pub body : (since : ℕ) (x : List ℕ) → suits q (want.Keyed (keyed.Body since)) (string x) ≡ true
      → a.of_leaf (leaf_of.Found object_of.Body) x ≡ true

-- what each part answers well is good
abbrev Goods : Question → (Want → Data → Bool) → Type 0
Goods q good = (w : Want) (d : Data) → AllSuit q w d → good w d ≡ true

leaf_good : {q : Question} {a : Asked} → Tells q a → (l : Leaf) (d : Data) → AllSuit q (want.Leaf l) d
    → if_there (a.of_leaf l) (as_str d) ≡ true
leaf_good t l (string x) h = t.leaf l x (here h)
leaf_good t l null h = refl
leaf_good t l (boolean b) h = refl
leaf_good t l (number n) h = refl
leaf_good t l (array ds) h = refl
leaf_good t l (object ms) h = refl

word_good : {q : Question} {a : Asked} → Tells q a → (c : CallKind) (d : Data) → AllSuit q (want.Word c) d
    → if_there (a.of_word c) (as_str d) ≡ true
word_good t c (string x) h = t.word c x (here h)
word_good t c null h = refl
word_good t c (boolean b) h = refl
word_good t c (number n) h = refl
word_good t c (array ds) h = refl
word_good t c (object ms) h = refl

-- where an array stands
array_good : (f : Items → Bool) (d : Data) → ((ds : Items) → d ≡ array ds → f ds ≡ true)
    → if_there f (as_array d) ≡ true
array_good f (array ds) k = k ds refl
array_good f null k = refl
array_good f (boolean b) k = refl
array_good f (number n) k = refl
array_good f (string x) k = refl
array_good f (object ms) k = refl

each_good : (f : Data → Bool) (ds : Items) → ((n : ℕ) (e : Data) → get_item n ds ≡ Some e → f e ≡ true)
    → each_item f ds ≡ true
each_good f no_items k = refl
each_good f (item d ds) k = both (k 0 d refl) (each_good f ds (λ n e is. k (suc n) e is))

members_good : (f : Want → Data → Bool) (ds : Items)
    → ((n : ℕ) (e : Data) → get_item n ds ≡ Some e → f (member_want e) e ≡ true) → each_member f ds ≡ true
members_good f no_items k = refl
members_good f (item d ds) k = both (k 0 d refl) (members_good f ds (λ n e is. k (suc n) e is))

ones_good : (f : Want → Data → Bool) (ws : List Want) (ds : Items)
    → ((n : ℕ) (v : Want) (e : Data) → nth ws n ≡ Some v → get_item n ds ≡ Some e → f (want_for v e) e ≡ true)
    → one_for_one f ws ds ≡ true
ones_good f [] ds k = refl
ones_good f (w ∷ ws) no_items k = refl
ones_good f (w ∷ ws) (item d ds) k =
    both (k 0 w d refl refl) (ones_good f ws ds (λ n v e wants is. k (suc n) v e wants is))

arguments_good : (f : Want → Data → Bool) (o : Option (List Want)) (ds : Items) → ((n : ℕ) (v : Want) (e : Data)
    → option_and_then (λ ws. nth ws n) o ≡ Some v → get_item n ds ≡ Some e → f (want_for v e) e ≡ true)
    → arguments_suit f o ds ≡ true
arguments_good f None ds k = refl
arguments_good f (Some ws) ds k = ones_good f ws ds k

parts_good : {q : Question} {a : Asked} → Tells q a → (f : Want → Data → Bool) → Goods q f
    → (c : CallKind) (x : List ℕ) (ds : Items) → AllSuit q (want.Call c) (array (item (string x) ds))
    → word_suits a f c ds x ≡ true
unfolding call_at
parts_good t f k c x ds h =
    both (t.word c x (here (part 0 h refl refl)))
    (arguments_good f (wants_of c x (count ds)) ds
    (λ n v e wants is. k (want_for v e) e (part (suc n) h (rw (wants, is) refl) is)))

call_good : {q : Question} {a : Asked} → Tells q a → (f : Want → Data → Bool) → Goods q f → (c : CallKind) (ds : Items)
    → AllSuit q (want.Call c) (array ds) → call_suits a f c ds ≡ true
call_good t f k c no_items h = refl
call_good t f k c (item (string x) ds) h = parts_good t f k c x ds h
call_good t f k c (item null ds) h = refl
call_good t f k c (item (boolean b) ds) h = refl
call_good t f k c (item (number n) ds) h = refl
call_good t f k c (item (array es) ds) h = refl
call_good t f k c (item (object ms) ds) h = refl

value_good : (f : Data → Bool) (o : Option Data) → ((e : Data) → o ≡ Some e → f e ≡ true) → if_there f o ≡ true
value_good f None k = refl
value_good f (Some e) k = k e refl

keys_good : {q : Question} (f : Want → Data → Bool) → Goods q f → (o : Keyed) (d : Data) → AllSuit q (want.Keyed o) d
    → (keys : List (List ℕ)) → keys_suit f o d keys ≡ true
keys_good f k o d h [] = refl
keys_good f k o d h (key ∷ keys) =
    both (value_good (f (key_want o key)) (get key d) (λ e is. k (key_want o key) e (value key h refl is)))
    (keys_good f k o d h keys)

array_is : {q : Question} {w : Want} {d e : Data} → d ≡ e → AllSuit q w d → AllSuit q w e
array_is is h = rw is at h

body_good : {q : Question} {a : Asked} → Tells q a → (o : Keyed) (x : List ℕ) → AllSuit q (want.Keyed o) (string x)
    → name_suits a o x ≡ true
body_good t (keyed.Script version) x h = refl
body_good t (keyed.Cooperator version) x h = refl
body_good t keyed.Failure x h = refl
body_good t (keyed.Body since) x h = t.body since x (here h)

name_good : {q : Question} {a : Asked} → Tells q a → (o : Keyed) (d : Data) → AllSuit q (want.Keyed o) d
    → if_there (name_suits a o) (as_str d) ≡ true
name_good t o (string x) h = body_good t o x h
name_good t o null h = refl
name_good t o (boolean b) h = refl
name_good t o (number n) h = refl
name_good t o (array ds) h = refl
name_good t o (object ms) h = refl

-- no part of a pair is an array or a body
pair_same : (p : PairKind) (n : ℕ) (v : Want) (e : Data) → nth (pair_wants p) n ≡ Some v → want_for v e ≡ v
pair_same pair.Declaration zero v e h = rw (← some_injective h) refl
pair_same pair.Declaration (suc zero) v e h = rw (← some_injective h) refl
pair_same pair.Declaration (suc (suc n)) v e h = cc
pair_same pair.Pool zero v e h = rw (← some_injective h) refl
pair_same pair.Pool (suc zero) v e h = rw (← some_injective h) refl
pair_same pair.Pool (suc (suc n)) v e h = cc
pair_same pair.Body zero v e h = rw (← some_injective h) refl
pair_same pair.Body (suc zero) v e h = rw (← some_injective h) refl
pair_same pair.Body (suc (suc n)) v e h = cc
pair_same pair.Cooperator zero v e h = rw (← some_injective h) refl
pair_same pair.Cooperator (suc zero) v e h = rw (← some_injective h) refl
pair_same pair.Cooperator (suc (suc n)) v e h = cc

all_good : {q : Question} {a : Asked} → Tells q a → (f : Want → Data → Bool) → Goods q f → (w : Want) (d : Data)
    → AllSuit q w d → in_parts a f w d ≡ true
all_good t f k (want.Leaf l) d h = leaf_good t l d h
all_good t f k want.Value d h =
    array_good (each_member f) d (λ ds is. members_good f ds
    (λ n e here. k (member_want e) e (part n (array_is is h) (ap (option_map member_want) here) here)))
all_good {a = a} t f k (want.Call c) d h =
    array_good (call_suits a f c) d (λ ds is. call_good t f k c ds (array_is is h))
all_good t f k (want.Pair p) d h =
    array_good (one_for_one f (pair_wants p)) d
    (λ ds is. ones_good f (pair_wants p) ds (λ n v e wants here.
    rw (pair_same p n v e wants) (k v e (part n (array_is is h) wants here))))
all_good t f k (want.Keyed o) d h =
    both (t.object o d (here h)) (both (name_good t o d h) (keys_good f k o d h (keys_in o)))
all_good t f k (want.Array i) d h =
    array_good (each_item (f (item_want i))) d
    (λ ds is. each_good (f (item_want i)) ds (λ n e here. k (item_want i) e (part n (array_is is h) refl here)))
all_good t f k (want.Word c) d h = word_good t c d h
all_good t f k (want.Other o) d h = refl

-- each text of the value answers well
pub texts_suit : {q : Question} {a : Asked} → Tells q a → (levels : ℕ) (w : Want) (d : Data) → AllSuit q w d
    → all_suit a levels w d ≡ true
unfolding all_suit
texts_suit t zero w d h = refl
texts_suit {a = a} t (suc n) w d h = all_good t (all_suit a n) (texts_suit t n) w d h
