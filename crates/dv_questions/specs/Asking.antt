-- A question is asked of each text and each object of a value, by the table of words: of what each place asks for.
use Rattle.std.specs.Prelude.{ℕ, zero, suc, Bool, true, false, ◌&&◌, List, [], ◌∷◌, Option, Some, None}
use Rattle.serde_json.specs.Data.{Data, null, boolean, number, string, array, object, Items, no_items, item}
use Rattle.serde_json.specs.Find.{as_str, as_array, get}
use Rattle.dv_document.specs.View.{count}
use Rattle.dv_forms.specs.declared.want.Want.{Want}
use Rattle.dv_forms.specs.declared.want.Want.TheVariants as want
use Rattle.dv_forms.specs.declared.want.CallKind.{CallKind}
use Rattle.dv_forms.specs.declared.want.Keyed.{Keyed}
use Rattle.dv_forms.specs.declared.want.Keyed.TheVariants as keyed
use Rattle.dv_forms.specs.declared.want.Leaf.TheVariants as leaf
use Rattle.dv_forms.specs.declared.want.Object.TheVariants as object
use Rattle.dv_forms.specs.Wants.{item_want, key_want, keys_in, member_want, pair_wants, want_for}
use Rattle.dv_forms.specs.Words.{wants_of}
use Rattle.dv_questions.specs.Questions.{Asked}

-- of what may be absent: where it is there
abbrev pub if_there : {X : Type 0} → (X → Bool) → Option X → Bool
if_there good None = true
if_there good (Some x) = good x

-- of each item
abbrev pub each_item : (Data → Bool) → Items → Bool
each_item good no_items = true
each_item good (item d ds) = good d && each_item good ds

-- whether a value is neither an array nor an object
abbrev pub is_scalar : Data → Bool
is_scalar null = true
is_scalar (boolean b) = true
is_scalar (number x) = true
is_scalar (string text) = true
is_scalar (array ds) = false
is_scalar (object ms) = false

-- of each member of an array of a value
abbrev pub each_member : (Want → Data → Bool) → Items → Bool
each_member good no_items = true
each_member good (item d ds) = good (member_want d) d && each_member good ds

-- of the items for which something is asked, one for one
abbrev pub one_for_one : (Want → Data → Bool) → List Want → Items → Bool
one_for_one good [] ds = true
one_for_one good (w ∷ ws) no_items = true
one_for_one good (w ∷ ws) (item d ds) = good (want_for w d) d && one_for_one good ws ds

-- of the arguments of a word, where it has a form with so many
abbrev pub arguments_suit : (Want → Data → Bool) → Option (List Want) → Items → Bool
arguments_suit good None ds = true
arguments_suit good (Some wants) ds = one_for_one good wants ds

-- of a word, and of what comes with it
abbrev pub word_suits : Asked → (Want → Data → Bool) → CallKind → Items → List ℕ → Bool
word_suits a good c ds word = a.of_word c word && arguments_suit good (wants_of c word (count ds)) ds

-- of a call
abbrev pub call_suits : Asked → (Want → Data → Bool) → CallKind → Items → Bool
call_suits a good c no_items = true
call_suits a good c (item d ds) = if_there (word_suits a good c ds) (as_str d)

-- of the values of these keys
abbrev pub keys_suit : (Want → Data → Bool) → Keyed → Data → List (List ℕ) → Bool
keys_suit good k d [] = true
keys_suit good k d (key ∷ keys) = if_there (good (key_want k key)) (get key d) && keys_suit good k d keys

-- of a text at the place of an object: it may name a body
abbrev pub name_suits : Asked → Keyed → List ℕ → Bool
name_suits a (keyed.Script version) name = true
name_suits a (keyed.Cooperator version) name = true
name_suits a keyed.Failure name = true
name_suits a (keyed.Body since) name = a.of_leaf (leaf.Found object.Body) name

-- of a value at a place that asks for this, by what its parts are found to be; no other value has a text that a
-- question asks of
abbrev pub in_parts : Asked → (Want → Data → Bool) → Want → Data → Bool
in_parts a good (want.Leaf l) d = if_there (a.of_leaf l) (as_str d)
in_parts a good want.Value d = if_there (each_member good) (as_array d)
in_parts a good (want.Call c) d = if_there (call_suits a good c) (as_array d)
in_parts a good (want.Pair p) d = if_there (one_for_one good (pair_wants p)) (as_array d)
in_parts a good (want.Keyed k) d =
    a.of_object k && (if_there (name_suits a k) (as_str d) && keys_suit good k d (keys_in k))
in_parts a good (want.Array i) d = if_there (each_item (good (item_want i))) (as_array d)
in_parts a good (want.Word c) d = if_there (a.of_word c) (as_str d)
in_parts a good (want.Other k) d = true

-- each text of a value answers the question well, down to so many levels
unfoldable pub all_suit : Asked → ℕ → Want → Data → Bool
all_suit a zero w d = true
all_suit a (suc levels) w d = in_parts a (all_suit a levels) w d
