-- Whether what stands at a place is what the place asks for, its parts apart.
use Rattle.std.specs.Prelude.{ℕ, if◌then◌else◌, ◌&&◌, ◌||◌, nat_eq, nat_le, Bool, true, false, not, List, Option, Some}
use Rattle.std.specs.Prelude.{None}
use Rattle.std.specs.Prelude.{is_some, option_and_then, bytes_eq, codes}
use Rattle.std.specs.List.{list_any}
use Rattle.serde_json.specs.Data.{Data, null, boolean, number, string, array, object, Items, no_items, item, Members}
use Rattle.serde_json.specs.Data.{no_members, member}
use Rattle.serde_json.specs.Find.{as_str, as_bool, as_array, as_object, as_i64, get, at}
use Rattle.serde_json.specs.View.{view}
use Rattle.serde_json.specs.declared.value.Value.{Value}
use Rattle.dv_forms.specs.Forms.{is_first_error}
use Rattle.dv_forms.specs.Parts.{empty_at, text_at, integer_at, number_at, bound_at, list_flag_at, gather_flag_at}
use Rattle.dv_forms.specs.Parts.{turn_rule_at}
use Rattle.dv_document.specs.View.{count}
use Rattle.dv_questions.specs.Questions.{has_object, is_body, is_cooperator, is_known, is_named, is_pool}
use Rattle.dv_questions.specs.Questions.{object_stands}
use Rattle.dv_forms.specs.declared.want.Leaf.{Leaf}
use Rattle.dv_forms.specs.declared.want.Leaf.TheVariants as leaf
use Rattle.dv_forms.specs.declared.want.Object.TheVariants as of_object
use Rattle.dv_forms.specs.declared.want.CallKind.{CallKind}
use Rattle.dv_forms.specs.declared.want.Keyed.{Keyed}
use Rattle.dv_forms.specs.declared.want.Keyed.TheVariants as keyed
use Rattle.dv_forms.specs.declared.want.Want.{Want}
use Rattle.dv_forms.specs.declared.want.Want.TheVariants as want
use Rattle.dv_why.specs.declared.question.Question.{Question}
use Rattle.dv_why.specs.declared.question.Question.TheVariants as question
use Rattle.dv_forms.specs.Wants.{key_want}
use Rattle.dv_forms.specs.Words.{may_stand, wants_of}
use Rattle.dv_forms.specs.declared.versions.TheConstants.{BODIES_SINCE, COMMENTS_SINCE, LAST_VERSION}

-- a leaf reads as the grammar reads it in a script of this version
abbrev pub leaf_fits : ℕ → Leaf → Data → Bool
leaf_fits version leaf.Text d = is_some (text_at d)
leaf_fits version (leaf.New o) d = is_some (text_at d)
leaf_fits version (leaf.Found o) d = has_object version o && is_some (text_at d)
leaf_fits version leaf.Integer d = is_some (integer_at d)
leaf_fits version (leaf.Number low high) d = is_some (number_at low high d)
leaf_fits version leaf.Boolean d = is_some (as_bool d)
leaf_fits version leaf.Bound d = is_some (bound_at d)
leaf_fits version leaf.ListFlag d = is_some (list_flag_at d)
leaf_fits version leaf.GatherFlag d = is_some (gather_flag_at d)
leaf_fits version leaf.Turns d = is_some (turn_rule_at d)
leaf_fits version leaf.Comment d = nat_le COMMENTS_SINCE version && is_some (text_at d)

-- a value, its items apart: no object, and no number but integers of 64 bits
abbrev pub value_fits : Data → Bool
value_fits null = true
value_fits (boolean b) = true
value_fits (number x) = is_some (as_i64 x)
value_fits (string text) = true
value_fits (array ds) = true
value_fits (object ms) = false

-- the first part of a call is no word that may stand there, which is wrong itself, or one that has a form with so many
-- arguments
abbrev pub begins_well : CallKind → Option (List ℕ) → ℕ → Bool
begins_well c None given = true
begins_well c (Some word) given = not (may_stand c word LAST_VERSION) || is_some (wants_of c word given)

-- a call, its parts apart: an array of one part at least
abbrev pub parts_fit : CallKind → Items → Bool
parts_fit c no_items = false
parts_fit c (item d ds) = begins_well c (as_str d) (count ds)

-- there are two parts
abbrev pub are_two : Items → Bool
are_two ds = nat_eq (count ds) 2

-- there is an array, whose items fit
abbrev pub array_fits : (Items → Bool) → Option Items → Bool
array_fits fit None = false
array_fits fit (Some ds) = fit ds

-- the word of a call: one that may stand there in this version
abbrev pub word_fits : ℕ → CallKind → Option (List ℕ) → Bool
word_fits version c None = false
word_fits version c (Some word) = may_stand c word version

-- whether there is an empty text
abbrev pub is_empty : Option Data → Bool
is_empty o = is_some (option_and_then empty_at o)

-- a failure of FirstError has a place, an empty message and a failure in it, and any other has neither place nor
-- failure
abbrev pub is_of_class : Bool → Data → Bool
is_of_class true d =
    is_some (get (codes "index") d) && is_some (get (codes "sub") d) && is_empty (get (codes "message") d)
is_of_class false d = not (is_some (get (codes "index") d)) && not (is_some (get (codes "sub") d))

-- whether the object has the keys that it has to have
abbrev pub has_keys : Keyed → Data → Bool
has_keys (keyed.Script version) d = is_some (get (codes "version") d) && is_some (get (codes "events") d)
has_keys (keyed.Cooperator version) d = is_some (get (codes "units") d) && is_some (get (codes "delay") d)
has_keys (keyed.Body since) d = true
has_keys keyed.Failure d =
    is_some (get (codes "fail") d) && is_some (get (codes "message") d) && is_of_class (is_first_error d) d

-- an object of these keys, or a body by its name
abbrev pub keyed_fits : ℕ → Keyed → Data → Bool
keyed_fits version (keyed.Script v) d = is_some (as_object d) && has_keys (keyed.Script v) d
keyed_fits version (keyed.Cooperator v) d = is_some (as_object d) && has_keys (keyed.Cooperator v) d
keyed_fits version keyed.Failure d =
    is_some (as_object d) && object_stands version keyed.Failure && has_keys keyed.Failure d
keyed_fits version (keyed.Body since) d =
    object_stands version (keyed.Body since)
    && (is_some (as_object d) || (is_some (as_str d) && nat_le BODIES_SINCE version))

-- what stands at a place has the shape that the place asks for, its parts apart
abbrev pub fits : ℕ → Want → Data → Bool
fits version (want.Leaf leaf) d = leaf_fits version leaf d
fits version want.Value d = value_fits d
fits version (want.Call c) d = array_fits (parts_fit c) (as_array d)
fits version (want.Pair p) d = array_fits are_two (as_array d)
fits version (want.Keyed k) d = keyed_fits version k d
fits version (want.Array i) d = is_some (as_array d)
fits version (want.Word c) d = word_fits version c (as_str d)
fits version (want.Other k) d = false

-- whether it is the value of a key that may not be there
abbrev pub is_other : Want → Bool
is_other (want.Leaf leaf) = false
is_other want.Value = false
is_other (want.Call c) = false
is_other (want.Pair p) = false
is_other (want.Keyed k) = false
is_other (want.Array i) = false
is_other (want.Word c) = false
is_other (want.Other k) = true

-- the first key that an object may not have
abbrev pub first_other : Keyed → Members → Option (List ℕ)
first_other k no_members = None
first_other k (member key d ms) = if is_other (key_want k key) then Some key else first_other k ms

-- whether a pool or a body that is declared so has this name
abbrev pub has_name : List ℕ → Option (List ℕ) → Bool
has_name name None = false
has_name name (Some other) = bytes_eq other name

-- whether one of these arrays declares a pool or a body of this name
abbrev pub is_declared : List Value → List ℕ → Bool
is_declared arrays name = list_any (λ array. has_name name (option_and_then as_str (at 0 (view array)))) arrays

-- the same of a name that may be absent
abbrev pub is_given : List Value → Option (List ℕ) → Bool
is_given arrays None = false
is_given arrays (Some name) = is_declared arrays name

-- whether a name is what is looked for
abbrev pub name_suits : Question → Leaf → List ℕ → Bool
name_suits (question.Shape version) l name = true
name_suits (question.Names version) l name = is_named version l name
name_suits (question.Classes classes) l name = is_known classes.now l name
name_suits (question.Pools pools) l name = not (is_pool l) || is_declared pools.now name
name_suits (question.Bodies bodies) l name = not (is_body l) || is_declared bodies.now name
name_suits (question.Cooperators cooperators) l name = not (is_cooperator l) || is_declared cooperators.now name

-- whether a leaf is what is looked for, where it is a text
abbrev pub leaf_suits : Question → Leaf → Option (List ℕ) → Bool
leaf_suits q l None = true
leaf_suits q l (Some name) = name_suits q l name

-- whether a text at the place of an object is what is looked for: it may name a body
abbrev pub body_name_suits : Question → Keyed → Option (List ℕ) → Bool
body_name_suits q (keyed.Script version) name = true
body_name_suits q (keyed.Cooperator version) name = true
body_name_suits q keyed.Failure name = true
body_name_suits q (keyed.Body since) name = leaf_suits q (leaf.Found of_object.Body) name

-- whether what stands at a place is what is looked for, where the question is about names
abbrev pub names_suit : Question → Want → Data → Bool
names_suit q (want.Leaf l) d = leaf_suits q l (as_str d)
names_suit q want.Value d = true
names_suit q (want.Call c) d = true
names_suit q (want.Pair p) d = true
names_suit q (want.Keyed k) d = body_name_suits q k (as_str d)
names_suit q (want.Array i) d = true
names_suit q (want.Word c) d = true
names_suit q (want.Other k) d = true

-- whether what stands at a place answers the question well, its parts apart
abbrev pub suits : Question → Want → Data → Bool
suits (question.Shape version) w d = fits version w d
suits (question.Names version) w d = names_suit (question.Names version) w d
suits (question.Classes classes) w d = names_suit (question.Classes classes) w d
suits (question.Pools pools) w d = names_suit (question.Pools pools) w d
suits (question.Bodies bodies) w d = names_suit (question.Bodies bodies) w d
suits (question.Cooperators cooperators) w d = names_suit (question.Cooperators cooperators) w d
