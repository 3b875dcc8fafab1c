-- What the parts of what a place asks for are asked to be, but for the arguments of words.
use Rattle.std.specs.Prelude.{ℕ, Bool, true, false, nat_eq, nat_lt, if◌then◌else◌, List, [], ◌∷◌, bytes_eq, codes}
use Rattle.std.specs.Option.{option_map_or}
use Rattle.serde_json.specs.Data.{Data, null, boolean, number, string, array, object, Items, no_items, item}
use Rattle.serde_json.specs.Find.{as_array}
use Rattle.dv_forms.specs.declared.want.Object.TheVariants as named
use Rattle.dv_forms.specs.declared.want.Leaf.TheVariants as leaf
use Rattle.dv_forms.specs.declared.want.CallKind.TheVariants as call
use Rattle.dv_forms.specs.declared.want.PairKind.{PairKind}
use Rattle.dv_forms.specs.declared.want.PairKind.TheVariants as pair
use Rattle.dv_forms.specs.declared.want.Keyed.{Keyed}
use Rattle.dv_forms.specs.declared.want.Keyed.TheVariants as keyed
use Rattle.dv_forms.specs.declared.want.Item.{Item}
use Rattle.dv_forms.specs.declared.want.Item.TheVariants as item_of
use Rattle.dv_forms.specs.declared.want.Want.{Want}
use Rattle.dv_forms.specs.declared.want.Want.TheVariants as want
use Rattle.dv_clock.specs.declared.limits.TheConstants.{MOST_DELAY}
use Rattle.dv_script.specs.declared.limits.TheConstants.{MOST_PLACE, MOST_UNITS, MOST_WORKERS}
use Rattle.dv_forms.specs.Limits.{most_limit}
use Rattle.dv_forms.specs.declared.versions.TheConstants.{BODIES_SINCE, COOPERATORS_SINCE, FIRST_VERSION, LAST_VERSION}
use Rattle.dv_forms.specs.declared.versions.TheConstants.{RULES_SINCE, TURNS_SINCE}
use Rattle.dv_forms.specs.declared.failure.TheConstants.{MOST_INDEX}

-- the name of a Deferred that is looked up
abbrev pub a_deferred : Want
a_deferred = want.Leaf (leaf.Found named.Deferred)

-- the name of a pool that is looked up
abbrev pub a_pool : Want
a_pool = want.Leaf (leaf.Found named.Pool)

-- the name of a Cooperator that is looked up
abbrev pub a_cooperator : Want
a_cooperator = want.Leaf (leaf.Found named.Cooperator)

-- the name of a class that is looked up
abbrev pub a_class : Want
a_class = want.Leaf (leaf.Found named.Class)

-- any text
abbrev pub a_text : Want
a_text = want.Leaf leaf.Text

-- a text that is read past
abbrev pub a_comment : Want
a_comment = want.Leaf leaf.Comment

-- a body
abbrev pub a_body : Want
a_body = want.Keyed (keyed.Body FIRST_VERSION)

-- what each item of an array is
abbrev pub item_want : Item → Want
item_want item_of.Value = want.Value
item_want item_of.Event = want.Call call.Event
item_want item_of.Action = want.Call call.Action
item_want item_of.Statement = want.Call call.Statement
item_want item_of.Body = a_body
item_want item_of.Caller = want.Array item_of.Body
item_want item_of.Deferred = a_deferred
item_want item_of.Class = a_class
item_want item_of.ListFlag = want.Leaf leaf.ListFlag
item_want item_of.GatherFlag = want.Leaf leaf.GatherFlag
item_want item_of.Declaration = want.Pair pair.Declaration
item_want item_of.Pool = want.Pair pair.Pool
item_want item_of.Place = want.Leaf (leaf.Number 0 MOST_PLACE)
item_want item_of.NamedBody = want.Pair pair.Body
item_want item_of.NamedCooperator = want.Pair pair.Cooperator
item_want item_of.Turn = want.Keyed (keyed.Body TURNS_SINCE)

-- whether there is one or more
abbrev pub are_some : Items → Bool
are_some no_items = false
are_some (item d ds) = true

-- whether this is an array of one item or more
abbrev pub has_items : Data → Bool
has_items d = option_map_or are_some (as_array d) false

-- what the place of an array asks for where this stands: where the turns of a loop may have bodies of their own, one
-- body for all is no array
abbrev pub array_or_body : Item → Data → Want
array_or_body item_of.Value d = want.Array item_of.Value
array_or_body item_of.Event d = want.Array item_of.Event
array_or_body item_of.Action d = want.Array item_of.Action
array_or_body item_of.Statement d = want.Array item_of.Statement
array_or_body item_of.Body d = want.Array item_of.Body
array_or_body item_of.Caller d = want.Array item_of.Caller
array_or_body item_of.Deferred d = want.Array item_of.Deferred
array_or_body item_of.Class d = want.Array item_of.Class
array_or_body item_of.ListFlag d = want.Array item_of.ListFlag
array_or_body item_of.GatherFlag d = want.Array item_of.GatherFlag
array_or_body item_of.Declaration d = want.Array item_of.Declaration
array_or_body item_of.Pool d = want.Array item_of.Pool
array_or_body item_of.Place d = want.Array item_of.Place
array_or_body item_of.NamedBody d = want.Array item_of.NamedBody
array_or_body item_of.NamedCooperator d = want.Array item_of.NamedCooperator
array_or_body item_of.Turn d = if has_items d then want.Array item_of.Turn else a_body

-- what an argument has to be where this stands
abbrev pub want_for : Want → Data → Want
want_for (want.Leaf l) d = want.Leaf l
want_for want.Value d = want.Value
want_for (want.Call c) d = want.Call c
want_for (want.Pair p) d = want.Pair p
want_for (want.Keyed k) d = want.Keyed k
want_for (want.Array i) d = array_or_body i d
want_for (want.Word c) d = want.Word c
want_for (want.Other k) d = want.Other k

-- what the value of a script's key is
abbrev pub script_want : ℕ → List ℕ → Want
script_want version key =
    if bytes_eq key (codes "version") then want.Leaf (leaf.Number 1 LAST_VERSION) else
    if bytes_eq key (codes "events") then want.Array item_of.Event else
    if bytes_eq key (codes "limit") then want.Leaf (leaf.Number 0 (most_limit version)) else
    if bytes_eq key (codes "classes") then want.Array item_of.Declaration else
    if bytes_eq key (codes "cooperator") then want.Keyed (keyed.Cooperator version) else
    if bytes_eq key (codes "callers") then want.Array item_of.Caller else
    if bytes_eq key (codes "pools")
    then (if nat_eq version 1 then want.Other (keyed.Script version) else want.Array item_of.Pool) else
    if bytes_eq key (codes "bodies")
    then (if nat_lt version BODIES_SINCE then want.Other (keyed.Script version) else want.Array item_of.NamedBody) else
    if bytes_eq key (codes "cooperators")
    then (if nat_lt version COOPERATORS_SINCE then want.Other (keyed.Script version)
    else want.Array item_of.NamedCooperator) else
    if bytes_eq key (codes "comment") then a_comment else want.Other (keyed.Script version)

-- what the value of a cooperator's key is
abbrev pub cooperator_want : ℕ → List ℕ → Want
cooperator_want version key =
    if bytes_eq key (codes "units") then want.Leaf (leaf.Number 1 MOST_UNITS) else
    if bytes_eq key (codes "delay") then want.Leaf (leaf.Number 1 MOST_DELAY) else
    if bytes_eq key (codes "turns")
    then (if nat_lt version RULES_SINCE then want.Other (keyed.Cooperator version) else want.Leaf leaf.Turns) else
    if bytes_eq key (codes "comment") then a_comment else want.Other (keyed.Cooperator version)

-- what the value of a body's key is
abbrev pub body_want : ℕ → List ℕ → Want
body_want since key =
    if bytes_eq key (codes "do") then want.Array item_of.Action else
    if bytes_eq key (codes "end") then want.Call call.End else
    if bytes_eq key (codes "comment") then a_comment else want.Other (keyed.Body since)

-- what the value of a failure's key is
abbrev pub failure_want : List ℕ → Want
failure_want key =
    if bytes_eq key (codes "fail") then a_class else
    if bytes_eq key (codes "index") then want.Leaf (leaf.Number 0 MOST_INDEX) else
    if bytes_eq key (codes "message") then a_text else
    if bytes_eq key (codes "sub") then want.Keyed keyed.Failure else want.Other keyed.Failure

-- what a member of an array of a value is: a failure where an object stands
abbrev pub member_want : Data → Want
member_want null = want.Value
member_want (boolean b) = want.Value
member_want (number x) = want.Value
member_want (string text) = want.Value
member_want (array ds) = want.Value
member_want (object ms) = want.Keyed keyed.Failure

-- what the value of an object's key is
abbrev pub key_want : Keyed → List ℕ → Want
key_want (keyed.Script version) key = script_want version key
key_want (keyed.Cooperator version) key = cooperator_want version key
key_want (keyed.Body since) key = body_want since key
key_want keyed.Failure key = failure_want key

-- the keys that an object may have, in the order in which they are looked at
abbrev pub keys_in : Keyed → List (List ℕ)
keys_in (keyed.Script version) =
    codes "version" ∷ codes "limit" ∷ codes "cooperator"
    ∷ (if nat_eq version 1 then codes "classes" ∷ codes "callers" ∷ codes "events" ∷ codes "comment" ∷ [] else
    (if nat_eq version 2 then codes "pools" ∷ codes "classes" ∷ codes "callers" ∷ codes "events" ∷ codes "comment" ∷ []
    else codes "cooperators" ∷ codes "pools" ∷ codes "classes" ∷ codes "bodies" ∷ codes "callers" ∷ codes "events"
    ∷ codes "comment" ∷ []))
keys_in (keyed.Cooperator version) =
    codes "units" ∷ codes "delay"
    ∷ (if nat_lt version RULES_SINCE then codes "comment" ∷ [] else codes "turns" ∷ codes "comment" ∷ [])
keys_in (keyed.Body since) = codes "do" ∷ codes "end" ∷ codes "comment" ∷ []
keys_in keyed.Failure = codes "fail" ∷ codes "index" ∷ codes "message" ∷ codes "sub" ∷ []

-- the parts of a pair
abbrev pub pair_wants : PairKind → List Want
pair_wants pair.Declaration = want.Leaf (leaf.New named.Class) ∷ a_text ∷ []
pair_wants pair.Pool = want.Leaf (leaf.New named.Pool) ∷ want.Leaf (leaf.Number 0 MOST_WORKERS) ∷ []
pair_wants pair.Body = want.Leaf (leaf.New named.Body) ∷ a_body ∷ []
pair_wants pair.Cooperator =
    want.Leaf (leaf.New named.Cooperator) ∷ want.Keyed (keyed.Cooperator COOPERATORS_SINCE) ∷ []

-- the callers of a script
abbrev pub all_callers : Want
all_callers = want.Array item_of.Caller

-- the Cooperators that it names
abbrev pub all_cooperators : Want
all_cooperators = want.Array item_of.NamedCooperator

-- its pools
abbrev pub all_pools : Want
all_pools = want.Array item_of.Pool

-- the bodies that it names
abbrev pub all_bodies : Want
all_bodies = want.Array item_of.NamedBody

-- the classes that it declares
abbrev pub all_classes : Want
all_classes = want.Array item_of.Declaration

-- one of them
abbrev pub one_class : Want
one_class = want.Pair pair.Declaration
