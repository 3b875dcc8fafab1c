-- What a place of a script asks for, as JSON.
use Rattle.std.specs.Prelude.{ℕ, ◌-◌, ◌^◌, negsuc, List, map, codes}
use Rattle.serde_json.specs.Data.{Data, Num, unsigned, number, string, array, object, member, no_members, item}
use Rattle.serde_json.specs.Data.{no_items}
use Rattle.serde_json.specs.Find.{of_integer}
use Rattle.serde_json.specs.View.{items_of}
use Rattle.dv_forms.specs.declared.want.Object.{Object}
use Rattle.dv_forms.specs.declared.want.Object.TheVariants as named
use Rattle.dv_forms.specs.declared.want.Leaf.{Leaf}
use Rattle.dv_forms.specs.declared.want.Leaf.TheVariants as leaf
use Rattle.dv_forms.specs.declared.want.CallKind.{CallKind}
use Rattle.dv_forms.specs.declared.want.CallKind.TheVariants as call
use Rattle.dv_forms.specs.declared.want.Keyed.{Keyed}
use Rattle.dv_forms.specs.declared.want.Keyed.TheVariants as keyed
use Rattle.dv_forms.specs.declared.want.Item.{Item}
use Rattle.dv_forms.specs.declared.want.Item.TheVariants as item_of
use Rattle.dv_forms.specs.declared.want.Want.{Want}
use Rattle.dv_forms.specs.declared.want.Want.TheVariants as want
use Rattle.dv_forms.specs.Wants.{item_want, pair_wants}
use Rattle.dv_forms.specs.declared.versions.TheConstants.{TURNS_SINCE}
use Rattle.dv_script.specs.declared.limits.TheConstants.{MOST_PLACES}

-- what has a name
abbrev pub object_name : Object → List ℕ
object_name named.Deferred = codes "deferred"
object_name named.Lock = codes "lock"
object_name named.Queue = codes "queue"
object_name named.Call = codes "call"
object_name named.Loop = codes "loop"
object_name named.Task = codes "task"
object_name named.Pool = codes "pool"
object_name named.Class = codes "class"
object_name named.Body = codes "body"
object_name named.Cooperator = codes "cooperator"

-- where a word may stand
abbrev pub place_name : CallKind → List ℕ
place_name call.Event = codes "event"
place_name call.Action = codes "action"
place_name call.Statement = codes "statement"
place_name call.End = codes "end"
place_name call.Leaving = codes "leaving"
place_name call.Work = codes "work"
place_name call.Outcome = codes "outcome"

-- what has keys
abbrev pub keyed_name : Keyed → List ℕ
keyed_name (keyed.Script version) = codes "script"
keyed_name (keyed.Cooperator version) = codes "cooperator"
keyed_name (keyed.Body since) = codes "body"
keyed_name keyed.Failure = codes "failure"

-- an object with its type alone
abbrev pub of_type : List ℕ → Data
of_type name = object (member (codes "type") (string name) no_members)

-- an object with its type, and what it is of
abbrev pub of_what : List ℕ → Data → Data
of_what name what = object (member (codes "of") what (member (codes "type") (string name) no_members))

-- numbers from the first to the second
abbrev pub numbers : List ℕ → Num → ℕ → Data
numbers name least most =
    object (member (codes "least") (number least)
    (member (codes "most") (number (unsigned most)) (member (codes "type") (string name) no_members)))

-- the flags of a list, and of a gathering
abbrev pub list_words : Data
list_words =
    array (item (string (codes "fireOnOneCallback"))
    (item (string (codes "fireOnOneErrback")) (item (string (codes "consumeErrors")) no_items)))

abbrev pub gather_words : Data
gather_words = array (item (string (codes "consumeErrors")) no_items)

-- the rules of the turns of a Cooperator
abbrev pub turn_words : Data
turn_words = array (item (string (codes "fair")) (item (string (codes "twisted")) no_items))

-- one of some flags
abbrev pub flags : Data → Data
flags words = object (member (codes "type") (string (codes "flag")) (member (codes "words") words no_members))

abbrev pub leaf_data : Leaf → Data
leaf_data leaf.Text = of_type (codes "text")
leaf_data (leaf.New o) = of_what (codes "new") (string (object_name o))
leaf_data (leaf.Found o) = of_what (codes "found") (string (object_name o))
leaf_data leaf.Integer = numbers (codes "number") (of_integer (negsuc (2 ^ 63 - 1))) (2 ^ 63 - 1)
leaf_data (leaf.Number least most) = numbers (codes "number") (unsigned least) most
leaf_data leaf.Boolean = of_type (codes "boolean")
leaf_data leaf.Bound = numbers (codes "bound") (unsigned 0) MOST_PLACES
leaf_data leaf.ListFlag = flags list_words
leaf_data leaf.GatherFlag = flags gather_words
leaf_data leaf.Turns = flags turn_words
leaf_data leaf.Comment = of_type (codes "text")

-- what a place asks for, without what the parts of an array or a pair ask for
abbrev pub flat_data : Want → Data
flat_data (want.Leaf l) = leaf_data l
flat_data want.Value = of_type (codes "value")
flat_data (want.Call c) = of_what (codes "words") (string (place_name c))
flat_data (want.Pair p) = of_type (codes "pair")
flat_data (want.Keyed k) = of_what (codes "object") (string (keyed_name k))
flat_data (want.Array i) = of_type (codes "array")
flat_data (want.Word c) = of_what (codes "word") (string (place_name c))
flat_data (want.Other k) = of_what (codes "other") (string (keyed_name k))

-- an array of such items
abbrev pub array_of : Data → Data
array_of items = of_what (codes "array") items

-- a pair of such parts
abbrev pub pair_of : List Data → Data
pair_of parts =
    object (member (codes "parts") (array (items_of parts)) (member (codes "type") (string (codes "pair")) no_members))

-- the same with what the parts ask for, but without what the parts of these ask for
abbrev pub nested_data : Want → Data
nested_data (want.Leaf l) = leaf_data l
nested_data want.Value = flat_data want.Value
nested_data (want.Call c) = flat_data (want.Call c)
nested_data (want.Pair p) = pair_of (map flat_data (pair_wants p))
nested_data (want.Keyed k) = flat_data (want.Keyed k)
nested_data (want.Array i) = array_of (flat_data (item_want i))
nested_data (want.Word c) = flat_data (want.Word c)
nested_data (want.Other k) = flat_data (want.Other k)

-- the bodies of a loop's turns: one body, or from this version on an array of one or more
abbrev pub turns_data : Data
turns_data =
    object (member (codes "of") (flat_data (item_want item_of.Turn))
    (member (codes "since") (number (unsigned TURNS_SINCE))
    (member (codes "type") (string (codes "turns")) no_members)))

-- an array of such items, or the bodies of a loop's turns
abbrev pub array_data : Item → Data
array_data item_of.Value = array_of (nested_data (item_want item_of.Value))
array_data item_of.Event = array_of (nested_data (item_want item_of.Event))
array_data item_of.Action = array_of (nested_data (item_want item_of.Action))
array_data item_of.Statement = array_of (nested_data (item_want item_of.Statement))
array_data item_of.Body = array_of (nested_data (item_want item_of.Body))
array_data item_of.Caller = array_of (nested_data (item_want item_of.Caller))
array_data item_of.Deferred = array_of (nested_data (item_want item_of.Deferred))
array_data item_of.Class = array_of (nested_data (item_want item_of.Class))
array_data item_of.ListFlag = array_of (nested_data (item_want item_of.ListFlag))
array_data item_of.GatherFlag = array_of (nested_data (item_want item_of.GatherFlag))
array_data item_of.Declaration = array_of (nested_data (item_want item_of.Declaration))
array_data item_of.Pool = array_of (nested_data (item_want item_of.Pool))
array_data item_of.Place = array_of (nested_data (item_want item_of.Place))
array_data item_of.NamedBody = array_of (nested_data (item_want item_of.NamedBody))
array_data item_of.NamedCooperator = array_of (nested_data (item_want item_of.NamedCooperator))
array_data item_of.Turn = turns_data

-- what a place asks for: nowhere do arrays and pairs nest deeper than this
abbrev pub want_data : Want → Data
want_data (want.Leaf l) = leaf_data l
want_data want.Value = flat_data want.Value
want_data (want.Call c) = flat_data (want.Call c)
want_data (want.Pair p) = nested_data (want.Pair p)
want_data (want.Keyed k) = flat_data (want.Keyed k)
want_data (want.Array i) = array_data i
want_data (want.Word c) = flat_data (want.Word c)
want_data (want.Other k) = flat_data (want.Other k)

-- what each of some places asks for
abbrev pub wants_data : List Want → Data
wants_data wants = array (items_of (map want_data wants))
