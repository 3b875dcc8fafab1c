-- The keys of objects, as JSON.
use Rattle.std.specs.Prelude.{ℕ, Bool, true, false, if◌then◌else◌, ◌||◌, bytes_eq, List, ◌++◌, map}
use Rattle.std.specs.Prelude.{codes}
use Rattle.serde_json.specs.Data.{Data, unsigned, number, boolean, string, array, object, member, no_members}
use Rattle.serde_json.specs.View.{items_of}
use Rattle.dv_forms.specs.declared.versions.TheConstants.{COMMENTS_SINCE, FAILURES_SINCE, FIRST_VERSION, LAST_VERSION}
use Rattle.dv_forms.specs.declared.versions.TheConstants.{RULES_SINCE}
use Rattle.dv_forms.specs.declared.want.Leaf.{Leaf}
use Rattle.dv_forms.specs.declared.want.Leaf.TheVariants as leaf
use Rattle.dv_forms.specs.declared.want.Keyed.{Keyed}
use Rattle.dv_forms.specs.declared.want.Keyed.TheVariants as keyed
use Rattle.dv_forms.specs.declared.want.Want.{Want}
use Rattle.dv_forms.specs.declared.want.Want.TheVariants as want
use Rattle.dv_forms.specs.Wants.{key_want, keys_in}
use Rattle.dv_language.specs.Wants.{keyed_name, want_data}

-- whether an object has to have a key
abbrev pub is_needed : Keyed → List ℕ → Bool
is_needed (keyed.Script version) key = bytes_eq key (codes "version") || bytes_eq key (codes "events")
is_needed (keyed.Cooperator version) key = bytes_eq key (codes "units") || bytes_eq key (codes "delay")
is_needed (keyed.Body version) key = false
is_needed keyed.Failure key = bytes_eq key (codes "fail") || bytes_eq key (codes "message")

-- whether a leaf is a comment
abbrev pub is_comment : Leaf → Bool
is_comment leaf.Text = false
is_comment (leaf.New o) = false
is_comment (leaf.Found o) = false
is_comment leaf.Integer = false
is_comment (leaf.Number low high) = false
is_comment leaf.Boolean = false
is_comment leaf.Bound = false
is_comment leaf.ListFlag = false
is_comment leaf.GatherFlag = false
is_comment leaf.Turns = false
is_comment leaf.Comment = true

-- whether a place asks for the value of a key that may not be there
abbrev pub is_other : Want → Bool
is_other (want.Leaf l) = false
is_other want.Value = false
is_other (want.Call c) = false
is_other (want.Pair p) = false
is_other (want.Keyed k) = false
is_other (want.Array i) = false
is_other (want.Word c) = false
is_other (want.Other k) = true

-- 1, or that of comments, where each version has the key
abbrev pub since_by : Want → ℕ
since_by (want.Leaf l) = if is_comment l then COMMENTS_SINCE else 1
since_by want.Value = 1
since_by (want.Call c) = 1
since_by (want.Pair p) = 1
since_by (want.Keyed k) = 1
since_by (want.Array i) = 1
since_by (want.Word c) = 1
since_by (want.Other k) = 1

-- the first version in which a script may have a key: the one after the last that may not
abbrev pub since_script : List ℕ → ℕ
since_script key =
    if is_other (key_want (keyed.Script 2) key) then 3 else
    if is_other (key_want (keyed.Script 1) key) then 2 else since_by (key_want (keyed.Script 1) key)

-- the first version in which a Cooperator may have a key
abbrev pub since_cooperator : List ℕ → ℕ
since_cooperator key =
    if is_other (key_want (keyed.Cooperator FIRST_VERSION) key) then RULES_SINCE
    else since_by (key_want (keyed.Cooperator FIRST_VERSION) key)

-- the first version in which an object may have a key
abbrev pub since : Keyed → List ℕ → ℕ
since (keyed.Script version) key = since_script key
since (keyed.Cooperator version) key = since_cooperator key
since (keyed.Body version) key = since_by (key_want (keyed.Body version) key)
since keyed.Failure key = FAILURES_SINCE

-- a key
abbrev pub key_data : Keyed → List ℕ → Data
key_data k key =
    object (member (codes "key") (string key)
    (member (codes "needed") (boolean (is_needed k key)) (member (codes "of") (string (keyed_name k))
    (member (codes "since") (number (unsigned (since k key)))
    (member (codes "value") (want_data (key_want k key)) no_members)))))

-- the keys that an object may have
abbrev pub keys_of : Keyed → List Data
keys_of k = map (key_data k) (keys_in k)

-- the keys of a script, of its cooperator, of a body and of a failure in a value, as the last version has them
abbrev pub keys_data : Data
keys_data = array (items_of (
    keys_of (keyed.Script LAST_VERSION)
    ++ (keys_of (keyed.Cooperator LAST_VERSION) ++ (keys_of (keyed.Body FIRST_VERSION) ++ keys_of keyed.Failure))))
