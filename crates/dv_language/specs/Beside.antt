-- What readers need beside words and lines, as JSON.
use Rattle.std.specs.Prelude.{ℕ, List, ◌++◌, drop, length, map, Option, None, Some, option_map, codes}
use Rattle.serde_json.specs.Data.{Data, null, unsigned, number, string, array, object, member, no_members}
use Rattle.serde_json.specs.View.{items_of}
use Rattle.dv_clock.specs.declared.limits.TheConstants.{MOST_TICKS}
use Rattle.dv_script.specs.declared.limits.TheConstants.{MOST_BODIES, MOST_BYTES, MOST_CALLERS, MOST_CLASSES}
use Rattle.dv_script.specs.declared.limits.TheConstants.{MOST_COOPERATORS, MOST_LEVELS}
use Rattle.dv_script.specs.declared.limits.TheConstants.{MOST_LIMIT, MOST_NODES, MOST_POOLS, MOST_POSTS, USUAL_LIMIT}
use Rattle.dv_script.specs.declared.work.TheConstants.{MOST_JOBS}
use Rattle.dv_forms.specs.declared.limits.TheConstants.{WIDEST_BYTES, WIDEST_NODES}
use Rattle.dv_forms.specs.declared.versions.TheConstants.{COOPERATORS_SINCE, WIDE_SINCE}
use Rattle.dv_value.specs.declared.classes.Class.{Class}
use Rattle.dv_value.specs.Builtin.{builtin, later_builtin}
use Rattle.dv_value.specs.Classes.{name_of}
use Rattle.dv_reader.specs.declared.error.ScriptFault.{ScriptFault}
use Rattle.dv_reader.specs.declared.error.TheConstants.{REFUSALS}
use Rattle.dv_reader.specs.Texts.{refusal_name, refusal_number}
use Rattle.dv_language.specs.declared.beside.TheConstants.{STATUSES, MOST_NAME}

-- a number
abbrev pub count : ℕ → Data
count n = number (unsigned n)

-- the parent of a class, null of the first
abbrev pub parent_data : Option (List ℕ) → Data
parent_data None = null
parent_data (Some parent) = string parent

-- a class with its parent, by their names
abbrev pub class_row : ℕ → List ℕ → Option (List ℕ) → Data
class_row since name parent =
    object (member (codes "class") (string name)
    (member (codes "parent") (parent_data parent) (member (codes "since") (count since) no_members)))

-- a class of the table that every script has since a version
abbrev pub class_data : ℕ → Class → Data
class_data since class = class_row since class.name (option_map (name_of builtin) class.parent)

abbrev pub classes_data : Data
classes_data =
    array (items_of (map (class_data 1) builtin ++ map (class_data COOPERATORS_SINCE) (drop (length builtin) later_builtin)))

-- the most that there may be
abbrev pub limits_data : Data
limits_data =
    object (member (codes "bodies") (count MOST_BODIES) (member (codes "bytes") (count WIDEST_BYTES)
    (member (codes "callers") (count MOST_CALLERS) (member (codes "classes") (count MOST_CLASSES)
    (member (codes "cooperators") (count MOST_COOPERATORS) (member (codes "depth") (count MOST_LEVELS)
    (member (codes "jobs") (count MOST_JOBS) (member (codes "name") (count MOST_NAME)
    (member (codes "nodes") (count WIDEST_NODES)
    (member (codes "pools") (count MOST_POOLS) (member (codes "posts") (count MOST_POSTS)
    (member (codes "time") (count MOST_TICKS) no_members))))))))))))

-- the most of a script of a version before these limits
abbrev pub smaller_data : Data
smaller_data =
    object (member (codes "before") (count WIDE_SINCE)
    (member (codes "bytes") (count MOST_BYTES) (member (codes "limit") (count MOST_LIMIT)
    (member (codes "nodes") (count MOST_NODES) no_members))))

-- what stands where a script leaves it out
abbrev pub usual_data : Data
usual_data =
    object (member (codes "delay") (count 1)
    (member (codes "limit") (count USUAL_LIMIT) (member (codes "units") (count 1) no_members)))

-- a refusal, by its number and its name
abbrev pub refusal_data : ScriptFault → Data
refusal_data refusal =
    object (member (codes "name") (string (refusal_name refusal))
    (member (codes "refusal") (count (refusal_number refusal)) no_members))

abbrev pub refusals_data : Data
refusals_data = array (items_of (map refusal_data REFUSALS))

-- an exit status, and when the program ends with it
abbrev pub status_data : ℕ → List ℕ → Data
status_data status when =
    object (member (codes "status") (count status) (member (codes "when") (string when) no_members))

abbrev pub statuses_data : Data
statuses_data = array (items_of (map (λ status. status_data status.0 status.1.now) STATUSES))
