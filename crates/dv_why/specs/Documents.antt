-- What a document says as a whole: its version, and the lists of its keys.
use Rattle.std.specs.Prelude.{◌≡◌, ◌≢◌, ◌<◌, ◌&&◌, false, ℕ, nat_eq, nat_le, nat_lt, if◌then◌else◌, List, Option, Some}
use Rattle.std.specs.Prelude.{None, option_and_then, codes}
use Rattle.serde_json.specs.Data.{Data, Items, no_items}
use Rattle.serde_json.specs.Find.{get, at, get_item, as_array, as_number, as_str, as_u64}
use Rattle.dv_forms.specs.declared.versions.TheConstants.{BODIES_SINCE, COOPERATORS_SINCE, LAST_VERSION}
use Rattle.dv_forms.specs.declared.want.Want.{Want}
use Rattle.dv_forms.specs.declared.want.Want.TheVariants as want
use Rattle.dv_forms.specs.declared.want.Keyed.TheVariants as keyed

-- a version of the language, or the last where it is anything else
abbrev pub or_last : Option ℕ → ℕ
or_last None = LAST_VERSION
or_last (Some n) = if nat_le 1 n && nat_le n LAST_VERSION then n else LAST_VERSION

-- the version that a document says, or the last where it says none
abbrev pub version_in : Data → ℕ
version_in d = or_last (option_and_then as_u64 (option_and_then as_number (get (codes "version") d)))

-- what is asked of a document as a whole
abbrev pub script_in : Data → Want
script_in d = want.Keyed (keyed.Script (version_in d))

-- the items, where there is an array
abbrev pub or_no_items : Option Items → Items
or_no_items None = no_items
or_no_items (Some ds) = ds

-- the items of the array of a key, or none where there is no such array
abbrev pub list_in : List ℕ → Data → Items
list_in key d = or_no_items (option_and_then as_array (get key d))

-- the text with which an array begins
abbrev pub first_text : Data → Option (List ℕ)
first_text d = option_and_then as_str (at 0 d)

-- the text with which the array of this number begins
abbrev pub name_in : ℕ → Items → Option (List ℕ)
name_in n ds = option_and_then first_text (get_item n ds)

-- no array before that of this number begins with the same text
abbrev pub IsNew : ℕ → Items → Type 0
IsNew n ds = (k : ℕ) (name : List ℕ) → k < n → name_in k ds ≡ Some name → name_in n ds ≢ Some name

-- no two arrays begin with the same text
abbrev pub AreDistinct : Items → Type 0
AreDistinct ds = (n : ℕ) → IsNew n ds

-- no two pools have the same name, where the version may have pools
abbrev pub PoolsDistinct : Data → Type 0
PoolsDistinct d = nat_eq (version_in d) 1 ≡ false → AreDistinct (list_in (codes "pools") d)

-- no two bodies have the same name, where the version may name bodies
abbrev pub BodiesDistinct : Data → Type 0
BodiesDistinct d = nat_lt (version_in d) BODIES_SINCE ≡ false → AreDistinct (list_in (codes "bodies") d)

-- no two Cooperators have the same name, where the version may name Cooperators
abbrev pub CooperatorsDistinct : Data → Type 0
CooperatorsDistinct d =
    nat_lt (version_in d) COOPERATORS_SINCE ≡ false → AreDistinct (list_in (codes "cooperators") d)
