-- The texts of values and failures: compact JSON, and what an outcome shows.
use Rattle.std.specs.Prelude.{ℕ, Bool, true, false, if◌then◌else◌, Option, None, Some, List, [], ◌∷◌, ◌++◌, codes}
use Rattle.std.specs.Fmt.{decimal, signed_decimal}
use Rattle.json.specs.Print.{quoted}
use Rattle.dv_value.specs.declared.classes.Class.{Class}
use Rattle.dv_value.specs.declared.failure.Failure.{Failure}
use Rattle.dv_value.specs.declared.failure.Failure.TheFolds.{fold-Failure}
use Rattle.dv_value.specs.declared.failure.Failure.TheOpen.{Failure-F}
use Rattle.dv_value.specs.declared.failure.Failure.TheOpen.{Sub-F}
use Rattle.dv_value.specs.declared.value.Value.{Value, fold-Value, out-Value}
use Rattle.dv_value.specs.declared.value.Value.TheOpen.{Value-F}
use Rattle.dv_value.specs.Classes.{name_of}

-- the text of a failure inside another, with its place
abbrev pub Inside : Type 0
Inside = ℕ × List ℕ

-- the place, then the text
abbrev pub inside : Sub-F (List ℕ) Inside → Inside
inside sub = (sub.index, sub.failure)

-- what follows the class: ,"message":TEXT} and with one inside ,"index":I,"message":TEXT,"sub":..}
abbrev pub after_class : List ℕ → Option Inside → List ℕ
after_class message None = codes ",\"message\":" ++ quoted message ++ codes "}"
after_class message (Some sub) =
    codes ",\"index\":" ++ decimal sub.0 ++ codes ",\"message\":" ++ quoted message ++ codes ",\"sub\":" ++ sub.1
    ++ codes "}"

-- {"fail":CLASS,"message":TEXT}, and with one inside {"fail":CLASS,"index":I,"message":TEXT,"sub":..}
abbrev pub failure_json_step : List Class → Failure-F (List ℕ) Inside → List ℕ
failure_json_step table f = codes "{\"fail\":" ++ quoted (name_of table f.class) ++ after_class f.message f.sub

-- the compact JSON of a failure
abbrev pub failure_json : List Class → Failure → List ℕ
failure_json table = fold-Failure (List ℕ) Inside (failure_json_step table) inside

-- what follows the message: nothing, and with one inside at I of ..
abbrev pub part_text : Option Inside → List ℕ
part_text None = []
part_text (Some sub) = codes " at " ++ decimal sub.0 ++ codes " of " ++ sub.1

-- CLASS TEXT, and with one inside CLASS TEXT at I of ..
abbrev pub failure_text_step : List Class → Failure-F (List ℕ) Inside → List ℕ
failure_text_step table f = name_of table f.class ++ codes " " ++ quoted f.message ++ part_text f.sub

-- what the journal shows of a failure
abbrev pub failure_text : List Class → Failure → List ℕ
failure_text table = fold-Failure (List ℕ) Inside (failure_text_step table) inside

-- a comma before each member but the first
abbrev pub comma_if : Bool → List ℕ
comma_if later = if later then 44 ∷ [] else []

-- the members that are left, then the bracket that closes the list
abbrev pub rest_text : Bool → List (List ℕ) → List ℕ
rest_text later [] = 93 ∷ []
rest_text later (text ∷ texts) = comma_if later ++ (text ++ rest_text true texts)

-- [A,B,..]
abbrev pub list_text : List (List ℕ) → List ℕ
list_text texts = 91 ∷ rest_text false texts

-- null, true or false, digits, a text between quotes, a list between brackets, or a failure
abbrev pub json_step : List Class → Value-F (List ℕ) → List ℕ
json_step table Value-F.Null = codes "null"
json_step table (Value-F.Bool b) = if b then codes "true" else codes "false"
json_step table (Value-F.Int n) = signed_decimal n
json_step table (Value-F.Text t) = quoted t
json_step table (Value-F.List texts) = list_text texts
json_step table (Value-F.Fault f) = failure_json table f

-- the compact JSON of a value
abbrev pub json : List Class → Value → List ℕ
json table = fold-Value (List ℕ) (json_step table)

-- by the kind of the value: ok, or for a failure fail
abbrev pub outcome_step : List Class → Value → Value-F Value → List ℕ
outcome_step table v Value-F.Null = codes "ok " ++ json table v
outcome_step table v (Value-F.Bool b) = codes "ok " ++ json table v
outcome_step table v (Value-F.Int n) = codes "ok " ++ json table v
outcome_step table v (Value-F.Text t) = codes "ok " ++ json table v
outcome_step table v (Value-F.List vs) = codes "ok " ++ json table v
outcome_step table v (Value-F.Fault f) = codes "fail " ++ failure_text table f

-- ok and the JSON of a value, or fail and the text of its failure
abbrev pub outcome : List Class → Value → List ℕ
outcome table v = outcome_step table v (out-Value v)
