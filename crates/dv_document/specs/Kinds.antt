-- What data a value is, one level deep.
use Rattle.std.specs.Prelude.{◌<◌, ⊤}
use Rattle.serde_json.specs.Data.{Data, null, boolean, number, string, array, object}
use Rattle.dv_document.specs.Tokens.{number_at}
use Rattle.dv_document.specs.View.{items_view, members_view, items_left, json_left, members_left}
use Rattle.dv_document.specs.declared.places.Json.{Json}
use Rattle.dv_document.specs.declared.value.Kind.{Kind}
use Rattle.dv_document.specs.declared.value.Kind.TheVariants as kind

abbrev pub kind_view : Kind → Data
kind_view kind.Null = null
kind_view (kind.Bool b) = boolean b
kind_view (kind.Number text) = number (number_at text.now)
kind_view (kind.String text) = string text.now
kind_view (kind.Array elements) = array (items_view elements)
kind_view (kind.Object members) = object (members_view members)

-- parts have fewer nodes from them on than the whole
abbrev pub IsWithin : Json → Kind → Type 0
IsWithin json kind.Null = ⊤
IsWithin json (kind.Bool b) = ⊤
IsWithin json (kind.Number text) = ⊤
IsWithin json (kind.String text) = ⊤
IsWithin json (kind.Array elements) = items_left elements < json_left json
IsWithin json (kind.Object members) = members_left members < json_left json
