-- The data that a value of a document is, that elements are, and that members are.
use Rattle.std.specs.Prelude.{ℕ, suc, ◌-◌, length}
use Rattle.serde_json.specs.Data.{Data, Items, no_items, item, Members}
use Rattle.dv_document.specs.Places.{tokens_from}
use Rattle.dv_document.specs.Tokens.{data_at, items_at, keyed_at}
use Rattle.dv_document.specs.declared.places.Elements.{Elements}
use Rattle.dv_document.specs.declared.places.Members.{Members as Listed}
use Rattle.dv_document.specs.declared.places.Json.{Json}

abbrev pub view : Json → Data
view json = data_at (tokens_from json.tape.now json.at)

abbrev pub items_view : Elements → Items
items_view elements = items_at (tokens_from elements.tape.now elements.at)

abbrev pub members_view : Listed → Members
members_view members = keyed_at (tokens_from members.tape.now members.at)

-- how many nodes of the document stand from the place on: fewer from each part on than from the whole
abbrev pub json_left : Json → ℕ
json_left json = length json.tape.now - json.at

abbrev pub items_left : Elements → ℕ
items_left elements = length elements.tape.now - elements.at

abbrev pub members_left : Listed → ℕ
members_left members = length members.tape.now - members.at

-- how many items there are
abbrev pub count : Items → ℕ
count no_items = 0
count (item d ds) = suc (count ds)
