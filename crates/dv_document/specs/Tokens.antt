-- The data that the tokens of a text stand for, from a place on. No place of a document that is read is without data.
use Rattle.std.specs.Prelude.{ℕ, List, ◌∷◌, length, Option, Some, None}
use Rattle.std.specs.Float.{float_zero}
use Rattle.json.specs.Token.{Token, begin_array, begin_object}
use Rattle.json.specs.Json as json
use Rattle.serde_json.specs.Data.{Num, float, Data, null, boolean, number, string, array, object, Items, no_items, item}
use Rattle.serde_json.specs.Data.{Members, no_members, put}
use Rattle.serde_json.specs.Read.{number_of}

-- what was read, or this where nothing could be
abbrev pub or_this : {A : Type 0} → A → Option A → A
or_this a None = a
or_this a (Some b) = b

abbrev pub first_or : {A : Type 0} → A → Option (A × List Token) → A
first_or a None = a
first_or a (Some p) = p.0

-- the number that a text writes; a document that is read has no other
abbrev pub number_at : List ℕ → Num
number_at text = or_this (float float_zero) (number_of text)

-- the data of a value: of a key that is given twice the last value counts
abbrev mutual
  pub data_of : json.Json → Data
  data_of json.null = null
  data_of (json.boolean b) = boolean b
  data_of (json.number text) = number (number_at text)
  data_of (json.string text) = string text
  data_of (json.array js) = array (items_of js)
  data_of (json.object ms) = object (members_of ms no_members)

  pub items_of : json.Items → Items
  items_of json.no_items = no_items
  items_of (json.item j js) = item (data_of j) (items_of js)

  pub members_of : json.Members → Members → Members
  members_of json.no_members found = found
  members_of (json.member key j ms) found = members_of ms (put key (data_of j) found)

-- the value that begins with the first token
abbrev pub value_at : List Token → json.Json
value_at ts = first_or json.null (json.value (length ts) ts)

-- the items of an array, and the members of an object
abbrev pub items_in : json.Json → json.Items
items_in json.null = json.no_items
items_in (json.boolean b) = json.no_items
items_in (json.number text) = json.no_items
items_in (json.string text) = json.no_items
items_in (json.array js) = js
items_in (json.object ms) = json.no_items

abbrev pub members_in : json.Json → json.Members
members_in json.null = json.no_members
members_in (json.boolean b) = json.no_members
members_in (json.number text) = json.no_members
members_in (json.string text) = json.no_members
members_in (json.array js) = json.no_members
members_in (json.object ms) = ms

-- the elements of an array from the first token on
abbrev pub elements_at : List Token → json.Items
elements_at ts = items_in (value_at (begin_array ∷ ts))

-- the members of an object from the first token on
abbrev pub members_at : List Token → json.Members
members_at ts = members_in (value_at (begin_object ∷ ts))

unfoldable pub data_at : List Token → Data
data_at ts = data_of (value_at ts)

unfoldable pub items_at : List Token → Items
items_at ts = items_of (elements_at ts)

unfoldable pub keyed_at : List Token → Members
keyed_at ts = members_of (members_at ts) no_members
