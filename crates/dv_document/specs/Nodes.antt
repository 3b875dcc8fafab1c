-- How many nodes a JSON value has: each array, object and scalar is one, and a key is none.
use Rattle.std.specs.Prelude.{ℕ, suc, ◌+◌, List, [], ◌∷◌}
use Rattle.json.specs.Token.{Token}
use Rattle.serde_json.specs.Data.{Data, null, boolean, number, string, array, object, Items, no_items, item, Members}
use Rattle.serde_json.specs.Data.{no_members, member}

-- those of a value, of the items of an array, and of the members of an object
abbrev mutual
  pub nodes : Data → ℕ
  nodes null = 1
  nodes (boolean b) = 1
  nodes (number x) = 1
  nodes (string text) = 1
  nodes (array ds) = 1 + item_nodes ds
  nodes (object ms) = 1 + member_nodes ms

  pub item_nodes : Items → ℕ
  item_nodes no_items = 0
  item_nodes (item d ds) = nodes d + item_nodes ds

  pub member_nodes : Members → ℕ
  member_nodes no_members = 0
  member_nodes (member key d ms) = nodes d + member_nodes ms

-- how many of the tokens begin a value
abbrev pub beginnings : List Token → ℕ
beginnings [] = 0
beginnings (Token.begin_object ∷ ts) = suc (beginnings ts)
beginnings (Token.end_object ∷ ts) = beginnings ts
beginnings (Token.begin_array ∷ ts) = suc (beginnings ts)
beginnings (Token.end_array ∷ ts) = beginnings ts
beginnings (Token.key s ∷ ts) = beginnings ts
beginnings (Token.string s ∷ ts) = suc (beginnings ts)
beginnings (Token.number s ∷ ts) = suc (beginnings ts)
beginnings (Token.boolean b ∷ ts) = suc (beginnings ts)
beginnings (Token.null ∷ ts) = suc (beginnings ts)
beginnings (Token.bad ∷ ts) = beginnings ts
