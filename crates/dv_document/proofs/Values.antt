-- What begins with the tokens of a value is that value, and has its data.
use Rattle.std.proofs.Common.{◌≡◌, ◌≤◌, List, ◌++◌, length, ap, ◌∙◌, arith, length-append}
use Rattle.json.specs.Token.{Token}
use Rattle.json.specs.Json as json
use Rattle.json.specs.Find.{BeginsWith}
use Rattle.json.specs.Tree.{json_tokens, items_tokens, members_tokens, depth, items_depth, members_depth}
use Rattle.json.proofs.Printed.Trees.{value-json_tokens}
use Rattle.json.proofs.Unique.Spelling.{value-json_tokens_back}
use Rattle.dv_document.specs.Tokens.{first_or, value_at, elements_at, members_at, items_in, members_in}

-- a value nests no deeper than it has tokens
mutual
  depth_short : (j : json.Json) → depth j ≤ length (json_tokens j)
  depth_short json.null = omega arith
  depth_short (json.boolean b) = omega arith
  depth_short (json.number s) = omega arith
  depth_short (json.string s) = omega arith
  depth_short (json.array js) = omega (arith, items_short js)
  depth_short (json.object ms) = omega (arith, members_short ms)

  items_short : (js : json.Items) → items_depth js ≤ length (items_tokens js)
  items_short json.no_items = omega arith
  items_short (json.item j js) =
      omega (arith, depth_short j, items_short js, length-append (json_tokens j) (items_tokens js))

  members_short : (ms : json.Members) → members_depth ms ≤ length (members_tokens ms)
  members_short json.no_members = omega arith
  members_short (json.member k j ms) =
      omega (arith, depth_short j, members_short ms, length-append (json_tokens j) (members_tokens ms))

-- the tokens of a value, and any more, begin with that value
abbrev pub begins_with : (j : json.Json) (rest : List Token) → BeginsWith (json_tokens j ++ rest) j
begins_with j rest = (depth j, rest, value-json_tokens j (depth j) rest (omega arith))

pub spelled : (ts : List Token) (j : json.Json) → BeginsWith ts j → (rest : List Token) × (ts ≡ json_tokens j ++ rest)
spelled ts j h = (h.1, value-json_tokens_back h.0 ts h.1 j h.2)

pub value_at-tokens : (j : json.Json) (rest : List Token) → value_at (json_tokens j ++ rest) ≡ j
value_at-tokens j rest =
    ap (first_or json.null) (value-json_tokens j (length (json_tokens j ++ rest)) rest
    (omega (arith, depth_short j, length-append (json_tokens j) rest)))

pub elements_at-tokens : (js : json.Items) (rest : List Token) → elements_at (items_tokens js ++ rest) ≡ js
elements_at-tokens js rest = ap items_in (value_at-tokens (json.array js) rest)

pub members_at-tokens : (ms : json.Members) (rest : List Token) → members_at (members_tokens ms ++ rest) ≡ ms
members_at-tokens ms rest = ap members_in (value_at-tokens (json.object ms) rest)

pub value_at-begins : (ts : List Token) (j : json.Json) → BeginsWith ts j → value_at ts ≡ j
value_at-begins ts j h = let s = spelled ts j h in ap value_at s.1 ∙ value_at-tokens j s.0
