-- The tokens of a value begin as many values as it has nodes.
use Rattle.std.proofs.Common.{◌≡◌, ℕ, ◌+◌, List, [], ◌∷◌, ◌++◌, Option, Some, None, Ordering, Less, Equal, Greater, refl, ap, ◌∙◌, arith, append_assoc}
use Rattle.std.specs.Ordering.{nat_cmp, match_ordering}
use Rattle.std.specs.Cmp.Lexicographic.{slice_cmp}
use Rattle.json.specs.Token.{Token}
use Rattle.json.specs.Json as json
use Rattle.json.specs.Strict.{AreDistinct, HasUniqueKeys, ItemsHaveUniqueKeys, MembersHaveUniqueKeys, keys}
use Rattle.json.specs.Tree.{json_tokens, items_tokens, members_tokens}
use Rattle.serde_json.specs.Data.{Data, Members, no_members, member, put}
use Rattle.serde_json.specs.Find.{get_member}
use Rattle.dv_document.specs.Nodes.{beginnings, nodes, item_nodes, member_nodes}
use Rattle.dv_document.specs.Tokens.{data_of, items_of, members_of}
use Rattle.dv_document.proofs.Puts.{first_lacks, not_among, others_distinct, put_last}

abbrev Found : List ℕ → List ℕ → Data → Members → Ordering → Option Data
Found k l e ms o = match_ordering o (get_member k ms) (Some e) (get_member k ms)

nodes_at : (k l : List ℕ) (d e : Data) (ms : Members) (o : Ordering) → Found k l e ms o ≡ None
    → (get_member k ms ≡ None → member_nodes (put k d ms) ≡ nodes d + member_nodes ms)
    → member_nodes (match_ordering o (member k d (member l e ms)) (member l d ms) (member l e (put k d ms)))
    ≡ nodes d + member_nodes (member l e ms)
nodes_at k l d e ms Less none ih = refl
nodes_at k l d e ms Equal none ih = cc
nodes_at k l d e ms Greater none ih = omega (arith, ih none)

-- one more member among others that lack its key
nodes_put : (k : List ℕ) (d : Data) (ms : Members) → get_member k ms ≡ None
    → member_nodes (put k d ms) ≡ nodes d + member_nodes ms
nodes_put k d no_members none = refl
nodes_put k d (member l e ms) none = nodes_at k l d e ms (slice_cmp nat_cmp k l) none (nodes_put k d ms)

-- the members from the first on
nodes_from : (k : List ℕ) (j : json.Json) (ms : json.Members) → AreDistinct (keys (json.member k j ms))
    → member_nodes (members_of (json.member k j ms) no_members)
    ≡ nodes (data_of j) + member_nodes (members_of ms no_members)
nodes_from k j ms distinct =
    let lacks = first_lacks k j ms distinct in
    ap member_nodes (put_last k (data_of j) ms no_members lacks)
    ∙ nodes_put k (data_of j) (members_of ms no_members) (not_among k ms no_members lacks)

mutual
  pub counts : (j : json.Json) (rest : List Token) → HasUniqueKeys j
      → beginnings (json_tokens j ++ rest) ≡ nodes (data_of j) + beginnings rest
  counts json.null rest u = omega arith
  counts (json.boolean b) rest u = omega arith
  counts (json.number s) rest u = omega arith
  counts (json.string s) rest u = omega arith
  counts (json.array js) rest u = omega (arith, counts_items js rest u)
  counts (json.object ms) rest u = omega (arith, counts_members ms rest u.0 u.1)

  counts_items : (js : json.Items) (rest : List Token) → ItemsHaveUniqueKeys js
      → beginnings (items_tokens js ++ rest) ≡ item_nodes (items_of js) + beginnings rest
  counts_items json.no_items rest u = omega arith
  counts_items (json.item j js) rest u =
      ap beginnings (append_assoc (json_tokens j) (items_tokens js) rest)
      ∙ omega (arith, counts j (items_tokens js ++ rest) u.0, counts_items js rest u.1)

  counts_members : (ms : json.Members) (rest : List Token) → AreDistinct (keys ms) → MembersHaveUniqueKeys ms
      → beginnings (members_tokens ms ++ rest) ≡ member_nodes (members_of ms no_members) + beginnings rest
  counts_members json.no_members rest distinct u = omega arith
  counts_members (json.member k j ms) rest distinct u =
      ap beginnings (append_assoc (json_tokens j) (members_tokens ms) rest)
      ∙ omega (
        arith,
        counts j (members_tokens ms ++ rest) u.0,
        counts_members ms rest (others_distinct k j ms distinct) u.1,
        nodes_from k j ms distinct,
      )

pub beginnings_append : (ts us : List Token) → beginnings (ts ++ us) ≡ beginnings ts + beginnings us
beginnings_append [] us = omega arith
beginnings_append (Token.begin_object ∷ ts) us = omega (arith, beginnings_append ts us)
beginnings_append (Token.end_object ∷ ts) us = beginnings_append ts us
beginnings_append (Token.begin_array ∷ ts) us = omega (arith, beginnings_append ts us)
beginnings_append (Token.end_array ∷ ts) us = beginnings_append ts us
beginnings_append (Token.key s ∷ ts) us = beginnings_append ts us
beginnings_append (Token.string s ∷ ts) us = omega (arith, beginnings_append ts us)
beginnings_append (Token.number s ∷ ts) us = omega (arith, beginnings_append ts us)
beginnings_append (Token.boolean b ∷ ts) us = omega (arith, beginnings_append ts us)
beginnings_append (Token.null ∷ ts) us = omega (arith, beginnings_append ts us)
beginnings_append (Token.bad ∷ ts) us = beginnings_append ts us
