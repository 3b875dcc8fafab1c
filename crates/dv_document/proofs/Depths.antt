-- The tokens of a value fit where its numbers are in range, and it nests no deeper than 127.
use Rattle.std.proofs.Common.{◌≡◌, ℕ, ◌+◌, ◌-◌, ◌<◌, ◌≤◌, List, [], ◌++◌, length, false, ◌&&◌, refl, sym, ap, ◌∙◌, append_assoc, append-nil, length-append, arith, lt-ltb, le-ltb, ⊎_elim}
use Rattle.std.proofs.Math.Bool.{and_assoc, and-true, and-false}
use Rattle.std.proofs.lemmas.Bool.{cases_lt}
use Rattle.json.specs.Token.{Token}
use Rattle.json.specs.Json as json
use Rattle.json.specs.Tree.{json_tokens, items_tokens, members_tokens, depth, items_depth, members_depth}
use Rattle.serde_json.specs.Read.{max_depth}
use Rattle.dv_document.specs.Fits.{fits}
use Rattle.dv_document.proofs.Ranges.{is_in_range, are_in_range, have_range}

closed : (d : ℕ) (rest : List Token) → fits (d + 1 - 1) rest ≡ fits d rest
closed d rest = let same : d + 1 - 1 ≡ d = omega arith in ap (λ n. fits n rest) same

mutual
  fits-json : (j : json.Json) (d : ℕ) (rest : List Token) → d + depth j ≤ max_depth → fits d (json_tokens j ++ rest) ≡ (is_in_range j && fits d rest)
  fits-json json.null d rest h = refl
  fits-json (json.boolean b) d rest h = refl
  fits-json (json.number s) d rest h = refl
  fits-json (json.string s) d rest h = refl
  fits-json (json.array js) d rest h = ap (λ b. b && fits (d + 1) (items_tokens js ++ rest)) (lt-ltb d max_depth (omega arith)) ∙ fits-items js d rest (omega arith)
  fits-json (json.object ms) d rest h = ap (λ b. b && fits (d + 1) (members_tokens ms ++ rest)) (lt-ltb d max_depth (omega arith)) ∙ fits-members ms d rest (omega arith)

  fits-items : (js : json.Items) (d : ℕ) (rest : List Token) → d + 1 + items_depth js ≤ max_depth → fits (d + 1) (items_tokens js ++ rest) ≡ (are_in_range js && fits d rest)
  fits-items json.no_items d rest h = closed d rest
  fits-items (json.item j js) d rest h =
      ap (fits (d + 1)) (append_assoc (json_tokens j) (items_tokens js) rest) ∙ fits-json j (d + 1) (items_tokens js ++ rest) (omega arith)
      ∙ ap (λ b. is_in_range j && b) (fits-items js d rest (omega arith)) ∙ sym (and_assoc (is_in_range j) (are_in_range js) (fits d rest))

  fits-members : (ms : json.Members) (d : ℕ) (rest : List Token) → d + 1 + members_depth ms ≤ max_depth → fits (d + 1) (members_tokens ms ++ rest) ≡ (have_range ms && fits d rest)
  fits-members json.no_members d rest h = closed d rest
  fits-members (json.member k j ms) d rest h =
      ap (fits (d + 1)) (append_assoc (json_tokens j) (members_tokens ms) rest) ∙ fits-json j (d + 1) (members_tokens ms ++ rest) (omega arith)
      ∙ ap (λ b. is_in_range j && b) (fits-members ms d rest (omega arith)) ∙ sym (and_assoc (is_in_range j) (have_range ms) (fits d rest))

mutual
  too_deep-json : (j : json.Json) (d : ℕ) (rest : List Token) → d ≤ max_depth → max_depth < d + depth j → fits d (json_tokens j ++ rest) ≡ false
  too_deep-json json.null d rest h deep = absurd (omega arith)
  too_deep-json (json.boolean b) d rest h deep = absurd (omega arith)
  too_deep-json (json.number s) d rest h deep = absurd (omega arith)
  too_deep-json (json.string s) d rest h deep = absurd (omega arith)
  too_deep-json (json.array js) d rest h deep =
      ⊎_elim (λ below. ap (λ b. b && fits (d + 1) (items_tokens js ++ rest)) (lt-ltb d max_depth below) ∙ too_deep-items js d rest below (omega arith))
      (λ over. ap (λ b. b && fits (d + 1) (items_tokens js ++ rest)) (le-ltb d max_depth over)) (cases_lt d max_depth)
  too_deep-json (json.object ms) d rest h deep =
      ⊎_elim (λ below. ap (λ b. b && fits (d + 1) (members_tokens ms ++ rest)) (lt-ltb d max_depth below) ∙ too_deep-members ms d rest below (omega arith))
      (λ over. ap (λ b. b && fits (d + 1) (members_tokens ms ++ rest)) (le-ltb d max_depth over)) (cases_lt d max_depth)

  too_deep-items : (js : json.Items) (d : ℕ) (rest : List Token) → d < max_depth → max_depth < d + 1 + items_depth js → fits (d + 1) (items_tokens js ++ rest) ≡ false
  too_deep-items json.no_items d rest h deep = absurd (omega arith)
  too_deep-items (json.item j js) d rest h deep =
      ap (fits (d + 1)) (append_assoc (json_tokens j) (items_tokens js) rest)
      ∙ ⊎_elim (λ here. too_deep-json j (d + 1) (items_tokens js ++ rest) (omega arith) here)
      (λ later. fits-json j (d + 1) (items_tokens js ++ rest) later ∙ ap (λ b. is_in_range j && b) (too_deep-items js d rest h (omega arith)) ∙ and-false (is_in_range j)) (cases_lt max_depth (d + 1 + depth j))

  too_deep-members : (ms : json.Members) (d : ℕ) (rest : List Token) → d < max_depth → max_depth < d + 1 + members_depth ms → fits (d + 1) (members_tokens ms ++ rest) ≡ false
  too_deep-members json.no_members d rest h deep = absurd (omega arith)
  too_deep-members (json.member k j ms) d rest h deep =
      ap (fits (d + 1)) (append_assoc (json_tokens j) (members_tokens ms) rest)
      ∙ ⊎_elim (λ here. too_deep-json j (d + 1) (members_tokens ms ++ rest) (omega arith) here)
      (λ later. fits-json j (d + 1) (members_tokens ms ++ rest) later ∙ ap (λ b. is_in_range j && b) (too_deep-members ms d rest h (omega arith)) ∙ and-false (is_in_range j)) (cases_lt max_depth (d + 1 + depth j))

pub fits-shallow : (j : json.Json) → depth j ≤ max_depth → fits 0 (json_tokens j) ≡ is_in_range j
fits-shallow j h = ap (fits 0) (sym (append-nil (json_tokens j))) ∙ fits-json j 0 [] (omega arith) ∙ and-true (is_in_range j)

pub fits-deep : (j : json.Json) → max_depth < depth j → fits 0 (json_tokens j) ≡ false
fits-deep j h = ap (fits 0) (sym (append-nil (json_tokens j))) ∙ too_deep-json j 0 [] (omega arith) (omega arith)

-- each level has a bracket
mutual
  pub depth-length : (j : json.Json) → depth j ≤ length (json_tokens j)
  depth-length json.null = omega arith
  depth-length (json.boolean b) = omega arith
  depth-length (json.number s) = omega arith
  depth-length (json.string s) = omega arith
  depth-length (json.array js) = omega (arith, items_depth-length js)
  depth-length (json.object ms) = omega (arith, members_depth-length ms)

  items_depth-length : (js : json.Items) → items_depth js ≤ length (items_tokens js)
  items_depth-length json.no_items = omega arith
  items_depth-length (json.item j js) = omega (arith, depth-length j, items_depth-length js, length-append (json_tokens j) (items_tokens js))

  members_depth-length : (ms : json.Members) → members_depth ms ≤ length (members_tokens ms)
  members_depth-length json.no_members = omega arith
  members_depth-length (json.member k j ms) = omega (arith, depth-length j, members_depth-length ms, length-append (json_tokens j) (members_tokens ms))
