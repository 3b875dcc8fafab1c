-- A script has no more events than nodes, with those that its repeats add.
use Rattle.std.proofs.Common.{◌≡◌, ℕ, zero, suc, ◌+◌, ◌-◌, ◌*◌, ◌≤◌, ◌<◌, List, [], ◌∷◌, ◌++◌, length, Option, Some, None}
use Rattle.std.proofs.Common.{option_and_then, nat_cmp, inl, inr, refl, sym, ap, length-append, suc-mul, zero-mul}
use Rattle.std.proofs.Common.{arith, codes}
use Rattle.std.proofs.lemmas.Nat.{mul-le}
use Rattle.std.specs.Cmp.Lexicographic.{slice_cmp}
use Rattle.serde_json.specs.Data.{Data, null, boolean, number, string, array, object, Items, no_items, item, Members}
use Rattle.serde_json.specs.Data.{no_members, member, depth, items_depth, members_depth}
use Rattle.serde_json.specs.Find.{as_array, get_member}
use Rattle.serde_json.specs.Read.{max_depth}
use Rattle.dv_value.specs.declared.classes.Class.{Class}
use Rattle.dv_script.specs.declared.event.Event.{Event}
use Rattle.dv_grammar.specs.declared.draft.Draft.{Draft}
use Rattle.dv_forms.specs.Forms.{Key}
use Rattle.dv_forms.specs.Repeat.{repeat_at}
use Rattle.dv_grammar.specs.Grammar.{repeated, IsEvent, IsListed, one_event, repeats, AreListed, no_events, more_events}
use Rattle.dv_grammar.specs.Grammar.{AreEvents, IsScript}
use Rattle.dv_document.specs.Nodes.{nodes, item_nodes, member_nodes}
use Rattle.dv_reader.specs.Limits.{weight, item_weights, member_weights, added_by}
use Rattle.dv_reader.specs.Limits.{added_at, added_among, added_in, added_to, all_nodes, or_no_items}
use Rattle.dv_grammar.proofs.Steps.{picked}
use Rattle.dv_grammar.proofs.Actions.{depth-get_member}
use Rattle.dv_grammar.proofs.Repeats.{is_repeat}

-- a member has no more nodes than the members
member_nodes-get : (key : List ℕ) (ms : Members) (d : Data) → get_member key ms ≡ Some d → nodes d ≤ member_nodes ms
member_nodes-get key no_members d e = cc
member_nodes-get key (member k c ms) d e = elim (picked (slice_cmp nat_cmp key k) (get_member key ms) c d e) [
  | inl h ↦ let below : nodes d ≤ member_nodes ms = member_nodes-get key ms d h in omega (arith, below)
  | inr h ↦ rw h (omega arith)
]

-- a value has a node
some_nodes : (d : Data) → 1 ≤ nodes d
some_nodes null = omega arith
some_nodes (boolean b) = omega arith
some_nodes (number x) = omega arith
some_nodes (string text) = omega arith
some_nodes (array ds) = omega arith
some_nodes (object ms) = omega arith

-- ---- repeats

mutual
  -- nothing weighs less than its nodes
  nodes-weight : (d : Data) → nodes d ≤ weight d
  nodes-weight null = omega arith
  nodes-weight (boolean b) = omega arith
  nodes-weight (number x) = omega arith
  nodes-weight (string text) = omega arith
  nodes-weight (array ds) = let inside = item_nodes-weight ds in omega (arith, inside)
  nodes-weight (object ms) = let inside = member_nodes-weight ms in omega (arith, inside)

  item_nodes-weight : (ds : Items) → item_nodes ds ≤ item_weights ds
  item_nodes-weight no_items = omega arith
  item_nodes-weight (item d ds) =
      let here = nodes-weight d in let later = item_nodes-weight ds in omega (arith, here, later)

  member_nodes-weight : (ms : Members) → member_nodes ms ≤ member_weights ms
  member_nodes-weight no_members = omega arith
  member_nodes-weight (member key d ms) =
      let here = nodes-weight d in let later = member_nodes-weight ms in omega (arith, here, later)

length-repeated : (n : ℕ) (es : List Event) → length (repeated n es) ≡ n * length es
length-repeated zero es = sym (zero-mul (length es))
length-repeated (suc n) es =
    let split : length (es ++ repeated n es) ≡ length es + length (repeated n es) =
    length-append es (repeated n es) in
    let later : length (repeated n es) ≡ n * length es = length-repeated n es in
    omega (arith, split, later, suc-mul n (length es))

-- so many times as many events are no more than the nodes with those that are added
times_few : (k len most whole added : ℕ) → len ≤ most + added → most ≤ whole
    → k * len ≤ most + added_by k whole added
times_few zero len most whole added few below = let none = zero-mul len in omega (arith, none)
times_few (suc k) len most whole added few below =
    let each : len ≤ whole + added = omega (arith, few, below) in
    let later : k * len ≤ k * (whole + added) = mul-le k len k (whole + added) (omega arith) each in
    let same : suc k - 1 ≡ k = omega arith in
    rw same (omega (arith, few, later, suc-mul k len))

mutual
  unfolding added_in

  length-IsListed : (n : ℕ) (table : List Class) {d : Data} {es : List Event} → IsListed table d es → depth d ≤ n
      → length es ≤ nodes d + added_at (added_in n) (repeat_at d)
  length-IsListed n table (one_event d e g) deep = omega (arith, some_nodes d)
  length-IsListed zero table (repeats d k ds es g h) deep = absurd (omega (arith, deep))
  length-IsListed (suc n) table (repeats d k ds es g h) deep =
      let few : length es ≤ item_nodes ds + added_among (added_in n) ds =
      length-AreListed n table h (omega (arith, deep)) in
      let below : item_nodes ds ≤ weight (array ds) = let inside = item_nodes-weight ds in omega (arith, inside) in
      let whole = times_few k (length es) (item_nodes ds) (weight (array ds)) (added_among (added_in n) ds) few below in
      let times : length (repeated k es) ≡ k * length es = length-repeated k es in
      rw (is_repeat d k ds g) (omega (arith, whole, times))

  length-AreListed : (n : ℕ) (table : List Class) {ds : Items} {es : List Event} → AreListed table ds es
      → items_depth ds ≤ n
      → length es ≤ item_nodes ds + added_among (added_in n) ds
  length-AreListed n table no_events deep = omega arith
  length-AreListed n table (more_events d ds es rest g h) deep =
      let here = length-IsListed n table g (omega (arith, deep)) in
      let later = length-AreListed n table h (omega (arith, deep)) in
      let split : length (es ++ rest) ≡ length es + length rest = length-append es rest in
      omega (arith, here, later, split)

length-events : (n : ℕ) (table : List Class) (ds : Items) (es : List Event) → items_depth ds < n → AreListed table ds es
    → length es ≤ item_nodes ds + added_in n ds
unfolding added_in
length-events zero table ds es deep h = absurd (omega (arith, deep))
length-events (suc n) table ds es deep h = length-AreListed n table h (omega (arith, deep))

length-Key : (table : List Class) (ms : Members) (o : Option Data) (es : List Event) → members_depth ms < max_depth
    → get_member (codes "events") ms ≡ o → Key (AreEvents table) o es
    → length es ≤ member_nodes ms + added_in max_depth (or_no_items (option_and_then as_array o))
length-Key table ms None es deep e h = absurd h
length-Key table ms (Some d) es deep e h =
    let below : depth d ≤ members_depth ms = depth-get_member (codes "events") ms d e in
    let inside : depth d ≡ suc (items_depth h.0) = ap depth h.1 in
    let few : length es ≤ item_nodes h.0 + added_in max_depth h.0 =
    length-events max_depth table h.0 es (omega (arith, deep, below, inside)) h.2 in
    let nodes_in : nodes d ≡ 1 + item_nodes h.0 = ap nodes h.1 in
    let part : nodes d ≤ member_nodes ms = member_nodes-get (codes "events") ms d e in
    let same : added_in max_depth (or_no_items (as_array d)) ≡ added_in max_depth h.0 =
    ap (λ x. added_in max_depth (or_no_items (as_array x))) h.1 in
    omega (arith, few, nodes_in, part, same)

-- a script has no more events than its value has nodes, with those that its repeats add
pub events_few : (d : Data) (draft : Draft) → depth d ≤ max_depth → IsScript d draft
    → length draft.script.events ≤ all_nodes d
events_few d draft deep h =
    let inside : depth d ≡ suc (members_depth h.members) = ap depth h.whole in
    let few = length-Key draft.script.classes h.members (get_member (codes "events") h.members) draft.script.events
    (omega (arith, deep, inside)) refl h.events in
    let whole : nodes d ≡ 1 + member_nodes h.members = ap nodes h.whole in
    let same : added_to d
    ≡ added_in max_depth (or_no_items (option_and_then as_array (get_member (codes "events") h.members))) =
    ap added_to h.whole in
    omega (arith, few, whole, same)
