-- Where a document has few of everything, its script is small.
use Rattle.std.proofs.Common.{◌≡◌, ℕ, zero, suc, ◌+◌, ◌-◌, ◌*◌, ◌^◌, ◌≤◌, ◌<◌, min, Bool, true, false, not, bytes_eq, ◌&&◌}
use Rattle.std.proofs.Common.{nat_lt, List, [], ◌∷◌, ◌++◌, length, map, sum, Option, Some, None, option_and_then, refl, sym}
use Rattle.std.proofs.Common.{ap, subst, ◌∙◌, arith, codes, suc-mul, zero-mul}
use Rattle.std.specs.List.{fold, list_all}
use Rattle.std.proofs.lemmas.Bool.{le-leb, ltb-false}
use Rattle.serde_json.specs.Data.{Data, Items, no_items, item, Members, depth, items_depth, members_depth}
use Rattle.serde_json.specs.Read.{max_depth}
use Rattle.serde_json.specs.Find.{as_array, get, get_member}
use Rattle.dv_value.specs.declared.classes.Class.{Class}
use Rattle.dv_script.specs.declared.body.Body.{Body}
use Rattle.dv_script.specs.declared.action.Action.{Action}
use Rattle.dv_script.specs.declared.event.Event.{Event}
use Rattle.dv_script.specs.declared.limits.TheConstants.{MOST_BODIES, MOST_CALLERS, MOST_CLASSES, MOST_COOPERATORS}
use Rattle.dv_script.specs.declared.limits.TheConstants.{MOST_LEVELS, MOST_POOLS, MOST_POSTS}
use Rattle.dv_clock.specs.declared.limits.TheConstants.{MOST_TICKS}
use Rattle.dv_forms.specs.Forms.{Each, IsList, Field, Key}
use Rattle.dv_grammar.specs.declared.draft.Draft.{Draft}
use Rattle.dv_grammar.specs.Grammar.{IsAction, IsEvent, acts, advances, drains, expects, IsScript, repeated, IsListed}
use Rattle.dv_grammar.specs.Grammar.{one_event, repeats, AreListed, no_events, more_events, AreEvents}
use Rattle.dv_grammar.specs.Shape.{event_at}
use Rattle.dv_grammar.proofs.Actions.{depth-get_member}
use Rattle.dv_grammar.proofs.Events.{complete_event}
use Rattle.dv_grammar.proofs.Repeats.{is_repeat, no_repeat}
use Rattle.dv_forms.specs.Limits.{most_nodes}
use Rattle.dv_forms.specs.Words.{action_words}
use Rattle.dv_why.proofs.Actions.{action_begins}
use Rattle.dv_why.proofs.Forms.{checked_word}
use Rattle.dv_why.proofs.Versions.{same_version}
use Rattle.dv_reader.specs.Limits.{all_nodes, ticks_of, ticks_in as draft_ticks, are_few, is_small}
use Rattle.dv_document.specs.View.{count}
use Rattle.dv_why.specs.Documents.{or_no_items, version_in}
use Rattle.dv_why.specs.Counts.{all_ticks, count_at, count_in, listed_ticks, posts_of, ticks_by, ticks_at, ticks_among}
use Rattle.dv_why.specs.Counts.{ticks_in}

-- ---- numbers

-- what isn't more than this is at most this
pub not_more : (a b : ℕ) → nat_lt a b ≡ false → b ≤ a
not_more a b h = ltb-false a b h

-- a number that isn't cut
pub not_cut : (n m : ℕ) → m ≡ min n (2 ^ 64 - 1) → m ≤ MOST_TICKS → n ≤ MOST_TICKS
not_cut n m is few = omega arith

-- ---- lists

each_count : {X : Type 0} (Is : Data → X → Type 0) (ds : Items) (xs : List X) → Each Is ds xs → length xs ≡ count ds
each_count Is no_items [] g = refl
each_count Is no_items (x ∷ xs) g = absurd g
each_count Is (item d ds) [] g = absurd g
each_count Is (item d ds) (x ∷ xs) g = ap suc (each_count Is ds xs g.1)

list_count : {X : Type 0} (Is : Data → X → Type 0) (d : Data) (xs : List X) → IsList Is d xs
    → length xs ≡ count (or_no_items (as_array d))
list_count Is d xs g = rw (g.1) (each_count Is g.0 xs g.2)

field_count : {X : Type 0} (Is : Data → X → Type 0) (o : Option Data) (xs : List X) → Field [] (IsList Is) o xs
    → length xs ≡ count (or_no_items (option_and_then as_array o))
field_count Is None xs g = ap length g
field_count Is (Some d) xs g = list_count Is d xs g

-- ---- posts

both : {a b : Bool} → a ≡ true → b ≡ true → (a && b) ≡ true
both h k = rw (h, k) refl

few_posts : (Is : Data → Body → Type 0) (ds : Items) (xs : List (List Body)) → Each (IsList Is) ds xs
    → ((n : ℕ) → count_at n ds ≤ MOST_POSTS) → list_all are_few xs ≡ true
few_posts Is no_items [] g few = refl
few_posts Is no_items (x ∷ xs) g few = absurd g
few_posts Is (item d ds) [] g few = absurd g
few_posts Is (item d ds) (x ∷ xs) g few =
    let same = list_count Is d x g.0 in
    let here : count (or_no_items (as_array d)) ≤ MOST_POSTS = few 0 in
    both (le-leb (length x) MOST_POSTS (rw same here)) (few_posts Is ds xs g.1 (λ n. few (suc n)))

field_posts : (Is : Data → Body → Type 0) (o : Option Data) (xs : List (List Body)) → Field [] (IsList (IsList Is)) o xs
    → ((n : ℕ) → count_at n (or_no_items (option_and_then as_array o)) ≤ MOST_POSTS) → list_all are_few xs ≡ true
field_posts Is None xs g few = rw g refl
field_posts Is (Some d) xs g few = few_posts Is g.0 xs g.2 (rw (g.1) at few)

-- ---- ticks

no_advance : (word : List ℕ) (ticks : Option ℕ) → bytes_eq word (codes "advance") ≡ false
    → ticks_by (Some word) ticks ≡ 0
no_advance word None h = refl
no_advance word (Some n) h = rw h refl

not_true : (b : Bool) → not b ≡ true → b ≡ false
not_true true h = cc
not_true false h = refl

no_ticks : (table : List Class) (d : Data) (a : Action) → IsAction table d a → ticks_at d ≡ 0
no_ticks table d a g =
    let b = action_begins table d a g in
    let other = checked_word (λ text. not (bytes_eq text (codes "advance"))) action_words refl b.word b.found b.is in
    rw b.whole (no_advance b.word _ (not_true (bytes_eq b.word (codes "advance")) other))

event_ticks : (table : List Class) (d : Data) (e : Event) → IsEvent table d e → ticks_at d ≡ ticks_of e
event_ticks table _ _ (acts d a g) = no_ticks table d a g
event_ticks table _ _ (advances d n g) = rw (g.0) refl
event_ticks table _ _ (drains d n g) = rw (g.0) refl
event_ticks table _ _ (expects name d x g) = refl

fold_sum : (k : ℕ) (ns : List ℕ) → fold ◌+◌ k ns ≡ k + sum ns
fold_sum k [] = omega arith
fold_sum k (n ∷ ns) =
    let whole : fold ◌+◌ (k + n) ns ≡ (k + n) + sum ns = fold_sum (k + n) ns in
    let later : fold ◌+◌ (0 + n) ns ≡ (0 + n) + sum ns = fold_sum (0 + n) ns in
    omega (arith, whole, later)

sum_first : (n : ℕ) (ns : List ℕ) → sum (n ∷ ns) ≡ n + sum ns
sum_first n ns = let whole : fold ◌+◌ (0 + n) ns ≡ (0 + n) + sum ns = fold_sum (0 + n) ns in omega (arith, whole)

-- the events of two lists advance the clock by both
both_ticks : (es rest : List Event) → draft_ticks (es ++ rest) ≡ draft_ticks es + draft_ticks rest
both_ticks [] rest = omega arith
both_ticks (e ∷ es) rest =
    let later : draft_ticks (es ++ rest) ≡ draft_ticks es + draft_ticks rest = both_ticks es rest in
    let all : draft_ticks ((e ∷ es) ++ rest) ≡ ticks_of e + draft_ticks (es ++ rest) =
    sum_first (ticks_of e) (map ticks_of (es ++ rest)) in
    let front : draft_ticks (e ∷ es) ≡ ticks_of e + draft_ticks es = sum_first (ticks_of e) (map ticks_of es) in
    omega (arith, later, all, front)

repeated_ticks : (n : ℕ) (es : List Event) → draft_ticks (repeated n es) ≡ n * draft_ticks es
repeated_ticks zero es = sym (zero-mul (draft_ticks es))
repeated_ticks (suc n) es =
    let split : draft_ticks (es ++ repeated n es) ≡ draft_ticks es + draft_ticks (repeated n es) =
    both_ticks es (repeated n es) in
    let later : draft_ticks (repeated n es) ≡ n * draft_ticks es = repeated_ticks n es in
    omega (arith, split, later, suc-mul n (draft_ticks es))

mutual
  unfolding ticks_among

  listed_same : (n : ℕ) (table : List Class) {d : Data} {es : List Event} → IsListed table d es → depth d ≤ n
      → n ≤ max_depth → draft_ticks es ≡ listed_ticks (ticks_among n) d
  listed_same n table (one_event d e g) deep most =
      let here : ticks_at d ≡ ticks_of e = event_ticks table d e g in
      let read : event_at table d ≡ Some e = complete_event table d e (omega (arith, deep, most)) g in
      let sole : draft_ticks (e ∷ []) ≡ ticks_of e + draft_ticks [] = sum_first (ticks_of e) [] in
      rw (no_repeat table d e read) (omega (arith, here, sole))
  listed_same zero table (repeats d k ds es g h) deep most = absurd (omega (arith, deep))
  listed_same (suc n) table (repeats d k ds es g h) deep most =
      let inside : draft_ticks es ≡ all_ticks (listed_ticks (ticks_among n)) ds =
      row_same n table h (omega (arith, deep)) (omega (arith, most)) in
      rw (is_repeat d k ds g, repeated_ticks k es, inside) refl

  row_same : (n : ℕ) (table : List Class) {ds : Items} {es : List Event} → AreListed table ds es → items_depth ds ≤ n
      → n ≤ max_depth → draft_ticks es ≡ all_ticks (listed_ticks (ticks_among n)) ds
  row_same n table no_events deep most = refl
  row_same n table (more_events d ds es rest g h) deep most =
      let here = listed_same n table g (omega (arith, deep)) most in
      let later = row_same n table h (omega (arith, deep)) most in
      let split : draft_ticks (es ++ rest) ≡ draft_ticks es + draft_ticks rest = both_ticks es rest in
      omega (arith, here, later, split)

events_same : (n : ℕ) (table : List Class) (ds : Items) (es : List Event) → items_depth ds < n → n ≤ max_depth
    → AreListed table ds es → draft_ticks es ≡ ticks_among n ds
unfolding ticks_among
events_same zero table ds es deep most h = absurd (omega (arith, deep))
events_same (suc n) table ds es deep most h = row_same n table h (omega (arith, deep)) (omega (arith, most))

key_ticks : (table : List Class) (ms : Members) (o : Option Data) (es : List Event) → members_depth ms < max_depth
    → get_member (codes "events") ms ≡ o → Key (AreEvents table) o es
    → draft_ticks es ≡ ticks_among max_depth (or_no_items (option_and_then as_array o))
key_ticks table ms None es deep e g = absurd g
key_ticks table ms (Some d) es deep e g =
    let below : depth d ≤ members_depth ms = depth-get_member (codes "events") ms d e in
    let inside : depth d ≡ suc (items_depth g.0) = ap depth g.1 in
    rw (g.1) (events_same max_depth table g.0 es (omega (arith, deep, below, inside)) (omega arith) g.2)

-- where each caller has few posts, each number has
pub few_all : (ds : Items) → ((n : ℕ) → n < count ds → count_at n ds ≤ MOST_POSTS) → (n : ℕ)
    → count_at n ds ≤ MOST_POSTS
few_all no_items few n = omega arith
few_all (item d ds) few zero = few 0 (omega arith)
few_all (item d ds) few (suc n) = few_all ds (λ k less. few (suc k) (omega (arith, less))) n

-- ---- scripts

-- what is few of a document
pub record IsFew (d : Data) : Type 0 where
  pub nodes : all_nodes d ≤ most_nodes (version_in d)
  pub classes : count_in (codes "classes") d ≤ MOST_CLASSES
  pub pools : count_in (codes "pools") d ≤ MOST_POOLS
  pub bodies : count_in (codes "bodies") d ≤ MOST_BODIES
  pub cooperators : count_in (codes "cooperators") d ≤ MOST_COOPERATORS
  pub callers : count_in (codes "callers") d ≤ MOST_CALLERS
  pub posts : (n : ℕ) → posts_of n d ≤ MOST_POSTS
  pub ticks : ticks_in d ≤ MOST_TICKS

pub few_small : (d : Data) (draft : Draft) → depth d ≤ MOST_LEVELS → IsScript d draft → IsFew d
    → is_small d draft ≡ true
few_small d draft deep g few =
    let inside : depth d ≡ suc (members_depth g.members) = ap depth g.whole in
    let value : (k : List ℕ) → get k d ≡ get_member k g.members = λ k. ap (get k) g.whole in
    let of_key : (k : List ℕ) → count_in k d ≡ count (or_no_items (option_and_then as_array (get_member k g.members))) =
    λ k. ap (λ o. count (or_no_items (option_and_then as_array o))) (value k) in
    let classes : length draft.declared ≤ MOST_CLASSES =
    omega (arith, few.classes, of_key (codes "classes"), field_count _ _ _ g.declared) in
    let pools : length draft.script.pools ≤ MOST_POOLS =
    omega (arith, few.pools, of_key (codes "pools"), field_count _ _ _ g.pools) in
    let bodies : length draft.script.bodies ≤ MOST_BODIES =
    omega (arith, few.bodies, of_key (codes "bodies"), field_count _ _ _ g.bodies) in
    let cooperators : length draft.script.cooperators ≤ MOST_COOPERATORS =
    omega (arith, few.cooperators, of_key (codes "cooperators"), field_count _ _ _ g.cooperators) in
    let callers : length draft.script.callers ≤ MOST_CALLERS =
    omega (arith, few.callers, of_key (codes "callers"), field_count _ _ _ g.callers) in
    let posts : list_all are_few draft.script.callers ≡ true =
    field_posts _ _ _ g.callers (rw (value (codes "callers")) at few.posts) in
    let sums : draft_ticks draft.script.events ≡ ticks_in d =
    key_ticks draft.script.classes g.members _ _ (omega (arith, deep, inside)) refl g.events
    ∙ sym (ap (λ o. ticks_among MOST_LEVELS (or_no_items (option_and_then as_array o))) (value (codes "events"))) in
    let ticks : draft_ticks draft.script.events ≤ MOST_TICKS = omega (arith, few.ticks, sums) in
    let few_nodes : all_nodes d ≤ most_nodes draft.version =
    subst (λ (v : ℕ). all_nodes d ≤ most_nodes v) (same_version d draft g) few.nodes in
    both (both (both (both (both (both (both (le-leb _ _ few_nodes) (le-leb _ _ classes)) (le-leb _ _ pools))
    (le-leb _ _ bodies)) (le-leb _ _ cooperators)) (le-leb _ _ callers)) posts) (le-leb _ _ ticks)
