-- The list of orders is right.
use Rattle.std.proofs.Common.{arith, ◌≡◌, ℕ, ◌*◌, List, [], ◌∷◌, ◌∙◌, length, map, flat_map, slice_index_or, refl, sym}
use Rattle.std.proofs.Common.{ap, subst, length-append, zero-add, le_refl, append-nil}
use Rattle.std.proofs.lemmas.List.{length-map}
use Rattle.dv_script.specs.declared.script.Script.{Script}
use Rattle.dv_posts.specs.Batches.{Batch, Callers, below, bodies_of, first_posts, joined, posts_of}
use Rattle.dv_posts.specs.Posts.{post, of}
use Rattle.dv_orders.specs.Listed.{AreOrder, EveryOrderIsListed, NoOrderIsListedTwice, OneOrderWithoutPosts}
use Rattle.dv_orders.specs.Listed.{OrdersAreCounted}
use Rattle.dv_orders.specs.Numbers.{number_of_cuts, number_of_sequences}
use Rattle.dv_orders.specs.Orders.{counts_of, cuts, orders, posts_from, sequences, total}
use Rattle.dv_orders.proofs.Members.{In, Distinct, contains_from, distinct_flat, in_flat, in_from, length_flat, of_flat}
use Rattle.dv_orders.proofs.Members.{pairs_from}
use Rattle.dv_orders.proofs.Choosing.{in_sequences, posts_are_own, posts_at, sequences_differ, sequences_hold}
use Rattle.dv_orders.proofs.Choosing.{sequences_hold_all}
use Rattle.dv_orders.proofs.Cutting.{cuts_differ, cuts_up, in_cuts, nothing_cut}
use Rattle.dv_orders.proofs.Counting.{cuts_counted, same_number, sequences_counted}

length-below : (n : ℕ) → length (below n) ≡ n
length-below ℕ.zero = refl
length-below (ℕ.suc n) = omega (arith, length-append (below n) (n ∷ []), length-below n)

-- each caller has as many posts as bodies
pub same_counts : (c : ℕ) (callers : Callers) → counts_of (posts_from c callers) ≡ counts_of callers
same_counts c [] = refl
same_counts c (bodies ∷ callers) =
    ap (λ n. n ∷ counts_of (posts_from (ℕ.suc c) callers)) (length-map (below (length bodies)) (post c)
    ∙ length-below (length bodies)) ∙ ap (λ l. length bodies ∷ l) (same_counts (ℕ.suc c) callers)

-- the posts that are left at the beginning are all posts of each caller
all_left : (callers : Callers) (c : ℕ) → slice_index_or (posts_from 0 callers) c [] ≡ posts_of callers c
all_left callers c = posts_at 0 callers c ∙ ap (λ n. first_posts n (length (bodies_of callers c))) (zero-add c)

-- what is an order is listed
is_listed : (script : Script) (batches : List Batch) → AreOrder script batches → In batches (orders script)
is_listed script batches order =
    let left = posts_from 0 script.callers in
    let r = in_sequences (joined batches) left (λ c. order.complete c ∙ sym (all_left script.callers c)) in
    let count : length (joined batches) ≡ total (counts_of script.callers) =
    sym r.0 ∙ ap total (same_counts 0 script.callers) in
    in_flat (cuts script.events) (joined batches) batches (sequences (total (counts_of script.callers)) left)
    (subst (λ (n : ℕ). In (joined batches) (sequences n left)) count r.1)
    (in_cuts script.events batches order.lawful.fit)

-- what is listed is an order
is_order : (script : Script) (batches : List Batch) → In batches (orders script) → AreOrder script batches
is_order script batches listed =
    let left = posts_from 0 script.callers in
    let r = of_flat (cuts script.events) batches (sequences (total (counts_of script.callers)) left) listed in
    let up = cuts_up script.events r.0 batches r.2 in
    let hold = sequences_hold (total (counts_of script.callers)) left (posts_are_own 0 script.callers)
    (ap total (same_counts 0 script.callers)) r.0 r.1 in
    let each = λ (c : ℕ). ap (of c) up.whole ∙ hold c ∙ all_left script.callers c in
    record {
      lawful = record {
        fit = up.fit;
        next = λ c. (length (bodies_of script.callers c), le_refl (length (bodies_of script.callers c)), each c);
      };
      complete = each;
    }

pub every_order : EveryOrderIsListed
every_order script batches = (
  λ order. contains_from batches (orders script) (is_listed script batches order),
  λ listed. is_order script batches (in_from batches (orders script) listed),
)

pub never_twice : NoOrderIsListedTwice
never_twice script =
    let left = posts_from 0 script.callers in
    let all = sequences (total (counts_of script.callers)) left in
    pairs_from (orders script)
    (distinct_flat (cuts script.events) (λ (s : Batch). s) joined all
    (λ s i. cuts_differ script.events s)
    (λ s batches i j. (cuts_up script.events s batches j).whole)
    (subst (λ (l : List Batch). Distinct l) (sym (map_same all))
    (sequences_differ (total (counts_of script.callers)) left (posts_are_own 0 script.callers))))
  where
    map_same : (l : List Batch) → map (λ (s : Batch). s) l ≡ l
    map_same [] = refl
    map_same (s ∷ l) = ap (λ k. s ∷ k) (map_same l)

pub all_counted : OrdersAreCounted
all_counted script =
    let left = posts_from 0 script.callers in
    let counts = counts_of script.callers in
    let all = sequences (total counts) left in
    length_flat (cuts script.events) all
    ∙ same_number (λ s. length (cuts script.events s)) (number_of_cuts script.events (total counts)) all (λ s i.
    cuts_counted script.events s ∙ ap (number_of_cuts script.events) (sequences_hold_all (total counts) left s i))
    ∙ ap (λ n. n * number_of_cuts script.events (total counts)) (sequences_counted (total counts) left
    (ap total (same_counts 0 script.callers)) ∙ ap number_of_sequences (same_counts 0 script.callers))

pub one_order : OneOrderWithoutPosts
one_order script none =
    ap (λ n. flat_map (cuts script.events) (sequences n (posts_from 0 script.callers))) none
    ∙ append-nil (cuts script.events []) ∙ nothing_cut script.events
