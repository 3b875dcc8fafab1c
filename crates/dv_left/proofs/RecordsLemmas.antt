-- Who hangs by one Deferred more, and by one line more.
use Rattle.std.proofs.Common.{◌≡◌, ℕ, ◌+◌, ◌<◌, suc, List, [], ◌∷◌, ◌++◌, ◌∙◌, length, map, drop, slice_index_or, refl}
use Rattle.std.proofs.Common.{sym, ap, append-nil, append_assoc, arith, add-one}
use Rattle.std.proofs.lemmas.List.{map-append}
use Rattle.std.specs.List.{flat_map}
use Rattle.dv_objects.specs.declared.canceller.Canceller.{Canceller}
use Rattle.dv_objects.specs.Pair.{Pair}
use Rattle.dv_objects.specs.declared.pair.Side.{Side}
use Rattle.dv_store.specs.declared.record.Item.{Item}
use Rattle.dv_store.specs.declared.record.Record.{Record}
use Rattle.dv_world.specs.World.{Records}
use Rattle.dv_left.proofs.ListsLemmas.{joined_both, next_at}
use Rattle.dv_left.specs.Hanging.{Links, all_hung, by_item, by_records, hung_by, hung_in_lines, task_held_by}
use Rattle.dv_left.specs.Hanging.{turn_held_by}
use Rattle.dv_left.specs.Linking.{with_hung, with_links}
use Rattle.dv_left.specs.declared.left.Hang.{Hang}
use Rattle.dv_left.specs.declared.linking.Links.{Links as Gathered}

-- what the last one hasn't used comes last
records_more : {A : Type 0} (of_side : ℕ → Side → Links A) (c : ℕ) (rs : Records) (r : Record Pair Canceller) →
    by_records of_side c (rs ++ r ∷ []) ≡ by_records of_side c rs ++ flat_map (by_item of_side (c + length rs)) r.items
records_more of_side c [] r =
    let none : c + 0 ≡ c = omega arith in
    rw none (append-nil (flat_map (by_item of_side c) r.items))
records_more of_side c (first ∷ rs) r =
    let later : suc c + length rs ≡ c + suc (length rs) = omega arith in
    ap (λ links. flat_map (by_item of_side c) first.items ++ links) (rw (sym later) (records_more of_side (suc c) rs r))
    ∙ sym (append_assoc (flat_map (by_item of_side c) first.items) (by_records of_side (suc c) rs)
    (flat_map (by_item of_side (c + suc (length rs))) r.items))

-- from the first one on
records_next : {A : Type 0} (of_side : ℕ → Side → Links A) (rs : Records) (r : Record Pair Canceller) →
    by_records of_side 0 (rs ++ r ∷ []) ≡ by_records of_side 0 rs ++ flat_map (by_item of_side (length rs)) r.items
records_next of_side rs r =
    let number : 0 + length rs ≡ length rs = omega arith in
    rw (sym number) (records_more of_side 0 rs r)

-- links are gathered one after the other
pub links_both : (h1 h2 : Links Hang) (l1 l2 t1 t2 : Links ℕ) (links : Gathered) →
    with_links (h1 ++ h2) (l1 ++ l2) (t1 ++ t2) links ≡ with_links h2 l2 t2 (with_links h1 l1 t1 links)
links_both h1 h2 l1 l2 t1 t2 links =
    rw (joined_both h1 h2 links.deferreds, joined_both l1 l2 links.loops, joined_both t1 t2 links.tasks) refl

pub hung_both : (first second : Links Hang) (links : Gathered)
    → with_hung (first ++ second) links ≡ with_hung second (with_hung first links)
hung_both first second links = rw (joined_both first second links.deferreds) refl

-- what the next Deferred hasn't used is gathered next
pub next_record : (rs : Records) (r : Record Pair Canceller) (links : Gathered) →
    with_links (by_records hung_by 0 (rs ++ r ∷ [])) (by_records turn_held_by 0 (rs ++ r ∷ []))
    (by_records task_held_by 0 (rs ++ r ∷ [])) links
    ≡ with_links (flat_map (by_item hung_by (length rs)) r.items) (flat_map (by_item turn_held_by (length rs)) r.items)
    (flat_map (by_item task_held_by (length rs)) r.items)
    (with_links (by_records hung_by 0 rs) (by_records turn_held_by 0 rs) (by_records task_held_by 0 rs) links)
next_record rs r links =
    rw (records_next hung_by rs r, records_next turn_held_by rs r, records_next task_held_by rs r)
    (links_both (by_records hung_by 0 rs) (flat_map (by_item hung_by (length rs)) r.items)
    (by_records turn_held_by 0 rs) (flat_map (by_item turn_held_by (length rs)) r.items) (by_records task_held_by 0 rs)
    (flat_map (by_item task_held_by (length rs)) r.items) links)

-- who waits in the next line is gathered next
pub next_line : {A : Type 0} (at : ℕ → Hang) (waiting : A → List ℕ) (n : ℕ) (xs : List A) (x : A) (links : Gathered)
    → n < length xs → x ≡ slice_index_or xs n x →
    with_hung (hung_in_lines at n (map waiting (drop n xs))) links ≡ with_hung
    (hung_in_lines at (n + 1) (map waiting (drop (n + 1) xs))) (with_hung (all_hung (at n) (waiting x)) links)
next_line at waiting n xs x links low is =
    rw add-one (ap (λ ys. with_hung (hung_in_lines at n (map waiting ys)) links) (next_at xs n x low is)
    ∙ rw add-one
    (hung_both (all_hung (at n) (waiting x)) (hung_in_lines at (suc n) (map waiting (drop (suc n) xs))) links))

-- the same, where that was gathered
pub line_kept : {A : Type 0}
    (at : ℕ → Hang) (waiting : A → List ℕ) (n : ℕ) (xs : List A) (x : A) (ids : List ℕ) (links more target : Gathered)
    → n < length xs → x ≡ slice_index_or xs n x →
    ids ≡ waiting x → more ≡ with_hung (all_hung (at n) ids) links
    → with_hung (hung_in_lines at n (map waiting (drop n xs))) links ≡ target →
    with_hung (hung_in_lines at (n + 1) (map waiting (drop (n + 1) xs))) more ≡ target
line_kept at waiting n xs x ids links more target low is all gathered kept =
    ap (with_hung (hung_in_lines at (n + 1) (map waiting (drop (n + 1) xs))))
    (gathered ∙ ap (λ ds. with_hung (all_hung (at n) ds) links) all)
    ∙ sym (next_line at waiting n xs x links low is) ∙ kept

-- and what the next Deferred hasn't used
pub record_kept : (rs : Records) (r : Record Pair Canceller) (number : ℕ) (items : List (Item Pair))
    (first links more : Gathered) → number ≡ length rs → items ≡ r.items →
    links ≡ with_links (by_records hung_by 0 rs) (by_records turn_held_by 0 rs) (by_records task_held_by 0 rs) first →
    more ≡ with_links (flat_map (by_item hung_by number) items) (flat_map (by_item turn_held_by number) items)
    (flat_map (by_item task_held_by number) items) links →
    more ≡ with_links (by_records hung_by 0 (rs ++ r ∷ [])) (by_records turn_held_by 0 (rs ++ r ∷ []))
    (by_records task_held_by 0 (rs ++ r ∷ [])) first
record_kept rs r number items first links more count same before after =
    after
    ∙ ap (λ is. with_links (flat_map (by_item hung_by number) is) (flat_map (by_item turn_held_by number) is)
    (flat_map (by_item task_held_by number) is) links) same
    ∙ ap (λ n. with_links (flat_map (by_item hung_by n) r.items) (flat_map (by_item turn_held_by n) r.items)
    (flat_map (by_item task_held_by n) r.items) links) count
    ∙ ap (with_links (flat_map (by_item hung_by (length rs)) r.items)
    (flat_map (by_item turn_held_by (length rs)) r.items) (flat_map (by_item task_held_by (length rs)) r.items)) before
    ∙ sym (next_record rs r first)

-- what is made of one more is added last
pub pushed : {A B : Type 0} (f : A → B) (ys : List A) (x : A) (item : B) (old new : List B) → new ≡ old ++ item ∷ []
    → old ≡ map f ys → item ≡ f x → new ≡ map f (ys ++ x ∷ [])
pushed f ys x item old new added all is =
    added ∙ ap (λ l. l ++ item ∷ []) all ∙ ap (λ y. map f ys ++ y ∷ []) is ∙ sym (map-append f ys (x ∷ []))
