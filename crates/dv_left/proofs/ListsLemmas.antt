-- Lists that items join by number have the items of their numbers.
use Rattle.std.proofs.Common.{◌≡◌, ◌≢◌, ℕ, suc, ◌+◌, ◌<◌, ◌==◌, Bool, true, false, cond, nat_eq, List, [], ◌∷◌, ◌++◌}
use Rattle.std.proofs.Common.{◌∙◌, length, map, replicate, drop, slice_index_or, slice_get, slice_set, get_or, Option}
use Rattle.std.proofs.Common.{Some, None, refl, sym, ap, subst, arith, add-one, append-nil, append_assoc}
use Rattle.std.proofs.Math.Seq.{drop-cons}
use Rattle.std.proofs.lemmas.Bool.Decides.{nat_tests}
use Rattle.std.proofs.lemmas.List.{length-set, length-replicate, get_or-replicate}
use Rattle.std.proofs.lemmas.Option.{slice_get-get_or}
use Rattle.std.specs.List.{filter}
use Rattle.dv_clock.proofs.CallsLemmas.{placed_there, others_stay}
use Rattle.dv_left.specs.Lists.{joined, joined_found, all_joined, list_at, list_found, items_of}

-- the next one stands first among those that are left
pub next_at : {A : Type 0} (xs : List A) (i : ℕ) (x : A) → i < length xs → x ≡ slice_index_or xs i x
    → drop i xs ≡ x ∷ drop (i + 1) xs
next_at xs i x low is =
    drop-cons xs i x low ∙ ap (λ y. y ∷ drop (suc i) xs) (sym is) ∙ ap (λ n. x ∷ drop n xs) (sym (add-one i))

-- links that stand one after the other join one after the other
pub joined_both : {A : Type 0} (first second : List (ℕ × A)) (lists : List (List A))
    → all_joined (first ++ second) lists ≡ all_joined second (all_joined first lists)
joined_both [] second lists = refl
joined_both (link ∷ first) second lists = joined_both first second (joined link.0 link.1 lists)

same_number : (n m : ℕ) → nat_eq n m ≡ true → n ≡ m
same_number n m e = grind (arith, nat_tests)

other_number : (n m : ℕ) → nat_eq n m ≡ false → m ≢ n
other_number n m e = grind (arith, nat_tests)

-- there are as many lists as before
length_found : {A : Type 0} (number : ℕ) (item : A) (found : Option (List A)) (lists : List (List A))
    → length (joined_found number item found lists) ≡ length lists
length_found number item None lists = refl
length_found number item (Some list) lists = length-set lists number (list ++ item ∷ [])

-- an item joins its own list
same_found : {A : Type 0} (number : ℕ) (item : A) (lists : List (List A)) (found : Option (List A))
    → slice_get lists number ≡ found → number < length lists →
    list_found (slice_get (joined_found number item found lists) number) ≡ list_found found ++ item ∷ []
same_found number item lists None h low =
    let there : slice_get lists number ≡ Some (get_or lists number []) = slice_get-get_or lists number [] low in
    absurd cc
same_found number item lists (Some list) h low = ap list_found (placed_there lists number list (list ++ item ∷ []) h)

-- and no other
other_found : {A : Type 0} (number k : ℕ) (item : A) (lists : List (List A)) (found : Option (List A)) → number ≢ k →
    list_found (slice_get (joined_found k item found lists) number) ≡ list_at number lists
other_found number k item lists None h = refl
other_found number k item lists (Some list) h = ap list_found (others_stay lists k number (list ++ item ∷ []) h)

-- what a list has after one link more
one_told : {A : Type 0} (b : Bool) (number k : ℕ) (item : A) (lists : List (List A)) → nat_eq k number ≡ b
    → number < length lists →
    list_at number (joined k item lists) ≡ list_at number lists ++ cond b (item ∷ []) []
one_told true number k item lists h low =
    subst (λ j. list_at number (joined j item lists) ≡ list_at number lists ++ item ∷ []) (sym (same_number k number h))
    (same_found number item lists (slice_get lists number) refl low)
one_told false number k item lists h low =
    other_found number k item lists (slice_get lists k) (other_number k number h)
    ∙ sym (append-nil (list_at number lists))

-- the items of a number, after a link that is of it or isn't
first_item : {A : Type 0} (b : Bool) (number : ℕ) (link : ℕ × A) (links : List (ℕ × A)) → nat_eq link.0 number ≡ b →
    cond b (link.1 ∷ []) [] ++ items_of number links ≡ items_of number (link ∷ links)
first_item true number link links h = rw h refl
first_item false number link links h = rw h refl

-- a list has what it had, and then the items of its number
pub told_at : {A : Type 0} (number : ℕ) (links : List (ℕ × A)) (lists : List (List A)) → number < length lists
    → list_at number (all_joined links lists) ≡ list_at number lists ++ items_of number links
told_at number [] lists low = sym (append-nil (list_at number lists))
told_at number (link ∷ links) lists low =
    let more = joined link.0 link.1 lists in
    let b = nat_eq link.0 number in
    let still : number < length more =
    subst (λ n. number < n) (sym (length_found link.0 link.1 (slice_get lists link.0) lists)) low in
    told_at number links more still
    ∙ ap (λ list. list ++ items_of number links) (one_told b number link.0 link.1 lists refl low)
    ∙ append_assoc (list_at number lists) (cond b (link.1 ∷ []) []) (items_of number links)
    ∙ ap (λ items. list_at number lists ++ items) (first_item b number link links refl)

-- of lists that were empty
pub told_whole : {A : Type 0} (number count : ℕ) (links : List (ℕ × A)) → number < count
    → list_at number (all_joined links (replicate count [])) ≡ items_of number links
told_whole number count links low =
    let lists = replicate count [] in
    let within : number < length lists = subst (λ n. number < n) (sym (length-replicate count [])) low in
    let empty : list_at number lists ≡ [] =
    ap list_found (slice_get-get_or lists number [] within ∙ ap Some (get_or-replicate count number [] [] low)) in
    told_at number links lists within ∙ ap (λ list. list ++ items_of number links) empty
