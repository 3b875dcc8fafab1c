-- How many sequences there are, and in how many ways each is cut.
use Rattle.std.proofs.Common.{arith, ◌≡◌, ℕ, zero, suc, ◌+◌, ◌*◌, List, [], ◌∷◌, ◌∙◌, length, map, refl, sym, ap}
use Rattle.std.proofs.Common.{mul-add, add-mul, suc-mul, zero-mul, mul-zero}
use Rattle.std.proofs.lemmas.List.{length-map}
use mathlib.Core.Logic.{inl, inr}
use Rattle.dv_script.specs.declared.event.Event.{Event}
use Rattle.dv_script.specs.declared.event.Event.TheVariants as event
use Rattle.dv_posts.specs.Batches.{Batch}
use Rattle.dv_orders.specs.Numbers.{number_of_cuts, number_of_sequences, sum_over_splits, ways}
use Rattle.dv_orders.specs.Orders.{after_post, beside, choices, counts_of, cuts, sequences, splits, total}
use Rattle.dv_orders.proofs.Members.{In, length_flat, sum_map, sum_over, sum_same}
use Rattle.dv_orders.proofs.Choosing.{choices_take_one}

-- the sum over splits, told by the numbers of posts alone
splits_counted : (number : ℕ → ℕ) (most : ℕ) (sequence : Batch)
    → sum_over (λ split. number (length split.left)) (splits most sequence)
    ≡ sum_over_splits number most (length sequence)
splits_counted number zero sequence = omega arith
splits_counted number (suc most) [] = omega arith
splits_counted number (suc most) (p ∷ sequence) =
    ap (λ n. number (suc (length sequence)) + n) (sum_map (λ split. number (length split.left)) (after_post p)
    (splits most sequence) ∙ splits_counted number most sequence)

-- a sequence is cut in as many ways as its length tells
pub cuts_counted : (events : List Event) (sequence : Batch)
    → length (cuts events sequence) ≡ number_of_cuts events (length sequence)
cuts_counted [] sequence = refl
cuts_counted (event.Action action ∷ events) sequence = cuts_counted events sequence
cuts_counted (event.Advance ticks ∷ events) sequence = cuts_counted events sequence
cuts_counted (event.Expect name expected ∷ events) sequence = cuts_counted events sequence
cuts_counted (event.Drain most ∷ events) sequence =
    length_flat (λ split. map (λ l. split.taken ∷ l) (cuts events split.left)) (splits most sequence)
    ∙ sum_same (λ split. length (map (λ l. split.taken ∷ l) (cuts events split.left)))
    (λ split. number_of_cuts events (length split.left)) (splits most sequence)
    (λ split i. length-map (cuts events split.left) (λ l. split.taken ∷ l) ∙ cuts_counted events split.left)
    ∙ splits_counted (number_of_cuts events) most sequence

-- a factor before a sum
factor : {X : Type 0} (n : ℕ) (f : X → ℕ) (xs : List X) → sum_over (λ x. n * f x) xs ≡ n * sum_over f xs
factor n f [] = sym (mul-zero n)
factor n f (x ∷ xs) = ap (λ m. n * f x + m) (factor n f xs) ∙ sym (mul-add n (f x) (sum_over f xs))

-- where no post is left, there is no choice
no_choice : (callers : List Batch) → total (counts_of callers) ≡ 0 → choices callers ≡ []
no_choice [] none = refl
no_choice ([] ∷ callers) none = ap (map (beside [])) (no_choice callers (omega (arith, none)))
no_choice ((p ∷ posts) ∷ callers) none = absurd (omega (arith, none))

-- the posts of one caller more come among those sequences
among_others : (own n : ℕ) (callers : List Batch) → total (counts_of callers) ≡ n → (number : ℕ) → ((m : ℕ) → n ≡ suc m
    → sum_over (λ choice. number_of_sequences (counts_of choice.left)) (choices callers) ≡ number)
    → ways own n * number + sum_over (λ choice. ways (suc own) (total (counts_of choice.left))
    * number_of_sequences (counts_of choice.left)) (choices callers) ≡ ways (suc own) n * number
among_others own zero callers all number rest =
    ap (λ l. ways own 0 * number + sum_over (λ choice. ways (suc own) (total (counts_of choice.left))
    * number_of_sequences (counts_of choice.left)) l) (no_choice callers all) ∙ omega arith
among_others own (suc n) callers all number rest =
    ap (λ m. ways own (suc n) * number + m)
    (sum_same (λ choice. ways (suc own) (total (counts_of choice.left)) * number_of_sequences (counts_of choice.left))
    (λ choice. ways (suc own) n * number_of_sequences (counts_of choice.left)) (choices callers)
    (λ choice i. ap (λ m. ways (suc own) m * number_of_sequences (counts_of choice.left)) (let one =
    choices_take_one callers choice i in omega arith))
    ∙ factor (ways (suc own) n) (λ choice. number_of_sequences (counts_of choice.left)) (choices callers)
    ∙ ap (λ m. ways (suc own) n * m) (rest n refl))
    ∙ sym (add-mul (ways own (suc n)) (ways (suc own) n) number)

-- there are as many sequences as after all choices together
left_counted : (n : ℕ) (callers : List Batch) → total (counts_of callers) ≡ suc n
    → sum_over (λ choice. number_of_sequences (counts_of choice.left)) (choices callers)
    ≡ number_of_sequences (counts_of callers)
left_counted n [] all = absurd (omega (arith, all))
left_counted n ([] ∷ callers) all =
    sum_map (λ choice. number_of_sequences (counts_of choice.left)) (beside []) (choices callers)
    ∙ factor 1 (λ choice. number_of_sequences (counts_of choice.left)) (choices callers)
    ∙ ap (λ m. 1 * m) (left_counted n callers (omega (arith, all)))
left_counted n ((p ∷ posts) ∷ callers) all =
    ap (λ m. ways (length posts) (total (counts_of callers)) * number_of_sequences (counts_of callers) + m)
    (sum_map (λ choice. number_of_sequences (counts_of choice.left)) (beside (p ∷ posts)) (choices callers))
    ∙ among_others (length posts) (total (counts_of callers)) callers refl (number_of_sequences (counts_of callers))
    (λ m is. left_counted m callers is)

none_counted : (callers : List Batch) → total (counts_of callers) ≡ 0 → number_of_sequences (counts_of callers) ≡ 1
none_counted [] none = refl
none_counted ([] ∷ callers) none = ap (λ m. 1 * m) (none_counted callers (omega (arith, none)))
none_counted ((p ∷ posts) ∷ callers) none = absurd (omega (arith, none))

-- there are as many sequences as the numbers of posts tell
pub sequences_counted : (n : ℕ) (callers : List Batch) → total (counts_of callers) ≡ n
    → length (sequences n callers) ≡ number_of_sequences (counts_of callers)
sequences_counted zero callers all = sym (none_counted callers all)
sequences_counted (suc n) callers all =
    length_flat (λ choice. map (λ s. choice.posted ∷ s) (sequences n choice.left)) (choices callers)
    ∙ sum_same (λ choice. length (map (λ s. choice.posted ∷ s) (sequences n choice.left)))
    (λ choice. number_of_sequences (counts_of choice.left)) (choices callers)
    (λ choice i. length-map (sequences n choice.left) (λ s. choice.posted ∷ s)
    ∙ sequences_counted n choice.left (let one = choices_take_one callers choice i in omega arith))
    ∙ left_counted n callers all

-- as many of each
pub same_number : {X : Type 0} (f : X → ℕ) (n : ℕ) (xs : List X) → ((x : X) → In x xs → f x ≡ n)
    → sum_over f xs ≡ length xs * n
same_number f n [] same = sym (zero-mul n)
same_number f n (x ∷ xs) same =
    let here = same x (inl refl) in let later = same_number f n xs (λ z i. same z (inr i)) in
    omega (arith, suc-mul (length xs) n)
