-- Members of lists, and lists that hold each member once.
use Rattle.std.proofs.Common.{arith, ◌≡◌, ◌≢◌, ℕ, zero, suc, ◌+◌, ◌<◌, List, [], ◌∷◌, ◌++◌, ◌∙◌, length, map, flat_map}
use Rattle.std.proofs.Common.{slice_index_or, AllPairs, Contains, refl, sym, ap, subst, length-append}
use Rattle.std.specs.Prelude.{⊤}
use mathlib.Core.Logic.{◌⊎◌, inl, inr}

-- a member of a list
abbrev pub In : {X : Type 0} → X → List X → Type 0
In x [] = ⊥
In x (y ∷ ys) = (y ≡ x) ⊎ In x ys

pub in_left : {X : Type 0} (x : X) (xs ys : List X) → In x xs → In x (xs ++ ys)
in_left x [] ys h = absurd h
in_left x (y ∷ xs) ys (inl e) = inl e
in_left x (y ∷ xs) ys (inr h) = inr (in_left x xs ys h)

pub in_right : {X : Type 0} (x : X) (xs ys : List X) → In x ys → In x (xs ++ ys)
in_right x [] ys h = h
in_right x (y ∷ xs) ys h = inr (in_right x xs ys h)

pub in_either : {X : Type 0} (x : X) (xs ys : List X) → In x (xs ++ ys) → In x xs ⊎ In x ys
in_either x [] ys h = inr h
in_either x (y ∷ xs) ys (inl e) = inl (inl e)
in_either x (y ∷ xs) ys (inr h) = elim (in_either x xs ys h) [ inl l ↦ inl (inr l) | inr r ↦ inr r ]

pub in_map : {X Y : Type 0} (f : X → Y) (x : X) (xs : List X) → In x xs → In (f x) (map f xs)
in_map f x [] h = absurd h
in_map f x (y ∷ xs) (inl e) = inl (ap f e)
in_map f x (y ∷ xs) (inr h) = inr (in_map f x xs h)

-- where a member of a list that is mapped comes from
pub of_map : {X Y : Type 0} (f : X → Y) (y : Y) (xs : List X) → In y (map f xs) → (x : X) × In x xs × (f x ≡ y)
of_map f y [] h = absurd h
of_map f y (x ∷ xs) (inl e) = (x, inl refl, e)
of_map f y (x ∷ xs) (inr h) = let r = of_map f y xs h in (r.0, inr r.1, r.2)

pub in_flat : {X Y : Type 0} (f : X → List Y) (x : X) (y : Y) (xs : List X) → In x xs → In y (f x)
    → In y (flat_map f xs)
in_flat f x y [] h k = absurd h
in_flat f x y (z ∷ xs) (inl e) k = in_left y (f z) (flat_map f xs) (subst (λ w. In y (f w)) (sym e) k)
in_flat f x y (z ∷ xs) (inr h) k = in_right y (f z) (flat_map f xs) (in_flat f x y xs h k)

pub of_flat : {X Y : Type 0} (f : X → List Y) (y : Y) (xs : List X) → In y (flat_map f xs)
    → (x : X) × In x xs × In y (f x)
of_flat f y [] h = absurd h
of_flat {X} f y (x ∷ xs) h = elim (in_either y (f x) (flat_map f xs) h) [
  | inl l ↦ (x, inl refl, l)
  | inr r ↦ let t = of_flat f y xs r in (t.0, inr t.1, t.2)
]

-- each member once
abbrev pub Distinct : {X : Type 0} → List X → Type 0
Distinct [] = ⊤
Distinct (x ∷ xs) = (In x xs → ⊥) × Distinct xs

pub distinct_append : {X : Type 0} (xs ys : List X) → Distinct xs → Distinct ys → ((x : X) → In x xs → In x ys → ⊥)
    → Distinct (xs ++ ys)
distinct_append [] ys h k apart = k
distinct_append (x ∷ xs) ys h k apart = (
  λ i. elim (in_either x xs ys i) [ inl l ↦ h.0 l | inr r ↦ apart x (inl refl) r ],
  distinct_append xs ys h.1 k (λ z i j. apart z (inr i) j),
)

pub distinct_map : {X Y : Type 0} (f : X → Y) (xs : List X) → ((a b : X) → f a ≡ f b → a ≡ b) → Distinct xs
    → Distinct (map f xs)
distinct_map f [] one h = tt
distinct_map {X} f (x ∷ xs) one h = (
  λ i. let r = of_map f (f x) xs i in h.0 (subst (λ (z : X). In z xs) (one r.0 x r.2) r.1),
  distinct_map f xs one h.1,
)

-- members of pieces of different kinds are apart
pub distinct_flat : {X Y K : Type 0} (f : X → List Y) (key : X → K) (kind : Y → K) (xs : List X)
    → ((x : X) → In x xs → Distinct (f x)) → ((x : X) (y : Y) → In x xs → In y (f x) → kind y ≡ key x)
    → Distinct (map key xs) → Distinct (flat_map f xs)
distinct_flat f key kind [] each told h = tt
distinct_flat {X} {Y} {K} f key kind (x ∷ xs) each told h =
    distinct_append (f x) (flat_map f xs) (each x (inl refl))
    (distinct_flat f key kind xs (λ z i. each z (inr i)) (λ z y i j. told z y (inr i) j) h.1)
    (λ y i j. let r = of_flat f y xs j in
    h.0 (subst (λ (k : K). In k (map key xs)) (sym (told r.0 y (inr r.1) r.2) ∙ told x y (inl refl) i)
    (in_map key r.0 xs r.1)))

-- members by their places
pub in_at : {X : Type 0} (xs : List X) (k : ℕ) (d : X) → k < length xs → In (slice_index_or xs k d) xs
in_at [] k d low = absurd (omega (arith, low))
in_at (x ∷ xs) zero d low = inl refl
in_at (x ∷ xs) (suc k) d low = inr (in_at xs k d (omega (arith, low)))

pub contains_from : {X : Type 0} (x : X) (xs : List X) → In x xs → Contains xs x
contains_from x [] h = absurd h
contains_from x (y ∷ xs) (inl e) = (0, omega arith, e)
contains_from x (y ∷ xs) (inr h) = let r = contains_from x xs h in (suc r.0, omega (arith, r.1), r.2)

pub in_from : {X : Type 0} (x : X) (xs : List X) → Contains xs x → In x xs
in_from {X} x xs h = subst (λ (z : X). In z xs) h.2 (in_at xs h.0 x h.1)

pub pairs_from : {X : Type 0} (xs : List X) → Distinct xs → AllPairs (λ a b. a ≢ b) xs
pairs_from [] h i j d less low = absurd (omega (arith, low))
pairs_from (x ∷ xs) h i zero d less low = absurd (omega (arith, less))
pairs_from {X} (x ∷ xs) h zero (suc j) d less low =
    λ e. h.0 (subst (λ (z : X). In z xs) (sym e) (in_at xs j d (omega (arith, low))))
pairs_from (x ∷ xs) h (suc i) (suc j) d less low = pairs_from xs h.1 i j d (omega (arith, less)) (omega (arith, low))

-- the sum over a list
abbrev pub sum_over : {X : Type 0} → (X → ℕ) → List X → ℕ
sum_over f [] = 0
sum_over f (x ∷ xs) = f x + sum_over f xs

pub length_flat : {X Y : Type 0} (f : X → List Y) (xs : List X)
    → length (flat_map f xs) ≡ sum_over (λ x. length (f x)) xs
length_flat f [] = refl
length_flat f (x ∷ xs) = length-append (f x) (flat_map f xs) ∙ ap (λ n. length (f x) + n) (length_flat f xs)

pub sum_same : {X : Type 0} (f g : X → ℕ) (xs : List X) → ((x : X) → In x xs → f x ≡ g x)
    → sum_over f xs ≡ sum_over g xs
sum_same f g [] same = refl
sum_same f g (x ∷ xs) same =
    ap (λ n. n + sum_over f xs) (same x (inl refl)) ∙ ap (λ n. g x + n) (sum_same f g xs (λ z i. same z (inr i)))

pub sum_map : {X Y : Type 0} (f : Y → ℕ) (g : X → Y) (xs : List X) → sum_over f (map g xs) ≡ sum_over (λ x. f (g x)) xs
sum_map f g [] = refl
sum_map f g (x ∷ xs) = ap (λ n. f (g x) + n) (sum_map f g xs)

pub map_map : {X Y Z : Type 0} (f : Y → Z) (g : X → Y) (xs : List X) → map f (map g xs) ≡ map (λ x. f (g x)) xs
map_map f g [] = refl
map_map f g (x ∷ xs) = ap (λ l. f (g x) ∷ l) (map_map f g xs)
