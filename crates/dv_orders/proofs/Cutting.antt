-- A sequence is cut in every way in which its batches fit the drains.
use Rattle.std.proofs.Common.{arith, ◌≡◌, ℕ, zero, suc, ◌≤◌, List, [], ◌∷◌, ◌++◌, ◌∙◌, length, map, flat_map}
use Rattle.std.proofs.Common.{slice_index_or, refl, sym, ap, subst, append-nil}
use mathlib.Core.Logic.{inl, inr}
use Rattle.dv_script.specs.declared.event.Event.{Event}
use Rattle.dv_script.specs.declared.event.Event.TheVariants as event
use Rattle.dv_posts.specs.Batches.{Batch, Fit, joined}
use Rattle.dv_orders.specs.Orders.{Split, after_post, cuts, empty_batches, splits}
use Rattle.dv_orders.proofs.Members.{In, Distinct, distinct_flat, distinct_map, in_flat, in_map, of_flat, of_map}
use Rattle.dv_orders.proofs.Members.{map_map}

-- a split takes first posts of the sequence, so many at most
record SplitsUp (most : ℕ) (sequence : Batch) (split : Split) : Type 0 where
  whole : split.taken ++ split.left ≡ sequence
  few : length split.taken ≤ most

splits_up : (most : ℕ) (sequence : Batch) (split : Split) → In split (splits most sequence)
    → SplitsUp most sequence split
splits_up zero sequence split (inl e) = subst (SplitsUp 0 sequence) e (record { whole = refl; few = omega arith })
splits_up zero sequence split (inr h) = absurd h
splits_up (suc most) [] split (inl e) = subst (SplitsUp (suc most) []) e (record { whole = refl; few = omega arith })
splits_up (suc most) [] split (inr h) = absurd h
splits_up (suc most) (p ∷ sequence) split (inl e) =
    subst (SplitsUp (suc most) (p ∷ sequence)) e (record { whole = refl; few = omega arith })
splits_up (suc most) (p ∷ sequence) split (inr h) =
    let r = of_map (after_post p) split (splits most sequence) h in
    let up = splits_up most sequence r.0 r.1 in
    subst (SplitsUp (suc most) (p ∷ sequence)) r.2
    (record { whole = ap (λ l. p ∷ l) up.whole; few = let few = up.few in omega arith })

in_splits : (most : ℕ) (taken left : Batch) → length taken ≤ most
    → In (record { taken = taken; left = left }) (splits most (taken ++ left))
in_splits zero [] left few = inl refl
in_splits zero (p ∷ taken) left few = absurd (omega (arith, few))
in_splits (suc most) [] [] few = inl refl
in_splits (suc most) [] (p ∷ left) few = inl refl
in_splits (suc most) (p ∷ taken) left few =
    inr (in_map (after_post p) (record { taken = taken; left = left }) (splits most (taken ++ left))
    (in_splits most taken left (omega (arith, few))))

-- the splits of a sequence take different first posts
splits_differ : (most : ℕ) (sequence : Batch) → Distinct (map (λ split. split.taken) (splits most sequence))
splits_differ zero sequence = (λ h. h, tt)
splits_differ (suc most) [] = (λ h. h, tt)
splits_differ (suc most) (p ∷ sequence) = (
  λ i.
      let r = of_map (λ split. split.taken) [] (map (after_post p) (splits most sequence)) i in
      let s = of_map (after_post p) r.0 (splits most sequence) r.1 in
      let e : p ∷ s.0.taken ≡ [] = ap (λ x. x.taken) s.2 ∙ r.2 in
      absurd cc,
  subst (λ (l : List Batch). Distinct l) (map_map (λ l. p ∷ l) (λ split. split.taken)
      (splits most sequence) ∙ sym (map_map (λ split. split.taken) (after_post p) (splits most sequence)))
      (distinct_map (λ l. p ∷ l) (map (λ split. split.taken) (splits most sequence)) (λ a b e. cc)
      (splits_differ most sequence)),
)

-- batches that a sequence is cut into fit, and are the sequence
pub record CutsUp (events : List Event) (sequence : Batch) (batches : List Batch) : Type 0 where
  pub fit : Fit events batches
  pub whole : joined batches ≡ sequence

pub cuts_up : (events : List Event) (sequence : Batch) (batches : List Batch) → In batches (cuts events sequence)
    → CutsUp events sequence batches
cuts_up [] sequence batches (inl e) = subst (CutsUp [] sequence) e (record { fit = refl; whole = append-nil sequence })
cuts_up [] sequence batches (inr h) = absurd h
cuts_up (event.Action action ∷ events) sequence batches h =
    let up = cuts_up events sequence batches h in record { fit = up.fit; whole = up.whole }
cuts_up (event.Advance ticks ∷ events) sequence batches h =
    let up = cuts_up events sequence batches h in record { fit = up.fit; whole = up.whole }
cuts_up (event.Expect name expected ∷ events) sequence batches h =
    let up = cuts_up events sequence batches h in record { fit = up.fit; whole = up.whole }
cuts_up (event.Drain most ∷ events) sequence batches h =
    let r = of_flat (λ split. map (λ l. split.taken ∷ l) (cuts events split.left)) batches (splits most sequence) h in
    let rest = of_map (λ l. r.0.taken ∷ l) batches (cuts events r.0.left) r.2 in
    let split = splits_up most sequence r.0 r.1 in
    let up = cuts_up events r.0.left rest.0 rest.1 in
    subst (CutsUp (event.Drain most ∷ events) sequence) rest.2
    (record { fit = (split.few, up.fit); whole = ap (λ l. r.0.taken ++ l) up.whole ∙ split.whole })

-- batches that fit are among those that their posts are cut into
pub in_cuts : (events : List Event) (batches : List Batch) → Fit events batches
    → In batches (cuts events (joined batches))
in_cuts [] [] fit = absurd fit
in_cuts [] (batch ∷ batches) fit =
    inl (ap (λ l. l ∷ []) (ap (λ l. batch ++ joined l) fit ∙ append-nil batch) ∙ ap (λ l. batch ∷ l) (sym fit))
in_cuts (event.Action action ∷ events) batches fit = in_cuts events batches fit
in_cuts (event.Advance ticks ∷ events) batches fit = in_cuts events batches fit
in_cuts (event.Expect name expected ∷ events) batches fit = in_cuts events batches fit
in_cuts (event.Drain most ∷ events) [] fit = absurd fit
in_cuts (event.Drain most ∷ events) (batch ∷ batches) fit =
    in_flat (λ split. map (λ l. split.taken ∷ l) (cuts events split.left)) (record {
      taken = batch;
      left = joined batches;
    }) (batch ∷ batches) (splits most (batch ++ joined batches)) (in_splits most batch (joined batches) fit.0)
    (in_map (λ l. batch ∷ l) batches (cuts events (joined batches)) (in_cuts events batches fit.1))

-- no way to cut a sequence is there twice
pub cuts_differ : (events : List Event) (sequence : Batch) → Distinct (cuts events sequence)
cuts_differ [] sequence = (λ h. h, tt)
cuts_differ (event.Action action ∷ events) sequence = cuts_differ events sequence
cuts_differ (event.Advance ticks ∷ events) sequence = cuts_differ events sequence
cuts_differ (event.Expect name expected ∷ events) sequence = cuts_differ events sequence
cuts_differ (event.Drain most ∷ events) sequence =
    distinct_flat (λ split. map (λ l. split.taken ∷ l) (cuts events split.left)) (λ split. split.taken)
    (λ l. slice_index_or l 0 []) (splits most sequence)
    (λ split i.
    distinct_map (λ l. split.taken ∷ l) (cuts events split.left) (λ a b e. cc) (cuts_differ events split.left))
    (λ split l i j. let r = of_map (λ l. split.taken ∷ l) l (cuts events split.left) j in
    sym (ap (λ (l : List Batch). slice_index_or l 0 []) r.2))
    (splits_differ most sequence)

-- no posts are cut in one way: into empty batches
nothing_splits : (most : ℕ) → splits most [] ≡ record { taken = []; left = [] } ∷ []
nothing_splits zero = refl
nothing_splits (suc most) = refl

pub nothing_cut : (events : List Event) → cuts events [] ≡ empty_batches events ∷ []
nothing_cut [] = refl
nothing_cut (event.Action action ∷ events) = nothing_cut events
nothing_cut (event.Advance ticks ∷ events) = nothing_cut events
nothing_cut (event.Expect name expected ∷ events) = nothing_cut events
nothing_cut (event.Drain most ∷ events) =
    ap (flat_map (λ split. map (λ batches. split.taken ∷ batches) (cuts events split.left))) (nothing_splits most)
    ∙ ap (λ l. map (λ batches. [] ∷ batches) l ++ []) (nothing_cut events)
