-- Batches that are taken one after the other.
use Rattle.std.proofs.Common.{arith, ◌≡◌, ℕ, zero, suc, ◌+◌, ◌<◌, ◌≤◌, List, [], ◌∷◌, ◌++◌, ◌∙◌, OnOk, Result, Ok, Err}
use Rattle.std.proofs.Common.{length, take, drop, slice_index_or, refl, sym, ap, subst, add-one, append_assoc}
use Rattle.std.proofs.Math.Seq.{take-suc}
use Rattle.dv_engine.specs.Engine.{Engine, ReachesDrain, Ends, Goes, IsPlain, IsStrange, IsWithin, MayTake, NoBatch}
use Rattle.dv_engine.specs.Engine.{Takes, phase_after}
use Rattle.dv_engine.specs.declared.engine.Phase.{Phase}
use Rattle.dv_engine.specs.declared.engine.Phase.TheVariants as phase
use Rattle.dv_orders.proofs.CheckLemmas.{next_before}
use Rattle.dv_orders.specs.Listed.{AreOrder}
use Rattle.dv_posts.specs.Batches.{AreComplete, AreNext, Batch, Callers, Fit, joined}
use Rattle.dv_replay.specs.Replay.{HasTakenAll, HasTakenOne}
use Rattle.dv_script.specs.declared.event.Event.{Event}
use Rattle.dv_script.specs.declared.event.Event.TheVariants as event
use Rattle.dv_script.specs.declared.script.Script.{Script}

-- an event that is no drain takes no batch
fit_plain : (event : Event) (left : List Event) (batches : List Batch) → IsPlain event → Fit (event ∷ left) batches
    → Fit left batches
fit_plain (event.Action action) left batches plain fit = fit
fit_plain (event.Advance ticks) left batches plain fit = fit
fit_plain (event.Expect name expected) left batches plain fit = fit
fit_plain (event.Drain most) left batches plain fit = absurd plain

-- the next batch is there and short enough, and the others fit what is left
record HasNext (most : ℕ) (left : List Event) (batches : List Batch) (n : ℕ) : Type 0 where
  pub there : n < length batches
  pub few : length (slice_index_or batches n []) ≤ most
  pub fit : Fit left (drop (suc n) batches)

fit_drain : (most : ℕ) (left : List Event) (batches : List Batch) (n : ℕ)
    → Fit (event.Drain most ∷ left) (drop n batches) → HasNext most left batches n
fit_drain most left [] zero fit = absurd fit
fit_drain most left [] (suc n) fit = absurd fit
fit_drain most left (b ∷ batches) zero fit = record { there = omega arith; few = fit.0; fit = fit.1 }
fit_drain most left (b ∷ batches) (suc n) fit =
    let r = fit_drain most left batches n fit in
    record { there = let l = r.there in omega arith; few = r.few; fit = r.fit }

-- the last batch is there, and with it all are taken
fit_end : (batches : List Batch) (n : ℕ) → Fit [] (drop n batches)
    → (n < length batches) × (take (suc n) batches ≡ batches)
fit_end [] zero fit = absurd fit
fit_end [] (suc n) fit = absurd fit
fit_end (b ∷ batches) zero fit = (omega arith, ap (λ l. b ∷ l) (sym fit))
fit_end (b ∷ batches) (suc n) fit = let r = fit_end batches n fit in (let l = r.0 in omega arith, ap (λ l. b ∷ l) r.1)

-- where an event has happened that is no drain, the same batches fit what is left
pub went_fits : (before after : Engine) (batches : List Batch) → Goes before after → Fit before.left batches
    → Fit after.left batches
went_fits before after batches goes fit =
    fit_plain goes.event after.left batches goes.plain (subst (λ left. Fit left batches) goes.next fit)

-- at a drain the next batch is there and short enough, and the others fit what is left
drain_next : (most : ℕ) (before after : Engine) (batches : List Batch) (n : ℕ) → ReachesDrain most before after
    → Fit before.left (drop n batches) → HasNext most after.left batches n
drain_next most before after batches n comes fit =
    fit_drain most after.left batches n (subst (λ left. Fit left (drop n batches)) comes.next fit)

pub drain_there : (most : ℕ) (before after : Engine) (batches : List Batch) (n : ℕ) → ReachesDrain most before after
    → Fit before.left (drop n batches) → n < length batches
drain_there most before after batches n comes fit = (drain_next most before after batches n comes fit).there

pub drain_waits : (most : ℕ) (before after : Engine) (batches : List Batch) (n : ℕ) → ReachesDrain most before after
    → Fit before.left (drop n batches) → IsWithin after.phase (slice_index_or batches n [])
drain_waits most before after batches n comes fit =
    subst (λ (p : Phase). IsWithin p (slice_index_or batches n [])) (sym (ap (λ (x : Engine). x.phase) comes.same))
    (drain_next most before after batches n comes fit).few

pub drain_fits : (most : ℕ) (before after : Engine) (batches : List Batch) (n : ℕ) → ReachesDrain most before after
    → Fit before.left (drop n batches) → Fit after.left (drop (n + 1) batches)
drain_fits most before after batches n comes fit =
    subst (λ m. Fit after.left (drop m batches)) (sym (add-one n))
    (drain_next most before after batches n comes fit).fit

-- at the end so is the last one
end_next : (before after : Engine) (batches : List Batch) (n : ℕ) → Ends before after → Fit before.left (drop n batches)
    → (n < length batches) × (take (suc n) batches ≡ batches)
end_next before after batches n ends fit = fit_end batches n (subst (λ left. Fit left (drop n batches)) ends.none fit)

pub end_there : (before after : Engine) (batches : List Batch) (n : ℕ) → Ends before after
    → Fit before.left (drop n batches) → n < length batches
end_there before after batches n ends fit = (end_next before after batches n ends fit).0

pub end_waits : (before after : Engine) (batch : Batch) → Ends before after → IsWithin after.phase batch
end_waits before after batch ends =
    subst (λ (p : Phase). IsWithin p batch) (sym (ap (λ (x : Engine). x.phase) ends.same)) tt

-- with the last batch all are taken
pub took_all : {A E : Type 0} (r : Result A E) (first before ended after : Engine) (batches : List Batch) (n : ℕ)
    → before.script ≡ first.script → Fit before.left (drop n batches) → Ends before ended
    → OnOk r (HasTakenOne ended after batches n) → OnOk r (HasTakenAll first after batches)
took_all (Ok done) first before ended after batches n same fit ends took = record {
  script = took.script ∙ ap (λ (x : Engine). x.script) ends.same ∙ same;
  over = took.phase ∙ ap (λ (x : Engine). phase_after x.phase) ends.same;
  taken = took.taken ∙ ap (λ m. take m batches) (add-one n) ∙ (end_next before ended batches n ends fit).1;
}
took_all (Err fault) first before ended after batches n same fit ends took = tt

-- these hold all posts
pub all_complete : (first after : Engine) (batches : List Batch) → AreOrder first.script batches
    → HasTakenAll first after batches → AreComplete after.script after.batches
all_complete first after batches order took =
    subst (λ (s : Script). AreComplete s after.batches) (sym took.script)
    (subst (AreComplete first.script) (sym took.taken) order.complete)

-- the posts of an order are next ones
pub order_next : (script : Script) (e : Engine) (batches : List Batch) → AreOrder script batches → e.script ≡ script
    → AreNext e.script.callers (joined batches)
order_next script e batches order same =
    subst (λ (s : Script). AreNext s.callers (joined batches)) (sym same) order.lawful.next

-- all posts are those of the first batches and of the next one, and others
all_posts : (batches : List Batch) (n : ℕ) → n < length batches
    → (rest : Batch) × (joined batches ≡ (joined (take n batches) ++ slice_index_or batches n []) ++ rest)
all_posts [] n low = absurd (omega (arith, low))
all_posts (b ∷ batches) zero low = (joined batches, refl)
all_posts (b ∷ batches) (suc n) low =
    let r = all_posts batches n (omega (arith, low)) in (
      r.0,
      ap (λ l. b ++ l) r.1 ∙ sym (append_assoc b (joined (take n batches) ++ slice_index_or batches n []) r.0)
          ∙ ap (λ l. l ++ r.0) (sym (append_assoc b (joined (take n batches)) (slice_index_or batches n []))),
    )

-- so those of the next batch are next ones
next_at : (callers : Callers) (batches : List Batch) (n : ℕ) → n < length batches → AreNext callers (joined batches)
    → AreNext callers (joined (take n batches) ++ slice_index_or batches n [])
next_at callers batches n low next =
    let r = all_posts batches n low in
    next_before callers (joined (take n batches) ++ slice_index_or batches n []) r.0 (subst (AreNext callers) r.1 next)

one_more : (batches : List Batch) (n : ℕ) → n < length batches
    → take n batches ++ slice_index_or batches n [] ∷ [] ≡ take (n + 1) batches
one_more batches n low = sym (take-suc batches n [] low) ∙ ap (λ m. take m batches) (sym (add-one n))

-- the next batch was taken
pub took_one : (before after : Engine) (batches : List Batch) (n : ℕ) (batch : Batch) → n < length batches
    → before.batches ≡ take n batches → batch ≡ slice_index_or batches n [] → Takes batch before after
    → HasTakenOne before after batches n
took_one before after batches n batch low first is takes = record {
  script = ap (λ (x : Engine). x.script) takes.same;
  left = ap (λ (x : Engine). x.left) takes.same;
  phase = ap (λ (x : Engine). x.phase) takes.same;
  taken =
      ap (λ (x : Engine). x.batches) takes.same ∙ ap (λ l. l ++ batch ∷ []) first
      ∙ ap (λ l. take n batches ++ l ∷ []) is ∙ one_more batches n low;
}

-- it may be taken
pub may_take : (e : Engine) (batches : List Batch) (n : ℕ) (batch : Batch) → n < length batches
    → e.batches ≡ take n batches → batch ≡ slice_index_or batches n [] → IsWithin e.phase (slice_index_or batches n [])
    → AreNext e.script.callers (joined batches) → MayTake e batch
may_take e batches n batch low first is waits next = (
  subst (IsWithin e.phase) (sym is) waits,
  subst (λ l. AreNext e.script.callers (joined l ++ batch)) (sym first)
      (subst (λ l. AreNext e.script.callers (joined (take n batches) ++ l)) (sym is)
      (next_at e.script.callers batches n low next)),
)

pub none_is_strange : (before after : Engine) (batches : List Batch) (n : ℕ) (batch : Batch) → n < length batches
    → before.batches ≡ take n batches → batch ≡ slice_index_or batches n []
    → IsWithin before.phase (slice_index_or batches n []) → AreNext before.script.callers (joined batches)
    → IsStrange batch before after → ⊥
none_is_strange before after batches n batch low first is waits next strange =
    strange.strange (may_take before batches n batch low first is waits next)

-- a batch is waited for
pub one_is_waited_for : (p : Phase) (batch : Batch) → IsWithin p batch → NoBatch p → ⊥
one_is_waited_for phase.Going batch within none = within
one_is_waited_for (phase.Draining most) batch within none = none
one_is_waited_for phase.Ended batch within none = none
one_is_waited_for phase.Over batch within none = within
one_is_waited_for phase.Failed batch within none = none

pub ruleset taking = (went_fits, drain_there, drain_waits, drain_fits, end_there, end_waits, took_all, order_next)
