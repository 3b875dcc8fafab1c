-- More depth changes no answer.
use Rattle.std.proofs.Common.{◌≡◌, ℕ, zero, suc, ◌+◌, List, [], ◌∷◌, Option, None, Some, refl, sym, ap, subst, ◌∙◌}
use Rattle.std.proofs.Common.{zero-add, suc-add, add_comm}
use Rattle.dv_definition.proofs.Sayings.{frames_say}
use Rattle.dv_definition.specs.Rule.{Meant, Rule, ◌and_then◌, run, say, through}
use Rattle.dv_definition.specs.Scripts.{rule_of, within}
use Rattle.dv_frames.specs.declared.frame.Frame.{Frame}
use Rattle.dv_objects.specs.declared.performed.Performed.{Performed}
use Rattle.dv_loop.specs.Meaning.{Gives}
use Rattle.dv_world.specs.World.{World}

abbrev pub Ended : Type 0
Ended = Performed × World

-- g answers where f does, and as f does
pub record Extends (f g : Meant) : Type 0 where
  pub at : (x : Frame) (p : Performed) (w : World) (r : Ended) → f x p w ≡ Some r → g x p w ≡ Some r

pub then_extends : {A B : Type 0} (m n : Option A) (f g : A → Option B) (r : B) → ((x : A) → m ≡ Some x → n ≡ Some x)
    → ((x : A) → f x ≡ Some r → g x ≡ Some r) → (m and_then f) ≡ Some r → (n and_then g) ≡ Some r
then_extends None n f g r p q h = absurd cc
then_extends (Some x) n f g r p q h = let e = p x refl in rw e (q x h)

pub through_extends : (f g : Meant) → Extends f g → (fs : List Frame) (p : Performed) (w : World) (r : Ended)
    → through f fs p w ≡ Some r → through g fs p w ≡ Some r
through_extends f g e [] p w r h = h
through_extends f g e (x ∷ fs) p w r h = then_extends _ _ _ _ r (e.at x p w) (λ y. through_extends f g e fs y.0 y.1 r) h

pub say_extends : (f g : Meant) → Extends f g → (rule : Rule) (w : World) (r : Ended) → say f rule w ≡ Some r
    → say g rule w ≡ Some r
say_extends f g e rule w r h =
    let t = run rule w in
    sym (frames_say g rule w) ∙ through_extends f g e t.0 t.1 t.2 r (frames_say f rule w ∙ h)

pub next_extends : (n : ℕ) → Extends (within n) (within (suc n))
unfolding within
next_extends zero = record { at = λ x p w r h. absurd cc }
next_extends (suc n) =
    record { at = λ x p w r h. say_extends (within n) (within (suc n)) (next_extends n) (rule_of x p) w r h }

deeper : (k n : ℕ) (x : Frame) (p : Performed) (w : World) (r : Ended) → within n x p w ≡ Some r
    → within (k + n) x p w ≡ Some r
deeper zero n x p w r h = rw zero-add h
deeper (suc k) n x p w r h = rw suc-add ((next_extends (k + n)).at x p w r (deeper k n x p w r h))

-- the same, k levels deeper
pub deeper_left : (k n : ℕ) → Extends (within n) (within (k + n))
deeper_left k n = record { at = deeper k n }

pub deeper_right : (k n : ℕ) → Extends (within n) (within (n + k))
deeper_right k n = subst (λ m. Extends (within n) (within m)) (add_comm k n) (deeper_left k n)

-- frames lead to one end
pub gives_one : {fs : List Frame} {o : Performed} {w : World} {p q : Performed} {u v : World} → Gives fs o w p u
    → Gives fs o w q v → (p ≡ q) × (u ≡ v)
gives_one {fs} {o} {w} {p} {q} {u} {v} g h =
    let a =
    through_extends (within g.depth) (within (g.depth + h.depth)) (deeper_right h.depth g.depth) fs o w _ g.ends in
    let b =
    through_extends (within h.depth) (within (g.depth + h.depth)) (deeper_left g.depth h.depth) fs o w _ h.ends in
    let x : Ended = (p, u) in
    let y : Ended = (q, v) in
    let e : x ≡ y = cc in
    (ap (λ (r : Ended). r.0) e, ap (λ (r : Ended). r.1) e)
