-- Every frame halts: by what a run can still do, and then by what is left of the frame.
use Rattle.std.proofs.Common.{◌≡◌, ℕ, zero, suc, ◌+◌, ◌<◌, ◌≤◌, List, [], ◌∷◌, ◌++◌, Some, refl, ap, ◌∙◌, arith}
use Rattle.std.proofs.Common.{zero-add, suc-add}
use Rattle.dv_loop.specs.Turning.{turned}
use Rattle.dv_frames.specs.Turn.{Turned, ◌over◌}
use Rattle.dv_frames.specs.declared.frame.Frame.{Frame}
use Rattle.dv_loop.proofs.Extends.{Ended}
use Rattle.dv_loop.proofs.Fair.{can, pays, Falls, paid, lighter}
use Rattle.dv_loop.proofs.Lighter.{rank, Each, Lighter}
use Rattle.dv_loop.proofs.FairTurns.{turned_fair}
use Rattle.dv_loop.proofs.Runs.{run}
use Rattle.dv_world.specs.World.{World}
use Rattle.dv_objects.specs.declared.performed.Performed.{Performed}

-- frames are done after so many turns, whatever stands below
record Halts (fs : List Frame) (o : Performed) (w : World) : Type 0 where
  turns : ℕ
  outcome : Performed
  after : World
  pays : can after ≤ can w
  ends : (m : ℕ) (below : List Frame) → run (turns + m) (fs ++ below) o w ≡ run m below outcome after

-- so they are where each of them is
each_halts : (n : ℕ) (P : Frame → Type 0)
    → ((f : Frame) (o : Performed) (w : World) → can w < n → P f → Halts (f ∷ []) o w)
    → (fs : List Frame) (o : Performed) (w : World) → can w < n → Each P fs → Halts fs o w
each_halts n P k [] o w b h =
    record { turns = 0; outcome = o; after = w; pays = omega arith; ends = λ m below. rw zero-add refl }
each_halts n P k (f ∷ fs) o w b h =
    let first = k f o w b h.0 in
    let rest = each_halts n P k fs first.outcome first.after (omega (arith, first.pays, b)) h.1 in
    record {
      turns = first.turns + rest.turns;
      outcome = rest.outcome;
      after = rest.after;
      pays = omega (arith, first.pays, rest.pays);
      ends = λ m below.
          let same : first.turns + rest.turns + m ≡ first.turns + (rest.turns + m) = omega arith in
          ap (λ i. run i (f ∷ (fs ++ below)) o w) same ∙ first.ends (rest.turns + m) (fs ++ below) ∙ rest.ends m below;
    }

-- nothing is asked of them
each_at_all : (fs : List Frame) → Each (λ f. Unit {0}) fs
each_at_all [] = tt
each_at_all (f ∷ fs) = (tt, each_at_all fs)

-- a frame halts where what its turn leaves does
turn_halts : (f : Frame) (o : Performed) (w : World) → (let t = turned f o w in Halts t.0 t.1 t.2) → Halts (f ∷ []) o w
unfolding run
turn_halts f o w r = record {
  turns = suc r.turns;
  outcome = r.outcome;
  after = r.after;
  pays = omega (arith, r.pays, pays w (turned f o w).2 (turned_fair f o w).comes);
  ends = λ m below. rw suc-add (r.ends m below);
}

-- it does, where less can be done, or no more and less is left of each
left_halts : (n m : ℕ) → ((f : Frame) (o : Performed) (w : World) → can w < n → Halts (f ∷ []) o w)
    → ((f : Frame) (o : Performed) (w : World) → can w < suc n → rank f < m → Halts (f ∷ []) o w)
    → (t : Turned) → can t.2 < suc n → Falls n m t → Halts t.0 t.1 t.2
left_halts n m less same t b (paid h) =
    each_halts n (λ f. Unit {0}) (λ f o w k q. less f o w k) t.0 t.1 t.2 h (each_at_all t.0)
left_halts n m less same t b (lighter h) = each_halts (suc n) (λ f. rank f < m) same t.0 t.1 t.2 b h

each_lighter : (m i : ℕ) (fs : List Frame) → m ≤ i → Lighter m fs → Lighter i fs
each_lighter m i [] b h = tt
each_lighter m i (f ∷ fs) b h = (omega (arith, b, h.0), each_lighter m i fs b h.1)

falls_more : (n k m i : ℕ) (t : Turned) → n ≤ k → m ≤ i → Falls n m t → Falls k i t
falls_more n k m i t a b (paid h) = paid (omega (arith, a, h))
falls_more n k m i t a b (lighter h) = lighter (each_lighter m i t.0 b h)

halts_within : (n : ℕ) → ((f : Frame) (o : Performed) (w : World) → can w < n → Halts (f ∷ []) o w)
    → (m : ℕ) (f : Frame) (o : Performed) (w : World) → can w < suc n → rank f < m → Halts (f ∷ []) o w
halts_within n less zero f o w b q = absurd (omega (arith, q))
halts_within n less (suc m) f o w b q =
    turn_halts f o w
    (left_halts n m less (halts_within n less m) (turned f o w)
    (omega (arith, pays w (turned f o w).2 (turned_fair f o w).comes, b))
    (falls_more (can w) n (rank f) m (turned f o w) (omega (arith, b)) (omega (arith, q)) (turned_fair f o w).falls))

halts_below : (n : ℕ) (f : Frame) (o : Performed) (w : World) → can w < n → Halts (f ∷ []) o w
halts_below zero f o w b = absurd (omega (arith, b))
halts_below (suc n) f o w b = halts_within n (halts_below n) (suc (rank f)) f o w b (omega arith)

-- so does every stack
pub record Finishes (fs : List Frame) (o : Performed) (w : World) : Type 0 where
  pub turns : ℕ
  pub outcome : Performed
  pub after : World
  pub ends : run turns fs o w ≡ Some (outcome, after)

pub finishes : (fs : List Frame) (o : Performed) (w : World) → Finishes fs o w
unfolding run
finishes [] o w = record { turns = 0; outcome = o; after = w; ends = refl }
finishes (f ∷ below) o w =
    let first = halts_below (suc (can w)) f o w (omega arith) in
    let rest = finishes below first.outcome first.after in
    record {
      turns = first.turns + rest.turns;
      outcome = rest.outcome;
      after = rest.after;
      ends = first.ends rest.turns below ∙ rest.ends;
    }

-- after so many turns
unfoldable pub turns_of : List Frame → Performed → World → ℕ
turns_of fs o w = (finishes fs o w).turns

once : (n m : ℕ) (fs : List Frame) (o : Performed) (w : World) (x y : Ended) → run n fs o w ≡ Some x
    → run m fs o w ≡ Some y → n ≡ m
unfolding run
once zero zero fs o w x y h k = refl
once zero (suc m) [] o w x y h k = absurd cc
once zero (suc m) (f ∷ below) o w x y h k = absurd cc
once (suc n) zero [] o w x y h k = absurd cc
once (suc n) zero (f ∷ below) o w x y h k = absurd cc
once (suc n) (suc m) [] o w x y h k = absurd cc
once (suc n) (suc m) (f ∷ below) o w x y h k = let t = turned f o w over below in ap suc (once n m t.0 t.1 t.2 x y h k)

falls_from : (n : ℕ) (f : Frame) (below : List Frame) (o : Performed) (w : World) (x y : Ended) (m : ℕ)
    → run n (f ∷ below) o w ≡ Some x → (let t = turned f o w over below in run m t.0 t.1 t.2 ≡ Some y) → m < n
unfolding run
falls_from zero f below o w x y m h k = absurd cc
falls_from (suc n) f below o w x y m h k =
    let t = turned f o w over below in
    omega (arith, once n m t.0 t.1 t.2 x y h k)

-- a turn leaves fewer
pub turns_fall : (f : Frame) (below : List Frame) (o : Performed) (w : World)
    → (let t = turned f o w over below in turns_of t.0 t.1 t.2 < turns_of (f ∷ below) o w)
unfolding turns_of
turns_fall f below o w =
    let t = turned f o w over below in
    let before = finishes (f ∷ below) o w in
    let now = finishes t.0 t.1 t.2 in
    falls_from before.turns f below o w (before.outcome, before.after)
    (now.outcome, now.after) now.turns before.ends now.ends
