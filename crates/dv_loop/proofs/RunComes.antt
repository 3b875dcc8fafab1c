-- A run leads on by steps of the world.
use Rattle.std.proofs.Common.{◌≡◌, ℕ, zero, suc, List, [], ◌∷◌, Some, ap, subst}
use Rattle.dv_loop.specs.Turning.{turned}
use Rattle.dv_frames.specs.Turn.{◌over◌}
use Rattle.dv_frames.specs.declared.frame.Frame.{Frame}
use Rattle.dv_loop.proofs.Extends.{Ended}
use Rattle.dv_loop.proofs.FairTurns.{turned_fair}
use Rattle.dv_loop.proofs.Lasting.{Comes}
use Rattle.dv_loop.proofs.Runs.{run}
use Rattle.dv_world.specs.World.{World}
use Rattle.dv_objects.specs.declared.performed.Performed.{Performed}

pub run_comes : (n : ℕ) (fs : List Frame) (o : Performed) (w : World) (q : Performed) (v : World)
    → run n fs o w ≡ Some (q, v) → Comes w v
unfolding run
run_comes zero [] o w q v h =
    let x : Ended = (o, w) in
    let y : Ended = (q, v) in
    let e : x ≡ y = cc in
    record { keeps = λ R l. subst (λ u. R w u) (ap (λ (r : Ended). r.1) e) (l.stays w) }
run_comes zero (f ∷ below) o w q v h = absurd cc
run_comes (suc n) [] o w q v h = absurd cc
run_comes (suc n) (f ∷ below) o w q v h =
    let t = turned f o w over below in
    let rest = run_comes n t.0 t.1 t.2 q v h in
    record { keeps = λ R l. l.joins w t.2 v ((turned_fair f o w).comes.keeps R l) (rest.keeps R l) }
