-- What a stack leads to is what is there when all of it is done.
use Rattle.std.proofs.Common.{◌≡◌, ℕ, zero, suc, List, [], ◌∷◌, Option, None, Some, sym, ◌∙◌}
use Rattle.dv_loop.specs.Turning.{turned}
use Rattle.dv_definition.proofs.Sayings.{frames_say}
use Rattle.dv_definition.proofs.Through.{through_append}
use Rattle.dv_definition.specs.Rule.{through}
use Rattle.dv_definition.specs.Scripts.{rule_of, within}
use Rattle.dv_loop.specs.Meaning.{Gives}
use Rattle.dv_frames.specs.Turn.{◌over◌}
use Rattle.dv_frames.specs.declared.frame.Frame.{Frame}
use Rattle.dv_loop.proofs.Extends.{Ended, then_extends, through_extends, next_extends}
use Rattle.dv_world.specs.World.{World}
use Rattle.dv_objects.specs.declared.performed.Performed.{Performed}

-- the stack after so many turns, all of it done
unfoldable pub run : ℕ → List Frame → Performed → World → Option Ended
run zero [] o w = Some (o, w)
run zero (f ∷ below) o w = None
run (suc n) [] o w = None
run (suc n) (f ∷ below) o w = let t = turned f o w over below in run n t.0 t.1 t.2

-- what the stack leads to after a turn, it led to before
pub turned_leads : (f : Frame) (o : Performed) (w : World) (below : List Frame) (q : Performed) (v : World)
    → (let t = turned f o w over below in Gives t.0 t.1 t.2 q v) → Gives (f ∷ below) o w q v
unfolding within
turned_leads f o w below q v h =
    let t = turned f o w in
    let go = within h.depth in
    record {
      depth = suc h.depth;
      ends =
          then_extends (through go t.0 t.1 t.2) _ (λ x. through go below x.0 x.1) _ (q, v)
          (λ x e. sym (frames_say go (rule_of f o) w) ∙ e)
          (λ x. through_extends go (within (suc h.depth)) (next_extends h.depth) below x.0 x.1 (q, v))
          (sym (through_append go t.0 below t.1 t.2) ∙ h.ends);
    }

pub runs_lead : (n : ℕ) (fs : List Frame) (o : Performed) (w : World) (q : Performed) (v : World)
    → run n fs o w ≡ Some (q, v) → Gives fs o w q v
unfolding run
runs_lead zero [] o w q v h = record { depth = 0; ends = h }
runs_lead zero (f ∷ below) o w q v h = absurd cc
runs_lead (suc n) [] o w q v h = absurd cc
runs_lead (suc n) (f ∷ below) o w q v h =
    let t = turned f o w over below in
    turned_leads f o w below q v (runs_lead n t.0 t.1 t.2 q v h)
