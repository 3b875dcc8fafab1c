-- Frames that are done in order.
use Rattle.std.proofs.Common.{◌≡◌, List, [], ◌∷◌, ◌++◌, Option, None, Some, refl, ap, ◌∙◌}
use Rattle.dv_definition.specs.Rule.{Answer, ◌and_then◌, Meant, through}
use Rattle.dv_frames.specs.Turn.{Turned, ◌over◌}
use Rattle.dv_frames.specs.declared.frame.Frame.{Frame}
use Rattle.dv_objects.specs.declared.performed.Performed.{Performed}
use Rattle.dv_world.specs.World.{World}

pub then_same : {A B : Type 0} (a : Option A) (f g : A → Option B) → ((x : A) → f x ≡ g x)
    → (a and_then f) ≡ (a and_then g)
then_same None f g h = refl
then_same (Some x) f g h = h x

then_then_back : {A B C : Type 0} (a : Option A) (f : A → Option B) (g : B → Option C)
    → (a and_then λ x. f x and_then g) ≡ (a and_then f and_then g)
then_then_back None f g = refl
then_then_back (Some x) f g = refl

-- some frames, and then others
pub through_append : (go : Meant) (fs below : List Frame) (p : Performed) (w : World)
    → through go (fs ++ below) p w ≡ (through go fs p w and_then λ r. through go below r.0 r.1)
through_append go [] below p w = refl
through_append go (f ∷ fs) below p w =
    then_same (go f p w) (λ r. through go (fs ++ below) r.0 r.1)
    (λ r. through go fs r.0 r.1 and_then λ s. through go below s.0 s.1) (λ r. through_append go fs below r.0 r.1)
    ∙ then_then_back (go f p w) (λ r. through go fs r.0 r.1) (λ s. through go below s.0 s.1)

-- what is left to do, done
abbrev pub here : Meant → Turned → Answer
here go t = through go t.0 t.1 t.2

-- over any frames
pub over_all : (go : Meant) (t : Turned) (fs : List Frame) (a : Answer) → here go t ≡ a
    → here go (t over fs) ≡ (a and_then λ r. through go fs r.0 r.1)
over_all go t fs a h = through_append go t.0 fs t.1 t.2 ∙ ap (λ x. x and_then λ r. through go fs r.0 r.1) h
