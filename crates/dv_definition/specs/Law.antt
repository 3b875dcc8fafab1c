-- Laws of rules: their two readings agree, and each decides its telling cases.
use Rattle.std.specs.Prelude.{◌≡◌}
use Rattle.dv_definition.specs.Rule.{Meant, run, say, through}
use Rattle.dv_definition.specs.Scripts.{Occurrence, happens, rule_of}
use Rattle.dv_frames.specs.declared.frame.Frame.{Frame}
use Rattle.dv_objects.specs.declared.performed.Performed.{Performed}
use Rattle.dv_world.specs.World.{World}

-- whatever frames mean: the frames that the rule of a frame leaves lead where the rule says
abbrev pub FramesSayTheRule : Type 0
FramesSayTheRule =
    (go : Meant) (f : Frame) (p : Performed) (w : World)
    → (let t = run (rule_of f p) w in through go t.0 t.1 t.2) ≡ say go (rule_of f p) w

-- and so do those that an event or a post leaves
abbrev pub FramesSayWhatHappens : Type 0
FramesSayWhatHappens =
    (go : Meant) (occurrence : Occurrence) (w : World)
    → (let t = run (happens occurrence) w in through go t.0 t.1 t.2) ≡ say go (happens occurrence) w
