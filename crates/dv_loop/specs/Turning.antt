-- One turn: the rule of a frame, run.
use Rattle.dv_frames.specs.Turn.{Turned}
use Rattle.dv_frames.specs.declared.frame.Frame.{Frame}
use Rattle.dv_objects.specs.declared.performed.Performed.{Performed}
use Rattle.dv_definition.specs.Scripts as scripts
use Rattle.dv_definition.specs.Rule.{run}
use Rattle.dv_world.specs.World.{World}

-- each frame by its rule, on what the one before it gave
abbrev pub turned : Frame → Performed → World → Turned
turned f p w = run (scripts.rule_of f p) w
