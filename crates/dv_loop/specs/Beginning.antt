-- What an event and a post begin with: the rules, run.
use Rattle.dv_frames.specs.Turn.{Turned}
use Rattle.dv_definition.specs.Rule.{run}
use Rattle.dv_definition.specs.Scripts.{Occurrence, happens}
use Rattle.dv_world.specs.World.{World}

abbrev pub happening : Occurrence → World → Turned
happening occurrence w = run (happens occurrence) w
