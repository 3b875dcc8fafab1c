-- What each action begins with (Twisted: the calls that a program makes): its rule, run.
use Rattle.std.specs.Prelude.{ℕ, Option}
use Rattle.dv_frames.specs.Turn.{Turned}
use Rattle.dv_definition.specs.Definition as page
use Rattle.dv_definition.specs.Rule.{run}
use Rattle.dv_script.specs.declared.action.Action.{Action}
use Rattle.dv_script.specs.declared.action.Action.TheOpen.{Action-F}
use Rattle.dv_script.specs.declared.body.Body.{Body}
use Rattle.dv_script.specs.declared.body.Statement.{Statement}
use Rattle.dv_world.specs.World.{World}

abbrev pub begun : Option ℕ → Action-F Action Statement Body → World → Turned
begun itself action w = run (page.carry_out itself action) w
