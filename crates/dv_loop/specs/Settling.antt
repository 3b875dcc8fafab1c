-- Settling a Deferred: its items are used in turn, each on what the one before gave (Twisted: the Deferred Reference,
-- "Callback chains" and "Chaining Deferreds"; `Deferred._runCallbacks`). The rules, run.
use Rattle.std.specs.Prelude.{ℕ, Option}
use Rattle.dv_frames.specs.Turn.{Turned}
use Rattle.dv_objects.specs.Pair.{Pair}
use Rattle.dv_objects.specs.declared.pair.Side.{Side}
use Rattle.dv_objects.specs.declared.performed.Performed.{Performed}
use Rattle.dv_definition.specs.Definition as page
use Rattle.dv_definition.specs.Rule.{run}
use Rattle.dv_definition.specs.Steps.{stepped}
use Rattle.dv_store.specs.declared.store.Step.{Step}
use Rattle.dv_value.specs.declared.value.Value.{Value}
use Rattle.dv_world.specs.World.{World}

-- the world, once what a side of d gave is put in place
abbrev pub place : ℕ → Performed → World → World
place d p w = stepped (page.placing d p) w

abbrev pub side_begun : ℕ → Option Side → Value → World → Turned
side_begun d o input w = run (page.run_side d o input) w

abbrev pub settled : ℕ → Step Pair → World → Turned
settled d move w = run (page.settle_by d move) w
