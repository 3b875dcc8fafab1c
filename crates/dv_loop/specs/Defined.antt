-- Where frames lead is where the definition leads, so that all that is stated over frames is of the code.
use Rattle.std.specs.Prelude.{◌≡◌, ◌↔◌, ℕ, List, [], ◌∷◌, Option}
use Rattle.dv_definition.specs.Definition.{act, cancel, settle}
use Rattle.dv_definition.specs.Rule.{say}
use Rattle.dv_definition.specs.Scripts.{Returns, Leads, Occurrence, all_happen, happen}
use Rattle.dv_definition.specs.Words.{calls, performs}
use Rattle.dv_frames.specs.Turn.{rest_of}
use Rattle.dv_frames.specs.declared.frame.Frame.TheVariants as frame
use Rattle.dv_objects.specs.declared.performed.Performed.{Performed}
use Rattle.dv_objects.specs.declared.performed.Performed.TheVariants.{Done}
use Rattle.dv_loop.specs.Acting.{begun}
use Rattle.dv_loop.specs.Meaning.{Gives, Happens, Means, Runs}
use Rattle.dv_posts.specs.Batches.{Batch}
use Rattle.dv_script.specs.declared.action.Action.{Action, out-Action}
use Rattle.dv_script.specs.declared.body.Body.{Body}
use Rattle.dv_script.specs.declared.script.Script.{Script}
use Rattle.dv_value.specs.declared.value.Value.{Value}
use Rattle.dv_world.specs.World.{World}

-- a script leads to a world by its frames if and only if it leads there by the definition
abbrev pub ScriptsMeanWhatIsDefined : Type 0
ScriptsMeanWhatIsDefined =
    (script : Script) (batches : List Batch) (after : World) → Means script batches after ↔ Leads script batches after

-- so it is with an action, whatever it gives
abbrev pub ActionsMeanWhatIsDefined : Type 0
ActionsMeanWhatIsDefined =
    (itself : Option ℕ) (action : Action) (w : World) (p : Performed) (after : World)
    → (let t = begun itself (out-Action action) w in Gives t.0 t.1 t.2 p after)
    ↔ Returns (λ go. say go (act itself action) w) (p, after)

-- with a body
abbrev pub BodiesMeanWhatIsDefined : Type 0
BodiesMeanWhatIsDefined =
    (itself : Option ℕ) (body : Body) (input : Value) (w : World) (p : Performed) (after : World)
    → Gives (frame.Rest (rest_of itself body input) ∷ []) Done w p after
    ↔ Returns (λ go. say go (calls (performs itself body input)) w) (p, after)

-- with a cancel
abbrev pub CancelsMeanWhatIsDefined : Type 0
CancelsMeanWhatIsDefined =
    (d : ℕ) (w : World) (p : Performed) (after : World)
    → Gives (frame.Cancel d ∷ []) Done w p after ↔ Returns (λ go. say go (cancel d) w) (p, after)

-- and with settling, which always gives nothing
abbrev pub SettlingMeansWhatIsDefined : Type 0
SettlingMeansWhatIsDefined =
    (d : ℕ) (w : World) (p : Performed) (after : World)
    → Gives (frame.Settle d ∷ []) Done w p after ↔ (p ≡ Done) × Returns (λ go. say go (settle d) w) (Done, after)

-- so it is with an event and a post
abbrev pub OccurrencesMeanWhatIsDefined : Type 0
OccurrencesMeanWhatIsDefined =
    (occurrence : Occurrence) (w after : World)
    → Happens occurrence w after ↔ Returns (λ go. happen go occurrence w) after

-- and with several, one after the other, as the posts of a batch and the drain before them
abbrev pub RunsMeanWhatIsDefined : Type 0
RunsMeanWhatIsDefined =
    (all : List Occurrence) (w after : World) → Runs all w after ↔ Returns (λ go. all_happen go all w) after

-- by the definition every script leads to a world, and to one only
abbrev pub EveryScriptLeads : Type 0
EveryScriptLeads = (script : Script) (batches : List Batch) → (after : World) × Leads script batches after

abbrev pub EachScriptLeadsToOneWorld : Type 0
EachScriptLeadsToOneWorld =
    (script : Script) (batches : List Batch) (u v : World) → Leads script batches u → Leads script batches v → u ≡ v
