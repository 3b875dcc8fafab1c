-- Why a document is refused, each reason as the reader has it.
use Rattle.std.specs.Prelude.{◌≡◌, true, false, ⊤}
use Rattle.serde_json.specs.Data.{Data}
use Rattle.dv_grammar.specs.declared.draft.Draft.{Draft}
use Rattle.dv_grammar.specs.Grammar.{IsScript}
use Rattle.dv_reader.specs.declared.error.ScriptFault.{ScriptFault}
use Rattle.dv_reader.specs.declared.error.ScriptFault.TheVariants.{TooLong, NotJson, BadVersion, BadShape, TooMany}
use Rattle.dv_reader.specs.declared.error.ScriptFault.TheVariants.{BadName, BadClass, OutOfMemory, BadPool, BadBody}
use Rattle.dv_reader.specs.declared.error.ScriptFault.TheVariants.{BadCooperator}
use Rattle.dv_reader.specs.Limits.{is_small}
use Rattle.dv_reader.specs.Refusal.{HasVersion, IsMisshapen, keeps_version, are_named, are_known, are_pooled}
use Rattle.dv_reader.specs.Refusal.{have_bodies, have_cooperators}

-- a document has the shape of this script
pub record HasShapeOf (d : Data) (draft : Draft) : Type 0 where
  pub shape : IsScript d draft
  pub plain : keeps_version d draft ≡ true

-- what is so of the value of a document that is refused for this
abbrev pub IsRefusedFor : ScriptFault → Data → Type 0
IsRefusedFor TooLong d = ⊤
IsRefusedFor NotJson d = ⊤
IsRefusedFor BadVersion d = HasVersion d → ⊥
IsRefusedFor BadShape d = HasVersion d × IsMisshapen d
IsRefusedFor TooMany d = (draft : Draft) × HasShapeOf d draft × (is_small d draft ≡ false)
IsRefusedFor BadName d = (draft : Draft) × HasShapeOf d draft × (is_small d draft ≡ true) × (are_named d draft ≡ false)
IsRefusedFor BadClass d =
    (draft : Draft) × HasShapeOf d draft × (is_small d draft ≡ true) × (are_named d draft ≡ true)
    × (are_known d draft ≡ false)
IsRefusedFor OutOfMemory d = ⊤
IsRefusedFor BadPool d =
    (draft : Draft) × HasShapeOf d draft × (is_small d draft ≡ true) × (are_named d draft ≡ true)
    × (are_known d draft ≡ true) × (are_pooled d draft ≡ false)
IsRefusedFor BadBody d =
    (draft : Draft) × HasShapeOf d draft × (is_small d draft ≡ true) × (are_named d draft ≡ true)
    × (are_known d draft ≡ true) × (are_pooled d draft ≡ true) × (have_bodies d draft ≡ false)
IsRefusedFor BadCooperator d =
    (draft : Draft) × HasShapeOf d draft × (is_small d draft ≡ true) × (are_named d draft ≡ true)
    × (are_known d draft ≡ true) × (are_pooled d draft ≡ true) × (have_bodies d draft ≡ true)
    × (have_cooperators d draft ≡ false)
