-- What refused bytes say of their document.
use Rattle.std.proofs.Common.{◌≡◌, ℕ, List, Some, sym, subst, ◌∙◌}
use Rattle.serde_json.specs.Data.{Data}
use Rattle.serde_json.specs.Read.{read}
use Rattle.dv_grammar.specs.declared.draft.Draft.{Draft}
use Rattle.dv_grammar.proofs.Steps.{some_injective}
use Rattle.dv_reader.specs.declared.error.ScriptFault.{ScriptFault}
use Rattle.dv_reader.specs.declared.error.ScriptFault.TheVariants.{TooLong, NotJson, BadVersion, BadShape, TooMany}
use Rattle.dv_reader.specs.declared.error.ScriptFault.TheVariants.{BadName, BadClass, OutOfMemory, BadPool, BadBody}
use Rattle.dv_reader.specs.declared.error.ScriptFault.TheVariants.{BadCooperator}
use Rattle.dv_reader.specs.Refusal.{IsDocument, HasShape, Refuses}
use Rattle.dv_why.specs.Reasons.{HasShapeOf, IsRefusedFor}

same_value : (bytes : List ℕ) (d e : Data) → read bytes ≡ Some d → IsDocument bytes e → e ≡ d
same_value bytes d e is h = some_injective (sym h.is ∙ is)

shape_of : (bytes : List ℕ) (e : Data) (draft : Draft) → HasShape bytes e draft → HasShapeOf e draft
shape_of bytes e draft h = record { shape = h.shape; plain = h.plain }

-- the document of refused bytes is refused for the same
pub refused_for : (fault : ScriptFault) (bytes : List ℕ) (d : Data) → read bytes ≡ Some d → Refuses fault bytes
    → IsRefusedFor fault d
refused_for TooLong bytes d is h = tt
refused_for NotJson bytes d is h = tt
refused_for BadVersion bytes d is h = subst (IsRefusedFor BadVersion) (same_value bytes d h.0 is h.1) h.2
refused_for BadShape bytes d is h = subst (IsRefusedFor BadShape) (same_value bytes d h.0 is h.1) (h.2, h.3)
refused_for TooMany bytes d is h =
    subst (IsRefusedFor TooMany) (same_value bytes d h.0 is h.2.document) (h.1, shape_of bytes h.0 h.1 h.2, h.3)
refused_for BadName bytes d is h =
    subst (IsRefusedFor BadName) (same_value bytes d h.0 is h.2.document) (h.1, shape_of bytes h.0 h.1 h.2, h.3, h.4)
refused_for BadClass bytes d is h =
    subst (IsRefusedFor BadClass) (same_value bytes d h.0 is h.2.document)
    (h.1, shape_of bytes h.0 h.1 h.2, h.3, h.4, h.5)
refused_for OutOfMemory bytes d is h = tt
refused_for BadPool bytes d is h =
    subst (IsRefusedFor BadPool) (same_value bytes d h.0 is h.2.document)
    (h.1, shape_of bytes h.0 h.1 h.2, h.3, h.4, h.5, h.6)
refused_for BadBody bytes d is h =
    subst (IsRefusedFor BadBody) (same_value bytes d h.0 is h.2.document)
    (h.1, shape_of bytes h.0 h.1 h.2, h.3, h.4, h.5, h.6, h.7)
refused_for BadCooperator bytes d is h =
    subst (IsRefusedFor BadCooperator) (same_value bytes d h.0 is h.2.document)
    (h.1, shape_of bytes h.0 h.1 h.2, h.3, h.4, h.5, h.6, h.7, h.8)
