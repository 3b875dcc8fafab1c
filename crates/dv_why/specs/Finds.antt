-- What is found where a script is wrong.
use Rattle.std.specs.Prelude.{◌≡◌, ◌≤◌, ◌⊎◌, [], Some, false, codes}
use Rattle.serde_json.specs.Data.{Data, depth}
use Rattle.serde_json.specs.View.{view}
use Rattle.dv_forms.specs.declared.want.Want.{Want}
use Rattle.dv_why.specs.declared.misfit.Misfit.{Misfit}
use Rattle.dv_why.specs.declared.question.Question.{Question}
use Rattle.dv_why.specs.declared.classes.Table.{Table}
use Rattle.dv_why.specs.declared.classes.Table.TheVariants.{Whole, Wrong}
use Rattle.dv_why.specs.Places.{at_place, want_at}
use Rattle.dv_why.specs.Fits.{suits}
use Rattle.dv_why.specs.Documents.{list_in, script_in, version_in}
use Rattle.dv_script.specs.declared.limits.TheConstants.{MOST_LEVELS}
use Rattle.dv_why.specs.AllSuit.{AllSuit}
use Rattle.dv_why.specs.Declaring.{AllMayDeclare, table_in}
use Rattle.dv_why.specs.Wrong.{IsAt, IsBadClass}

-- the steps of the misfit lead to what it has found, and to a place that asks for what it says
pub record Leads (w : Want) (d : Data) (m : Misfit) : Type 0 where
  pub place : at_place m.steps.items d ≡ Some (view m.found.now)
  pub asks : want_at m.steps.items w d ≡ Some m.want

-- and what stands there answers the question badly
pub record Finds (q : Question) (w : Want) (d : Data) (m : Misfit) : Type 0 where
  pub leads : Leads w d m
  pub wrong : suits q m.want (view m.found.now) ≡ false

-- what stands at a place answers the question badly, or the place is the whole, and each part of it answers well
abbrev pub Misfits : Question → Data → Misfit → Type 0
Misfits q d m =
    (suits q m.want (view m.found.now) ≡ false) ⊎ (IsAt [] m × (depth d ≤ MOST_LEVELS → AllSuit q (script_in d) d))

-- the table of a document, of which each class may be declared, or a class that may not
abbrev pub IsTableOf : Data → Table → Type 0
IsTableOf d (Whole classes) = (classes ≡ table_in d) × AllMayDeclare (version_in d) (list_in (codes "classes") d)
IsTableOf d (Wrong m expected) = Leads (script_in d) d m × IsBadClass d m
