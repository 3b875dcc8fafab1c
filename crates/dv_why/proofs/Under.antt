-- What is wrong, seen from a step above.
use Rattle.std.proofs.Common.{◌≡◌, ℕ, List, ◌∷◌, ap, ◌∙◌}
use Rattle.serde_json.specs.Data.{Items}
use Rattle.serde_json.specs.Find.{as_str}
use Rattle.serde_json.specs.View.{view}
use Rattle.dv_value.specs.declared.classes.Class.{Class}
use Rattle.dv_why.specs.declared.misfit.Misfit.{Misfit}
use Rattle.dv_why.specs.declared.misfit.Step.{Step}
use Rattle.dv_why.specs.Places.{Part, part_of, path_of}
use Rattle.dv_why.specs.Wrong.{IsAt, HasText, IsUndeclarable, taken_name, missing_parent, IsGivenTwice}

-- the same part, a step farther
pub record IsUnder (s : Step) (m n : Misfit) : Type 0 where
  pub steps : n.steps.items ≡ s ∷ m.steps.items
  pub found : n.found ≡ m.found

pub at_under : (s : Step) (m n : Misfit) (path : List Part) → IsUnder s m n → IsAt path m → IsAt (part_of s ∷ path) n
at_under s m n path u h = ap path_of u.steps ∙ ap (λ (l : List Part). part_of s ∷ l) h

pub text_under : (s : Step) (m n : Misfit) (text : List ℕ) → IsUnder s m n → HasText text m → HasText text n
text_under s m n text u h = ap (λ f. as_str (view f.now)) u.found ∙ h

pub undeclarable_under : (table : List Class) (path : List Part) (s : Step) (m n : Misfit) → IsUnder s m n
    → IsUndeclarable table path m → IsUndeclarable table (part_of s ∷ path) n
undeclarable_under table path s m n u (taken_name name at has taken) =
    taken_name name (at_under s m n _ u at) (text_under s m n name u has) taken
undeclarable_under table path s m n u (missing_parent name at has none) =
    missing_parent name (at_under s m n _ u at) (text_under s m n name u has) none

pub given_under : (arrays : Items) (path : List Part) (s : Step) (m n : Misfit) → IsUnder s m n
    → IsGivenTwice arrays path m → IsGivenTwice arrays (part_of s ∷ path) n
given_under arrays path s m n u h = record {
  first = h.first;
  second = h.second;
  order = h.order;
  name = h.name;
  place = at_under s m n _ u h.place;
  found = text_under s m n h.name u h.found;
  same = h.same;
}
