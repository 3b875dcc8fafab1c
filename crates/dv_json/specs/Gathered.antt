-- Lines are gathered, and written when there are some kilobytes of them.
use Rattle.std.specs.Prelude.{◌≡◌, ℕ, Bool, List, [], ◌∷◌, ◌++◌, codes, flat_map}
use Rattle.json.specs.Print.{quoted}
use Rattle.dv_journal.specs.Sink.{AppendsBut, AppendsPrefix}
use Rattle.dv_facts.specs.Parts.{IsVisible}
use Rattle.dv_json.specs.Text.{IsEndLine, IsOutcomeLine, batches_member, ended}
use Rattle.dv_journal.specs.Journal.{Written}
use Rattle.dv_posts.specs.Batches.{Batch}
use Rattle.dv_run.specs.Output.{outcome_line}
use Rattle.dv_run.specs.Headline.{Told}
use Rattle.dv_store.specs.declared.outcome.Outcome.{Outcome}
use Rattle.dv_value.specs.declared.classes.Class.{Class}

-- the line was gathered after what waited to be written; of both all was written, but for what is gathered now
pub record Gathers (old : Told) (waiting : List ℕ) (new : Told) (gathered : List ℕ) (text : List ℕ) : Type 0 where
  pub written : AppendsBut old new (waiting ++ text) gathered

-- lines of this kind were
pub record GathersLines (AreLines : List (List ℕ)
    → Type 0) (old : Told) (waiting : List ℕ) (new : Told) (gathered : List ℕ) : Type 0 where
  pub lines : List (List ℕ)
  pub are : AreLines lines
  pub gathers : Gathers old waiting new gathered (flat_map ended lines)

-- of what waited, and of lines of this kind after it, a prefix was written
pub record CutsLines (AreLines : List (List ℕ) → Type 0) (old : Told) (waiting : List ℕ) (new : Told) : Type 0 where
  pub lines : List (List ℕ)
  pub are : AreLines lines
  pub cut : AppendsPrefix old new (waiting ++ flat_map ended lines)

-- the only line is one that ends a run
pub record IsEnd (batches : List Batch) (journal : Written) (stopped : Bool) (lines : List (List ℕ)) : Type 0 where
  pub line : List ℕ
  pub only : lines ≡ line ∷ []
  pub is_line : IsEndLine batches journal stopped line

-- the line of a Deferred was added
pub record AddsOutcome (table : List Class) (number : ℕ) (outcome : Outcome) (old new : List ℕ) : Type 0 where
  pub line : List ℕ
  pub grew : new ≡ old ++ line
  pub is_line : IsOutcomeLine table number outcome line

-- the outcome line of a Deferred was added as a string, without its end
pub record AddsShown (table : List Class) (number : ℕ) (outcome : Outcome) (old new : List ℕ) : Type 0 where
  pub shown : List ℕ
  pub shows : ended shown ≡ outcome_line table number outcome
  pub grew : new ≡ old ++ (codes ",\"line\":" ++ quoted shown)

-- the line that ends a run was begun, with the batches in which posts were taken
pub record AddsWork (batches : List Batch) (old new : List ℕ) : Type 0 where
  pub after : List ℕ
  pub grew : new ≡ old ++ (batches_member batches ++ after)
  pub visible : IsVisible after

-- the line that ends a run was added
pub record AddsEnd (batches : List Batch) (journal : Written) (stopped : Bool) (old new : List ℕ) : Type 0 where
  pub line : List ℕ
  pub grew : new ≡ old ++ line
  pub is_line : IsEndLine batches journal stopped line
