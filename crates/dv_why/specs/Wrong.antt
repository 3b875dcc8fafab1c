-- What is wrong at the place that is reported, refusal by refusal.
use Rattle.std.specs.Prelude.{◌≡◌, ◌≢◌, ◌<◌, ◌⊎◌, ℕ, false, List, [], ◌∷◌, ◌++◌, Some, None, codes, ⊤}
use Rattle.serde_json.specs.Data.{Data, Items}
use Rattle.serde_json.specs.Find.{get, as_str}
use Rattle.serde_json.specs.View.{view}
use Rattle.dv_value.specs.declared.classes.Class.{Class}
use Rattle.dv_value.specs.Classes.{find_class}
use Rattle.dv_script.specs.declared.limits.TheConstants.{MOST_BODIES, MOST_CALLERS, MOST_CLASSES, MOST_COOPERATORS}
use Rattle.dv_script.specs.declared.limits.TheConstants.{MOST_POOLS}
use Rattle.dv_script.specs.declared.limits.TheConstants.{MOST_POSTS}
use Rattle.dv_clock.specs.declared.limits.TheConstants.{MOST_TICKS}
use Rattle.dv_forms.specs.Limits.{most_nodes}
use Rattle.dv_reader.specs.Limits.{all_nodes}
use Rattle.dv_reader.specs.declared.error.ScriptFault.{ScriptFault}
use Rattle.dv_reader.specs.declared.error.ScriptFault.TheVariants.{TooLong, NotJson, BadVersion, BadShape, TooMany}
use Rattle.dv_reader.specs.declared.error.ScriptFault.TheVariants.{BadName, BadClass, OutOfMemory, BadPool, BadBody}
use Rattle.dv_reader.specs.declared.error.ScriptFault.TheVariants.{BadCooperator}
use Rattle.dv_forms.specs.declared.want.Keyed.TheVariants as keyed
use Rattle.dv_forms.specs.declared.want.Leaf.{Leaf}
use Rattle.dv_forms.specs.declared.want.Leaf.TheVariants as leaf_of
use Rattle.dv_forms.specs.declared.want.Object.TheVariants as object
use Rattle.dv_forms.specs.declared.want.Want.{Want}
use Rattle.dv_forms.specs.declared.want.Want.TheVariants as want
use Rattle.dv_why.specs.declared.misfit.Misfit.{Misfit}
use Rattle.dv_why.specs.Places.{Part, to_item, to_key, path_of, path_to}
use Rattle.dv_forms.specs.Wants.{a_class, a_cooperator, a_pool}
use Rattle.dv_why.specs.Documents.{version_in, list_in, name_in}
use Rattle.dv_why.specs.Counts.{count_in, posts_of, ticks_in}
use Rattle.dv_why.specs.Declaring.{table_before, table_in}
use Rattle.dv_questions.specs.Questions.{is_named}
use Rattle.dv_why.specs.Fits.{fits}

-- the place has this path
abbrev pub IsAt : List Part → Misfit → Type 0
IsAt path m = path_of m.steps.items ≡ path

-- this text stands there
abbrev pub HasText : List ℕ → Misfit → Type 0
HasText text m = as_str (view m.found.now) ≡ Some text

-- BadVersion: the place is the version, or the whole where there is none
abbrev pub IsAtVersion : Data → Misfit → Type 0
IsAtVersion d m = IsAt (path_to (codes "version") (get (codes "version") d)) m

-- BadShape: what stands there doesn't fit what its place asks for
abbrev pub IsMisshaped : Data → Misfit → Type 0
IsMisshaped d m = fits (version_in d) m.want (view m.found.now) ≡ false

-- TooMany: there is too much of what stands there
pub data IsTooMuch (d : Data) (m : Misfit) : Type 0 where
  -- of nodes in the whole, with those that its repeats add, by its version
  many_nodes : IsAt [] m → most_nodes (version_in d) < all_nodes d → IsTooMuch d m
  many_classes : IsAt (to_key (codes "classes") ∷ []) m → MOST_CLASSES < count_in (codes "classes") d → IsTooMuch d m
  many_pools : IsAt (to_key (codes "pools") ∷ []) m → MOST_POOLS < count_in (codes "pools") d → IsTooMuch d m
  many_bodies : IsAt (to_key (codes "bodies") ∷ []) m → MOST_BODIES < count_in (codes "bodies") d → IsTooMuch d m
  many_cooperators : IsAt (to_key (codes "cooperators") ∷ []) m → MOST_COOPERATORS < count_in (codes "cooperators") d
      → IsTooMuch d m
  many_callers : IsAt (to_key (codes "callers") ∷ []) m → MOST_CALLERS < count_in (codes "callers") d → IsTooMuch d m
  -- of posts of a caller
  many_posts : (n : ℕ) → IsAt (to_key (codes "callers") ∷ to_item n ∷ []) m → MOST_POSTS < posts_of n d → IsTooMuch d m
  -- of ticks that the events advance the clock by
  many_ticks : IsAt (to_key (codes "events") ∷ []) m → MOST_TICKS < ticks_in d → IsTooMuch d m

-- the name of a body that is looked up
abbrev pub a_named_body : Leaf
a_named_body = leaf_of.Found object.Body

-- the place asks for this leaf, or for a body, which may be given by its name
abbrev pub AsksFor : Leaf → Want → Type 0
AsksFor leaf w = (w ≡ want.Leaf leaf) ⊎ ((since : ℕ) × (w ≡ want.Keyed (keyed.Body since)) × (leaf ≡ a_named_body))

-- BadName: a text stands there, and it hasn't the form of a name that its place asks for in the document's version
pub record IsMisnamed (d : Data) (m : Misfit) : Type 0 where
  pub name : List ℕ
  pub leaf : Leaf
  pub asks : AsksFor leaf m.want
  pub found : HasText name m
  pub wrong : is_named (version_in d) leaf name ≡ false

-- the declaration at this path may not be added to this table: its name, part 0 of it, is taken, or its parent, part 1,
-- isn't there
pub data IsUndeclarable (table : List Class) (path : List Part) (m : Misfit) : Type 0 where
  taken_name : (name : List ℕ) → IsAt (path ++ to_item 0 ∷ []) m → HasText name m → find_class name table ≢ None
      → IsUndeclarable table path m
  missing_parent : (name : List ℕ) → IsAt (path ++ to_item 1 ∷ []) m → HasText name m → find_class name table ≡ None
      → IsUndeclarable table path m

-- BadClass: a class may not be declared after those before it, or a class is used that isn't in the table of all
pub data IsBadClass (d : Data) (m : Misfit) : Type 0 where
  undeclarable : (n : ℕ)
      → IsUndeclarable (table_before (version_in d) (list_in (codes "classes") d) n)
      (to_key (codes "classes") ∷ to_item n ∷ []) m
      → IsBadClass d m
  unknown_class : (name : List ℕ) → m.want ≡ a_class → HasText name m → find_class name (table_in d) ≡ None
      → IsBadClass d m

-- the second of two arrays of the list at this path begins with the name with which the first does
pub record IsGivenTwice (arrays : Items) (path : List Part) (m : Misfit) : Type 0 where
  pub first : ℕ
  pub second : ℕ
  pub order : first < second
  pub name : List ℕ
  pub place : IsAt (path ++ to_item second ∷ to_item 0 ∷ []) m
  pub found : HasText name m
  pub same : name_in first arrays ≡ Some name

-- BadPool: a pool has the name of one before it, or a pool is used whose name none has
pub data IsBadPool (d : Data) (m : Misfit) : Type 0 where
  given_twice : IsGivenTwice (list_in (codes "pools") d) (to_key (codes "pools") ∷ []) m → IsBadPool d m
  unknown_pool : (name : List ℕ) → m.want ≡ a_pool → HasText name m
      → ((n : ℕ) → name_in n (list_in (codes "pools") d) ≢ Some name) → IsBadPool d m

-- BadBody: a body has the name of one before it, or a body is used by a name that none has
pub data IsBadBody (d : Data) (m : Misfit) : Type 0 where
  named_twice : IsGivenTwice (list_in (codes "bodies") d) (to_key (codes "bodies") ∷ []) m → IsBadBody d m
  unknown_body : (name : List ℕ) → AsksFor a_named_body m.want → HasText name m
      → ((n : ℕ) → name_in n (list_in (codes "bodies") d) ≢ Some name) → IsBadBody d m

-- BadCooperator: a Cooperator has the name of one before it, or a Cooperator is used whose name none has
pub data IsBadCooperator (d : Data) (m : Misfit) : Type 0 where
  declared_twice : IsGivenTwice (list_in (codes "cooperators") d) (to_key (codes "cooperators") ∷ []) m
      → IsBadCooperator d m
  unknown_cooperator : (name : List ℕ) → m.want ≡ a_cooperator → HasText name m
      → ((n : ℕ) → name_in n (list_in (codes "cooperators") d) ≢ Some name) → IsBadCooperator d m

-- what is wrong where a script is refused so
abbrev pub IsWrong : ScriptFault → Data → Misfit → Type 0
IsWrong TooLong d m = ⊤
IsWrong NotJson d m = ⊤
IsWrong BadVersion d m = IsAtVersion d m
IsWrong BadShape d m = IsMisshaped d m
IsWrong TooMany d m = IsTooMuch d m
IsWrong BadName d m = IsMisnamed d m
IsWrong BadClass d m = IsBadClass d m
IsWrong OutOfMemory d m = ⊤
IsWrong BadPool d m = IsBadPool d m
IsWrong BadBody d m = IsBadBody d m
IsWrong BadCooperator d m = IsBadCooperator d m
