-- A draft that is accepted is judged so, and one that isn't is refused. Repeats that add too many nodes weren't written
-- out in it, but then it is refused for its shape or its size, as the script would be.
use Rattle.std.proofs.Common.{◌≡◌, ◌≤◌, ℕ, nat_le, Bool, Option, Some, None, Ok, Err, true, false, if◌then◌else◌, option_and_then}
use Rattle.std.proofs.Common.{option_map, refl, sym, ap, ◌∙◌, ◌&&◌, arith}
use Rattle.std.specs.Prelude.{⊤}
use Rattle.std.proofs.lemmas.Bool.{and_parts, leb-true, le-leb}
use Rattle.serde_json.specs.Data.{Data}
use Rattle.dv_forms.specs.Limits.{most_nodes}
use Rattle.dv_forms.specs.declared.limits.TheConstants.{WIDEST_NODES}
use Rattle.dv_grammar.specs.declared.draft.Draft.{Draft}
use Rattle.dv_grammar.specs.Shape.{script_at, script_by}
use Rattle.dv_grammar.proofs.Steps.{some_injective}
use Rattle.dv_grammar.proofs.Outlines.{outline, version_of}
use Rattle.dv_reader.specs.declared.error.ScriptFault.{ScriptFault}
use Rattle.dv_reader.specs.declared.error.ScriptFault.TheVariants.{TooLong, NotJson, BadVersion, BadShape, TooMany}
use Rattle.dv_reader.specs.declared.error.ScriptFault.TheVariants.{BadName, BadClass, OutOfMemory, BadPool, BadBody}
use Rattle.dv_reader.specs.declared.error.ScriptFault.TheVariants.{BadCooperator}
use Rattle.dv_reader.specs.Limits.{added_to, all_nodes, is_small}
use Rattle.dv_reader.specs.Refusal.{keeps_version}
use Rattle.dv_reader.specs.Passes.{is_version, shape_at, Accepts, Judged}
use Rattle.dv_reader.proofs.Lengths.{nodes_most}

-- what is read as a draft that keeps to its version is that draft
pub shape_found : (d : Data) (draft : Draft) → script_at d ≡ Some draft → keeps_version d draft ≡ true
    → shape_at d ≡ Some draft
shape_found d draft is keeps = rw (is, keeps) refl

-- what is small enough has few nodes
pub small_nodes : (d : Data) (draft : Draft) → is_small d draft ≡ true → all_nodes d ≤ most_nodes draft.version
small_nodes d draft e =
    leb-true (all_nodes d) (most_nodes draft.version)
    (and_parts _ _ (and_parts _ _ (and_parts _ _ (and_parts _ _ (and_parts _ _ (and_parts _ _ (and_parts _ _ e).0).0).0).0).0).0).0

-- and its repeats add few
small_adds : (d : Data) (draft : Draft) → is_small d draft ≡ true → nat_le (added_to d) WIDEST_NODES ≡ true
small_adds d draft e =
    let few : all_nodes d ≤ most_nodes draft.version = small_nodes d draft e in
    let most : most_nodes draft.version ≤ WIDEST_NODES = nodes_most draft.version in
    let below : added_to d ≤ WIDEST_NODES = omega (arith, few, most) in
    le-leb (added_to d) WIDEST_NODES below

not_small : (d : Data) (draft : Draft) (b : Bool) → nat_le (added_to d) WIDEST_NODES ≡ false → is_small d draft ≡ b
    → b ≡ false
not_small d draft true many is = let few = small_adds d draft is in cc
not_small d draft false many is = refl

-- the draft, where its repeats are written out
abbrev WrittenOut : Data → Draft → Type 0
WrittenOut d draft = (whole : Draft) × (script_at d ≡ Some whole) × (whole.version ≡ draft.version)

written_by : (o : Option Draft) (version : ℕ) → Some version ≡ version_of o
    → (whole : Draft) × (o ≡ Some whole) × (whole.version ≡ version)
written_by None version e = cc
written_by (Some whole) version e = (whole, refl, sym (some_injective e))

written_out : (d : Data) (draft : Draft) → script_by false d ≡ Some draft → WrittenOut d draft
written_out d draft is =
    written_by (script_at d) draft.version (sym (ap version_of is) ∙ outline d)

no_version : (o : Option Draft) → None ≡ version_of o → o ≡ None
no_version None e = refl
no_version (Some whole) e = cc

-- what isn't read isn't read where its repeats are written out
unread : (d : Data) (expands : Bool) → script_by expands d ≡ None → script_at d ≡ None
unread d true none = none
unread d false none = no_version (script_at d) (sym (ap version_of none) ∙ outline d)

pub unshaped : (d : Data) (expands : Bool) → is_version d ≡ true → script_by expands d ≡ None
    → Judged d (Err BadShape)
unshaped d expands version none = (version, rw (unread d expands none) refl)

-- a draft that is small enough is written out
whole_draft : (d : Data) (draft : Draft) (expands : Bool) → expands ≡ nat_le (added_to d) WIDEST_NODES
    → script_by expands d ≡ Some draft → is_small d draft ≡ true → script_at d ≡ Some draft
whole_draft d draft true few is small = is
whole_draft d draft false many is small = let few = small_adds d draft small in cc

-- one that doesn't keep to its version has no shape
pub misshaped : (d : Data) (draft : Draft) (expands : Bool) → script_by expands d ≡ Some draft
    → keeps_version d draft ≡ false → shape_at d ≡ None
misshaped d draft true is h = rw (is, h) refl
misshaped d draft false is h =
    let w = written_out d draft is in
    let other : keeps_version d w.0 ≡ false = rw w.2 h in
    rw (w.1, other) refl

too_many : (d : Data) (draft : Draft) (expands : Bool) → is_version d ≡ true
    → expands ≡ nat_le (added_to d) WIDEST_NODES → script_by expands d ≡ Some draft
    → keeps_version d draft ≡ true → is_small d draft ≡ false → Judged d (Err TooMany)
too_many d draft true version few is keeps large = (draft, version, shape_found d draft is keeps, large)
too_many d draft false version many is keeps large =
    let w = written_out d draft is in
    let plain : keeps_version d w.0 ≡ true = rw w.2 keeps in
    (w.0, version, shape_found d w.0 w.1 plain, not_small d w.0 (is_small d w.0) (sym many) refl)

pub accepted : (d : Data) (draft : Draft) (expands : Bool) (t : ⊤) → is_version d ≡ true
    → expands ≡ nat_le (added_to d) WIDEST_NODES → script_by expands d ≡ Some draft
    → Accepts d draft (Ok t) → Judged d (Ok draft.script)
accepted d draft expands t version few is h =
    (draft, version, shape_found d draft (whole_draft d draft expands few is h.1) h.0, refl, h.1, h.2, h.3, h.4, h.5, h.6)

pub refused : (d : Data) (draft : Draft) (expands : Bool) (fault : ScriptFault) → is_version d ≡ true
    → expands ≡ nat_le (added_to d) WIDEST_NODES → script_by expands d ≡ Some draft
    → Accepts d draft (Err fault) → Judged d (Err fault)
refused d draft expands TooLong version few is h = absurd h
refused d draft expands NotJson version few is h = absurd h
refused d draft expands BadVersion version few is h = absurd h
refused d draft expands BadShape version few is h = (version, misshaped d draft expands is h)
refused d draft expands TooMany version few is h = too_many d draft expands version few is h.0 h.1
refused d draft expands BadName version few is h =
    (draft, version, shape_found d draft (whole_draft d draft expands few is h.1) h.0, h.1, h.2)
refused d draft expands BadClass version few is h =
    (draft, version, shape_found d draft (whole_draft d draft expands few is h.1) h.0, h.1, h.2, h.3)
refused d draft expands OutOfMemory version few is h = absurd h
refused d draft expands BadPool version few is h =
    (draft, version, shape_found d draft (whole_draft d draft expands few is h.1) h.0, h.1, h.2, h.3, h.4)
refused d draft expands BadBody version few is h =
    (draft, version, shape_found d draft (whole_draft d draft expands few is h.1) h.0, h.1, h.2, h.3, h.4, h.5)
refused d draft expands BadCooperator version few is h =
    (draft, version, shape_found d draft (whole_draft d draft expands few is h.1) h.0, h.1, h.2, h.3, h.4, h.5, h.6)
