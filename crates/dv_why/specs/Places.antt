-- Places in a JSON value, as JSON Pointers name them (RFC 6901), and what the place asks for.
use Rattle.std.specs.Prelude.{ℕ, zero, suc, List, [], ◌∷◌, map, Option, Some, None, option_and_then}
use Rattle.std.specs.Prelude.{option_map}
use Rattle.serde_json.specs.Data.{Data}
use Rattle.serde_json.specs.Find.{at, get}
use Rattle.dv_forms.specs.Parts.{call_at}
use Rattle.dv_why.specs.declared.misfit.Step.{Step}
use Rattle.dv_why.specs.declared.misfit.Step.TheVariants as step
use Rattle.dv_forms.specs.declared.want.Want.{Want}
use Rattle.dv_forms.specs.declared.want.Want.TheVariants as want
use Rattle.dv_forms.specs.declared.want.CallKind.{CallKind}
use Rattle.dv_forms.specs.Wants.{item_want, key_want, member_want, pair_wants, want_for}
use Rattle.dv_forms.specs.Words.{wants_of}
use Rattle.dv_document.specs.View.{count}

-- a step by itself: to the value of a key, or to the item of a number
pub data Part : Type 0 where
  to_key : List ℕ → Part
  to_item : ℕ → Part

abbrev pub part_of : Step → Part
part_of (step.Item n) = to_item n
part_of (step.Key text) = to_key text.now

-- the path of steps, as `/pools/1/0` is the path of three
abbrev pub path_of : List Step → List Part
path_of steps = map part_of steps

-- the path to the value of a key, or to the whole where it isn't there
abbrev pub path_to : List ℕ → Option Data → List Part
path_to text None = []
path_to text (Some d) = to_key text ∷ []

-- the part to which a step leads
abbrev pub step_to : Step → Data → Option Data
step_to (step.Item n) d = at n d
step_to (step.Key key) d = get key.now d

-- the part to which steps lead, the first step from the whole
abbrev pub at_place : List Step → Data → Option Data
at_place [] d = Some d
at_place (s ∷ rest) d = option_and_then (at_place rest) (step_to s d)

-- the item of this number
abbrev pub nth : List Want → ℕ → Option Want
nth [] n = None
nth (w ∷ ws) zero = Some w
nth (w ∷ ws) (suc n) = nth ws n

-- what the place of an argument asks for, by the form of the word
abbrev pub argument_want : CallKind → Data → ℕ → Option Want
argument_want c d n =
    option_and_then (λ call. option_and_then (λ ws. nth ws n) (wants_of c call.0 (count call.1))) (call_at d)

-- what the place of a part of a call asks for: first its word
abbrev pub call_want : CallKind → Data → ℕ → Option Want
call_want c d zero = Some (want.Word c)
call_want c d (suc n) = option_and_then (λ w. option_map (want_for w) (at (suc n) d)) (argument_want c d n)

-- what the place of an item of an array asks for, by what the array's place does
abbrev pub part_want : Want → Data → ℕ → Option Want
part_want (want.Leaf leaf) d n = None
part_want want.Value d n = option_map member_want (at n d)
part_want (want.Call c) d n = call_want c d n
part_want (want.Pair p) d n = nth (pair_wants p) n
part_want (want.Keyed k) d n = None
part_want (want.Array i) d n = Some (item_want i)
part_want (want.Word c) d n = None
part_want (want.Other k) d n = None

-- what the place of a key's value asks for
abbrev pub value_want : Want → List ℕ → Option Want
value_want (want.Leaf leaf) key = None
value_want want.Value key = None
value_want (want.Call c) key = None
value_want (want.Pair p) key = None
value_want (want.Keyed k) key = Some (key_want k key)
value_want (want.Array i) key = None
value_want (want.Word c) key = None
value_want (want.Other k) key = None

-- what the place asks for to which a step leads
abbrev pub step_want : Want → Data → Step → Option Want
step_want w d (step.Item n) = part_want w d n
step_want w d (step.Key key) = value_want w key.now

-- what the place asks for to which steps lead, where the whole asks for this
abbrev pub want_at : List Step → Want → Data → Option Want
want_at [] w d = Some w
want_at (s ∷ rest) w d = option_and_then (λ e. option_and_then (λ v. want_at rest v e) (step_want w d s)) (step_to s d)
