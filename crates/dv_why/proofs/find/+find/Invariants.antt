use Rattle.std.proofs.Common.{◌≡◌, ℕ, ◌+◌, ◌*◌, ◌<◌, ◌≤◌, get_or, [], Some}
use Rattle.serde_json.specs.Data.{Data, depth}
use Rattle.serde_json.specs.Find.{at, get}
use Rattle.serde_json.specs.View.{view}
use Rattle.dv_forms.specs.declared.want.Want.{Want}
use Rattle.dv_forms.specs.Wants.{key_want, keys_in}
use Rattle.dv_why.specs.Places.{part_want}
use Rattle.dv_why.specs.AllSuit.{AllSuit}
use Rattle.dv_why.proofs.find.+find.Given as goal

abbrev pub decreases-find : goal.decreases-find
decreases-find l = 8 * l.levels + 7

abbrev pub decreases-other_key : goal.decreases-other_key
decreases-other_key l = 8 * l.levels + 6

abbrev pub decreases-in_parts : goal.decreases-in_parts
decreases-in_parts l = 8 * l.levels + 6

abbrev pub decreases-in_array : goal.decreases-in_array
decreases-in_array l = 8 * l.levels + 9

abbrev pub decreases-in_item : goal.decreases-in_item
decreases-in_item l = 8 * l.levels + 8

abbrev pub decreases-in_object : goal.decreases-in_object
decreases-in_object l = 8 * l.levels + 9

abbrev pub decreases-in_key : goal.decreases-in_key
decreases-in_key l = 8 * l.levels + 8

abbrev pub decreases-at_other_key : goal.decreases-at_other_key
decreases-at_other_key l = 8 * l.levels + 9

-- each item before answers well
abbrev pub invariant-in_array-loop-number : goal.invariant-in_array-loop-number
invariant-in_array-loop-number l = (k : ℕ) → k < l.number → depth (view l.json) ≤ l.levels + 1
    → (v : Want) (e : Data) → part_want l.want (view l.json) k ≡ Some v → at k (view l.json) ≡ Some e
    → AllSuit l.question v e

-- the value of each key before does
abbrev pub invariant-in_object-loop-key : goal.invariant-in_object-loop-key
invariant-in_object-loop-key l = (k : ℕ) → k < l.key-index → depth (view l.json) ≤ l.levels + 1
    → (e : Data) → get (get_or (keys_in l.keyed) k []) (view l.json) ≡ Some e
    → AllSuit l.question (key_want l.keyed (get_or (keys_in l.keyed) k [])) e
