-- An action begins with its word.
use Rattle.std.proofs.Common.{◌≡◌, ℕ, List, Some, refl, arith}
use Rattle.serde_json.specs.Data.{Data, string, array, Items, item, depth}
use Rattle.dv_value.specs.declared.classes.Class.{Class}
use Rattle.dv_script.specs.declared.action.Action.{Action}
use Rattle.dv_forms.specs.declared.words.ActionWord.{ActionWord}
use Rattle.dv_forms.specs.Parts.{call_at}
use Rattle.dv_forms.specs.Words.{action_word}
use Rattle.dv_grammar.specs.Grammar.{IsAction}
use Rattle.dv_grammar.specs.Shape.{action_by, action_at}
use Rattle.dv_grammar.proofs.Steps.{some_injective, bind}
use Rattle.dv_grammar.proofs.Actions.{complete_action}

-- an array that begins with the word of an action
pub record BeginsAsAction (d : Data) : Type 0 where
  pub word : List ℕ
  pub rest : Items
  pub whole : d ≡ array (item (string word) rest)
  pub found : ActionWord
  pub is : action_word word ≡ Some found

call_is : (d : Data) (c : List ℕ × Items) → call_at d ≡ Some c → d ≡ array (item (string c.0) c.1)
unfolding call_at
call_is (array (item (string word) ds)) c e = rw (← (some_injective e)) refl
call_is _ c e = cc

pub action_begins : (table : List Class) (d : Data) (a : Action) → IsAction table d a → BeginsAsAction d
unfolding action_by
action_begins table d a g =
    let e : action_at table (depth d) d ≡ Some a = complete_action table (depth d) g (omega arith) in
    bind (call_at d) _ a e (λ c c_is c_then.
    bind (action_word c.0) _ a c_then (λ w w_is w_then.
    record { word = c.0; rest = c.1; whole = call_is d c c_is; found = w; is = w_is }))
