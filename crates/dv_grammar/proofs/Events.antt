-- What holds of events: what is read is in the grammar, and what is in the grammar is read.
use Rattle.std.proofs.Common.{◌≡◌, ℕ, ◌≤◌, List, [], ◌∷◌, Option, Some, None, option_and_then, refl, codes}
use Rattle.serde_json.specs.Data.{Data, string, array, Items, no_items, item, depth}
use Rattle.serde_json.specs.Read.{max_depth}
use Rattle.dv_value.specs.declared.classes.Class.{Class}
use Rattle.dv_script.specs.declared.action.Action.{Action}
use Rattle.dv_script.specs.declared.event.Event.{Event}
use Rattle.dv_script.specs.declared.event.Event.TheVariants as happens
use Rattle.dv_script.specs.declared.limits.TheConstants.{MOST_DRAINED}
use Rattle.dv_clock.specs.declared.limits.TheConstants.{MOST_TICKS}
use Rattle.dv_forms.specs.declared.words.EventWord.{EventWord}
use Rattle.dv_forms.specs.Words.{event_word, event_words}
use Rattle.dv_forms.specs.Parts.{text_at, number_at, call_at, none, first, one, two, sole, pair}
use Rattle.dv_grammar.specs.Grammar.{IsAction, IsEvent, acts, advances, drains, expects}
use Rattle.dv_grammar.specs.Shape.{action_by, action_at, event_by, event_at, event_of, expect_of, other_event}
use Rattle.dv_grammar.specs.Shape.{outcome_at, readers}
use Rattle.dv_grammar.proofs.Steps.{some_injective, bind}
use Rattle.dv_grammar.proofs.WordsLemmas.{◌&◌, EachWord, found_word}
use Rattle.dv_grammar.proofs.Leaves.{call_is, one_read, two_read, text_is, number_is, complete_number}
use Rattle.dv_grammar.proofs.Leaves.{sound_outcome, complete_outcome}
use Rattle.dv_grammar.proofs.Actions.{sound_action, sound_readers, complete_action}

-- what the word of this event reads as is in the grammar
abbrev IsEventRead : List Class → EventWord → List ℕ → Type 0
IsEventRead table word text =
    (ds : Items) (x : Event) → event_of table word ds ≡ Some x → IsEvent table (array (item (string text) ds)) x

sound_event_words : (table : List Class) → EachWord (IsEventRead table) event_words
unfolding event_of expect_of
sound_event_words table =
    (λ ds x e. one_read (number_at 0 MOST_TICKS) happens.Advance ds x e
    (λ d n ds_is n_is made. rw (ds_is, ← made) (advances d n (number_is 0 MOST_TICKS d n n_is)))) &
    (λ ds x e. one_read (number_at 0 MOST_DRAINED) happens.Drain ds x e
    (λ d n ds_is n_is made. rw (ds_is, ← made) (drains d n (number_is 0 MOST_DRAINED d n n_is)))) &
    (λ ds x e. two_read text_at (outcome_at table) happens.Expect ds x e
    (λ c f n y ds_is n_is y_is made. rw (ds_is, text_is c n n_is, ← made) (expects n f y (sound_outcome table f y y_is)))) &
    (λ ds x e. cc) &
    tt

sound_other : (table : List Class) (d : Data) (x : Event) → other_event table d ≡ Some x → IsEvent table d x
unfolding other_event
sound_other table d x e =
    bind (call_at d) _ x e (λ c c_is c_then.
    bind (event_word c.0) _ x c_then (λ w w_is w_then.
    rw (call_is d c c_is)
    (found_word (IsEventRead table) event_words (sound_event_words table) c.0 w w_is c.1 x w_then)))

sound_event_by : (table : List Class) (d : Data) (x : Event) (o : Option Action) (other : Option Event)
    → ((a : Action) → o ≡ Some a → IsAction table d a)
    → ((y : Event) → other ≡ Some y → IsEvent table d y) → event_by o other ≡ Some x → IsEvent table d x
sound_event_by table d x (Some a) other act happen e = rw (← some_injective e) (acts d a (act a refl))
sound_event_by table d x None other act happen e = happen x e

pub sound_event : (table : List Class) (d : Data) (x : Event) → event_at table d ≡ Some x → IsEvent table d x
unfolding event_at
sound_event table d x e =
    sound_event_by table d x (action_at table max_depth d) (other_event table d)
    (sound_action table (readers table max_depth) (sound_readers table max_depth) d) (sound_other table d) e

pub complete_event : (table : List Class) (d : Data) (e : Event) → depth d ≤ max_depth → IsEvent table d e
    → event_at table d ≡ Some e
unfolding event_at event_of expect_of other_event action_by call_at none first one two sole pair
complete_event table d _ h (acts _ a g) = rw (complete_action table max_depth g h) refl
complete_event table _ _ h (advances d n g) = rw (complete_number 0 MOST_TICKS d n g) refl
complete_event table _ _ h (drains d n g) = rw (complete_number 0 MOST_DRAINED d n g) refl
complete_event table _ _ h (expects name d x g) = rw (complete_outcome table d x g) refl
