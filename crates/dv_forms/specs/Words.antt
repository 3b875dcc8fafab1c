-- The words of the language: where each may stand, what comes with it, and since which version, as the constants say
-- it.
use Rattle.std.specs.Prelude.{ℕ, Bool, true, false, not, ◌&&◌, ◌||◌, nat_eq, nat_le, List, [], ◌∷◌, ◌++◌, length, map}
use Rattle.std.specs.Prelude.{Option, Some, None, option_and_then, if◌then◌else◌, bytes_eq}
use Rattle.std.specs.Borrow.{Bor}
use Rattle.dv_forms.specs.declared.want.CallKind.{CallKind}
use Rattle.dv_forms.specs.declared.want.CallKind.TheVariants as call
use Rattle.dv_forms.specs.declared.want.Want.{Want}
use Rattle.dv_forms.specs.declared.words.ActionWord.{ActionWord}
use Rattle.dv_forms.specs.declared.words.EventWord.{EventWord}
use Rattle.dv_forms.specs.declared.words.StatementWord.{StatementWord}
use Rattle.dv_forms.specs.declared.words.EndWord.{EndWord}
use Rattle.dv_forms.specs.declared.words.OutcomeWord.{OutcomeWord}
use Rattle.dv_forms.specs.declared.words.WorkWord.{WorkWord}
use Rattle.dv_forms.specs.declared.words.TheConstants.{ACTION_FORMS, EVENT_FORMS, STATEMENT_FORMS, LEAVING_FORMS}
use Rattle.dv_forms.specs.declared.words.TheConstants.{END_FORMS, OUTCOME_FORMS, WORK_FORMS}

-- a form of a word: what each argument has to be, how the form is shown, and the first version that has it
pub record Form : Type 0 where
  pub word : List ℕ
  pub wants : List Want
  pub shown : List ℕ
  pub since : ℕ

-- a form as the code has it
abbrev pub seen : {W : Type 0} → W × Bor (List ℕ) × Bor (List Want) × Bor (List ℕ) × ℕ → Form
seen f = record { word = f.1.now; wants = f.2.now; shown = f.3.now; since = f.4 }

-- the forms of the words that may stand at such a place, but for those of a narrower place
abbrev pub own_forms : CallKind → List Form
own_forms call.Event = map (λ f. record { word = f.1.now; wants = f.2.now; shown = f.3.now; since = f.4 }) EVENT_FORMS
own_forms call.Action = map (λ f. record { word = f.1.now; wants = f.2.now; shown = f.3.now; since = f.4 }) ACTION_FORMS
own_forms call.Statement =
    map (λ f. record { word = f.1.now; wants = f.2.now; shown = f.3.now; since = f.4 }) STATEMENT_FORMS
own_forms call.End = map (λ f. record { word = f.1.now; wants = f.2.now; shown = f.3.now; since = f.4 }) END_FORMS
own_forms call.Leaving =
    map (λ f. record { word = f.1.now; wants = f.2.now; shown = f.3.now; since = f.4 }) LEAVING_FORMS
own_forms call.Work = map (λ f. record { word = f.1.now; wants = f.2.now; shown = f.3.now; since = f.4 }) WORK_FORMS
own_forms call.Outcome =
    map (λ f. record { word = f.1.now; wants = f.2.now; shown = f.3.now; since = f.4 }) OUTCOME_FORMS

-- the narrower place whose words may stand at such a place, too
abbrev pub narrower : CallKind → Option CallKind
narrower call.Event = Some call.Action
narrower call.Action = None
narrower call.Statement = None
narrower call.End = Some call.Leaving
narrower call.Leaving = None
narrower call.Work = None
narrower call.Outcome = None

-- the first, or the second where there is no first
abbrev pub or_else : {X : Type 0} → Option X → Option X → Option X
or_else (Some x) other = Some x
or_else None other = other

-- what the so many arguments of a word have to be, by the first of these forms that has so many
abbrev pub wants_in : List Form → List ℕ → ℕ → Option (List Want)
wants_in [] word given = None
wants_in (form ∷ forms) word given =
    if bytes_eq form.word word && nat_eq (length form.wants) given then Some form.wants else wants_in forms word given

-- whether a form is for a word with so many arguments
abbrev pub is_for : List ℕ → ℕ → Form → Bool
is_for word given form = bytes_eq form.word word && nat_eq (length form.wants) given

-- whether one of the forms is
abbrev pub some_for : List ℕ → ℕ → List Form → Bool
some_for word given [] = false
some_for word given (form ∷ forms) = is_for word given form || some_for word given forms

-- whether no two forms are for one word with one number of arguments
abbrev pub apart : List Form → Bool
apart [] = true
apart (form ∷ forms) = not (some_for form.word (length form.wants) forms) && apart forms

-- what they have to be, where the word may stand at such a place and has a form with so many arguments
abbrev pub wants_of : CallKind → List ℕ → ℕ → Option (List Want)
wants_of c word given =
    or_else (wants_in (own_forms c) word given) (option_and_then (λ n. wants_in (own_forms n) word given) (narrower c))

-- whether these forms have a word in a script of this version
abbrev pub has_word : List Form → List ℕ → ℕ → Bool
has_word [] word version = false
has_word (form ∷ forms) word version =
    (bytes_eq form.word word && nat_le form.since version) || has_word forms word version

-- the same of a place that there may not be
abbrev pub has_word_at : Option CallKind → List ℕ → ℕ → Bool
has_word_at None word version = false
has_word_at (Some c) word version = has_word (own_forms c) word version

-- whether a word may stand at such a place in a script of this version, whatever comes with it
abbrev pub may_stand : CallKind → List ℕ → ℕ → Bool
may_stand c word version = has_word (own_forms c) word version || has_word_at (narrower c) word version

-- of words, each with its text, the one that a text names
abbrev pub named_in : {W : Type 0} → List (W × List ℕ) → List ℕ → Option W
named_in [] text = None
named_in (word ∷ words) text = if bytes_eq text word.1 then Some word.0 else named_in words text

-- the words of actions, each with its text
abbrev pub action_words : List (ActionWord × List ℕ)
action_words = map (λ f. (f.0, f.1.now)) ACTION_FORMS

-- the action that a text names
abbrev pub action_word : List ℕ → Option ActionWord
action_word = named_in action_words

-- the words of other events, each with its text
abbrev pub event_words : List (EventWord × List ℕ)
event_words = map (λ f. (f.0, f.1.now)) EVENT_FORMS

-- the event that is no action that a text names
abbrev pub event_word : List ℕ → Option EventWord
event_word = named_in event_words

-- the words of statements, each with its text
abbrev pub statement_words : List (StatementWord × List ℕ)
statement_words = map (λ f. (f.0, f.1.now)) STATEMENT_FORMS

-- the statement that a text names
abbrev pub statement_word : List ℕ → Option StatementWord
statement_word = named_in statement_words

-- the words of ends, each with its text
abbrev pub end_words : List (EndWord × List ℕ)
end_words = map (λ f. (f.0, f.1.now)) LEAVING_FORMS ++ map (λ f. (f.0, f.1.now)) END_FORMS

-- the end that a text names
abbrev pub end_word : List ℕ → Option EndWord
end_word = named_in end_words

-- the words of works, each with its text
abbrev pub work_words : List (WorkWord × List ℕ)
work_words = map (λ f. (f.0, f.1.now)) WORK_FORMS

-- the work that a text names
abbrev pub work_word : List ℕ → Option WorkWord
work_word = named_in work_words

-- the words of what is expected, each with its text
abbrev pub outcome_words : List (OutcomeWord × List ℕ)
outcome_words = map (λ f. (f.0, f.1.now)) OUTCOME_FORMS

-- what is expected that a text names
abbrev pub outcome_word : List ℕ → Option OutcomeWord
outcome_word = named_in outcome_words
