-- What holds of actions, bodies and statements: what is read is in the grammar, what is in the grammar is read, and it
-- keeps its times.
use Rattle.std.proofs.Common.{◌≡◌, ℕ, zero, suc, ◌≤◌, Bool, true, List, [], ◌∷◌, Option, Some, None, refl, ap, ◌∙◌}
use Rattle.std.proofs.Common.{codes, inl, inr, nat_cmp, arith, map, min, max, nat_eq, subst}
use Rattle.serde_json.specs.Data.{Data, boolean, string, array, object, Items, no_items, item, Members, no_members}
use Rattle.serde_json.specs.Data.{member}
use Rattle.serde_json.specs.Data.{depth, items_depth, members_depth}
use Rattle.serde_json.specs.Find.{as_bool, as_array, as_str, get_member}
use Rattle.dv_value.specs.declared.classes.Class.{Class}
use Rattle.dv_script.specs.declared.body.End.TheVariants.{Pass}
use Rattle.dv_script.specs.declared.body.Body.{Body, map-Body, out-Body}
use Rattle.dv_script.specs.declared.body.Statement.{Statement, Do, Await, Try, Finally, map-Statement}
use Rattle.dv_script.specs.declared.body.Statement.{Raise as RaiseAgain, Caught, End as Leave}
use Rattle.dv_script.specs.declared.body.Statement.{out-Statement}
use Rattle.dv_script.specs.declared.action.Action.{Action, Deferred, Callback, Errback, AddCallback, AddErrback}
use Rattle.dv_script.specs.declared.action.Action.{AddBoth, AddCallbacks, Chain, Pause, Unpause, Cancel, AddTimeout}
use Rattle.dv_script.specs.declared.action.Action.{Note, List as ListOf, Gather, Maybe, Lock, Semaphore, Acquire}
use Rattle.dv_script.specs.declared.action.Action.{Release, RunWith, Queue, Put, Get, Later, CancelCall, ResetCall}
use Rattle.dv_script.specs.declared.action.Action.{DelayCall, StopLoop}
use Rattle.dv_script.specs.declared.action.Action.{Cooperate, WhenDone, PauseTask, StopTask, ResumeTask, Inline, Thread}
use Rattle.dv_script.specs.declared.action.Action.{map-Action, out-Action, Loop, ThreadIn, Units, CooperateIn}
use Rattle.dv_script.specs.declared.action.Action.{UnitsIn, StopCooperator}
use Rattle.dv_script.specs.declared.limits.TheConstants.{MOST_PLACES, MOST_UNITS}
use Rattle.dv_clock.specs.declared.limits.TheConstants.{MOST_DELAY}
use Rattle.dv_forms.specs.Forms.{call, IsList, IsText, IsNumber, IsClass, IsValue}
use Rattle.dv_forms.specs.declared.words.ActionWord.{ActionWord}
use Rattle.dv_forms.specs.declared.words.StatementWord.{StatementWord}
use Rattle.dv_forms.specs.Words.{action_word, action_words, statement_word, statement_words}
use Rattle.dv_grammar.specs.Grammar.{body_keys, IsEnd, IsWork, IsListFlag, IsGatherFlag, IsBound, IsAction, deferred}
use Rattle.dv_grammar.specs.Grammar.{deferred_with, callback, errback, add_callback, add_errback, add_both}
use Rattle.dv_grammar.specs.Grammar.{add_callbacks, chain, pause, unpause, cancel, add_timeout, add_timeout_with, note}
use Rattle.dv_grammar.specs.Grammar.{list, gather}
use Rattle.dv_grammar.specs.Grammar.{maybe, lock, semaphore, acquire, release, run_with, queue, put, get, later}
use Rattle.dv_grammar.specs.Grammar.{cancel_call, reset_call, delay_call, loop, loop_of_bodies, stop_loop, cooperate}
use Rattle.dv_grammar.specs.Grammar.{when_done, pause_task, stop_task}
use Rattle.dv_grammar.specs.Grammar.{cooperate_in, units_in, stop_cooperator}
use Rattle.dv_grammar.specs.Grammar.{resume_task, inline, thread, thread_in, units, AreActions, no_actions}
use Rattle.dv_grammar.specs.Grammar.{more_actions, IsDo}
use Rattle.dv_grammar.specs.Grammar.{does_nothing, does, IsBody, body, body_by_name, running, AreBodies, no_bodies}
use Rattle.dv_grammar.specs.Grammar.{more_bodies, IsStatement}
use Rattle.dv_grammar.specs.Grammar.{performs, awaits, tries, finishes, raises_again, takes_caught, leaves}
use Rattle.dv_grammar.specs.Grammar.{AreStatements, no_statements, more_statements}
use Rattle.dv_grammar.specs.Grammar.{is_delay, is_interval, action_step, body_step, statement_step, times_action}
use Rattle.dv_grammar.specs.Grammar.{times_body, times_statement}
use Rattle.dv_forms.specs.Parts.{value_at, each, list_at, text_at, number_at, bound_at, class_at, list_flag_at}
use Rattle.dv_forms.specs.Parts.{gather_flag_at, call_at, none, first, if_any, one, one_or_two, two_or_three, two}
use Rattle.dv_forms.specs.Parts.{three, four, five}
use Rattle.dv_forms.specs.Parts.{sole, pair, triple, one_of, two_of, three_of, fields_at, field, if_there}
use Rattle.dv_grammar.specs.Shape.{end_at, leave_at, work_at, Readers, action_with, action_by, action_of}
use Rattle.dv_grammar.specs.Shape.{new_deferred_of, timeout_of, thread_in_of, loop_of, by_name_or, keyed_body_by}
use Rattle.dv_grammar.specs.Shape.{body_by, some_bodies, turns_at, turns_by}
use Rattle.dv_grammar.specs.Shape.{statement_by, statement_of, readers}
use Rattle.dv_grammar.specs.Shape.{body_at, action_at, statement_at}
use Rattle.dv_grammar.proofs.Steps.{some_injective, bind, mapped, picked}
use Rattle.dv_grammar.proofs.WordsLemmas.{◌&◌, EachWord, found_word}
use Rattle.std.specs.Cmp.Lexicographic.{slice_cmp}
use Rattle.dv_grammar.proofs.Leaves.{none_is, first_is, four_is, five_is, any_is, call_is, one_read, two_read}
use Rattle.dv_grammar.proofs.Leaves.{three_read}
use Rattle.dv_grammar.proofs.Leaves.{text_is, boolean_is, array_is, number_is, bound_is, class_is, list_flag_is}
use Rattle.dv_grammar.proofs.Leaves.{gather_flag_is, sound_value, sound_list, sound_field, fields_is, sound_end}
use Rattle.dv_grammar.proofs.Leaves.{sound_leave, sound_work, complete_value, complete_list, complete_field}
use Rattle.dv_grammar.proofs.Leaves.{complete_text, complete_class, complete_classes, complete_number, complete_bound}
use Rattle.dv_grammar.proofs.Leaves.{complete_list_flag, complete_gather_flag, complete_end, complete_work}
use Rattle.std.specs.List.{list_all}
use Rattle.std.proofs.lemmas.Bool.Decides.{nat_tests}
use Rattle.dv_script.specs.declared.action.Action.TheVariants.{outs-Deferred, outs-Callback, outs-Errback}
use Rattle.dv_script.specs.declared.action.Action.TheVariants.{outs-AddCallback, outs-AddErrback, outs-AddBoth}
use Rattle.dv_script.specs.declared.action.Action.TheVariants.{outs-AddCallbacks, outs-Chain, outs-Pause, outs-Unpause}
use Rattle.dv_script.specs.declared.action.Action.TheVariants.{outs-Cancel, outs-AddTimeout, outs-Note, outs-List}
use Rattle.dv_script.specs.declared.action.Action.TheVariants.{outs-Gather, outs-Maybe, outs-Lock, outs-Semaphore}
use Rattle.dv_script.specs.declared.action.Action.TheVariants.{outs-Acquire, outs-Release, outs-RunWith, outs-Queue}
use Rattle.dv_script.specs.declared.action.Action.TheVariants.{outs-Put, outs-Get, outs-Later, outs-CancelCall}
use Rattle.dv_script.specs.declared.action.Action.TheVariants.{outs-ResetCall, outs-DelayCall}
use Rattle.dv_script.specs.declared.action.Action.TheVariants.{outs-Loop, outs-StopLoop, outs-Cooperate, outs-WhenDone}
use Rattle.dv_script.specs.declared.action.Action.TheVariants.{outs-PauseTask, outs-StopTask, outs-ResumeTask}
use Rattle.dv_script.specs.declared.action.Action.TheVariants.{outs-Inline, outs-Thread, outs-ThreadIn, outs-Units}
use Rattle.dv_script.specs.declared.action.Action.TheVariants.{outs-CooperateIn, outs-UnitsIn}
use Rattle.dv_script.specs.declared.action.Action.TheVariants.{outs-StopCooperator}
use Rattle.dv_script.specs.declared.body.Statement.TheVariants.{outs-Do, outs-Await, outs-Try, outs-Finally}
use Rattle.dv_script.specs.declared.body.Statement.TheVariants.{outs-Raise, outs-Caught, outs-End}
use Rattle.dv_script.specs.declared.action.Action.TheFolds.{fold_out-Action, fold_out-Statement, fold_out-Body}

-- ---- actions, by their forms

-- a name alone
pub named : (table : List Class) (make : List ℕ → Action) (word : List ℕ)
    → ((n : List ℕ) → IsAction table (call word (string n ∷ [])) (make n))
    → (ds : Items) (x : Action) → one_of text_at make ds ≡ Some x → IsAction table (array (item (string word) ds)) x
named table make word rule ds x e =
    one_read text_at make ds x e (λ d n ds_is n_is made. rw (ds_is, text_is d n n_is, ← made) (rule n))

-- two names
pub named_twice : (table : List Class) (make : List ℕ → List ℕ → Action) (word : List ℕ)
    → ((n m : List ℕ) → IsAction table (call word (string n ∷ string m ∷ [])) (make n m))
    → (ds : Items) (x : Action) → two_of text_at text_at make ds ≡ Some x
    → IsAction table (array (item (string word) ds)) x
named_twice table make word rule ds x e =
    two_read text_at text_at make ds x e
    (λ d f n m ds_is n_is m_is made. rw (ds_is, text_is d n n_is, text_is f m m_is, ← made) (rule n m))

-- a name, and one thing more
pub named_with : {B : Type 0} (table : List Class) (bt : Data → Option B) (Is : Data → B → Type 0)
    → ((d : Data) (b : B) → bt d ≡ Some b → Is d b)
    → (make : List ℕ → B → Action) (word : List ℕ)
    → ((n : List ℕ) (d : Data) (b : B) → Is d b → IsAction table (call word (string n ∷ d ∷ [])) (make n b))
    → (ds : Items) (x : Action) → two_of text_at bt make ds ≡ Some x → IsAction table (array (item (string word) ds)) x
named_with table bt Is sound make word rule ds x e =
    two_read text_at bt make ds x e
    (λ d f n b ds_is n_is b_is made. rw (ds_is, text_is d n n_is, ← made) (rule n f b (sound f b b_is)))

-- a name, and two things more
pub named_with_two : {B C : Type 0} (table : List Class) (bt : Data → Option B) (Is : Data → B → Type 0)
    → ((d : Data) (b : B) → bt d ≡ Some b → Is d b)
    → (ct : Data → Option C) (Are : Data → C → Type 0) → ((d : Data) (c : C) → ct d ≡ Some c → Are d c)
    → (make : List ℕ → B → C → Action) (word : List ℕ)
    → ((n : List ℕ) (d f : Data) (b : B) (c : C) → Is d b → Are f c
    → IsAction table (call word (string n ∷ d ∷ f ∷ [])) (make n b c))
    → (ds : Items) (x : Action) → three_of text_at bt ct make ds ≡ Some x
    → IsAction table (array (item (string word) ds)) x
named_with_two table bt Is sound ct Are sounds make word rule ds x e =
    three_read text_at bt ct make ds x e (λ d f g n b c ds_is n_is b_is c_is made.
    rw (ds_is, text_is d n n_is, ← made) (rule n f g b c (sound f b b_is) (sounds g c c_is)))

-- what the readers read is in the grammar
pub record AreSound (table : List Class) (r : Readers) : Type 0 where
  pub body : (d : Data) (b : Body) → r.body d ≡ Some b → IsBody table d b
  pub statement : (d : Data) (s : Statement) → r.statement d ≡ Some s → IsStatement table d s

-- an array of bodies
abbrev pub IsBodies : List Class → Data → List Body → Type 0
IsBodies table d bs = (ds : Items) × (d ≡ array ds) × AreBodies table ds bs

-- an array of statements
abbrev pub IsStatements : List Class → Data → List Statement → Type 0
IsStatements table d ss = (ds : Items) × (d ≡ array ds) × AreStatements table ds ss

module _ (table : List Class) (r : Readers) (sound : AreSound table r) where
  pub sound_bodies : (ds : Items) (bs : List Body) → each r.body ds ≡ Some bs → AreBodies table ds bs
  sound_bodies no_items bs e = rw (← some_injective e) no_bodies
  sound_bodies (item d ds) bs e =
      bind (r.body d) _ bs e (λ a a_is a_then.
      mapped (each r.body ds) _ bs a_then (λ b b_is b_then.
      rw (← b_then) (more_bodies d ds a b (sound.body d a a_is) (sound_bodies ds b b_is))))

  pub bodies_in : (d : Data) (bs : List Body) → list_at r.body d ≡ Some bs → IsBodies table d bs
  bodies_in d bs e =
      bind (as_array d) (each r.body) bs e (λ ds ds_is ds_then. (ds, array_is d ds ds_is, sound_bodies ds bs ds_then))

  pub sound_statements : (ds : Items) (ss : List Statement) → each r.statement ds ≡ Some ss → AreStatements table ds ss
  sound_statements no_items ss e = rw (← some_injective e) no_statements
  sound_statements (item d ds) ss e =
      bind (r.statement d) _ ss e (λ a a_is a_then.
      mapped (each r.statement ds) _ ss a_then (λ b b_is b_then.
      rw (← b_then) (more_statements d ds a b (sound.statement d a a_is) (sound_statements ds b b_is))))

  pub statements_in : (d : Data) (ss : List Statement) → list_at r.statement d ≡ Some ss → IsStatements table d ss
  statements_in d ss e =
      bind (as_array d) (each r.statement) ss e
      (λ ds ds_is ds_then. (ds, array_is d ds ds_is, sound_statements ds ss ds_then))

  pub sound_deferred : (ds : Items) (name : List ℕ) (o : Option Data) (b : Option Body) → if_any ds ≡ Some o
      → if_there r.body o ≡ Some b
      → IsAction table (array (item (string (codes "deferred")) (item (string name) ds))) (Deferred name b)
  sound_deferred ds name None b e g = elim (any_is ds None e) [
    | inl h ↦ rw (h.0, ← some_injective g) (deferred name)
    | inr h ↦ cc
  ]
  sound_deferred ds name (Some d) b e g = elim (any_is ds (Some d) e) [
    | inl h ↦ cc
    | inr h ↦ mapped (r.body d) Some b g (λ x x_is x_then. rw (h.1, ← some_injective h.2, ← x_then)
        (deferred_with name d x (sound.body d x x_is)))
  ]

  pub maker_read : (ds : Items) (x : Action) → new_deferred_of r.body ds ≡ Some x
      → IsAction table (array (item (string (codes "deferred")) ds)) x
  unfolding new_deferred_of one_or_two
  maker_read ds x e =
      bind (one_or_two ds) _ x e (λ p p_is p_then.
      bind (first ds) _ p p_is (λ a a_is a_then.
      bind (if_any a.1) _ p a_then (λ o o_is o_then.
      bind (text_at p.0) _ x p_then (λ n n_is n_then.
      bind (if_there r.body p.1) _ x n_then (λ b b_is b_then.
      rw (first_is ds a a_is, ← some_injective b_then, ap (λ q. q.0) (some_injective o_then), text_is p.0 n n_is)
      (sound_deferred a.1 n p.1 b (o_is ∙ ap (λ q. Some q.1) (some_injective o_then)) b_is))))))

  pub sound_timeout : (c : Data) (name : List ℕ) (delay : ℕ) → IsNumber 0 MOST_DELAY c delay
      → (ds : Items) (o : Option Data) (b : Option Body) → if_any ds ≡ Some o → if_there r.body o ≡ Some b
      → IsAction table (array (item (string (codes "addTimeout")) (item (string name) (item c ds))))
      (AddTimeout name delay b)
  sound_timeout c name delay h ds None b e g = elim (any_is ds None e) [
    | inl k ↦ rw (k.0, ← some_injective g) (add_timeout name c delay h)
    | inr k ↦ cc
  ]
  sound_timeout c name delay h ds (Some d) b e g = elim (any_is ds (Some d) e) [
    | inl k ↦ cc
    | inr k ↦ mapped (r.body d) Some b g (λ x x_is x_then. rw (k.1, ← some_injective k.2, ← x_then)
        (add_timeout_with name c d delay x h (sound.body d x x_is)))
  ]

  pub timeout_read : (ds : Items) (x : Action) → timeout_of r.body ds ≡ Some x
      → IsAction table (array (item (string (codes "addTimeout")) ds)) x
  unfolding timeout_of two_or_three
  timeout_read ds x e =
      bind (two_or_three ds) _ x e (λ p p_is p_then.
      bind (first ds) _ p p_is (λ a a_is a_then.
      bind (first a.1) _ p a_then (λ c c_is c_then.
      bind (if_any c.1) _ p c_then (λ o o_is o_then.
      bind (text_at p.0) _ x p_then (λ n n_is n_then.
      bind (number_at 0 MOST_DELAY p.1) _ x n_then (λ k k_is k_then.
      bind (if_there r.body p.2) _ x k_then (λ b b_is b_then.
      let same = some_injective o_then in
      rw (
        first_is ds a a_is,
        first_is a.1 c c_is,
        ← some_injective b_then,
        ap (λ q. q.0) same,
        ap (λ q. q.1) same,
        text_is p.0 n n_is,
      )
      (sound_timeout p.1 n k (number_is 0 MOST_DELAY p.1 k k_is) c.1 p.2 b (o_is ∙ ap (λ q. Some q.2) same) b_is))))))))

  pub thread_in_read : (ds : Items) (x : Action) → thread_in_of table ds ≡ Some x
      → IsAction table (array (item (string (codes "threadIn")) ds)) x
  unfolding thread_in_of
  thread_in_read ds x e =
      bind (four ds) _ x e (λ p p_is p_then.
      bind (text_at p.0) _ x p_then (λ n n_is n_then.
      bind (text_at p.1) _ x n_then (λ m m_is m_then.
      bind (number_at 0 MOST_DELAY p.2) _ x m_then (λ k k_is k_then.
      bind (work_at table p.3) _ x k_then (λ b b_is b_then.
      rw (four_is ds p p_is, text_is p.0 n n_is, text_is p.1 m m_is, ← some_injective b_then)
      (thread_in n m p.2 p.3 k b (number_is 0 MOST_DELAY p.2 k k_is) (sound_work table p.3 b b_is)))))))

  sound_some : (ds : Items) (t : Body × List Body) → some_bodies r.body ds ≡ Some t
      → (d : Data) × (es : Items) × (ds ≡ item d es) × IsBody table d t.0 × AreBodies table es t.1
  unfolding some_bodies
  sound_some ds t e =
      bind (first ds) _ t e (λ p p_is p_then.
      bind (r.body p.0) _ t p_then (λ b b_is b_then.
      bind (each r.body p.1) _ t b_then (λ bs bs_is bs_then.
      let q = subst (λ (x : Body × List Body). IsBody table p.0 x.0 × AreBodies table p.1 x.1) (some_injective bs_then)
      (sound.body p.0 b b_is, sound_bodies p.1 bs bs_is) in
      (p.0, p.1, first_is ds p p_is, q.0, q.1))))

  -- the bodies of the turns of a loop are in the grammar
  sound_turns : (n m : List ℕ) (c f : Data) (k : ℕ) (now : Bool) → IsNumber 1 MOST_DELAY c k → (o : Option Items)
      → as_array f ≡ o → (t : Body × List Body) → turns_by r.body o f ≡ Some t
      → IsAction table (call (codes "loop") (string n ∷ string m ∷ c ∷ boolean now ∷ f ∷ []))
      (Loop n m k now t.0 t.1)
  sound_turns n m c f k now h None is t e =
      mapped (r.body f) (λ b. (b, [])) t e (λ b b_is b_then. rw (← b_then)
      (loop n m c k now f b h (sound.body f b b_is)))
  sound_turns n m c f k now h (Some ds) is t e =
      let g = sound_some ds t e in
      rw (array_is f ds is, g.2) (loop_of_bodies n m c k now g.0 g.1 t.0 t.1 h g.3 g.4)

  pub loop_read : (ds : Items) (x : Action) → loop_of r.body ds ≡ Some x
      → IsAction table (array (item (string (codes "loop")) ds)) x
  unfolding loop_of turns_at
  loop_read ds x e =
      bind (five ds) _ x e (λ p p_is p_then.
      bind (text_at p.0) _ x p_then (λ n n_is n_then.
      bind (text_at p.1) _ x n_then (λ m m_is m_then.
      bind (number_at 1 MOST_DELAY p.2) _ x m_then (λ k k_is k_then.
      bind (as_bool p.3) _ x k_then (λ c c_is c_then.
      bind (turns_at r.body p.4) _ x c_then (λ t t_is t_then.
      rw (five_is ds p p_is, text_is p.0 n n_is, text_is p.1 m m_is, boolean_is p.3 c c_is, ← some_injective t_then)
      (sound_turns n m p.2 p.4 k c (number_is 1 MOST_DELAY p.2 k k_is) (as_array p.4) refl t t_is)))))))

  -- what the word of this action reads as is in the grammar
  abbrev pub IsActionRead : ActionWord → List ℕ → Type 0
  IsActionRead word text =
      (ds : Items) (x : Action) → action_of table r.body r.statement word ds ≡ Some x
      → IsAction table (array (item (string text) ds)) x

  -- each word in the order of the table
  pub sound_words : EachWord IsActionRead action_words
  unfolding action_of
  sound_words =
      maker_read &
      maker_read &
      named_with table (value_at table) (IsValue table) (sound_value table) Callback (codes "callback") callback &
      named_with_two table (class_at table) (IsClass table) (class_is table) text_at IsText text_is Errback
      (codes "errback") (λ n c f class text c_is f_is. rw f_is (errback n c class text c_is)) &
      named_with table r.body (IsBody table) sound.body AddCallback (codes "addCallback") add_callback &
      named_with table r.body (IsBody table) sound.body AddErrback (codes "addErrback") add_errback &
      named_with table r.body (IsBody table) sound.body AddBoth (codes "addBoth") add_both &
      named_with_two table r.body (IsBody table) sound.body r.body (IsBody table) sound.body AddCallbacks
      (codes "addCallbacks") add_callbacks &
      named_twice table Chain (codes "chain") chain &
      named table Pause (codes "pause") pause &
      named table Unpause (codes "unpause") unpause &
      named table Cancel (codes "cancel") cancel &
      timeout_read &
      timeout_read &
      named table Note (codes "note") note &
      named_with_two table (list_at text_at) (IsList IsText) (sound_list IsText text_at text_is) (list_at list_flag_at)
      (IsList IsListFlag) (sound_list IsListFlag list_flag_at list_flag_is) ListOf (codes "list") list &
      named_with_two table (list_at text_at) (IsList IsText) (sound_list IsText text_at text_is)
      (list_at gather_flag_at) (IsList IsGatherFlag) (sound_list IsGatherFlag gather_flag_at gather_flag_is) Gather
      (codes "gather") gather &
      named_with table r.body (IsBody table) sound.body Maybe (codes "maybe") maybe &
      named table Lock (codes "lock") lock &
      named_with table (number_at 1 MOST_PLACES) (IsNumber 1 MOST_PLACES) (number_is 1 MOST_PLACES) Semaphore
      (codes "semaphore") semaphore &
      named_twice table Acquire (codes "acquire") acquire &
      named table Release (codes "release") release &
      named_with_two table text_at IsText text_is r.body (IsBody table) sound.body RunWith (codes "runWith")
      (λ n c f l b c_is b_is. rw c_is (run_with n l f b b_is)) &
      named_with_two table bound_at IsBound bound_is bound_at IsBound bound_is Queue (codes "queue") queue &
      named_with table (value_at table) (IsValue table) (sound_value table) Put (codes "put") put &
      named_twice table Get (codes "get") get &
      named_with_two table (number_at 0 MOST_DELAY) (IsNumber 0 MOST_DELAY) (number_is 0 MOST_DELAY) r.body
      (IsBody table) sound.body Later (codes "later") later &
      named table CancelCall (codes "cancelCall") cancel_call &
      named_with table (number_at 0 MOST_DELAY) (IsNumber 0 MOST_DELAY) (number_is 0 MOST_DELAY) ResetCall
      (codes "resetCall") reset_call &
      named_with table (number_at 0 MOST_DELAY) (IsNumber 0 MOST_DELAY) (number_is 0 MOST_DELAY) DelayCall
      (codes "delayCall") delay_call &
      loop_read &
      named table StopLoop (codes "stopLoop") stop_loop &
      named_with table (list_at r.body) (IsBodies table) bodies_in Cooperate (codes "cooperate")
      (λ n d bs h. rw h.1 (cooperate n h.0 bs h.2)) &
      named_twice table WhenDone (codes "whenDone") when_done &
      named table PauseTask (codes "pauseTask") pause_task &
      named table StopTask (codes "stopTask") stop_task &
      named table ResumeTask (codes "resumeTask") resume_task &
      named_with table (list_at r.statement) (IsStatements table) statements_in Inline (codes "inline")
      (λ n d ss h. rw h.1 (inline n h.0 ss h.2)) &
      named_with_two table (number_at 0 MOST_DELAY) (IsNumber 0 MOST_DELAY) (number_is 0 MOST_DELAY) (work_at table)
      (IsWork table) (sound_work table) Thread (codes "thread") thread &
      thread_in_read &
      (λ ds x e. one_read (number_at 1 MOST_UNITS) Units ds x e
      (λ d n ds_is n_is made. rw (ds_is, ← made) (units d n (number_is 1 MOST_UNITS d n n_is)))) &
      named_with_two table text_at IsText text_is (list_at r.body) (IsBodies table) bodies_in CooperateIn
      (codes "cooperateIn") (λ n c d w bs c_is h. rw (c_is, h.1) (cooperate_in n w h.0 bs h.2)) &
      named_with table (number_at 1 MOST_UNITS) (IsNumber 1 MOST_UNITS) (number_is 1 MOST_UNITS) UnitsIn
      (codes "unitsIn") units_in &
      named table StopCooperator (codes "stopCooperator") stop_cooperator &
      tt

  pub sound_action : (d : Data) (x : Action) → action_with table r d ≡ Some x → IsAction table d x
  unfolding action_by
  sound_action d x e =
      bind (call_at d) _ x e (λ c c_is c_then.
      bind (action_word c.0) _ x c_then (λ w w_is w_then.
      rw (call_is d c c_is) (found_word IsActionRead action_words sound_words c.0 w w_is c.1 x w_then)))

  pub sound_actions : (ds : Items) (xs : List Action) → each (action_with table r) ds ≡ Some xs → AreActions table ds xs
  sound_actions no_items xs e = rw (← some_injective e) no_actions
  sound_actions (item d ds) xs e =
      bind (action_with table r d) _ xs e (λ a a_is a_then.
      mapped (each (action_with table r) ds) _ xs a_then (λ b b_is b_then.
      rw (← b_then) (more_actions d ds a b (sound_action d a a_is) (sound_actions ds b b_is))))

  pub sound_do : (o : Option Data) (xs : List Action) → field [] (list_at (action_with table r)) o ≡ Some xs
      → IsDo table o xs
  sound_do None xs e = rw (← some_injective e) does_nothing
  sound_do (Some d) xs e =
      bind (as_array d) (each (action_with table r)) xs e
      (λ ds ds_is ds_then. rw (array_is d ds ds_is) (does ds xs (sound_actions ds xs ds_then)))

  pub sound_body_by : (d : Data) (b : Body) → body_by table (action_with table r) d ≡ Some b → IsBody table d b
  unfolding body_by keyed_body_by fields_at
  sound_body_by (string name) b e = rw (← some_injective e) (body_by_name name)
  sound_body_by (object ms) b e =
      bind (fields_at body_keys (object ms)) _ b e (λ t t_is t_then.
      bind (field [] (list_at (action_with table r)) (get_member (codes "do") ms)) _ b t_then (λ a a_is a_then.
      bind (field Pass (end_at table) (get_member (codes "end") ms)) _ b a_then (λ l l_is l_then.
      rw (← some_injective l_then)
      (body ms a l (fields_is body_keys ms t t_is) (sound_do (get_member (codes "do") ms) a a_is)
      (sound_field Pass l (IsEnd table) (end_at table) (sound_end table) (get_member (codes "end") ms) l_is)))))
  sound_body_by _ b e = cc

  -- what the word of this statement reads as is in the grammar
  abbrev pub IsStatementRead : StatementWord → List ℕ → Type 0
  IsStatementRead word text =
      (ds : Items) (x : Statement) → statement_of table (action_with table r) r.statement word ds ≡ Some x
      → IsStatement table (array (item (string text) ds)) x

  pub sound_statement_words : EachWord IsStatementRead statement_words
  unfolding statement_of
  sound_statement_words =
      (λ ds x e. one_read (action_with table r) Do ds x e
      (λ d a ds_is a_is made. rw (ds_is, ← made) (performs d a (sound_action d a a_is)))) &
      (λ ds x e. one_read text_at Await ds x e (λ d n ds_is n_is made. rw (ds_is, text_is d n n_is, ← made) (awaits n)))
      &
      (λ ds x e. three_read (list_at r.statement) (list_at (class_at table)) (list_at r.statement) Try ds x e
      (λ d f g a c b ds_is a_is c_is b_is made.
      let first = statements_in d a a_is in
      let second = statements_in g b b_is in
      rw (ds_is, first.1, second.1, ← made)
      (tries first.0 f second.0 a c b first.2
      (sound_list (IsClass table) (class_at table) (class_is table) f c c_is) second.2))) &
      (λ ds x e. two_read (list_at r.statement) (list_at r.statement) Finally ds x e
      (λ d f a b ds_is a_is b_is made.
      let first = statements_in d a a_is in
      let second = statements_in f b b_is in
      rw (ds_is, first.1, second.1, ← made) (finishes first.0 second.0 a b first.2 second.2))) &
      (λ ds x e. bind (none ds) _ x e (λ t t_is t_then. rw (none_is ds t t_is, ← some_injective t_then) raises_again)) &
      (λ ds x e. bind (none ds) _ x e (λ t t_is t_then. rw (none_is ds t t_is, ← some_injective t_then) takes_caught)) &
      (λ ds x e. one_read (leave_at table) Leave ds x e (λ d l ds_is l_is made.
      let left = sound_leave table d l l_is in
      rw (ds_is, ← made) (leaves d l left.0 left.1))) &
      tt

  pub sound_statement_by : (d : Data) (x : Statement) → statement_by table (action_with table r) r.statement d ≡ Some x
      → IsStatement table d x
  unfolding statement_by
  sound_statement_by d x e =
      bind (call_at d) _ x e (λ c c_is c_then.
      bind (statement_word c.0) _ x c_then (λ w w_is w_then.
      rw (call_is d c c_is) (found_word IsStatementRead statement_words sound_statement_words c.0 w w_is c.1 x w_then)))

sound_by_name : (table : List Class) (d : Data) (b : Body) → by_name_or (as_str d) None ≡ Some b → IsBody table d b
sound_by_name table (string name) b e = rw (← some_injective e) (body_by_name name)
sound_by_name table _ b e = cc

pub sound_readers : (table : List Class) (n : ℕ) → AreSound table (readers table n)
unfolding readers
sound_readers table zero = record { body = sound_by_name table; statement = λ d s e. cc }
sound_readers table (suc n) = record {
  body = sound_body_by table (readers table n) (sound_readers table n);
  statement = sound_statement_by table (readers table n) (sound_readers table n);
}

-- ---- how deep members lie

-- a member is no deeper than the members
pub depth-get_member : (key : List ℕ) (ms : Members) (d : Data) → get_member key ms ≡ Some d
    → depth d ≤ members_depth ms
depth-get_member key no_members d e = cc
depth-get_member key (member k c ms) d e = elim (picked (slice_cmp nat_cmp key k) (get_member key ms) c d e) [
  | inl h ↦ let below : depth d ≤ members_depth ms = depth-get_member key ms d h in omega (arith, below)
  | inr h ↦ rw h (omega arith)
]

-- a body is no array
no_array : {table : List Class} {d : Data} {b : Body} → IsBody table d b → as_array d ≡ None
no_array (body_by_name name) = refl
no_array (body ms xs e only g l) = refl

-- ---- actions, bodies, statements

mutual
  unfolding action_by action_of new_deferred_of timeout_of thread_in_of loop_of call_at none first if_any one one_or_two
      two_or_three two three
      four five sole pair triple readers body_by keyed_body_by fields_at statement_by statement_of leave_at
      turns_at some_bodies

  pub complete_action : (table : List Class) {d : Data} {a : Action} (n : ℕ) → IsAction table d a → depth d ≤ n
      → action_at table n d ≡ Some a
  complete_action table n (deferred name) h = refl
  complete_action table n (deferred_with name d canceller g) h = rw (complete_body table n g (omega (arith, h))) refl
  complete_action table n (callback name d v g) h = rw (complete_value table g) refl
  complete_action table n (errback name c class text g) h = rw (complete_class table c class g) refl
  complete_action table n (add_callback name d side g) h = rw (complete_body table n g (omega (arith, h))) refl
  complete_action table n (add_errback name d side g) h = rw (complete_body table n g (omega (arith, h))) refl
  complete_action table n (add_both name d side g) h = rw (complete_body table n g (omega (arith, h))) refl
  complete_action table n (add_callbacks name c e on_value on_failure g k) h =
      rw (complete_body table n g (omega (arith, h)), complete_body table n k (omega (arith, h))) refl
  complete_action table n (chain name other) h = refl
  complete_action table n (pause name) h = refl
  complete_action table n (unpause name) h = refl
  complete_action table n (cancel name) h = refl
  complete_action table n (add_timeout name d delay g) h = rw (complete_number 0 MOST_DELAY d delay g) refl
  complete_action table n (add_timeout_with name c d delay b g k) h =
      rw (complete_number 0 MOST_DELAY c delay g, complete_body table n k (omega (arith, h))) refl
  complete_action table n (note text) h = refl
  complete_action table n (list name c e children flags g k) h = rw (
    complete_list IsText text_at complete_text c children g,
    complete_list IsListFlag list_flag_at complete_list_flag e flags k,
  ) refl
  complete_action table n (gather name c e children flags g k) h = rw (
    complete_list IsText text_at complete_text c children g,
    complete_list IsGatherFlag gather_flag_at complete_gather_flag e flags k,
  ) refl
  complete_action table n (maybe name d b g) h = rw (complete_body table n g (omega (arith, h))) refl
  complete_action table n (lock name) h = refl
  complete_action table n (semaphore name d m g) h = rw (complete_number 1 MOST_PLACES d m g) refl
  complete_action table n (acquire name other) h = refl
  complete_action table n (release name) h = refl
  complete_action table n (run_with name other d b g) h = rw (complete_body table n g (omega (arith, h))) refl
  complete_action table n (queue name c e size backlog g k) h =
      rw (complete_bound c size g, complete_bound e backlog k) refl
  complete_action table n (put name d v g) h = rw (complete_value table g) refl
  complete_action table n (get name other) h = refl
  complete_action table n (later name c d delay b g k) h =
      rw (complete_number 0 MOST_DELAY c delay g, complete_body table n k (omega (arith, h))) refl
  complete_action table n (cancel_call name) h = refl
  complete_action table n (reset_call name d delay g) h = rw (complete_number 0 MOST_DELAY d delay g) refl
  complete_action table n (delay_call name d delay g) h = rw (complete_number 0 MOST_DELAY d delay g) refl
  complete_action table n (loop name other c interval at_once d b g k) h =
      rw (complete_number 1 MOST_DELAY c interval g, no_array k, complete_body table n k (omega (arith, h))) refl
  complete_action table n (loop_of_bodies name other c interval at_once d ds b bs g k l) h = rw (
    complete_number 1 MOST_DELAY c interval g,
    complete_body table n k (omega (arith, h)),
    complete_bodies table n l (omega (arith, h)),
  ) refl
  complete_action table n (stop_loop name) h = refl
  complete_action table n (cooperate name ds bodies g) h = rw (complete_bodies table n g (omega (arith, h))) refl
  complete_action table n (when_done name task) h = refl
  complete_action table n (pause_task name) h = refl
  complete_action table n (stop_task name) h = refl
  complete_action table n (resume_task name) h = refl
  complete_action table n (inline name ds statements g) h = rw (complete_statements table n g (omega (arith, h))) refl
  complete_action table n (thread name c d delay job g k) h =
      rw (complete_number 0 MOST_DELAY c delay g, complete_work table d job k) refl
  complete_action table n (thread_in name pool c d delay job g k) h =
      rw (complete_number 0 MOST_DELAY c delay g, complete_work table d job k) refl
  complete_action table n (units d m g) h = rw (complete_number 1 MOST_UNITS d m g) refl
  complete_action table n (cooperate_in name w ds bodies g) h = rw (complete_bodies table n g (omega (arith, h))) refl
  complete_action table n (units_in name d m g) h = rw (complete_number 1 MOST_UNITS d m g) refl
  complete_action table n (stop_cooperator name) h = refl

  pub complete_actions : (table : List Class) {ds : Items} {xs : List Action} (n : ℕ) → AreActions table ds xs
      → items_depth ds ≤ n → each (action_at table n) ds ≡ Some xs
  complete_actions table n no_actions h = refl
  complete_actions table n (more_actions d ds a xs g gs) h =
      rw (complete_action table n g (omega (arith, h)), complete_actions table n gs (omega (arith, h))) refl

  pub complete_do : (table : List Class) {xs : List Action} (n : ℕ) (o : Option Data) → IsDo table o xs
      → ((d : Data) → o ≡ Some d → depth d ≤ n) → field [] (list_at (action_at table n)) o ≡ Some xs
  complete_do table n _ does_nothing h = refl
  complete_do table n _ (does ds xs g) h =
      complete_actions table n g (let k : suc (items_depth ds) ≤ n = h _ refl in omega (arith, k))

  pub complete_body : (table : List Class) {d : Data} {b : Body} (n : ℕ) → IsBody table d b → depth d ≤ n
      → body_at table n d ≡ Some b
  complete_body table zero (body_by_name name) h = refl
  complete_body table (suc n) (body_by_name name) h = refl
  complete_body table zero (body ms xs e only g l) h = absurd (omega (arith, h))
  complete_body table (suc n) (body ms xs e only g l) h =
      rw only (rw (
        complete_do table n (get_member (codes "do") ms) g (λ d k. let below : depth d ≤ members_depth ms =
            depth-get_member (codes "do") ms d k in omega (arith, h, below)),
        complete_field Pass e (IsEnd table) (end_at table) (complete_end table) (get_member (codes "end") ms) l,
      ) refl)

  pub complete_bodies : (table : List Class) {ds : Items} {xs : List Body} (n : ℕ) → AreBodies table ds xs
      → items_depth ds ≤ n → each (body_at table n) ds ≡ Some xs
  complete_bodies table n no_bodies h = refl
  complete_bodies table n (more_bodies d ds b xs g gs) h =
      rw (complete_body table n g (omega (arith, h)), complete_bodies table n gs (omega (arith, h))) refl

  pub complete_statement : (table : List Class) {d : Data} {s : Statement} (n : ℕ) → IsStatement table d s → depth d ≤ n
      → statement_at table n d ≡ Some s
  complete_statement table zero (performs d a g) h = absurd (omega (arith, h))
  complete_statement table zero (awaits name) h = absurd (omega (arith, h))
  complete_statement table zero (tries ds c hs xs classes ys g k l) h = absurd (omega (arith, h))
  complete_statement table zero (finishes ds hs xs ys g l) h = absurd (omega (arith, h))
  complete_statement table zero raises_again h = absurd (omega (arith, h))
  complete_statement table zero takes_caught h = absurd (omega (arith, h))
  complete_statement table zero (leaves d end g may) h = absurd (omega (arith, h))
  complete_statement table (suc n) (performs d a g) h = rw (complete_action table n g (omega (arith, h))) refl
  complete_statement table (suc n) (awaits name) h = refl
  complete_statement table (suc n) (tries ds c hs xs classes ys g k l) h =
      rw (
        complete_statements table n g (omega (arith, h)),
        complete_classes table c classes k,
        complete_statements table n l (omega (arith, h)),
      ) refl
  complete_statement table (suc n) (finishes ds hs xs ys g l) h =
      rw (complete_statements table n g (omega (arith, h)), complete_statements table n l (omega (arith, h))) refl
  complete_statement table (suc n) raises_again h = refl
  complete_statement table (suc n) takes_caught h = refl
  complete_statement table (suc n) (leaves d end g may) h = rw (complete_end table d end g, may) refl

  pub complete_statements : (table : List Class) {ds : Items} {xs : List Statement} (n : ℕ) → AreStatements table ds xs
      → items_depth ds ≤ n → each (statement_at table n) ds ≡ Some xs
  complete_statements table n no_statements h = refl
  complete_statements table n (more_statements d ds s xs g gs) h =
      rw (complete_statement table n g (omega (arith, h)), complete_statements table n gs (omega (arith, h))) refl

-- ---- times: none of them is cut

same_number : (n : ℕ) → nat_eq n n ≡ true
same_number n = grind (arith, nat_tests)

delay_is : {d : Data} {delay : ℕ} → IsNumber 0 MOST_DELAY d delay → is_delay delay ≡ true
delay_is {d} {delay} h = let same : min delay MOST_DELAY ≡ delay = omega (arith, h.2) in rw same (same_number delay)

pub interval_is : {d : Data} {interval : ℕ} → IsNumber 1 MOST_DELAY d interval → is_interval interval ≡ true
interval_is {d} {interval} h =
    let same : max 1 (min interval MOST_DELAY) ≡ interval = omega (arith, h.1, h.2) in rw same (same_number interval)

-- by one layer of it
by_action : (a : Action) → action_step
    (map-Action Action Statement Body Bool Bool Bool times_action times_statement times_body (out-Action a)) ≡ true
    → times_action a ≡ true
by_action a h = fold_out-Action Bool Bool Bool action_step statement_step body_step a ∙ h

by_statement : (s : Statement) → statement_step
    (map-Statement Action Statement Body Bool Bool Bool times_action times_statement times_body (out-Statement s))
    ≡ true → times_statement s ≡ true
by_statement s h = fold_out-Statement Bool Bool Bool action_step statement_step body_step s ∙ h

by_body : (b : Body)
    → body_step (map-Body Action Statement Body Bool Bool Bool times_action times_statement times_body (out-Body b))
    ≡ true → times_body b ≡ true
by_body b h = fold_out-Body Bool Bool Bool action_step statement_step body_step b ∙ h

mutual
  pub short_action : {table : List Class} {d : Data} {a : Action} → IsAction table d a → times_action a ≡ true
  short_action (deferred name) = by_action (Deferred name None) (rw (outs-Deferred name None) refl)
  short_action (deferred_with name d canceller g) =
      by_action (Deferred name (Some canceller)) (rw (outs-Deferred name (Some canceller)) (short_body g))
  short_action (callback name d v g) = by_action (Callback name v) (rw (outs-Callback name v) refl)
  short_action (errback name c class text g) =
      by_action (Errback name class text) (rw (outs-Errback name class text) refl)
  short_action (add_callback name d side g) =
      by_action (AddCallback name side) (rw (outs-AddCallback name side) (short_body g))
  short_action (add_errback name d side g) =
      by_action (AddErrback name side) (rw (outs-AddErrback name side) (short_body g))
  short_action (add_both name d side g) = by_action (AddBoth name side) (rw (outs-AddBoth name side) (short_body g))
  short_action (add_callbacks name c e on_value on_failure g k) =
      by_action (AddCallbacks name on_value on_failure)
      (rw (outs-AddCallbacks name on_value on_failure) (rw (short_body g, short_body k) refl))
  short_action (chain name other) = by_action (Chain name other) (rw (outs-Chain name other) refl)
  short_action (pause name) = by_action (Pause name) (rw (outs-Pause name) refl)
  short_action (unpause name) = by_action (Unpause name) (rw (outs-Unpause name) refl)
  short_action (cancel name) = by_action (Cancel name) (rw (outs-Cancel name) refl)
  short_action (add_timeout name d delay g) =
      by_action (AddTimeout name delay None) (rw (outs-AddTimeout name delay None) (rw (delay_is g) refl))
  short_action (add_timeout_with name c d delay b g k) =
      by_action (AddTimeout name delay (Some b))
      (rw (outs-AddTimeout name delay (Some b)) (rw (delay_is g, short_body k) refl))
  short_action (note text) = by_action (Note text) (rw (outs-Note text) refl)
  short_action (list name c e children flags g k) =
      by_action (ListOf name children flags) (rw (outs-List name children flags) refl)
  short_action (gather name c e children flags g k) =
      by_action (Gather name children flags) (rw (outs-Gather name children flags) refl)
  short_action (maybe name d b g) = by_action (Maybe name b) (rw (outs-Maybe name b) (short_body g))
  short_action (lock name) = by_action (Lock name) (rw (outs-Lock name) refl)
  short_action (semaphore name d m g) = by_action (Semaphore name m) (rw (outs-Semaphore name m) refl)
  short_action (acquire name other) = by_action (Acquire name other) (rw (outs-Acquire name other) refl)
  short_action (release name) = by_action (Release name) (rw (outs-Release name) refl)
  short_action (run_with name other d b g) =
      by_action (RunWith name other b) (rw (outs-RunWith name other b) (short_body g))
  short_action (queue name c e size backlog g k) =
      by_action (Queue name size backlog) (rw (outs-Queue name size backlog) refl)
  short_action (put name d v g) = by_action (Put name v) (rw (outs-Put name v) refl)
  short_action (get name other) = by_action (Get name other) (rw (outs-Get name other) refl)
  short_action (later name c d delay b g k) =
      by_action (Later name delay b) (rw (outs-Later name delay b) (rw (delay_is g, short_body k) refl))
  short_action (cancel_call name) = by_action (CancelCall name) (rw (outs-CancelCall name) refl)
  short_action (reset_call name d delay g) =
      by_action (ResetCall name delay) (rw (outs-ResetCall name delay) (rw (delay_is g) refl))
  short_action (delay_call name d delay g) =
      by_action (DelayCall name delay) (rw (outs-DelayCall name delay) (rw (delay_is g) refl))
  short_action (loop name other c interval at_once d b g k) =
      by_action (Loop name other interval at_once b [])
      (rw (outs-Loop name other interval at_once b []) (rw (interval_is g, short_body k) refl))
  short_action (loop_of_bodies name other c interval at_once d ds b bs g k l) =
      by_action (Loop name other interval at_once b bs)
      (rw (outs-Loop name other interval at_once b bs) (rw (interval_is g, short_body k, short_bodies l) refl))
  short_action (stop_loop name) = by_action (StopLoop name) (rw (outs-StopLoop name) refl)
  short_action (cooperate name ds bodies g) =
      by_action (Cooperate name bodies) (rw (outs-Cooperate name bodies) (rw (short_bodies g) refl))
  short_action (when_done name task) = by_action (WhenDone name task) (rw (outs-WhenDone name task) refl)
  short_action (pause_task name) = by_action (PauseTask name) (rw (outs-PauseTask name) refl)
  short_action (stop_task name) = by_action (StopTask name) (rw (outs-StopTask name) refl)
  short_action (resume_task name) = by_action (ResumeTask name) (rw (outs-ResumeTask name) refl)
  short_action (inline name ds statements g) =
      by_action (Inline name statements) (rw (outs-Inline name statements) (rw (short_statements g) refl))
  short_action (thread name c d delay job g k) =
      by_action (Thread name delay job) (rw (outs-Thread name delay job) (rw (delay_is g) refl))
  short_action (thread_in name pool c d delay job g k) =
      by_action (ThreadIn name pool delay job) (rw (outs-ThreadIn name pool delay job) (rw (delay_is g) refl))
  short_action (units d m g) = by_action (Units m) (rw (outs-Units m) refl)
  short_action (cooperate_in name w ds bodies g) =
      by_action (CooperateIn name w bodies) (rw (outs-CooperateIn name w bodies) (rw (short_bodies g) refl))
  short_action (units_in name d m g) = by_action (UnitsIn name m) (rw (outs-UnitsIn name m) refl)
  short_action (stop_cooperator name) = by_action (StopCooperator name) (rw (outs-StopCooperator name) refl)

  short_actions : {table : List Class} {ds : Items} {xs : List Action} → AreActions table ds xs
      → list_all (λ b. b) (map times_action xs) ≡ true
  short_actions no_actions = refl
  short_actions (more_actions d ds a xs g gs) = rw (short_action g, short_actions gs) refl

  short_do : {table : List Class} {xs : List Action} {o : Option Data} → IsDo table o xs
      → list_all (λ b. b) (map times_action xs) ≡ true
  short_do does_nothing = refl
  short_do (does ds xs g) = short_actions g

  pub short_body : {table : List Class} {d : Data} {b : Body} → IsBody table d b → times_body b ≡ true
  short_body (body ms xs e only g l) = by_body (record { actions = xs; end = e }) (short_do g)
  short_body (body_by_name name) = by_body (running name) refl

  short_bodies : {table : List Class} {ds : Items} {xs : List Body} → AreBodies table ds xs
      → list_all (λ b. b) (map times_body xs) ≡ true
  short_bodies no_bodies = refl
  short_bodies (more_bodies d ds b xs g gs) = rw (short_body g, short_bodies gs) refl

  short_statement : {table : List Class} {d : Data} {s : Statement} → IsStatement table d s → times_statement s ≡ true
  short_statement (performs d a g) = by_statement (Do a) (rw (outs-Do a) (short_action g))
  short_statement (awaits name) = by_statement (Await name) (rw (outs-Await name) refl)
  short_statement (tries ds c hs xs classes ys g k l) =
      by_statement (Try xs classes ys) (rw (outs-Try xs classes ys) (rw (short_statements g, short_statements l) refl))
  short_statement (finishes ds hs xs ys g l) =
      by_statement (Finally xs ys) (rw (outs-Finally xs ys) (rw (short_statements g, short_statements l) refl))
  short_statement raises_again = by_statement RaiseAgain (rw outs-Raise refl)
  short_statement takes_caught = by_statement Caught (rw outs-Caught refl)
  short_statement (leaves d end g may) = by_statement (Leave end) (rw (outs-End end) refl)

  short_statements : {table : List Class} {ds : Items} {xs : List Statement} → AreStatements table ds xs
      → list_all (λ b. b) (map times_statement xs) ≡ true
  short_statements no_statements = refl
  short_statements (more_statements d ds s xs g gs) = rw (short_statement g, short_statements gs) refl
