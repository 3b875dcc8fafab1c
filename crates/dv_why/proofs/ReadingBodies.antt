-- Where each part of a body, an action or a statement fits, it reads.
use Rattle.std.proofs.Common.{◌≡◌, ℕ, zero, suc, ◌≤◌, nat_le}
use Rattle.std.proofs.Common.{Bool, true, ◌&&◌, ◌||◌, List, [], ◌∷◌, Option, Some, None, is_some}
use Rattle.std.proofs.Common.{refl}
use Rattle.std.proofs.Common.{arith, codes}
use Rattle.std.proofs.lemmas.Bool.{and_parts}
use Rattle.serde_json.specs.Data.{Data, null, boolean, number, string, array, object, Items, no_items, item}
use Rattle.serde_json.specs.Data.{depth}
use Rattle.serde_json.specs.Find.{as_object, as_str, get_item, get_member}
use Rattle.dv_value.specs.declared.classes.Class.{Class}
use Rattle.dv_script.specs.declared.body.End.{End}
use Rattle.dv_script.specs.declared.body.End.TheVariants.{Pass}
use Rattle.dv_script.specs.declared.body.Body.{Body}
use Rattle.dv_script.specs.declared.body.Statement.{Statement, Do, Await, Try, Finally}
use Rattle.dv_script.specs.declared.body.Statement.{Raise as RaiseAgain, Caught, End as Leave}
use Rattle.dv_script.specs.declared.action.Action.{Action, Deferred, Callback, Errback, AddCallback, AddErrback}
use Rattle.dv_script.specs.declared.action.Action.{AddBoth, AddCallbacks, Chain, Pause, Unpause, Cancel, AddTimeout}
use Rattle.dv_script.specs.declared.action.Action.{Note, List as ListOf, Gather, Maybe, Lock, Semaphore, Acquire}
use Rattle.dv_script.specs.declared.action.Action.{Release, RunWith, Queue, Put, Get, Later, CancelCall, ResetCall}
use Rattle.dv_script.specs.declared.action.Action.{DelayCall, Loop, StopLoop}
use Rattle.dv_script.specs.declared.action.Action.{Cooperate, WhenDone, PauseTask, StopTask, ResumeTask, Inline}
use Rattle.dv_script.specs.declared.action.Action.{Thread}
use Rattle.dv_script.specs.declared.action.Action.{ThreadIn, Units, CooperateIn, UnitsIn, StopCooperator}
use Rattle.dv_script.specs.declared.limits.TheConstants.{MOST_PLACES, MOST_UNITS}
use Rattle.dv_clock.specs.declared.limits.TheConstants.{MOST_DELAY}
use Rattle.dv_forms.specs.Forms.{call, IsList, Field, IsNumber, IsText, IsClass}
use Rattle.dv_forms.specs.Forms.{IsValue}
use Rattle.dv_grammar.specs.Grammar.{IsEnd}
use Rattle.dv_grammar.specs.Grammar.{IsWork, IsListFlag}
use Rattle.dv_grammar.specs.Grammar.{IsGatherFlag, IsAction, deferred, deferred_with, callback, errback}
use Rattle.dv_grammar.specs.Grammar.{add_callback}
use Rattle.dv_grammar.specs.Grammar.{add_errback}
use Rattle.dv_grammar.specs.Grammar.{add_both, add_callbacks, chain, pause, unpause, cancel, add_timeout}
use Rattle.dv_grammar.specs.Grammar.{add_timeout_with, note, list}
use Rattle.dv_grammar.specs.Grammar.{gather, maybe, lock, semaphore, acquire, release, run_with, queue, put, get}
use Rattle.dv_grammar.specs.Grammar.{later}
use Rattle.dv_grammar.specs.Grammar.{cancel_call, reset_call, delay_call, loop, loop_of_bodies, stop_loop}
use Rattle.dv_grammar.specs.Grammar.{cooperate}
use Rattle.dv_grammar.specs.Grammar.{when_done}
use Rattle.dv_grammar.specs.Grammar.{pause_task, stop_task}
use Rattle.dv_grammar.specs.Grammar.{resume_task, inline, thread, thread_in, units as units_rule, AreActions}
use Rattle.dv_grammar.specs.Grammar.{no_actions, more_actions, IsDo, cooperate_in, units_in, stop_cooperator}
use Rattle.dv_grammar.specs.Grammar.{does_nothing, does, IsBody, body, body_by_name, running, AreBodies, no_bodies}
use Rattle.dv_grammar.specs.Grammar.{more_bodies, IsStatement}
use Rattle.dv_grammar.specs.Grammar.{performs, awaits, tries, finishes, raises_again, takes_caught, leaves}
use Rattle.dv_grammar.specs.Grammar.{AreStatements, no_statements, more_statements}
use Rattle.dv_grammar.specs.Grammar.{IsBound}
use Rattle.dv_grammar.proofs.WordsLemmas.{◌&◌}
use Rattle.dv_forms.specs.declared.versions.TheConstants.{BODIES_SINCE, COOPERATORS_SINCE}
use Rattle.dv_forms.specs.declared.want.Want.{Want}
use Rattle.dv_forms.specs.declared.want.Want.TheVariants as want
use Rattle.dv_forms.specs.declared.want.Leaf.TheVariants as leaf
use Rattle.dv_forms.specs.declared.want.CallKind.TheVariants as call_of
use Rattle.dv_forms.specs.declared.want.Keyed.TheVariants as keyed
use Rattle.dv_forms.specs.declared.want.Item.TheVariants as item_of
use Rattle.dv_forms.specs.Wants.{a_deferred, a_cooperator}
use Rattle.dv_forms.specs.Wants.{want_for}
use Rattle.dv_forms.specs.Words.{own_forms, wants_in}
use Rattle.dv_document.specs.View.{count}
use Rattle.dv_why.specs.Fits.{fits}
use Rattle.dv_why.proofs.Fine.{IsFine, fits_fine, inside, same, under, text_of}
use Rattle.dv_why.proofs.Fine.{boolean_of, bound_of, list_flag_of, gather_flag_of, open_array, list_of}
use Rattle.dv_why.proofs.Fine.{AreFine, no_args, one_arg, open_call}
use Rattle.dv_why.proofs.Forms.{EachForm, either_found, found_form}
use Rattle.dv_why.proofs.Values.{value_of}
use Rattle.dv_why.proofs.ReadingArguments.{is_text, class_fine, number_fine, two_args, three_args, four_args}
use Rattle.dv_why.proofs.ReadingArguments.{five_args}
use Rattle.dv_why.proofs.ReadingEnds.{end_fine, leave_fine, work_fine}
use Rattle.dv_why.proofs.ReadingKeys.{body_only}

-- ---- bodies and statements, by those inside

-- bodies and statements that nest to so many levels read
pub record AreRead (v n : ℕ) (table : List Class) : Type 0 where
  pub of_body : {since : ℕ} (d : Data) → IsFine v n (want.Keyed (keyed.Body since)) d → (b : Body) × IsBody table d b
  pub of_statement : (d : Data) → IsFine v n (want.Call call_of.Statement) d → (s : Statement) × IsStatement table d s

bodies_of : (table : List Class) (ds : Items)
    → ((k : ℕ) (e : Data) → get_item k ds ≡ Some e → (b : Body) × IsBody table e b)
    → (xs : List Body) × AreBodies table ds xs
bodies_of table no_items h = ([], no_bodies)
bodies_of table (item d ds) h =
    let x = h 0 d refl in
    let xs = bodies_of table ds (λ k e is. h (suc k) e is) in
    (x.0 ∷ xs.0, more_bodies d ds x.0 xs.0 x.1 xs.1)

statements_of : (table : List Class) (ds : Items)
    → ((k : ℕ) (e : Data) → get_item k ds ≡ Some e → (s : Statement) × IsStatement table e s)
    → (xs : List Statement) × AreStatements table ds xs
statements_of table no_items h = ([], no_statements)
statements_of table (item d ds) h =
    let x = h 0 d refl in
    let xs = statements_of table ds (λ k e is. h (suc k) e is) in
    (x.0 ∷ xs.0, more_statements d ds x.0 xs.0 x.1 xs.1)

actions_of : (table : List Class) (ds : Items)
    → ((k : ℕ) (e : Data) → get_item k ds ≡ Some e → (a : Action) × IsAction table e a)
    → (xs : List Action) × AreActions table ds xs
actions_of table no_items h = ([], no_actions)
actions_of table (item d ds) h =
    let x = h 0 d refl in
    let xs = actions_of table ds (λ k e is. h (suc k) e is) in
    (x.0 ∷ xs.0, more_actions d ds x.0 xs.0 x.1 xs.1)

-- ---- actions

-- the arguments of a word read as those of an action
abbrev pub IsActionRead : ℕ → ℕ → List Class → List ℕ → List Want → Type 0
IsActionRead v n table word wants =
    (ds : Items) → AreFine v n wants ds → (a : Action) × IsAction table (array (item (string word) ds)) a

-- a text
abbrev IsTextAt : ℕ → Want → Type 0
IsTextAt v w = (d : Data) → fits v (want_for w d) d ≡ true → is_some (as_str d) ≡ true

-- the name of a Cooperator that is looked up is a text
cooperator_text : (v : ℕ) (d : Data) → fits v a_cooperator d ≡ true → (x : List ℕ) × (d ≡ string x)
cooperator_text v d h = text_of d (and_parts (nat_le COOPERATORS_SINCE v) (is_some (as_str d)) h).1

one_text : {word : List ℕ} (v n : ℕ) (table : List Class) (w : Want) → IsTextAt v w → (make : List ℕ → Action)
    → ((x : List ℕ) → IsAction table (call word (string x ∷ [])) (make x)) → IsActionRead v n table word (w ∷ [])
one_text v n table w text make rule ds h =
    let a = one_arg v n _ ds h in
    let x = text_of a.a (text a.a (fits_fine a.fine)) in
    rw (a.items, x.1) (make x.0, rule x.0)

two_texts : {word : List ℕ} (v n : ℕ) (table : List Class) (w u : Want) → IsTextAt v w → IsTextAt v u
    → (make : List ℕ → List ℕ → Action)
    → ((x y : List ℕ) → IsAction table (call word (string x ∷ string y ∷ [])) (make x y))
    → IsActionRead v n table word (w ∷ u ∷ [])
two_texts v n table w u text other make rule ds h =
    let a = two_args v n _ _ ds h in
    let x = text_of a.a (text a.a (fits_fine a.one)) in
    let y = text_of a.b (other a.b (fits_fine a.two)) in
    rw (a.items, x.1, y.1) (make x.0 y.0, rule x.0 y.0)

-- a text, and what is read so
text_and : {B : Type 0} {word : List ℕ} (v n : ℕ) (table : List Class) (w u : Want) → IsTextAt v w
    → (Is : Data → B → Type 0) → ((d : Data) → IsFine v n (want_for u d) d → (b : B) × Is d b)
    → (make : List ℕ → B → Action)
    → ((x : List ℕ) (d : Data) (b : B) → Is d b → IsAction table (call word (string x ∷ d ∷ [])) (make x b))
    → IsActionRead v n table word (w ∷ u ∷ [])
text_and v n table w u text Is read make rule ds h =
    let a = two_args v n _ _ ds h in
    let x = text_of a.a (text a.a (fits_fine a.one)) in
    let b = read a.b a.two in
    rw (a.items, x.1) (make x.0 b.0, rule x.0 a.b b.0 b.1)

-- a text, and two things that are
text_and_two : {B C : Type 0} {word : List ℕ} (v n : ℕ) (table : List Class) (w u t : Want) → IsTextAt v w
    → (Is : Data → B → Type 0) → ((d : Data) → IsFine v n (want_for u d) d → (b : B) × Is d b)
    → (Are : Data → C → Type 0) → ((d : Data) → IsFine v n (want_for t d) d → (c : C) × Are d c)
    → (make : List ℕ → B → C → Action)
    → ((x : List ℕ) (d e : Data) (b : B) (c : C) → Is d b → Are e c
    → IsAction table (call word (string x ∷ d ∷ e ∷ [])) (make x b c)) → IsActionRead v n table word (w ∷ u ∷ t ∷ [])
text_and_two v n table w u t text Is read Are also make rule ds h =
    let a = three_args v n _ _ _ ds h in
    let x = text_of a.a (text a.a (fits_fine a.one)) in
    let b = read a.b a.two in
    let c = also a.c a.three in
    rw (a.items, x.1) (make x.0 b.0 c.0, rule x.0 a.b a.c b.0 c.0 b.1 c.1)

-- a loop, by what stands at the place of the bodies of its turns
loop_of : (v n : ℕ) (table : List Class) → AreRead v n table → (name deferred : List ℕ) (c : Data) (interval : ℕ)
    (at_once : Bool) (d : Data) → IsNumber 1 MOST_DELAY c interval → IsFine v n (want_for (want.Array item_of.Turn) d) d
    → (a : Action)
    × IsAction table (call (codes "loop") (string name ∷ string deferred ∷ c ∷ boolean at_once ∷ d ∷ [])) a
loop_of v n table read x y c k now (array (item d ds)) m h =
    let b = read.of_body d (same 0 h refl refl) in
    let bs = bodies_of table ds (λ j e is. read.of_body e (same (suc j) h refl is)) in
    (Loop x y k now b.0 bs.0, loop_of_bodies x y c k now d ds b.0 bs.0 m b.1 bs.1)
loop_of v n table read x y c k now (array no_items) m h =
    let b = read.of_body (array no_items) h in (Loop x y k now b.0 [], loop x y c k now (array no_items) b.0 m b.1)
loop_of v n table read x y c k now null m h =
    let b = read.of_body null h in (Loop x y k now b.0 [], loop x y c k now null b.0 m b.1)
loop_of v n table read x y c k now (boolean f) m h =
    let b = read.of_body (boolean f) h in (Loop x y k now b.0 [], loop x y c k now (boolean f) b.0 m b.1)
loop_of v n table read x y c k now (number f) m h =
    let b = read.of_body (number f) h in (Loop x y k now b.0 [], loop x y c k now (number f) b.0 m b.1)
loop_of v n table read x y c k now (string f) m h =
    let b = read.of_body (string f) h in (Loop x y k now b.0 [], loop x y c k now (string f) b.0 m b.1)
loop_of v n table read x y c k now (object ms) m h =
    let b = read.of_body (object ms) h in (Loop x y k now b.0 [], loop x y c k now (object ms) b.0 m b.1)

-- those of each form, in the order of the table
pub actions : (v n : ℕ) (table : List Class) → AreRead v n table
    → EachForm (IsActionRead v n table) (own_forms call_of.Action)
actions v n table read =
    one_text v n table _ (λ d h. h) (λ x. Deferred x None) deferred &
    text_and v n table _ _ (λ d h. h) (IsBody table) read.of_body (λ x b. Deferred x (Some b)) deferred_with &
    text_and v n table _ _ (λ d h. h) (IsValue table) (value_of v n table) (λ x b. Callback x b) callback &
    (λ ds h.
    let a = three_args v n _ _ _ ds h in
    let p = text_of a.a (fits_fine a.one) in
    let q = class_fine v n table a.b a.two in
    let r = text_of a.c (fits_fine a.three) in
    rw (a.items, p.1, r.1) (Errback p.0 q.0 r.0, errback p.0 a.b q.0 r.0 q.1)) &
    text_and v n table _ _ (λ d h. h) (IsBody table) read.of_body (λ x b. AddCallback x b) add_callback &
    text_and v n table _ _ (λ d h. h) (IsBody table) read.of_body (λ x b. AddErrback x b) add_errback &
    text_and v n table _ _ (λ d h. h) (IsBody table) read.of_body (λ x b. AddBoth x b) add_both &
    text_and_two v n table _ _ _ (λ d h. h) (IsBody table) read.of_body (IsBody table) read.of_body
    (λ x b c. AddCallbacks x b c) add_callbacks &
    two_texts v n table _ _ (λ d h. h) (λ d h. h) (λ x y. Chain x y) chain &
    one_text v n table _ (λ d h. h) (λ x. Pause x) pause &
    one_text v n table _ (λ d h. h) (λ x. Unpause x) unpause &
    one_text v n table _ (λ d h. h) (λ x. Cancel x) cancel &
    text_and v n table _ _ (λ d h. h) (IsNumber 0 MOST_DELAY) (number_fine v n 0 MOST_DELAY)
    (λ x b. AddTimeout x b None) add_timeout &
    text_and_two v n table _ _ _ (λ d h. h) (IsNumber 0 MOST_DELAY) (number_fine v n 0 MOST_DELAY) (IsBody table)
    read.of_body (λ x b c. AddTimeout x b (Some c)) add_timeout_with &
    one_text v n table _ (λ d h. h) (λ x. Note x) note &
    text_and_two v n table _ _ _ (λ d h. h) (IsList IsText) (list_of v n item_of.Deferred IsText (is_text v n))
    (IsList IsListFlag) (list_of v n item_of.ListFlag IsListFlag (λ e g. list_flag_of e (fits_fine g)))
    (λ x b c. ListOf x b c) list &
    text_and_two v n table _ _ _ (λ d h. h) (IsList IsText) (list_of v n item_of.Deferred IsText (is_text v n))
    (IsList IsGatherFlag) (list_of v n item_of.GatherFlag IsGatherFlag (λ e g. gather_flag_of e (fits_fine g)))
    (λ x b c. Gather x b c) gather &
    text_and v n table _ _ (λ d h. h) (IsBody table) read.of_body (λ x b. Maybe x b) maybe &
    one_text v n table _ (λ d h. h) (λ x. Lock x) lock &
    text_and v n table _ _ (λ d h. h) (IsNumber 1 MOST_PLACES) (number_fine v n 1 MOST_PLACES)
    (λ x b. Semaphore x b) semaphore &
    two_texts v n table _ _ (λ d h. h) (λ d h. h) (λ x y. Acquire x y) acquire &
    one_text v n table _ (λ d h. h) (λ x. Release x) release &
    (λ ds h.
    let a = three_args v n _ _ _ ds h in
    let p = text_of a.a (fits_fine a.one) in
    let q = text_of a.b (fits_fine a.two) in
    let r = read.of_body a.c a.three in
    rw (a.items, p.1, q.1) (RunWith p.0 q.0 r.0, run_with p.0 q.0 a.c r.0 r.1)) &
    text_and_two v n table _ _ _ (λ d h. h) IsBound (λ d h. bound_of d (fits_fine h)) IsBound
    (λ d h. bound_of d (fits_fine h)) (λ x b c. Queue x b c) queue &
    text_and v n table _ _ (λ d h. h) (IsValue table) (value_of v n table) (λ x b. Put x b) put &
    two_texts v n table _ _ (λ d h. h) (λ d h. h) (λ x y. Get x y) get &
    text_and_two v n table _ _ _ (λ d h. h) (IsNumber 0 MOST_DELAY) (number_fine v n 0 MOST_DELAY)
    (IsBody table) read.of_body (λ x b c. Later x b c) later &
    one_text v n table _ (λ d h. h) (λ x. CancelCall x) cancel_call &
    text_and v n table _ _ (λ d h. h) (IsNumber 0 MOST_DELAY) (number_fine v n 0 MOST_DELAY)
    (λ x b. ResetCall x b) reset_call &
    text_and v n table _ _ (λ d h. h) (IsNumber 0 MOST_DELAY) (number_fine v n 0 MOST_DELAY)
    (λ x b. DelayCall x b) delay_call &
    (λ ds h.
    let a = five_args v n _ _ _ _ _ ds h in
    let p = text_of a.a (fits_fine a.one) in
    let q = text_of a.b (fits_fine a.two) in
    let r = number_fine v n 1 MOST_DELAY a.c a.three in
    let s = boolean_of a.d (fits_fine a.four) in
    rw (a.items, p.1, q.1, s.1) (loop_of v n table read p.0 q.0 a.c r.0 s.0 a.e r.1 a.five)) &
    one_text v n table _ (λ d h. h) (λ x. StopLoop x) stop_loop &
    (λ ds h.
    let a = two_args v n _ _ ds h in
    let p = text_of a.a (fits_fine a.one) in
    let o = open_array v n item_of.Body a.b a.two in
    let q = bodies_of table o.items (λ k e is. read.of_body e (o.each k e is)) in
    rw (a.items, p.1, o.whole) (Cooperate p.0 q.0, cooperate p.0 o.items q.0 q.1)) &
    two_texts v n table _ _ (λ d h. h) (λ d h. h) (λ x y. WhenDone x y) when_done &
    one_text v n table _ (λ d h. h) (λ x. PauseTask x) pause_task &
    one_text v n table _ (λ d h. h) (λ x. StopTask x) stop_task &
    one_text v n table _ (λ d h. h) (λ x. ResumeTask x) resume_task &
    (λ ds h.
    let a = two_args v n _ _ ds h in
    let p = text_of a.a (fits_fine a.one) in
    let o = open_array v n item_of.Statement a.b a.two in
    let q = statements_of table o.items (λ k e is. read.of_statement e (o.each k e is)) in
    rw (a.items, p.1, o.whole) (Inline p.0 q.0, inline p.0 o.items q.0 q.1)) &
    text_and_two v n table _ _ _ (λ d h. h) (IsNumber 0 MOST_DELAY) (number_fine v n 0 MOST_DELAY) (IsWork table)
    (work_fine v n table) (λ x b c. Thread x b c) thread &
    (λ ds h.
    let a = four_args v n _ _ _ _ ds h in
    let p = text_of a.a (fits_fine a.one) in
    let q = text_of a.b (fits_fine a.two) in
    let r = number_fine v n 0 MOST_DELAY a.c a.three in
    let s = work_fine v n table a.d a.four in
    rw (a.items, p.1, q.1) (ThreadIn p.0 q.0 r.0 s.0, thread_in p.0 q.0 a.c a.d r.0 s.0 r.1 s.1)) &
    (λ ds h.
    let a = one_arg v n (want.Leaf (leaf.Number 1 MOST_UNITS)) ds h in
    let k = number_fine v n 1 MOST_UNITS a.a a.fine in
    rw (a.items) (Units k.0, units_rule a.a k.0 k.1)) &
    (λ ds h.
    let a = three_args v n _ _ _ ds h in
    let p = text_of a.a (fits_fine a.one) in
    let q = cooperator_text v a.b (fits_fine a.two) in
    let o = open_array v n item_of.Body a.c a.three in
    let r = bodies_of table o.items (λ k e is. read.of_body e (o.each k e is)) in
    rw (a.items, p.1, q.1, o.whole)
    (CooperateIn p.0 q.0 r.0, cooperate_in p.0 q.0 o.items r.0 r.1)) &
    (λ ds h.
    let a = two_args v n _ _ ds h in
    let p = cooperator_text v a.a (fits_fine a.one) in
    let k = number_fine v n 1 MOST_UNITS a.b a.two in
    rw (a.items, p.1) (UnitsIn p.0 k.0, units_in p.0 a.b k.0 k.1)) &
    (λ ds h.
    let a = one_arg v n _ ds h in
    let p = cooperator_text v a.a (fits_fine a.fine) in
    rw (a.items, p.1) (StopCooperator p.0, stop_cooperator p.0)) &
    tt

action_fine : (v n : ℕ) (table : List Class) → AreRead v n table → (d : Data) → IsFine v n (want.Call call_of.Action) d
    → (a : Action) × IsAction table d a
action_fine v n table r d h =
    let o = open_call v n call_of.Action d (fits_fine h) (λ k u e wants is. same k h wants is) in
    rw (o.whole) (either_found (wants_in (own_forms call_of.Action) o.word (count o.rest)) None o.wants o.form
    (λ form. found_form (IsActionRead v n table) (own_forms call_of.Action) (actions v n table r) o.word
    (count o.rest) o.wants form o.rest o.args)
    (λ form. cc))

-- ---- bodies and statements

do_of : (v n : ℕ) (table : List Class) → AreRead v n table → (o : Option Data)
    → ((e : Data) → o ≡ Some e → IsFine v n (want.Array item_of.Action) e) → (xs : List Action) × IsDo table o xs
do_of v n table r None h = ([], does_nothing)
do_of v n table r (Some d) h =
    let a = open_array v n item_of.Action d (h d refl) in
    let xs = actions_of table a.items (λ k e is. action_fine v n table r e (a.each k e is)) in
    rw (a.whole) (xs.0, does a.items xs.0 xs.1)

last_of : (v n : ℕ) (table : List Class) (o : Option Data)
    → ((e : Data) → o ≡ Some e → IsFine v n (want.Call call_of.End) e) → (x : End) × Field Pass (IsEnd table) o x
last_of v n table None h = (Pass, refl)
last_of v n table (Some d) h = end_fine v n table d (h d refl)

-- what stands at the place of a body is an object, or a name in a version that has bodies by name
shaped : (v : ℕ) {n : ℕ} (since : ℕ) (d : Data) → IsFine v n (want.Keyed (keyed.Body since)) d
    → (is_some (as_object d) || (is_some (as_str d) && nat_le BODIES_SINCE v)) ≡ true
shaped v since d h =
    (and_parts (nat_le since v) (is_some (as_object d) || (is_some (as_str d) && nat_le BODIES_SINCE v))
    (fits_fine h)).1

body_of : (v n : ℕ) (table : List Class) → AreRead v n table → {since : ℕ} (d : Data)
    → IsFine v (suc n) (want.Keyed (keyed.Body since)) d → (b : Body) × IsBody table d b
body_of v n table r {since} (object ms) h =
    let xs = do_of v n table r (get_member (codes "do") ms) (λ e is. under (codes "do") h refl is) in
    let x = last_of v n table (get_member (codes "end") ms) (λ e is. under (codes "end") h refl is) in
    (record { actions = xs.0; end = x.0 }, body ms xs.0 x.0 (body_only v since ms h.suit) xs.1 x.1)
body_of v n table r {since} (string x) h = (running x, body_by_name x)
body_of v n table r {since} d h =
    let shape : (is_some (as_object d) || (is_some (as_str d) && nat_le BODIES_SINCE v)) ≡ true =
    shaped v since d h in cc

-- the arguments of a word read as those of a statement
abbrev IsStatementRead : ℕ → ℕ → List Class → List ℕ → List Want → Type 0
IsStatementRead v n table word wants =
    (ds : Items) → AreFine v n wants ds → (s : Statement) × IsStatement table (array (item (string word) ds)) s

statements : (v n : ℕ) (table : List Class) → AreRead v n table
    → EachForm (IsStatementRead v n table) (own_forms call_of.Statement)
statements v n table r =
    (λ ds h.
    let a = one_arg v n (want.Call call_of.Action) ds h in
    let x = action_fine v n table r a.a a.fine in
    rw (a.items) (Do x.0, performs a.a x.0 x.1)) &
    (λ ds h.
    let a = one_arg v n a_deferred ds h in
    let t = text_of a.a (fits_fine a.fine) in
    rw (a.items, t.1) (Await t.0, awaits t.0)) &
    (λ ds h.
    let a =
    three_args v n (want.Array item_of.Statement) (want.Array item_of.Class) (want.Array item_of.Statement) ds h in
    let o = open_array v n item_of.Statement a.a a.one in
    let xs = statements_of table o.items (λ k e is. r.of_statement e (o.each k e is)) in
    let c = list_of v n item_of.Class (IsClass table) (class_fine v n table) a.b a.two in
    let p = open_array v n item_of.Statement a.c a.three in
    let ys = statements_of table p.items (λ k e is. r.of_statement e (p.each k e is)) in
    rw (a.items, o.whole, p.whole) (Try xs.0 c.0 ys.0, tries o.items a.b p.items xs.0 c.0 ys.0 xs.1 c.1 ys.1)) &
    (λ ds h.
    let a = two_args v n (want.Array item_of.Statement) (want.Array item_of.Statement) ds h in
    let o = open_array v n item_of.Statement a.a a.one in
    let xs = statements_of table o.items (λ k e is. r.of_statement e (o.each k e is)) in
    let p = open_array v n item_of.Statement a.b a.two in
    let ys = statements_of table p.items (λ k e is. r.of_statement e (p.each k e is)) in
    rw (a.items, o.whole, p.whole) (Finally xs.0 ys.0, finishes o.items p.items xs.0 ys.0 xs.1 ys.1)) &
    (λ ds h. rw (no_args v n ds h) (RaiseAgain, raises_again)) &
    (λ ds h. rw (no_args v n ds h) (Caught, takes_caught)) &
    (λ ds h.
    let a = one_arg v n (want.Call call_of.Leaving) ds h in
    let x = leave_fine v n table a.a a.fine in
    rw (a.items) (Leave x.0, leaves a.a x.0 x.1 x.2)) &
    tt

statement_fine : (v n : ℕ) (table : List Class) → AreRead v n table → (d : Data)
    → IsFine v (suc n) (want.Call call_of.Statement) d → (s : Statement) × IsStatement table d s
statement_fine v n table r d h =
    let o = open_call v n call_of.Statement d (fits_fine h) (λ k u e wants is. inside k h wants is) in
    rw (o.whole) (either_found (wants_in (own_forms call_of.Statement) o.word (count o.rest)) None o.wants o.form
    (λ form. found_form (IsStatementRead v n table) (own_forms call_of.Statement) (statements v n table r) o.word
    (count o.rest) o.wants form o.rest o.args)
    (λ form. cc))

no_body : (v : ℕ) (table : List Class) {since : ℕ} (d : Data) → IsFine v 0 (want.Keyed (keyed.Body since)) d
    → (b : Body) × IsBody table d b
no_body v table {since} (object ms) h = let deep : depth (object ms) ≤ 0 = h.deep in absurd (omega (arith, deep))
no_body v table {since} (string x) h = (running x, body_by_name x)
no_body v table {since} d h =
    let shape : (is_some (as_object d) || (is_some (as_str d) && nat_le BODIES_SINCE v)) ≡ true =
    shaped v since d h in cc

no_statement : (v : ℕ) (table : List Class) (d : Data) → IsFine v 0 (want.Call call_of.Statement) d
    → (s : Statement) × IsStatement table d s
no_statement v table (array ds) h = let deep : depth (array ds) ≤ 0 = h.deep in absurd (omega (arith, deep))
no_statement v table d h = let fit : fits v (want.Call call_of.Statement) d ≡ true = fits_fine h in cc

pub are_read : (v n : ℕ) (table : List Class) → AreRead v n table
are_read v zero table = record { of_body = no_body v table; of_statement = no_statement v table }
are_read v (suc n) table =
    let r = are_read v n table in record { of_body = body_of v n table r; of_statement = statement_fine v n table r }
