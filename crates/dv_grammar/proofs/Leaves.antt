-- What holds of values, leaves, ends and works: what is read is in the grammar, and what is in the grammar is read.
use Rattle.std.proofs.Common.{Ordering, Less, Equal, Greater, is_eq, nat_cmp, ap, option_map, if◌then◌else◌, false}
use Rattle.std.specs.Ordering.{match_ordering}
use Rattle.std.specs.Cmp.Lexicographic.{slice_cmp}
use Rattle.std.proofs.lemmas.Map.Text.{is_eq-slice_cmp}
use Rattle.std.proofs.Common.{◌≡◌, ℕ, ◌≤◌, ℤ, Bool, true, ◌&&◌, nat_le, cond, List, [], ◌∷◌, Option, Some, None}
use Rattle.std.proofs.Common.{option_and_then, bytes_eq, refl, sym, ◌∙◌, codes, ◌⊎◌, inl, inr}
use Rattle.std.specs.Prelude.{⊤}
use Rattle.std.proofs.lemmas.Slice.Eq.{bytes_eq-Decides}
use Rattle.std.proofs.lemmas.Bool.{and_parts, leb-true, le-leb}
use Rattle.serde_json.specs.Data.{unsigned, negative, float, Data, null, boolean, number, string, array, object, Items}
use Rattle.serde_json.specs.Data.{no_items, item, Members, no_members, member}
use Rattle.serde_json.specs.Find.{as_i64, as_bool, as_array, get_member}
use Rattle.dv_value.specs.declared.value.Value.{Value, Null, Bool as Flag, Int, Text, List as Values, Fault}
use Rattle.dv_value.specs.declared.failure.Failure.{Failure}
use Rattle.dv_value.specs.declared.classes.Class.{Class}
use Rattle.dv_script.specs.declared.body.End.{End}
use Rattle.dv_script.specs.declared.body.End.TheVariants.{Return, Plus, Raise, Trap, Wait, Run, Throw}
use Rattle.dv_value.specs.declared.expected.Expected.{Expected}
use Rattle.dv_value.specs.declared.expected.Expected.TheVariants as expected
use Rattle.dv_script.specs.declared.work.Work.{Work}
use Rattle.dv_script.specs.declared.action.ListFlag.{ListFlag}
use Rattle.dv_script.specs.declared.action.GatherFlag.{GatherFlag}
use Rattle.dv_script.specs.declared.limits.TheConstants.{MOST_PLACE, MOST_PLACES, MOST_SUM}
use Rattle.dv_forms.specs.Forms.{Each, IsList, Field, Key, is_keyed_by, IsText, IsInteger, IsNumber, IsClass, IsValue}
use Rattle.dv_forms.specs.Forms.{a_null, a_bool, an_int, a_text, a_list, IsMember, a_value, a_fault, AreMembers}
use Rattle.dv_forms.specs.Forms.{no_more, one_more, IsFailure, a_failure, a_first_error, is_first_error, has_none_but}
use Rattle.dv_forms.specs.Forms.{failure_keys, first_error_keys}
use Rattle.dv_forms.specs.declared.failure.TheConstants.{MOST_INDEX}
use Rattle.dv_forms.specs.Leaving.{may_leave}
use Rattle.dv_forms.specs.declared.words.EndWord.{EndWord}
use Rattle.dv_forms.specs.declared.words.OutcomeWord.{OutcomeWord}
use Rattle.dv_forms.specs.declared.words.WorkWord.{WorkWord}
use Rattle.dv_forms.specs.Words.{end_word, end_words, outcome_word, outcome_words, work_word, work_words}
use Rattle.dv_grammar.specs.Grammar.{IsEnd, returns, passes, adds, raises, traps, waits, runs, throws, IsWork, gives}
use Rattle.dv_grammar.specs.Grammar.{fails, sums, IsOutcome, is_unfired, is_waiting, is_ok, is_failed}
use Rattle.dv_grammar.specs.Grammar.{IsListFlag, fires_on_callback, fires_on_errback, consumes_errors, IsGatherFlag}
use Rattle.dv_grammar.specs.Grammar.{gathers_errors, IsBound, no_bound, a_bound}
use Rattle.dv_forms.specs.Parts.{empty_at, bare_at, plain_at, head_at, first_error_by, failure_at, fault_at}
use Rattle.dv_forms.specs.Parts.{sub_at, member_at, members_at}
use Rattle.dv_forms.specs.Parts.{value_at, each, list_at, text_at, integer_at, number_at, within, bound_at}
use Rattle.dv_forms.specs.Parts.{class_at, list_flag_at, gather_flag_at, call_at, none, first, if_any, one, two, three}
use Rattle.dv_forms.specs.Parts.{four, five, sole, pair, triple, one_of, two_of, three_of, fields_at, field}
use Rattle.dv_grammar.specs.Shape.{end_at, end_of, leave_at, outcome_at, outcome_of, work_at, work_of}
use Rattle.dv_grammar.proofs.Steps.{some_injective, bind, mapped, chosen, either_way}
use Rattle.dv_grammar.proofs.WordsLemmas.{◌&◌, EachWord, found_word}
use Rattle.dv_script.specs.declared.work.Work.TheVariants as job
use Rattle.dv_script.specs.declared.action.ListFlag.TheVariants as flag
use Rattle.dv_script.specs.declared.action.GatherFlag.TheVariants as gather_flag
use Rattle.dv_script.specs.declared.turn_rule.TurnRule.{TurnRule}
use Rattle.dv_script.specs.declared.turn_rule.TurnRule.TheVariants as turn_rule
use Rattle.dv_forms.specs.Parts.{turn_rule_at}
use Rattle.dv_grammar.specs.Grammar.{IsTurnRule, fair_turns, twisted_turns}

-- ---- items

pub none_is : (ds : Items) (t : ⊤) → none ds ≡ Some t → ds ≡ no_items
unfolding none
none_is no_items t e = refl
none_is (item d ds) t e = cc

pub first_is : (ds : Items) (p : Data × Items) → first ds ≡ Some p → ds ≡ item p.0 p.1
unfolding first
first_is no_items p e = cc
first_is (item d ds) p e = rw (← (some_injective e)) refl

pub one_is : (ds : Items) (d : Data) → one ds ≡ Some d → ds ≡ item d no_items
unfolding one
one_is ds d e =
    bind (first ds) _ d e (λ a a_is a_then.
    bind (none a.1) _ d a_then (λ b b_is b_then.
    first_is ds a a_is ∙ rw (none_is a.1 b b_is, some_injective b_then) refl))

pub two_is : (ds : Items) (p : Data × Data) → two ds ≡ Some p → ds ≡ item p.0 (item p.1 no_items)
unfolding two
two_is ds p e =
    bind (first ds) _ p e (λ a a_is a_then.
    bind (one a.1) _ p a_then (λ b b_is b_then.
    first_is ds a a_is ∙ rw (one_is a.1 b b_is, ← some_injective b_then) refl))

pub three_is : (ds : Items) (p : Data × Data × Data) → three ds ≡ Some p → ds ≡ item p.0 (item p.1 (item p.2 no_items))
unfolding three
three_is ds p e =
    bind (first ds) _ p e (λ a a_is a_then.
    bind (two a.1) _ p a_then (λ b b_is b_then.
    first_is ds a a_is ∙ rw (two_is a.1 b b_is, ← some_injective b_then) refl))

pub four_is : (ds : Items) (p : Data × Data × Data × Data) → four ds ≡ Some p
    → ds ≡ item p.0 (item p.1 (item p.2 (item p.3 no_items)))
unfolding four
four_is ds p e =
    bind (first ds) _ p e (λ a a_is a_then.
    bind (three a.1) _ p a_then (λ b b_is b_then.
    first_is ds a a_is ∙ rw (three_is a.1 b b_is, ← some_injective b_then) refl))

pub five_is : (ds : Items) (p : Data × Data × Data × Data × Data) → five ds ≡ Some p
    → ds ≡ item p.0 (item p.1 (item p.2 (item p.3 (item p.4 no_items))))
unfolding five
five_is ds p e =
    bind (first ds) _ p e (λ a a_is a_then.
    bind (first a.1) _ p a_then (λ b b_is b_then.
    bind (three b.1) _ p b_then (λ c c_is c_then.
    first_is ds a a_is ∙ rw (first_is a.1 b b_is, three_is b.1 c c_is, ← some_injective c_then) refl)))

pub any_is : (ds : Items) (o : Option Data) → if_any ds ≡ Some o
    → ((ds ≡ no_items) × (o ≡ None)) ⊎ ((d : Data) × (ds ≡ item d no_items) × (o ≡ Some d))
unfolding if_any
any_is no_items o e = inl (refl, rw (← some_injective e) refl)
any_is (item d ds) o e =
    bind (none ds) _ o e (λ t t_is t_then. inr (d, rw (none_is ds t t_is) refl, rw (← some_injective t_then) refl))

pub call_is : (d : Data) (c : List ℕ × Items) → call_at d ≡ Some c → d ≡ array (item (string c.0) c.1)
unfolding call_at
call_is (array (item (string word) ds)) c e = rw (← (some_injective e)) refl
call_is _ c e = cc

-- what one item makes
pub one_read : {A X P : Type 0} (at : Data → Option A) (make : A → X) (ds : Items) (x : X) → one_of at make ds ≡ Some x
    → ((d : Data) (a : A) → ds ≡ item d no_items → at d ≡ Some a → make a ≡ x → P) → P
unfolding sole
one_read at make ds x e k =
    mapped (sole at ds) make x e (λ a a_is made.
    bind (one ds) at a a_is (λ d d_is d_then.
    k d a (one_is ds d d_is) d_then made))

-- what two items make
pub two_read : {A B X P : Type 0} (at : Data → Option A) (bt : Data → Option B) (make : A → B → X) (ds : Items) (x : X)
    → two_of at bt make ds ≡ Some x
    → ((d f : Data) (a : A) (b : B) → ds ≡ item d (item f no_items) → at d ≡ Some a → bt f ≡ Some b → make a b ≡ x → P)
    → P
unfolding pair
two_read at bt make ds x e k =
    mapped (pair at bt ds) _ x e (λ q q_is made.
    bind (two ds) _ q q_is (λ p p_is p_then.
    bind (at p.0) _ q p_then (λ a a_is a_then.
    bind (bt p.1) _ q a_then (λ b b_is b_then.
    k p.0 p.1 a b (two_is ds p p_is) a_is b_is (rw (← some_injective b_then) at made)))))

-- what three items make
pub three_read : {A B C X P : Type 0}
    (at : Data → Option A) (bt : Data → Option B) (ct : Data → Option C) (make : A → B → C → X) (ds : Items) (x : X)
    → three_of at bt ct make ds ≡ Some x
    → ((d f g : Data) (a : A) (b : B) (c : C) → ds ≡ item d (item f (item g no_items)) → at d ≡ Some a → bt f ≡ Some b
    → ct g ≡ Some c → make a b c ≡ x → P) → P
unfolding triple
three_read at bt ct make ds x e k =
    mapped (triple at bt ct ds) _ x e (λ q q_is made.
    bind (three ds) _ q q_is (λ p p_is p_then.
    bind (at p.0) _ q p_then (λ a a_is a_then.
    bind (bt p.1) _ q a_then (λ b b_is b_then.
    bind (ct p.2) _ q b_then (λ c c_is c_then.
    k p.0 p.1 p.2 a b c (three_is ds p p_is) a_is b_is c_is (rw (← some_injective c_then) at made))))))

-- ---- leaves

pub text_is : (d : Data) (text : List ℕ) → text_at d ≡ Some text → IsText d text
text_is (string s) text e = rw (some_injective e) refl
text_is _ text e = cc

pub boolean_is : (d : Data) (b : Bool) → as_bool d ≡ Some b → d ≡ boolean b
boolean_is (boolean c) b e = rw (some_injective e) refl
boolean_is _ b e = cc

pub array_is : (d : Data) (ds : Items) → as_array d ≡ Some ds → d ≡ array ds
array_is (array es) ds e = rw (some_injective e) refl
array_is _ ds e = cc

pub integer_is : (d : Data) (n : ℤ) → integer_at d ≡ Some n → IsInteger d n
integer_is (number x) n e = (x, refl, e)
integer_is _ n e = cc

pub within_is : (low high n m : ℕ) → within low high n ≡ Some m → (n ≡ m) × (low ≤ m) × (m ≤ high)
within_is low high n m e = elim (chosen (nat_le low n && nat_le n high) (Some n) None (Some m) e) [
  | inl h ↦
      let bounds = and_parts (nat_le low n) (nat_le n high) h.0 in (
        some_injective h.1,
        rw (← some_injective h.1) (leb-true low n bounds.0),
        rw (← some_injective h.1) (leb-true n high bounds.1),
      )
  | inr h ↦ cc
]

pub number_is : (low high : ℕ) (d : Data) (n : ℕ) → number_at low high d ≡ Some n → IsNumber low high d n
number_is low high (number (unsigned m)) n e = let h = within_is low high m n e in (rw h.0 refl, h.1, h.2)
number_is low high (number (negative z)) n e = cc
number_is low high (number (float x)) n e = cc
number_is low high _ n e = cc

pub bound_is : (d : Data) (bound : Option ℕ) → bound_at d ≡ Some bound → IsBound d bound
bound_is null bound e = rw (← some_injective e) no_bound
bound_is (number x) bound e =
    mapped (number_at 0 MOST_PLACES (number x)) Some bound e
    (λ n n_is n_then. rw (← n_then) (a_bound (number x) n (number_is 0 MOST_PLACES (number x) n n_is)))
bound_is _ bound e = cc

pub class_is : (table : List Class) (d : Data) (class : ℕ) → class_at table d ≡ Some class → IsClass table d class
class_is table d class e =
    mapped (text_at d) _ class e (λ name name_is name_then. (name, text_is d name name_is, sym name_then))

pub word_found : {W : Type 0} (Is : Data → W → Type 0) (text key : List ℕ) (word found : W) (rest : Option W)
    → Is (string key) word
    → (rest ≡ Some found → Is (string text) found) → cond (bytes_eq text key) (Some word) rest ≡ Some found
    → Is (string text) found
word_found Is text key word found rest is otherwise e =
    elim (chosen (bytes_eq text key) (Some word) rest (Some found) e) [
      | inl h ↦ rw ((bytes_eq-Decides text key).0 h.0, ← some_injective h.1) is
      | inr h ↦ otherwise h
    ]

pub list_flag_is : (d : Data) (x : ListFlag) → list_flag_at d ≡ Some x → IsListFlag d x
list_flag_is (string text) x e =
    word_found IsListFlag text (codes "fireOnOneCallback") flag.FireOnOneCallback x _ fires_on_callback (
    word_found IsListFlag text (codes "fireOnOneErrback") flag.FireOnOneErrback x _ fires_on_errback (
    word_found IsListFlag text (codes "consumeErrors") flag.ConsumeErrors x _ consumes_errors (λ g. cc))) e
list_flag_is _ x e = cc

pub turn_rule_is : (d : Data) (x : TurnRule) → turn_rule_at d ≡ Some x → IsTurnRule d x
turn_rule_is (string text) x e =
    word_found IsTurnRule text (codes "fair") turn_rule.Fair x _ fair_turns (
    word_found IsTurnRule text (codes "twisted") turn_rule.Twisted x _ twisted_turns (λ g. cc)) e
turn_rule_is _ x e = cc

pub gather_flag_is : (d : Data) (x : GatherFlag) → gather_flag_at d ≡ Some x → IsGatherFlag d x
gather_flag_is (string text) x e =
    word_found IsGatherFlag text (codes "consumeErrors") gather_flag.ConsumeErrors x _ gathers_errors (λ g. cc) e
gather_flag_is _ x e = cc

-- ---- lists and fields

pub sound_each : {X : Type 0} (Is : Data → X → Type 0) (at : Data → Option X)
    → ((d : Data) (x : X) → at d ≡ Some x → Is d x)
    → (ds : Items) (xs : List X) → each at ds ≡ Some xs → Each Is ds xs
sound_each Is at one no_items xs e = rw (← (some_injective e)) tt
sound_each Is at one (item d ds) xs e =
    bind (at d) _ xs e (λ a a_is a_then.
    mapped (each at ds) _ xs a_then (λ b b_is b_then.
    rw (← b_then) (one d a a_is, sound_each Is at one ds b b_is)))

pub sound_list : {X : Type 0} (Is : Data → X → Type 0) (at : Data → Option X)
    → ((d : Data) (x : X) → at d ≡ Some x → Is d x)
    → (d : Data) (xs : List X) → list_at at d ≡ Some xs → IsList Is d xs
sound_list Is at one d xs e =
    bind (as_array d) (each at) xs e (λ ds ds_is ds_then. (ds, array_is d ds ds_is, sound_each Is at one ds xs ds_then))

pub sound_field : {X : Type 0} (default x : X) (Is : Data → X → Type 0) (at : Data → Option X)
    → ((d : Data) (y : X) → at d ≡ Some y → Is d y)
    → (o : Option Data) → field default at o ≡ Some x → Field default Is o x
sound_field default x Is at one None e = sym (some_injective e)
sound_field default x Is at one (Some d) e = one d x e

pub sound_key : {X : Type 0} (x : X) (Is : Data → X → Type 0) (at : Data → Option X)
    → ((d : Data) (y : X) → at d ≡ Some y → Is d y)
    → (o : Option Data) → option_and_then at o ≡ Some x → Key Is o x
sound_key x Is at one None e = cc
sound_key x Is at one (Some d) e = one d x e

pub fields_is : (keys : List (List ℕ)) (ms : Members) (t : ⊤) → fields_at keys (object ms) ≡ Some t
    → is_keyed_by keys ms ≡ true
unfolding fields_at
fields_is keys ms t e = elim (chosen (is_keyed_by keys ms) (Some tt) None (Some t) e) [
  | inl h ↦ h.0
  | inr h ↦ cc
]

-- ---- failures and values

pub empty_is : (d : Data) (t : ⊤) → empty_at d ≡ Some t → IsText d []
empty_is (string []) t e = refl
empty_is (string (b ∷ bs)) t e = cc
empty_is _ t e = cc

empty_key : (o : Option Data) (t : ⊤) → option_and_then empty_at o ≡ Some t → Key IsText o []
empty_key None t e = cc
empty_key (Some d) t e = empty_is d t e

bare_is : (keys : List (List ℕ)) (ms : Members) (t : ⊤) → bare_at keys (object ms) ≡ Some t
    → has_none_but keys ms ≡ true
unfolding bare_at
bare_is keys ms t e = elim (chosen (has_none_but keys ms) (Some tt) None (Some t) e) [
  | inl h ↦ h.0
  | inr h ↦ cc
]

-- a failure at the key `sub`
pub record IsSub (table : List Class) (ms : Members) (f : Failure) : Type 0 where
  pub d : Data
  pub there : get_member (codes "sub") ms ≡ Some d
  pub is : IsFailure table d f

plain_is : (table : List Class) (ms : Members) (f : Failure) → is_first_error (object ms) ≡ false
    → plain_at table (object ms) ≡ Some f → IsFailure table (object ms) f
unfolding plain_at
plain_is table ms f other e =
    bind (bare_at failure_keys (object ms)) _ f e (λ t t_is t_then.
    bind (option_and_then (class_at table) (get_member (codes "fail") ms)) _ f t_then (λ c c_is c_then.
    bind (option_and_then text_at (get_member (codes "message") ms)) _ f c_then (λ m m_is m_then.
    rw (← some_injective m_then) (a_failure ms c m other (bare_is failure_keys ms t t_is)
    (sound_key c (IsClass table) (class_at table) (class_is table) (get_member (codes "fail") ms) c_is)
    (sound_key m IsText text_at text_is (get_member (codes "message") ms) m_is)))))

first_error_is : (table : List Class) (ms : Members) (f : Failure) (sub : Option Failure)
    → is_first_error (object ms) ≡ true
    → first_error_by table (object ms) sub ≡ Some f → ((g : Failure) → sub ≡ Some g → IsSub table ms g)
    → IsFailure table (object ms) f
unfolding first_error_by head_at
first_error_is table ms f sub first e inner =
    bind (head_at table (object ms)) _ f e (λ h h_is h_then.
    bind (bare_at first_error_keys (object ms)) _ h h_is (λ t t_is t_then.
    bind (option_and_then (class_at table) (get_member (codes "fail") ms)) _ h t_then (λ c c_is c_then.
    bind (option_and_then (number_at 0 MOST_INDEX) (get_member (codes "index") ms)) _ h c_then (λ i i_is i_then.
    bind (option_and_then empty_at (get_member (codes "message") ms)) _ h i_then (λ m m_is m_then.
    bind sub _ f h_then (λ g g_is g_then.
    let s = inner g g_is in
    rw (← some_injective g_then, ← some_injective m_then)
    (a_first_error ms c i s.d g first (bare_is first_error_keys ms t t_is)
    (sound_key c (IsClass table) (class_at table) (class_is table) (get_member (codes "fail") ms) c_is)
    (sound_key i (IsNumber 0 MOST_INDEX) (number_at 0 MOST_INDEX) (number_is 0 MOST_INDEX)
    (get_member (codes "index") ms) i_is)
    (empty_key (get_member (codes "message") ms) m m_is) s.there s.is)))))))

-- what a key is worth that is, or isn't, that of a member
is_there : (o : Ordering) (rest : Option Data) (d : Data) → is_eq o ≡ true
    → match_ordering o rest (Some d) rest ≡ Some d
is_there Less rest d e = cc
is_there Equal rest d e = refl
is_there Greater rest d e = cc

is_further : (o : Ordering) (rest : Option Data) (d : Data) → is_eq o ≡ false
    → match_ordering o rest (Some d) rest ≡ rest
is_further Less rest d e = refl
is_further Equal rest d e = cc
is_further Greater rest d e = refl

turned : (xs ys : List ℕ) (b c : Bool) → bytes_eq xs ys ≡ b → bytes_eq ys xs ≡ c → c ≡ b
turned xs ys true true e g = refl
turned xs ys false false e g = refl
turned xs ys true false e g =
    let same : bytes_eq ys xs ≡ true = (bytes_eq-Decides ys xs).1 (sym ((bytes_eq-Decides xs ys).0 e)) in cc
turned xs ys false true e g =
    let same : bytes_eq xs ys ≡ true = (bytes_eq-Decides xs ys).1 (sym ((bytes_eq-Decides ys xs).0 g)) in cc

sub_key : (key : List ℕ) (b : Bool) → bytes_eq key (codes "sub") ≡ b
    → is_eq (slice_cmp nat_cmp (codes "sub") key) ≡ b
sub_key key b e =
    is_eq-slice_cmp (codes "sub") key ∙ turned key (codes "sub") b (bytes_eq (codes "sub") key) e refl

mutual
  pub sound_failure : (table : List Class) (d : Data) (f : Failure) → failure_at table d ≡ Some f → IsFailure table d f
  sound_failure table (object ms) f e =
      either_way (is_first_error (object ms)) (first_error_by table (object ms) (sub_at table ms))
      (plain_at table (object ms)) (Some f) e
      (λ first g. first_error_is table ms f (sub_at table ms) first g (λ s s_is. sound_sub table ms s s_is))
      (λ other g. plain_is table ms f other g)
  sound_failure table _ f e = cc

  sound_sub : (table : List Class) (ms : Members) (f : Failure) → sub_at table ms ≡ Some f → IsSub table ms f
  sound_sub table no_members f e = cc
  sound_sub table (member key d ms) f e =
      either_way (bytes_eq key (codes "sub")) (failure_at table d) (sub_at table ms) (Some f) e
      (λ same g. record {
        d = d;
        there =
            is_there (slice_cmp nat_cmp (codes "sub") key) (get_member (codes "sub") ms) d (sub_key key true same);
        is = sound_failure table d f g;
      })
      (λ other g. let s = sound_sub table ms f g in record {
        d = s.d;
        there =
            is_further (slice_cmp nat_cmp (codes "sub") key) (get_member (codes "sub") ms) d
            (sub_key key false other) ∙ s.there;
        is = s.is;
      })

mutual
  sound_member : (table : List Class) (d : Data) (v : Value) → member_at table d ≡ Some v → IsMember table d v
  sound_member table null v e = rw (← (some_injective e)) (a_value null Null a_null)
  sound_member table (boolean b) v e = rw (← (some_injective e)) (a_value (boolean b) (Flag b) (a_bool b))
  sound_member table (number x) v e =
      mapped (as_i64 x) _ v e (λ n n_is n_then. rw (← n_then) (a_value (number x) (Int n) (an_int x n n_is)))
  sound_member table (string text) v e = rw (← (some_injective e)) (a_value (string text) (Text text) (a_text text))
  sound_member table (array ds) v e =
      mapped (members_at table ds) _ v e (λ vs vs_is vs_then.
      rw (← vs_then) (a_value (array ds) (Values vs) (a_list ds vs (sound_members table ds vs vs_is))))
  sound_member table (object ms) v e =
      mapped (failure_at table (object ms)) _ v e
      (λ f f_is f_then. rw (← f_then) (a_fault (object ms) f (sound_failure table (object ms) f f_is)))

  sound_members : (table : List Class) (ds : Items) (vs : List Value) → members_at table ds ≡ Some vs
      → AreMembers table ds vs
  sound_members table no_items vs e = rw (← (some_injective e)) no_more
  sound_members table (item d ds) vs e =
      bind (member_at table d) _ vs e (λ v v_is v_then.
      mapped (members_at table ds) _ vs v_then (λ us us_is us_then.
      rw (← us_then) (one_more d ds v us (sound_member table d v v_is) (sound_members table ds us us_is))))

pub sound_value : (table : List Class) (d : Data) (v : Value) → value_at table d ≡ Some v → IsValue table d v
sound_value table null v e = rw (← (some_injective e)) a_null
sound_value table (boolean b) v e = rw (← (some_injective e)) (a_bool b)
sound_value table (number x) v e = mapped (as_i64 x) _ v e (λ n n_is n_then. rw (← n_then) (an_int x n n_is))
sound_value table (string text) v e = rw (← (some_injective e)) (a_text text)
sound_value table (array ds) v e =
    mapped (members_at table ds) _ v e
    (λ vs vs_is vs_then. rw (← vs_then) (a_list ds vs (sound_members table ds vs vs_is)))
sound_value table (object ms) v e = cc

-- ---- ends and works

-- what the word of this end reads as is in the grammar
abbrev pub IsEndRead : List Class → EndWord → List ℕ → Type 0
IsEndRead table word text =
    (ds : Items) (x : End) → end_of table word ds ≡ Some x → IsEnd table (array (item (string text) ds)) x

pub sound_ends : (table : List Class) → EachWord (IsEndRead table) end_words
unfolding end_of
sound_ends table =
    (λ ds x e.
    one_read (value_at table) Return ds x e
    (λ d v ds_is v_is made. rw (ds_is, ← made) (returns d v (sound_value table d v v_is)))) &
    (λ ds x e. bind (none ds) _ x e (λ t t_is t_then. rw (none_is ds t t_is, ← some_injective t_then) passes)) &
    (λ ds x e.
    one_read integer_at Plus ds x e (λ d n ds_is n_is made. rw (ds_is, ← made) (adds d n (integer_is d n n_is)))) &
    (λ ds x e. two_read (class_at table) text_at Raise ds x e
    (λ d f c t ds_is c_is t_is made. rw (ds_is, text_is f t t_is, ← made) (raises d c t (class_is table d c c_is)))) &
    (λ ds x e. one_read (list_at (number_at 0 MOST_PLACE)) Throw ds x e (λ d path ds_is path_is made.
    rw (ds_is, ← made) (throws d path (sound_list (IsNumber 0 MOST_PLACE) (number_at 0 MOST_PLACE)
    (number_is 0 MOST_PLACE) d path path_is)))) &
    (λ ds x e. two_read (list_at (class_at table)) (value_at table) Trap ds x e (λ d f cs v ds_is cs_is v_is made.
    rw (ds_is, ← made) (traps d cs f v (sound_list (IsClass table) (class_at table) (class_is table) d cs cs_is)
    (sound_value table f v v_is)))) &
    (λ ds x e. one_read text_at Wait ds x e (λ d n ds_is n_is made. rw (ds_is, text_is d n n_is, ← made) (waits n))) &
    (λ ds x e. one_read text_at Run ds x e (λ d n ds_is n_is made. rw (ds_is, text_is d n n_is, ← made) (runs n))) &
    tt

pub sound_end : (table : List Class) (d : Data) (x : End) → end_at table d ≡ Some x → IsEnd table d x
unfolding end_at
sound_end table d x e =
    bind (call_at d) _ x e (λ c c_is c_then.
    bind (end_word c.0) _ x c_then (λ w w_is w_then.
    rw (call_is d c c_is) (found_word (IsEndRead table) end_words (sound_ends table) c.0 w w_is c.1 x w_then)))

pub sound_leave : (table : List Class) (d : Data) (x : End) → leave_at table d ≡ Some x
    → IsEnd table d x × (may_leave x ≡ true)
unfolding leave_at
sound_leave table d x e =
    bind (end_at table d) _ x e
    (λ end end_is end_then. elim (chosen (may_leave end) (Some end) None (Some x) end_then) [
      | inl h ↦ rw (← some_injective h.1) (sound_end table d end end_is, h.0)
      | inr h ↦ cc
    ])

-- what the word of this work reads as is in the grammar
abbrev pub IsWorkRead : List Class → WorkWord → List ℕ → Type 0
IsWorkRead table word text =
    (ds : Items) (x : Work) → work_of table word ds ≡ Some x → IsWork table (array (item (string text) ds)) x

pub sound_works : (table : List Class) → EachWord (IsWorkRead table) work_words
unfolding work_of
sound_works table =
    (λ ds x e.
    one_read (value_at table) job.Value ds x e
    (λ d v ds_is v_is made. rw (ds_is, ← made) (gives d v (sound_value table d v v_is)))) &
    (λ ds x e. two_read (class_at table) text_at job.Raise ds x e
    (λ d f c t ds_is c_is t_is made. rw (ds_is, text_is f t t_is, ← made) (fails d c t (class_is table d c c_is)))) &
    (λ ds x e. one_read (number_at 0 MOST_SUM) job.Sum ds x e
    (λ d n ds_is n_is made. rw (ds_is, ← made) (sums d n (number_is 0 MOST_SUM d n n_is)))) &
    tt

pub sound_work : (table : List Class) (d : Data) (x : Work) → work_at table d ≡ Some x → IsWork table d x
unfolding work_at
sound_work table d x e =
    bind (call_at d) _ x e (λ c c_is c_then.
    bind (work_word c.0) _ x c_then (λ w w_is w_then.
    rw (call_is d c c_is) (found_word (IsWorkRead table) work_words (sound_works table) c.0 w w_is c.1 x w_then)))

-- what the word of what is expected reads as is in the grammar
abbrev pub IsOutcomeRead : List Class → OutcomeWord → List ℕ → Type 0
IsOutcomeRead table word text =
    (ds : Items) (x : Expected) → outcome_of table word ds ≡ Some x → IsOutcome table (array (item (string text) ds)) x

sound_fault : (table : List Class) (d : Data) (v : Value) → fault_at table d ≡ Some v
    → (f : Failure) × IsFailure table d f × (Fault f ≡ v)
sound_fault table d v e =
    mapped (failure_at table d) Fault v e (λ f f_is f_then. (f, sound_failure table d f f_is, f_then))

pub sound_outcomes : (table : List Class) → EachWord (IsOutcomeRead table) outcome_words
unfolding outcome_of
sound_outcomes table =
    (λ ds x e. bind (none ds) _ x e (λ t t_is made. rw (none_is ds t t_is, ← some_injective made) is_unfired)) &
    (λ ds x e. bind (none ds) _ x e (λ t t_is made. rw (none_is ds t t_is, ← some_injective made) is_waiting)) &
    (λ ds x e.
    one_read (value_at table) expected.Fired ds x e
    (λ d v ds_is v_is made. rw (ds_is, ← made) (is_ok d v (sound_value table d v v_is)))) &
    (λ ds x e.
    one_read (fault_at table) expected.Fired ds x e
    (λ d v ds_is v_is made. let f = sound_fault table d v v_is in
    rw (ds_is, ← made, ← f.2) (is_failed d f.0 f.1))) &
    tt

pub sound_outcome : (table : List Class) (d : Data) (x : Expected) → outcome_at table d ≡ Some x → IsOutcome table d x
unfolding outcome_at
sound_outcome table d x e =
    bind (call_at d) _ x e (λ c c_is c_then.
    bind (outcome_word c.0) _ x c_then (λ w w_is w_then.
    rw (call_is d c c_is)
    (found_word (IsOutcomeRead table) outcome_words (sound_outcomes table) c.0 w w_is c.1 x w_then)))

-- ---- lists, leaves

pub complete_each : {X : Type 0} (Is : Data → X → Type 0) (at : Data → Option X)
    → ((d : Data) (x : X) → Is d x → at d ≡ Some x)
    → (ds : Items) (xs : List X) → Each Is ds xs → each at ds ≡ Some xs
complete_each Is at one no_items [] h = refl
complete_each Is at one no_items (x ∷ xs) h = absurd h
complete_each Is at one (item d ds) [] h = absurd h
complete_each Is at one (item d ds) (x ∷ xs) h = rw (one d x h.0, complete_each Is at one ds xs h.1) refl

pub complete_list : {X : Type 0} (Is : Data → X → Type 0) (at : Data → Option X)
    → ((d : Data) (x : X) → Is d x → at d ≡ Some x)
    → (d : Data) (xs : List X) → IsList Is d xs → list_at at d ≡ Some xs
complete_list Is at one d xs h = rw h.1 (complete_each Is at one h.0 xs h.2)

pub complete_field : {X : Type 0} (default x : X) (Is : Data → X → Type 0) (at : Data → Option X)
    → ((d : Data) (y : X) → Is d y → at d ≡ Some y)
    → (o : Option Data) → Field default Is o x → field default at o ≡ Some x
complete_field default x Is at one None h = rw h refl
complete_field default x Is at one (Some d) h = one d x h

pub complete_key : {X : Type 0} (x : X) (Is : Data → X → Type 0) (at : Data → Option X)
    → ((d : Data) (y : X) → Is d y → at d ≡ Some y)
    → (o : Option Data) → Key Is o x → option_and_then at o ≡ Some x
complete_key x Is at one None h = absurd h
complete_key x Is at one (Some d) h = one d x h

pub complete_text : (d : Data) (text : List ℕ) → IsText d text → text_at d ≡ Some text
complete_text d text h = rw h refl

pub complete_class : (table : List Class) (d : Data) (class : ℕ) → IsClass table d class → class_at table d ≡ Some class
complete_class table d class h = rw (h.1, h.2) refl

pub complete_classes : (table : List Class) (d : Data) (classes : List ℕ) → IsList (IsClass table) d classes
    → list_at (class_at table) d ≡ Some classes
complete_classes table = complete_list (IsClass table) (class_at table) (complete_class table)

pub complete_within : (low high n : ℕ) → low ≤ n → n ≤ high → within low high n ≡ Some n
complete_within low high n h k = rw (le-leb low n h, le-leb n high k) refl

pub complete_number : (low high : ℕ) (d : Data) (n : ℕ) → IsNumber low high d n → number_at low high d ≡ Some n
complete_number low high d n h = rw h.0 (complete_within low high n h.1 h.2)

-- ---- failures and values

empty_there : (o : Option Data) → Key IsText o [] → option_and_then empty_at o ≡ Some tt
empty_there None h = absurd h
empty_there (Some d) h = rw h refl

sub_by : (table : List Class) (key : List ℕ) (c : Data) (ms : Members) (d : Data)
    → get_member (codes "sub") (member key c ms) ≡ Some d
    → (b : Bool) → bytes_eq key (codes "sub") ≡ b
    → (get_member (codes "sub") ms ≡ Some d → sub_at table ms ≡ failure_at table d)
    → (if b then failure_at table c else sub_at table ms) ≡ failure_at table d
sub_by table key c ms d is true e later =
    ap (failure_at table) (some_injective (sym
    (is_there (slice_cmp nat_cmp (codes "sub") key) (get_member (codes "sub") ms) c (sub_key key true e)) ∙ is))
sub_by table key c ms d is false e later =
    later (sym (is_further (slice_cmp nat_cmp (codes "sub") key) (get_member (codes "sub") ms) c (sub_key key false e))
    ∙ is)

-- what stands at the key `sub` is read there
sub_there : (table : List Class) (ms : Members) (d : Data) → get_member (codes "sub") ms ≡ Some d
    → sub_at table ms ≡ failure_at table d
sub_there table no_members d is = cc
sub_there table (member key c ms) d is =
    sub_by table key c ms d is (bytes_eq key (codes "sub")) refl (λ further. sub_there table ms d further)

pub complete_failure : (table : List Class) {d : Data} {f : Failure} → IsFailure table d f → failure_at table d ≡ Some f
unfolding plain_at first_error_by head_at bare_at
complete_failure table (a_failure ms class message other bare c m) = rw (
  other,
  bare,
  complete_key class (IsClass table) (class_at table) (complete_class table) (get_member (codes "fail") ms) c,
  complete_key message IsText text_at complete_text (get_member (codes "message") ms) m,
) refl
complete_failure table (a_first_error ms class index d f first bare c i m there g) = rw (
  first,
  bare,
  complete_key class (IsClass table) (class_at table) (complete_class table) (get_member (codes "fail") ms) c,
  complete_key index (IsNumber 0 MOST_INDEX) (number_at 0 MOST_INDEX) (complete_number 0 MOST_INDEX)
      (get_member (codes "index") ms) i,
  empty_there (get_member (codes "message") ms) m,
  sub_there table ms d there,
  complete_failure table g,
) refl

complete_fault : (table : List Class) {d : Data} {f : Failure} → IsFailure table d f
    → member_at table d ≡ Some (Fault f)
complete_fault table (a_failure ms class message other bare c m) =
    ap (option_map Fault) (complete_failure table (a_failure ms class message other bare c m))
complete_fault table (a_first_error ms class index d f first bare c i m there g) =
    ap (option_map Fault) (complete_failure table (a_first_error ms class index d f first bare c i m there g))

mutual
  complete_inner : (table : List Class) {d : Data} {v : Value} → IsValue table d v → member_at table d ≡ Some v
  complete_inner table a_null = refl
  complete_inner table (a_bool b) = refl
  complete_inner table (an_int x n e) = rw e refl
  complete_inner table (a_text text) = refl
  complete_inner table (a_list ds vs h) = rw (complete_members table h) refl

  complete_member : (table : List Class) {d : Data} {v : Value} → IsMember table d v → member_at table d ≡ Some v
  complete_member table (a_value d v h) = complete_inner table h
  complete_member table (a_fault d f h) = complete_fault table h

  complete_members : (table : List Class) {ds : Items} {vs : List Value} → AreMembers table ds vs
      → members_at table ds ≡ Some vs
  complete_members table no_more = refl
  complete_members table (one_more d ds v vs h hs) = rw (complete_member table h, complete_members table hs) refl

pub complete_value : (table : List Class) {d : Data} {v : Value} → IsValue table d v → value_at table d ≡ Some v
complete_value table a_null = refl
complete_value table (a_bool b) = refl
complete_value table (an_int x n e) = rw e refl
complete_value table (a_text text) = refl
complete_value table (a_list ds vs h) = rw (complete_members table h) refl

pub complete_bound : (d : Data) (bound : Option ℕ) → IsBound d bound → bound_at d ≡ Some bound
complete_bound _ _ no_bound = refl
complete_bound _ _ (a_bound d n h) = rw h.0 (rw (complete_within 0 MOST_PLACES n h.1 h.2) refl)

pub complete_list_flag : (d : Data) (flag : ListFlag) → IsListFlag d flag → list_flag_at d ≡ Some flag
complete_list_flag _ _ fires_on_callback = refl
complete_list_flag _ _ fires_on_errback = refl
complete_list_flag _ _ consumes_errors = refl

pub complete_turn_rule : (d : Data) (rule : TurnRule) → IsTurnRule d rule → turn_rule_at d ≡ Some rule
complete_turn_rule _ _ fair_turns = refl
complete_turn_rule _ _ twisted_turns = refl

pub complete_gather_flag : (d : Data) (flag : GatherFlag) → IsGatherFlag d flag → gather_flag_at d ≡ Some flag
complete_gather_flag _ _ gathers_errors = refl

pub complete_end : (table : List Class) (d : Data) (e : End) → IsEnd table d e → end_at table d ≡ Some e
unfolding end_at end_of call_at none first one two sole pair
complete_end table _ _ (returns d v h) = rw (complete_value table h) refl
complete_end table _ _ passes = refl
complete_end table _ _ (adds d n h) = rw (h.1, h.2) refl
complete_end table _ _ (raises c class text h) = rw (complete_class table c class h) refl
complete_end table _ _ (traps c classes d v h g) = rw (complete_classes table c classes h, complete_value table g) refl
complete_end table _ _ (waits name) = refl
complete_end table _ _ (runs name) = refl
complete_end table _ _ (throws d path h) =
    rw (complete_list (IsNumber 0 MOST_PLACE) (number_at 0 MOST_PLACE) (complete_number 0 MOST_PLACE) d path h) refl

pub complete_work : (table : List Class) (d : Data) (w : Work) → IsWork table d w → work_at table d ≡ Some w
unfolding work_at work_of call_at none first one two sole pair
complete_work table _ _ (gives d v h) = rw (complete_value table h) refl
complete_work table _ _ (fails c class text h) = rw (complete_class table c class h) refl
complete_work table _ _ (sums d n h) = rw (complete_number 0 MOST_SUM d n h) refl

pub complete_outcome : (table : List Class) (d : Data) (x : Expected) → IsOutcome table d x
    → outcome_at table d ≡ Some x
unfolding outcome_at outcome_of call_at none first one two sole pair
complete_outcome table _ _ is_unfired = refl
complete_outcome table _ _ is_waiting = refl
complete_outcome table _ _ (is_ok d v h) = rw (complete_value table h) refl
complete_outcome table _ _ (is_failed d f h) = rw (complete_failure table h) refl
