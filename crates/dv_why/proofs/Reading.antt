-- Where each part of a script fits, it reads.
use Rattle.std.proofs.Common.{◌≡◌, ℕ, zero, suc, ◌≤◌, nat_eq}
use Rattle.std.proofs.Common.{nat_le, nat_lt}
use Rattle.std.proofs.Common.{Bool, true, false, List, [], ◌∷◌, ◌++◌, Option, Some, None, is_some}
use Rattle.std.proofs.Common.{refl}
use Rattle.std.proofs.Common.{ap, subst, arith, codes}
use Rattle.std.proofs.lemmas.Bool.{and_parts, eqb-true}
use Rattle.serde_json.specs.Data.{Data, string, array, object, Items, no_items, item, Members}
use Rattle.serde_json.specs.Data.{depth}
use Rattle.serde_json.specs.Find.{at, get_item, get_member}
use Rattle.dv_value.specs.declared.classes.Class.{Class}
use Rattle.dv_script.specs.declared.event.Event.{Event}
use Rattle.dv_script.specs.declared.event.Event.TheVariants as happens
use Rattle.dv_script.specs.declared.script.Cooperator.{Cooperator}
use Rattle.dv_script.specs.declared.script.NamedBody.{NamedBody}
use Rattle.dv_script.specs.declared.script.NamedCooperator.{NamedCooperator}
use Rattle.dv_script.specs.declared.script.NamedPool.{NamedPool}
use Rattle.dv_script.specs.declared.limits.TheConstants.{MOST_DRAINED, MOST_UNITS}
use Rattle.dv_script.specs.declared.limits.TheConstants.{MOST_WORKERS, USUAL_LIMIT}
use Rattle.dv_clock.specs.declared.limits.TheConstants.{MOST_DELAY, MOST_TICKS}
use Rattle.dv_forms.specs.declared.declaration.Declaration.{Declaration}
use Rattle.dv_forms.specs.Forms.{IsList, Field, Key, is_keyed_by, IsNumber}
use Rattle.dv_forms.specs.Limits.{most_limit}
use Rattle.dv_forms.specs.Table.{table_of, all_declared}
use Rattle.dv_grammar.specs.declared.draft.Draft.{Draft}
use Rattle.dv_grammar.specs.Grammar.{keys_of, plain_cooperator, usual_turns, IsTurnRule}
use Rattle.dv_script.specs.declared.turn_rule.TurnRule.{TurnRule}
use Rattle.dv_forms.specs.declared.versions.TheConstants.{RULES_SINCE}
use Rattle.dv_why.proofs.Fine.{turn_rule_of}
use Rattle.dv_grammar.specs.Grammar.{IsBody}
use Rattle.dv_grammar.specs.Grammar.{acts, advances, drains, expects, IsDeclaration, declares, IsPool, pools}
use Rattle.dv_grammar.specs.Grammar.{repeated, IsListed, one_event, repeats, AreListed, no_events, more_events}
use Rattle.dv_grammar.specs.Grammar.{AreEvents}
use Rattle.dv_forms.specs.declared.limits.TheConstants.{MOST_TIMES}
use Rattle.dv_grammar.specs.Grammar.{IsCooperator, IsScript, IsNamedBody, names_body, IsNamedCooperator}
use Rattle.dv_grammar.specs.Grammar.{names_cooperator}
use Rattle.dv_grammar.proofs.WordsLemmas.{◌&◌}
use Rattle.dv_forms.specs.declared.versions.TheConstants.{BODIES_SINCE, COOPERATORS_SINCE, ENDS_THROW_SINCE}
use Rattle.dv_forms.specs.declared.versions.TheConstants.{LAST_VERSION}
use Rattle.dv_forms.specs.declared.want.Want.{Want}
use Rattle.dv_forms.specs.declared.want.Want.TheVariants as want
use Rattle.dv_forms.specs.declared.want.Leaf.TheVariants as leaf
use Rattle.dv_forms.specs.declared.want.CallKind.TheVariants as call_of
use Rattle.dv_forms.specs.declared.want.Keyed.TheVariants as keyed
use Rattle.dv_forms.specs.declared.want.Item.{Item}
use Rattle.dv_forms.specs.declared.want.Item.TheVariants as item_of
use Rattle.dv_why.specs.declared.question.Question.TheVariants as question
use Rattle.dv_forms.specs.declared.want.Object.TheVariants as object
use Rattle.dv_forms.specs.Wants.{a_deferred, a_text, a_body, item_want}
use Rattle.dv_forms.specs.Words.{own_forms, wants_in}
use Rattle.dv_why.specs.Places.{nth}
use Rattle.dv_document.specs.View.{count}
use Rattle.dv_why.specs.Documents.{version_in, script_in}
use Rattle.dv_why.specs.Fits.{fits, are_two}
use Rattle.dv_why.specs.AllSuit.{AllSuit}
use Rattle.dv_why.proofs.Fine.{IsFine, fits_fine, inside, same, value_fine, text_of}
use Rattle.dv_why.proofs.Fine.{open_array, list_of}
use Rattle.dv_why.proofs.Fine.{AreFine, one_arg, open_call}
use Rattle.dv_why.proofs.Forms.{EachForm, either_found, found_form}
use Rattle.dv_why.proofs.Parts.{here}
use Rattle.dv_why.proofs.Values.{not_other}
use Rattle.dv_why.proofs.Versions.{least_version, version_of}
use Rattle.dv_why.proofs.ReadingArguments.{number_fine, two_args}
use Rattle.dv_why.proofs.ReadingEnds.{outcome_fine}
use Rattle.dv_why.proofs.ReadingKeys.{cooperator_only, script_only}
use Rattle.dv_why.proofs.ReadingBodies.{IsActionRead, actions, are_read}

-- ---- events

-- an array of which each part fits reads as events
abbrev ReadsEvents : ℕ → ℕ → List Class → Type 0
ReadsEvents v n table =
    (d : Data) → IsFine v n (want.Array item_of.Event) d → (es : List Event) × AreEvents table d es

-- the arguments of a word read as those of an item of an array of events
abbrev IsEventRead : ℕ → ℕ → List Class → List ℕ → List Want → Type 0
IsEventRead v n table word wants =
    (ds : Items) → AreFine v n wants ds → (es : List Event) × IsListed table (array (item (string word) ds)) es

other_events : (v n : ℕ) (table : List Class) → ReadsEvents v n table
    → EachForm (IsEventRead v n table) (own_forms call_of.Event)
other_events v n table below =
    (λ ds h.
    let a = one_arg v n (want.Leaf (leaf.Number 0 MOST_TICKS)) ds h in
    let k = number_fine v n 0 MOST_TICKS a.a a.fine in
    rw (a.items) (happens.Advance k.0 ∷ [], one_event _ (happens.Advance k.0) (advances a.a k.0 k.1))) &
    (λ ds h.
    let a = one_arg v n (want.Leaf (leaf.Number 0 MOST_DRAINED)) ds h in
    let k = number_fine v n 0 MOST_DRAINED a.a a.fine in
    rw (a.items) (happens.Drain k.0 ∷ [], one_event _ (happens.Drain k.0) (drains a.a k.0 k.1))) &
    (λ ds h.
    let a = two_args v n a_deferred (want.Call call_of.Outcome) ds h in
    let t = text_of a.a (fits_fine a.one) in
    let x = outcome_fine v n table a.b a.two in
    rw (a.items, t.1)
    (happens.Expect t.0 x.0 ∷ [], one_event _ (happens.Expect t.0 x.0) (expects t.0 a.b x.0 x.1))) &
    (λ ds h.
    let a = two_args v n (want.Leaf (leaf.Number 0 MOST_TIMES)) (want.Array item_of.Event) ds h in
    let k = number_fine v n 0 MOST_TIMES a.a a.one in
    let es = below a.b a.two in
    rw (a.items, es.1.1) (repeated k.0 es.0, repeats a.a k.0 es.1.0 es.0 k.1 es.1.2)) &
    tt

event_by : (v n : ℕ) (table : List Class) (word : List ℕ) (wants : List Want) (ds : Items)
    → wants_in (own_forms call_of.Action) word (count ds) ≡ Some wants → AreFine v n wants ds
    → (es : List Event) × IsListed table (array (item (string word) ds)) es
event_by v n table word wants ds form args =
    let x = found_form (IsActionRead v n table) (own_forms call_of.Action) (actions v n table (are_read v n table)) word
    (count ds) wants form ds args in
    (happens.Action x.0 ∷ [], one_event _ (happens.Action x.0) (acts _ x.0 x.1))

-- an item of an array of which each part fits reads as events
abbrev ReadsListed : ℕ → ℕ → List Class → Type 0
ReadsListed v n table =
    (d : Data) → IsFine v n (want.Call call_of.Event) d → (es : List Event) × IsListed table d es

listed_of : (table : List Class) (ds : Items)
    → ((k : ℕ) (e : Data) → get_item k ds ≡ Some e → (es : List Event) × IsListed table e es)
    → (es : List Event) × AreListed table ds es
listed_of table no_items h = ([], no_events)
listed_of table (item d ds) h =
    let x = h 0 d refl in
    let xs = listed_of table ds (λ k e is. h (suc k) e is) in
    (x.0 ++ xs.0, more_events d ds x.0 xs.0 x.1 xs.1)

events_by : (v n : ℕ) (table : List Class) → ReadsListed v n table → ReadsEvents v n table
events_by v n table one d h =
    let o = open_array v n item_of.Event d h in
    let es = listed_of table o.items (λ k e is. one e (o.each k e is)) in
    (es.0, (o.items, o.whole, es.1))

event_fine : (v n : ℕ) (table : List Class) → ReadsListed v n table
event_fine v zero table (array ds) h = let deep : depth (array ds) ≤ 0 = h.deep in absurd (omega (arith, deep))
event_fine v zero table d h = let fit : fits v (want.Call call_of.Event) d ≡ true = fits_fine h in cc
event_fine v (suc n) table d h =
    let o = open_call v n call_of.Event d (fits_fine h) (λ k u e wants is. inside k h wants is) in
    rw (o.whole) (either_found (wants_in (own_forms call_of.Event) o.word (count o.rest)) _ o.wants o.form
    (λ form. found_form (IsEventRead v n table) (own_forms call_of.Event)
    (other_events v n table (events_by v n table (event_fine v n table))) o.word
    (count o.rest) o.wants form o.rest o.args)
    (λ form. event_by v n table o.word o.wants o.rest form o.args))

key_events : (v n : ℕ) (table : List Class) (o : Option Data) → is_some o ≡ true
    → ((e : Data) → o ≡ Some e → IsFine v n (want.Array item_of.Event) e)
    → (es : List Event) × Key (AreEvents table) o es
key_events v n table None is h = cc
key_events v n table (Some d) is h = events_by v n table (event_fine v n table) d (h d refl)

-- ---- declarations, pools, the cooperator

record IsPair (v n : ℕ) (w1 w2 : Want) (ds : Items) : Type 0 where
  a : Data
  b : Data
  items : ds ≡ item a (item b no_items)
  one : IsFine v n w1 a
  two : IsFine v n w2 b

pair_fine : (v n : ℕ) (w1 w2 : Want) (d : Data) (ds : Items) → d ≡ array ds → are_two ds ≡ true
    → ((k : ℕ) (u : Want) (e : Data) → nth (w1 ∷ w2 ∷ []) k ≡ Some u → at k d ≡ Some e → IsFine v n u e)
    → IsPair v n w1 w2 ds
pair_fine v n w1 w2 d no_items whole two parts = cc
pair_fine v n w1 w2 d (item a no_items) whole two parts = cc
pair_fine v n w1 w2 d (item a (item b no_items)) whole two parts = record {
  a = a;
  b = b;
  items = refl;
  one = parts 0 w1 a refl (ap (at 0) whole);
  two = parts 1 w2 b refl (ap (at 1) whole);
}
pair_fine v n w1 w2 d (item a (item b (item c ds))) whole two parts =
    let many : suc (suc (suc (count ds))) ≡ 2 = eqb-true (suc (suc (suc (count ds)))) 2 two in
    absurd (omega (arith, many))

declaration_fine : (v n : ℕ) (d : Data) → IsFine v n (item_want item_of.Declaration) d
    → (c : Declaration) × IsDeclaration d c
declaration_fine v n (array ds) h =
    let a = pair_fine v n (want.Leaf (leaf.New object.Class)) a_text (array ds) ds refl (fits_fine h)
    (λ k u e wants is. same k h wants is) in
    let t = text_of a.a (fits_fine a.one) in
    let u = text_of a.b (fits_fine a.two) in
    rw (a.items, t.1, u.1) (record { name = t.0; parent = u.0 }, declares t.0 u.0)
declaration_fine v n d h = let fit : fits v (item_want item_of.Declaration) d ≡ true = fits_fine h in cc

pool_pair_fine : (v n : ℕ) (d : Data) → IsFine v n (item_want item_of.Pool) d → (p : NamedPool) × IsPool d p
pool_pair_fine v n (array ds) h =
    let a = pair_fine v n (want.Leaf (leaf.New object.Pool)) (want.Leaf (leaf.Number 0 MOST_WORKERS)) (array ds) ds refl
    (fits_fine h) (λ k u e wants is. same k h wants is) in
    let t = text_of a.a (fits_fine a.one) in
    let k = number_fine v n 0 MOST_WORKERS a.b a.two in
    rw (a.items, t.1) (record { name = t.0; workers = k.0 }, pools t.0 a.b k.0 k.1)
pool_pair_fine v n d h = let fit : fits v (item_want item_of.Pool) d ≡ true = fits_fine h in cc

named_body_fine : (v n : ℕ) (table : List Class) (d : Data) → IsFine v n (item_want item_of.NamedBody) d
    → (b : NamedBody) × IsNamedBody table d b
named_body_fine v n table (array ds) h =
    let a = pair_fine v n (want.Leaf (leaf.New object.Body)) a_body (array ds) ds refl
    (fits_fine h) (λ k u e wants is. same k h wants is) in
    let t = text_of a.a (fits_fine a.one) in
    let b = (are_read v n table).of_body a.b a.two in
    rw (a.items, t.1) (record { name = t.0; body = b.0 }, names_body t.0 a.b b.0 b.1)
named_body_fine v n table d h = let fit : fits v (item_want item_of.NamedBody) d ≡ true = fits_fine h in cc

number_key : (v n low high : ℕ) (o : Option Data) → is_some o ≡ true
    → ((e : Data) → o ≡ Some e → IsFine v n (want.Leaf (leaf.Number low high)) e)
    → (k : ℕ) × Key (IsNumber low high) o k
number_key v n low high None is h = cc
number_key v n low high (Some d) is h = number_fine v n low high d (h d refl)

number_field : (v n default low high : ℕ) (o : Option Data)
    → ((e : Data) → o ≡ Some e → IsFine v n (want.Leaf (leaf.Number low high)) e)
    → (k : ℕ) × Field default (IsNumber low high) o k
number_field v n default low high None h = (default, refl)
number_field v n default low high (Some d) h = number_fine v n low high d (h d refl)

no_value : (o : Option Data) → ((e : Data) → o ≡ Some e → ⊥) → o ≡ None
no_value None h = refl
no_value (Some e) h = absurd (h e refl)

rule_field : (v n : ℕ) (default : TurnRule) (o : Option Data)
    → ((e : Data) → o ≡ Some e → IsFine v n (want.Leaf leaf.Turns) e)
    → (rule : TurnRule) × Field default IsTurnRule o rule
rule_field v n default None h = (default, refl)
rule_field v n default (Some d) h = turn_rule_of d (fits_fine (h d refl))

turns_field : (v n u : ℕ) (b : Bool) → nat_lt u RULES_SINCE ≡ b → (ms : Members)
    → IsFine v n (want.Keyed (keyed.Cooperator u)) (object ms)
    → (rule : TurnRule) × Field (usual_turns u) IsTurnRule (get_member (codes "turns") ms) rule
turns_field v n u true early ms h =
    let none : get_member (codes "turns") ms ≡ None = no_value (get_member (codes "turns") ms)
    (λ e is. not_other v (keyed.Cooperator u) ms h.suit (codes "turns") e is (rw early refl)) in
    rw none (usual_turns u, refl)
turns_field v n u false late ms h =
    rule_field v n (usual_turns u) (get_member (codes "turns") ms)
    (λ e is. value_fine (codes "turns") h (rw late refl) is)

cooperator_fine : (v n u : ℕ) (d : Data) → IsFine v n (want.Keyed (keyed.Cooperator u)) d
    → (c : Cooperator) × IsCooperator u d c
cooperator_fine v n u (object ms) h =
    let keys =
    and_parts (is_some (get_member (codes "units") ms)) (is_some (get_member (codes "delay") ms)) (fits_fine h) in
    let units =
    number_key v n 1 MOST_UNITS (get_member (codes "units") ms) keys.0 (λ e is. value_fine (codes "units") h refl is) in
    let delay = number_key v n 1 MOST_DELAY (get_member (codes "delay") ms) keys.1
    (λ e is. value_fine (codes "delay") h refl is) in
    let turns = turns_field v n u (nat_lt u RULES_SINCE) refl ms h in (
      record { units = units.0; delay = delay.0; turns = turns.0 },
      record {
        members = ms;
        whole = refl;
        only = cooperator_only v u ms h.suit;
        units = units.1;
        delay = delay.1;
        turns = turns.1;
      },
    )
cooperator_fine v n u d h = let fit : fits v (want.Keyed (keyed.Cooperator u)) d ≡ true = fits_fine h in cc

named_cooperator_fine : (v n : ℕ) (d : Data) → IsFine v n (item_want item_of.NamedCooperator) d
    → (c : NamedCooperator) × IsNamedCooperator d c
named_cooperator_fine v n (array ds) h =
    let a =
    pair_fine v n (want.Leaf (leaf.New object.Cooperator)) (want.Keyed (keyed.Cooperator COOPERATORS_SINCE)) (array ds)
    ds refl
    (fits_fine h) (λ k u e wants is. same k h wants is) in
    let t = text_of a.a (fits_fine a.one) in
    let c = cooperator_fine v n COOPERATORS_SINCE a.b a.two in
    rw (a.items, t.1) (record { name = t.0; settings = c.0 }, names_cooperator t.0 a.b c.0 c.1)
named_cooperator_fine v n d h = let fit : fits v (item_want item_of.NamedCooperator) d ≡ true = fits_fine h in cc

cooperator_field : (v n u : ℕ) (o : Option Data)
    → ((e : Data) → o ≡ Some e → IsFine v n (want.Keyed (keyed.Cooperator u)) e)
    → (c : Cooperator) × Field (plain_cooperator u) (IsCooperator u) o c
cooperator_field v n u None h = (plain_cooperator u, refl)
cooperator_field v n u (Some d) h = cooperator_fine v n u d (h d refl)

list_field : {X : Type 0} (v n : ℕ) (i : Item) (Is : Data → X → Type 0)
    → ((e : Data) → IsFine v n (item_want i) e → (x : X) × Is e x) → (o : Option Data)
    → ((e : Data) → o ≡ Some e → IsFine v n (want.Array i) e) → (xs : List X) × Field [] (IsList Is) o xs
list_field v n i Is one None h = ([], refl)
list_field v n i Is one (Some d) h = list_of v n i Is one d (h d refl)

-- ---- scripts

pools_field : (v n : ℕ) (b : Bool) → nat_eq v 1 ≡ b → (ms : Members)
    → IsFine v n (want.Keyed (keyed.Script v)) (object ms)
    → (xs : List NamedPool) × Field [] (IsList IsPool) (get_member (codes "pools") ms) xs
pools_field v n true one ms h =
    let none : get_member (codes "pools") ms ≡ None = no_value (get_member (codes "pools") ms)
    (λ e is. not_other v (keyed.Script v) ms h.suit (codes "pools") e is (rw one refl)) in
    rw none ([], refl)
pools_field v n false two ms h =
    list_field v n item_of.Pool IsPool (pool_pair_fine v n) (get_member (codes "pools") ms)
    (λ e is. value_fine (codes "pools") h (rw two refl) is)

bodies_field : (v n : ℕ) (table : List Class) (b : Bool) → nat_lt v BODIES_SINCE ≡ b → (ms : Members)
    → IsFine v n (want.Keyed (keyed.Script v)) (object ms)
    → (xs : List NamedBody) × Field [] (IsList (IsNamedBody table)) (get_member (codes "bodies") ms) xs
bodies_field v n table true early ms h =
    let none : get_member (codes "bodies") ms ≡ None = no_value (get_member (codes "bodies") ms)
    (λ e is. not_other v (keyed.Script v) ms h.suit (codes "bodies") e is (rw early refl)) in
    rw none ([], refl)
bodies_field v n table false late ms h =
    list_field v n item_of.NamedBody (IsNamedBody table) (named_body_fine v n table) (get_member (codes "bodies") ms)
    (λ e is. value_fine (codes "bodies") h (rw late refl) is)

cooperators_field : (v n : ℕ) (b : Bool) → nat_lt v COOPERATORS_SINCE ≡ b → (ms : Members)
    → IsFine v n (want.Keyed (keyed.Script v)) (object ms)
    → (xs : List NamedCooperator) × Field [] (IsList IsNamedCooperator) (get_member (codes "cooperators") ms) xs
cooperators_field v n true early ms h =
    let none : get_member (codes "cooperators") ms ≡ None = no_value (get_member (codes "cooperators") ms)
    (λ e is. not_other v (keyed.Script v) ms h.suit (codes "cooperators") e is (rw early refl)) in
    rw none ([], refl)
cooperators_field v n false late ms h =
    list_field v n item_of.NamedCooperator IsNamedCooperator (named_cooperator_fine v n)
    (get_member (codes "cooperators") ms) (λ e is. value_fine (codes "cooperators") h (rw late refl) is)

-- a document of which each part fits is a script
pub script_fine : (d : Data) → AllSuit (question.Shape (version_in d)) (script_in d) d
    → (draft : Draft) × IsScript d draft
script_fine (object ms) suit =
    let v = version_in (object ms) in
    let n = depth (object ms) in
    let h : IsFine v n (want.Keyed (keyed.Script v)) (object ms) = record { suit = suit; deep = omega arith } in
    let keys =
    and_parts (is_some (get_member (codes "version") ms)) (is_some (get_member (codes "events") ms)) (fits_fine h) in
    let version =
    number_key v n 1 LAST_VERSION (get_member (codes "version") ms) keys.0
    (λ e is. value_fine (codes "version") h refl is) in
    let least : 1 ≤ version.0 = least_version (get_member (codes "version") ms) version.0 version.1 in
    let same_version : v ≡ version.0 = version_of (get_member (codes "version") ms) version.0 version.1 in
    let classes = list_field v n item_of.Declaration IsDeclaration (declaration_fine v n)
    (get_member (codes "classes") ms) (λ e is. value_fine (codes "classes") h refl is) in
    let table = table_of version.0 classes.0 in
    let limit = number_field v n USUAL_LIMIT 0 (most_limit v) (get_member (codes "limit") ms)
    (λ e is. value_fine (codes "limit") h refl is) in
    let cooperator =
    cooperator_field v n v (get_member (codes "cooperator") ms) (λ e is. value_fine (codes "cooperator") h refl is) in
    let named = pools_field v n (nat_eq v 1) refl ms h in
    let bodied = bodies_field v n table (nat_lt v BODIES_SINCE) refl ms h in
    let scheduled = cooperators_field v n (nat_lt v COOPERATORS_SINCE) refl ms h in
    let callers = list_field v n item_of.Caller (IsList (IsBody table)) (list_of v n item_of.Body (IsBody table)
    (are_read v n table).of_body) (get_member (codes "callers") ms) (λ e is. value_fine (codes "callers") h refl is) in
    let events = key_events v n table
    (get_member (codes "events") ms) keys.1 (λ e is. value_fine (codes "events") h refl is) in (
      record {
        version = version.0;
        declared = classes.0;
        all_declared = all_declared version.0 classes.0;
        script = record {
          classes = table;
          ends_throw = nat_le ENDS_THROW_SINCE version.0;
          limit = limit.0;
          cooperator = cooperator.0;
          pools = named.0;
          bodies = bodied.0;
          cooperators = scheduled.0;
          callers = callers.0;
          events = events.0;
        };
      },
      record {
        members = ms;
        whole = refl;
        version = version.1;
        only =
            subst (λ (k : ℕ). is_keyed_by (keys_of k) ms ≡ true) same_version
            (script_only v (omega (arith, least, same_version)) ms suit);
        declared = classes.1;
        all_declared = refl;
        table = refl;
        ends_throw = refl;
        limit = subst (λ (k : ℕ). Field USUAL_LIMIT (IsNumber 0 (most_limit k)) (get_member (codes "limit") ms) limit.0)
            same_version limit.1;
        cooperator = subst (λ (k : ℕ). Field (plain_cooperator k) (IsCooperator k) (get_member (codes "cooperator") ms)
            cooperator.0) same_version cooperator.1;
        pools = named.1;
        bodies = bodied.1;
        cooperators = scheduled.1;
        callers = callers.1;
        events = events.1;
      },
    )
script_fine d suit = let fit : fits (version_in d) (script_in d) d ≡ true = here suit in cc
