-- Where each part of an end, a work or what is expected fits, it reads.
use Rattle.std.proofs.Common.{◌≡◌, ℕ, nat_le}
use Rattle.std.proofs.Common.{true, List, Some, None, is_some}
use Rattle.std.proofs.Common.{refl}
use Rattle.std.proofs.lemmas.Bool.{and_parts}
use Rattle.serde_json.specs.Data.{Data, string, array, Items, item}
use Rattle.serde_json.specs.Find.{as_str}
use Rattle.dv_value.specs.declared.classes.Class.{Class}
use Rattle.dv_value.specs.declared.value.Value.{Fault}
use Rattle.dv_script.specs.declared.body.End.{End}
use Rattle.dv_script.specs.declared.body.End.TheVariants.{Return, Pass, Plus, Raise, Trap, Wait, Run, Throw}
use Rattle.dv_script.specs.declared.work.Work.{Work}
use Rattle.dv_script.specs.declared.work.Work.TheVariants as job_of
use Rattle.dv_value.specs.declared.expected.Expected.{Expected}
use Rattle.dv_value.specs.declared.expected.Expected.TheVariants as expected
use Rattle.dv_script.specs.declared.limits.TheConstants.{MOST_PLACE, MOST_SUM}
use Rattle.dv_forms.specs.Forms.{IsNumber, IsClass}
use Rattle.dv_forms.specs.Leaving.{may_leave}
use Rattle.dv_grammar.specs.Grammar.{IsEnd, returns, passes}
use Rattle.dv_grammar.specs.Grammar.{adds, raises, traps, waits, runs, throws, IsWork, gives, fails, sums}
use Rattle.dv_grammar.specs.Grammar.{IsOutcome, is_unfired, is_waiting, is_ok, is_failed}
use Rattle.dv_grammar.proofs.WordsLemmas.{◌&◌}
use Rattle.dv_forms.specs.declared.versions.TheConstants.{BODIES_SINCE}
use Rattle.dv_forms.specs.declared.want.Want.{Want}
use Rattle.dv_forms.specs.declared.want.Want.TheVariants as want
use Rattle.dv_forms.specs.declared.want.Leaf.TheVariants as leaf
use Rattle.dv_forms.specs.declared.want.CallKind.TheVariants as call_of
use Rattle.dv_forms.specs.declared.want.Keyed.TheVariants as keyed
use Rattle.dv_forms.specs.declared.want.Item.TheVariants as item_of
use Rattle.dv_forms.specs.declared.want.Object.TheVariants as object
use Rattle.dv_forms.specs.Wants.{a_deferred, a_class, a_text}
use Rattle.dv_forms.specs.Words.{own_forms, wants_in}
use Rattle.dv_document.specs.View.{count}
use Rattle.dv_why.proofs.Fine.{IsFine, fits_fine, same, text_of, integer_of}
use Rattle.dv_why.proofs.Fine.{list_of}
use Rattle.dv_why.proofs.Fine.{AreFine, no_args, one_arg, open_call}
use Rattle.dv_why.proofs.Forms.{EachForm, either_found, found_form}
use Rattle.dv_why.proofs.Values.{failure_of, value_of}
use Rattle.dv_why.proofs.ReadingArguments.{class_fine, number_fine, two_args}

-- ---- ends and works

-- the arguments of a word read as those of an end
abbrev IsEndRead : ℕ → ℕ → List Class → List ℕ → List Want → Type 0
IsEndRead v n table word wants =
    (ds : Items) → AreFine v n wants ds → (e : End) × IsEnd table (array (item (string word) ds)) e

-- as those of an end by which an inline body may be left
abbrev IsLeavingRead : ℕ → ℕ → List Class → List ℕ → List Want → Type 0
IsLeavingRead v n table word wants =
    (ds : Items) → AreFine v n wants ds
    → (e : End) × IsEnd table (array (item (string word) ds)) e × (may_leave e ≡ true)

-- as those of a work
abbrev IsWorkRead : ℕ → ℕ → List Class → List ℕ → List Want → Type 0
IsWorkRead v n table word wants =
    (ds : Items) → AreFine v n wants ds → (x : Work) × IsWork table (array (item (string word) ds)) x

leavings : (v n : ℕ) (table : List Class) → EachForm (IsLeavingRead v n table) (own_forms call_of.Leaving)
leavings v n table =
    (λ ds h.
    let a = one_arg v n want.Value ds h in
    let x = value_of v n table a.a a.fine in
    rw (a.items) (Return x.0, returns a.a x.0 x.1, refl)) &
    (λ ds h. rw (no_args v n ds h) (Pass, passes, refl)) &
    (λ ds h.
    let a = one_arg v n (want.Leaf leaf.Integer) ds h in
    let x = integer_of a.a (fits_fine a.fine) in
    rw (a.items) (Plus x.0, adds a.a x.0 x.1, refl)) &
    (λ ds h.
    let a = two_args v n a_class a_text ds h in
    let c = class_fine v n table a.a a.one in
    let t = text_of a.b (fits_fine a.two) in
    rw (a.items, t.1) (Raise c.0 t.0, raises a.a c.0 t.0 c.1, refl)) &
    (λ ds h.
    let a = one_arg v n (want.Array item_of.Place) ds h in
    let p = list_of v n item_of.Place (IsNumber 0 MOST_PLACE) (number_fine v n 0 MOST_PLACE) a.a a.fine in
    rw (a.items) (Throw p.0, throws a.a p.0 p.1, refl)) &
    tt

other_ends : (v n : ℕ) (table : List Class) → EachForm (IsEndRead v n table) (own_forms call_of.End)
other_ends v n table =
    (λ ds h.
    let a = two_args v n (want.Array item_of.Class) want.Value ds h in
    let c = list_of v n item_of.Class (IsClass table) (class_fine v n table) a.a a.one in
    let x = value_of v n table a.b a.two in
    rw (a.items) (Trap c.0 x.0, traps a.a c.0 a.b x.0 c.1 x.1)) &
    (λ ds h.
    let a = one_arg v n a_deferred ds h in
    let t = text_of a.a (fits_fine a.fine) in
    rw (a.items, t.1) (Wait t.0, waits t.0)) &
    (λ ds h.
    let a = one_arg v n (want.Leaf (leaf.Found object.Body)) ds h in
    let t = text_of a.a (and_parts (nat_le BODIES_SINCE v) (is_some (as_str a.a)) (fits_fine a.fine)).1 in
    rw (a.items, t.1) (Run t.0, runs t.0)) &
    tt

end_by : (v n : ℕ) (table : List Class) (word : List ℕ) (wants : List Want) (ds : Items)
    → wants_in (own_forms call_of.Leaving) word (count ds) ≡ Some wants → AreFine v n wants ds
    → (e : End) × IsEnd table (array (item (string word) ds)) e
end_by v n table word wants ds form args =
    let x = found_form (IsLeavingRead v n table) (own_forms call_of.Leaving) (leavings v n table) word
    (count ds) wants form ds args in
    (x.0, x.1)

pub end_fine : (v n : ℕ) (table : List Class) (d : Data) → IsFine v n (want.Call call_of.End) d
    → (e : End) × IsEnd table d e
end_fine v n table d h =
    let o = open_call v n call_of.End d (fits_fine h) (λ k u e wants is. same k h wants is) in
    rw (o.whole) (either_found (wants_in (own_forms call_of.End) o.word (count o.rest)) _ o.wants o.form
    (λ form. found_form (IsEndRead v n table) (own_forms call_of.End) (other_ends v n table) o.word
    (count o.rest) o.wants form o.rest o.args)
    (λ form. end_by v n table o.word o.wants o.rest form o.args))

pub leave_fine : (v n : ℕ) (table : List Class) (d : Data) → IsFine v n (want.Call call_of.Leaving) d
    → (e : End) × IsEnd table d e × (may_leave e ≡ true)
leave_fine v n table d h =
    let o = open_call v n call_of.Leaving d (fits_fine h) (λ k u e wants is. same k h wants is) in
    rw (o.whole) (either_found (wants_in (own_forms call_of.Leaving) o.word (count o.rest)) None o.wants o.form
    (λ form. found_form (IsLeavingRead v n table) (own_forms call_of.Leaving) (leavings v n table) o.word
    (count o.rest) o.wants form o.rest o.args)
    (λ form. cc))

works : (v n : ℕ) (table : List Class) → EachForm (IsWorkRead v n table) (own_forms call_of.Work)
works v n table =
    (λ ds h.
    let a = one_arg v n want.Value ds h in
    let x = value_of v n table a.a a.fine in
    rw (a.items) (job_of.Value x.0, gives a.a x.0 x.1)) &
    (λ ds h.
    let a = two_args v n a_class a_text ds h in
    let c = class_fine v n table a.a a.one in
    let t = text_of a.b (fits_fine a.two) in
    rw (a.items, t.1) (job_of.Raise c.0 t.0, fails a.a c.0 t.0 c.1)) &
    (λ ds h.
    let a = one_arg v n (want.Leaf (leaf.Number 0 MOST_SUM)) ds h in
    let k = number_fine v n 0 MOST_SUM a.a a.fine in
    rw (a.items) (job_of.Sum k.0, sums a.a k.0 k.1)) &
    tt

pub work_fine : (v n : ℕ) (table : List Class) (d : Data) → IsFine v n (want.Call call_of.Work) d
    → (x : Work) × IsWork table d x
work_fine v n table d h =
    let o = open_call v n call_of.Work d (fits_fine h) (λ k u e wants is. same k h wants is) in
    rw (o.whole) (either_found (wants_in (own_forms call_of.Work) o.word (count o.rest)) None o.wants o.form
    (λ form. found_form (IsWorkRead v n table) (own_forms call_of.Work) (works v n table) o.word
    (count o.rest) o.wants form o.rest o.args)
    (λ form. cc))

-- as those of what is expected
abbrev IsOutcomeRead : ℕ → ℕ → List Class → List ℕ → List Want → Type 0
IsOutcomeRead v n table word wants =
    (ds : Items) → AreFine v n wants ds → (x : Expected) × IsOutcome table (array (item (string word) ds)) x

outcomes : (v n : ℕ) (table : List Class) → EachForm (IsOutcomeRead v n table) (own_forms call_of.Outcome)
outcomes v n table =
    (λ ds h. rw (no_args v n ds h) (expected.Unfired, is_unfired)) &
    (λ ds h. rw (no_args v n ds h) (expected.Waiting, is_waiting)) &
    (λ ds h.
    let a = one_arg v n want.Value ds h in
    let x = value_of v n table a.a a.fine in
    rw (a.items) (expected.Fired x.0, is_ok a.a x.0 x.1)) &
    (λ ds h.
    let a = one_arg v n (want.Keyed keyed.Failure) ds h in
    let f = failure_of v n table a.a a.fine in
    rw (a.items) (expected.Fired (Fault f.0), is_failed a.a f.0 f.1)) &
    tt

pub outcome_fine : (v n : ℕ) (table : List Class) (d : Data) → IsFine v n (want.Call call_of.Outcome) d
    → (x : Expected) × IsOutcome table d x
outcome_fine v n table d h =
    let o = open_call v n call_of.Outcome d (fits_fine h) (λ k u e wants is. same k h wants is) in
    rw (o.whole) (either_found (wants_in (own_forms call_of.Outcome) o.word (count o.rest)) None o.wants o.form
    (λ form. found_form (IsOutcomeRead v n table) (own_forms call_of.Outcome) (outcomes v n table) o.word
    (count o.rest) o.wants form o.rest o.args)
    (λ form. cc))
