use Rattle.std.proofs.Common.{◌≡◌, ℕ, ◌+◌, ◌<◌, ◌≤◌, true, List, [], length, map, get_or, Some, None, sym, ap, subst}
use Rattle.std.proofs.Common.{◌∙◌, arith, below_more}
use Rattle.std.proofs.Math.ListN.{get_or-map}
use Rattle.std.proofs.lemmas.List.{length-map}
use Rattle.std.proofs.lemmas.Result.{IfOk-weaker}
use Rattle.serde_json.specs.Data.{Data, depth, object}
use Rattle.serde_json.specs.Find.{at, get}
use Rattle.serde_json.specs.View.{view, members_view}
use Rattle.serde_json.proofs.Views.{view-Array, view-Object}
use Rattle.dv_grammar.proofs.Steps.{some_injective}
use Rattle.dv_forms.specs.declared.want.Want.{Want}
use Rattle.dv_forms.specs.declared.want.Want.TheVariants as want
use Rattle.dv_forms.specs.Wants.{key_want, keys_in}
use Rattle.dv_why.specs.Fits.{first_other, suits}
use Rattle.dv_why.specs.AllSuit.{AllSuit, OthersOf, OthersSuit}
use Rattle.dv_why.proofs.Asked.{last_suits, no_parts_suit, object_suits, array_suits, item_below, value_below, first_is}
use Rattle.dv_why.proofs.Asked.{none_is, no_keys, no_others, others_by, values_suit, item_within, has_items}
use Rattle.dv_why.proofs.Asked.{has_no_parts}
use Rattle.dv_why.proofs.find.+find.Goals as goal

pub in_parts-returns-then-levels-eq0-clause-none : goal.in_parts-returns-then-levels-eq0-clause-none
in_parts-returns-then-levels-eq0-clause-none t c =
    λ none shallow others. last_suits _ _ _ (omega (arith, shallow)) c.requires

pub in_parts-returns-in-Keyed-clause-none : goal.in_parts-returns-in-Keyed-clause-none
in_parts-returns-in-Keyed-clause-none t c =
    let d = view c.args.json.now in
    let q = c.args.question in
    let is : c.args.want ≡ want.Keyed c.in-Keyed.keyed = c.in-Keyed.is in
    let suit : suits q (want.Keyed c.in-Keyed.keyed) d ≡ true = ap (λ w. suits q w d) (sym is) ∙ c.requires in
    IfOk-weaker c.in_object.result _ (λ found. found ≡ None → depth d ≤ c.args.levels → OthersOf q c.args.want d
    → AllSuit q c.args.want d)
    (λ found h none shallow others.
    subst (λ (w : Want). AllSuit q w d) (sym is) (object_suits q c.in-Keyed.keyed d suit
    (values_suit q c.in-Keyed.keyed d (subst (λ (w : Want). OthersOf q w d) is others)
    (h none (omega (arith, shallow)))))) c.in_object.ensures.none

pub in_parts-returns-in-Value-clause-none : goal.in_parts-returns-in-Value-clause-none
in_parts-returns-in-Value-clause-none t c =
    let d = view c.args.json.now in
    let q = c.args.question in
    IfOk-weaker c.in_array.result _ (λ found. found ≡ None → depth d ≤ c.args.levels → OthersOf q c.args.want d
    → AllSuit q c.args.want d)
    (λ found h none shallow others. array_suits q c.args.want d (has_items c.args.want c.in-Value.is) c.requires
    (h none (omega (arith, shallow)))) c.in_array.ensures.none

pub in_parts-returns-in-Leaf-clause-none : goal.in_parts-returns-in-Leaf-clause-none
in_parts-returns-in-Leaf-clause-none t c =
    λ none shallow others.
    no_parts_suit c.args.question c.args.want (view c.args.json.now) (has_no_parts c.args.want c.in-Leaf.is) c.requires

pub in_array-loop-number-preserved : goal.in_array-loop-number-preserved
in_array-loop-number-preserved t c =
    let none : c.in_ok-misfit.field-0 ≡ None = c.in_default-2.is in
    below_more _ _ c.loop-number.invariant
    (λ shallow v e wants is. c.in_ok-misfit.ensures.none none shallow v e wants is)

pub in_array-returns-clause-none : goal.in_array-returns-clause-none
in_array-returns-clause-none t c = λ none shallow n v e wants is.
    let same = ap view c.in-Array.is ∙ view-Array c.in-Array.items in
    let less : n < length c.in-Array.items.items = item_within c.in-Array.items.items n e (sym (ap (at n) same) ∙ is) in
    c.loop-number.invariant n (omega (arith, less)) shallow v e wants is

pub in_item-returns-in-None-clause-none : goal.in_item-returns-in-None-clause-none
in_item-returns-in-None-clause-none t c = λ none shallow v e wants is.
    let d = view c.args.json.now in
    let item = view c.in-Some-Some.item.now in
    let h = c.in_ok-misfit.ensures.none c.in-None.is
    (item_below c.args.number c.args.levels d item (sym c.in-Some-Some.ensures') shallow) in
    let same_want : c.in-Some-Some.part ≡ v = some_injective (c.in-Some-Some.ensures ∙ wants) in
    let same_part : item ≡ e = some_injective (c.in-Some-Some.ensures' ∙ is) in
    subst (λ (x : Data). AllSuit c.args.question v x) same_part
    (subst (λ (x : Want). AllSuit c.args.question x item) same_want h)

pub in_key-returns-in-None-clause-none : goal.in_key-returns-in-None-clause-none
in_key-returns-in-None-clause-none t c = λ none shallow e is.
    let d = view c.args.json.now in
    let value = view c.in-Some.value.now in
    let h = c.in_ok-misfit.ensures.none c.in-None.is
    (value_below c.args.key.now c.args.levels d value (sym c.in-Some.ensures) shallow) in
    let same_value : value ≡ e = some_injective (c.in-Some.ensures ∙ is) in
    subst (λ (x : Data). AllSuit c.args.question (key_want c.args.keyed c.args.key.now) x) same_value
    (subst (λ (x : Want). AllSuit c.args.question x value) c.want.ensures h)

pub in_object-loop-key-preserved : goal.in_object-loop-key-preserved
in_object-loop-key-preserved t c =
    let none : c.in_ok-misfit.field-0 ≡ None = c.in_default.is in
    let keys : map (λ key. key.now) c.keys-key-items.result.now ≡ keys_in c.args.keyed = c.keys-key-items.ensures in
    below_more _ _ c.loop-key.invariant (λ shallow e is.
    let key : get_or (keys_in c.args.keyed) c.loop-key.key-index []
    ≡ (get_or c.keys-key-items.result.now c.loop-key.key-index (record { ref_ptr = (0, 0); now = [] })).now =
    ap (λ (ks : List (List ℕ)). get_or ks c.loop-key.key-index []) (sym keys) ∙ get_or-map
    (λ key. key.now) c.keys-key-items.result.now c.loop-key.key-index (record { ref_ptr = (0, 0); now = [] }) in
    rw key (c.in_ok-misfit.ensures.none none shallow e (rw key at is)))

pub in_object-returns-clause-none : goal.in_object-returns-clause-none
in_object-returns-clause-none t c = λ none shallow.
    let keys : map (λ key. key.now) c.keys-key-items.result.now ≡ keys_in c.args.keyed = c.keys-key-items.ensures in
    let many : length (keys_in c.args.keyed) ≡ length c.keys-key-items.result.now =
    sym (ap length keys) ∙ length-map c.keys-key-items.result.now (λ key. key.now) in
    λ i less e is. c.loop-key.invariant i (omega (arith, less, many)) shallow e is

pub other_key-returns-then-levels-eq0-clause-none : goal.other_key-returns-then-levels-eq0-clause-none
other_key-returns-then-levels-eq0-clause-none t c =
    λ none shallow. no_others c.args.question c.args.want (view c.args.json.now) (omega (arith, shallow))

pub other_key-returns-in-Keyed-clause-none : goal.other_key-returns-in-Keyed-clause-none
other_key-returns-in-Keyed-clause-none t c =
    let d = view c.args.json.now in
    let q = c.args.question in
    let is : c.args.want ≡ want.Keyed c.in-Keyed.keyed = c.in-Keyed.is in
    IfOk-weaker c.at_other_key.result _ (λ found. found ≡ None → depth d ≤ c.args.levels → OthersOf q c.args.want d)
    (λ found h none shallow. subst (λ (w : Want). OthersOf q w d) (sym is) (h none (omega (arith, shallow))))
    c.at_other_key.ensures.none

pub other_key-returns-in-Leaf-clause-none : goal.other_key-returns-in-Leaf-clause-none
other_key-returns-in-Leaf-clause-none t c =
    λ none shallow. no_keys c.args.question c.args.want (view c.args.json.now) c.in-Leaf.is

pub find-returns-clause-none : goal.find-returns-clause-none
find-returns-clause-none t c =
    let d = view c.args.json.now in
    let q = c.args.question in
    IfOk-weaker c.in_parts.result _ (λ found. found ≡ None → depth d ≤ c.args.levels → AllSuit q c.args.want d)
    (λ found h none shallow. h none shallow (c.in_ok-misfit.ensures.none c.in_default.is shallow))
    c.in_parts.ensures.none

pub at_other_key-returns-in-Some-clause-none : goal.at_other_key-returns-in-Some-clause-none
at_other_key-returns-in-Some-clause-none t c =
    let d = view c.args.json.now in
    let q = c.args.question in
    let k = c.args.keyed in
    let ms = members_view c.in-Object.members.entries in
    let whole : d ≡ object ms = ap view c.in-Object.is ∙ view-Object c.in-Object.members in
    let first : first_other k ms ≡ Some c.in-Some.key.now = sym c.in-Some.ensures in
    let found = first_is k ms c.in-Some.key.now first in
    IfOk-weaker c.in_key.result _ (λ nothing. nothing ≡ None → depth d ≤ c.args.levels + 1 → OthersSuit q k d)
    (λ nothing h none shallow. others_by q k d c.in-Some.key.now found.value found.other
    (h none shallow found.value (ap (get c.in-Some.key.now) whole ∙ found.there))) c.in_key.ensures.none

pub at_other_key-returns-in-None-clause-none : goal.at_other_key-returns-in-None-clause-none
at_other_key-returns-in-None-clause-none t c = λ none shallow key e is other.
    let d = view c.args.json.now in
    let k = c.args.keyed in
    let ms = members_view c.in-Object.members.entries in
    let whole : d ≡ object ms = ap view c.in-Object.is ∙ view-Object c.in-Object.members in
    let nothing : first_other k ms ≡ None = sym c.in-None.ensures in
    absurd (none_is k ms nothing key e (sym (ap (get key) whole) ∙ is) other)
