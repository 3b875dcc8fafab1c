-- Where each class of a document may be declared, the table of the document is that of its script.
use Rattle.std.proofs.Common.{◌≡◌, ◌≢◌, ℕ, zero, suc, ◌+◌, ◌-◌, ◌≤◌, Bool, true, ◌&&◌, List, [], ◌∷◌, length, Option}
use Rattle.std.proofs.Common.{Some, None, option_and_then, refl, sym, ap, subst, ◌∙◌, arith, false, if◌then◌else◌}
use Rattle.std.proofs.Common.{nat_le}
use Rattle.std.proofs.lemmas.Bool.{le-leb}
use Rattle.serde_json.specs.Data.{Data, null, boolean, number, string, array, object, Items, no_items, item}
use Rattle.serde_json.specs.Find.{at, get_item, as_array}
use Rattle.dv_value.specs.declared.classes.Class.{Class}
use Rattle.dv_value.specs.Builtin.{builtin, later_builtin}
use Rattle.dv_value.specs.Classes.{find_class}
use Rattle.dv_value.specs.Declaring.{CanDeclare}
use Rattle.dv_script.specs.declared.limits.TheConstants.{MOST_CLASSES}
use Rattle.dv_forms.specs.declared.declaration.Declaration.{Declaration}
use Rattle.dv_forms.specs.declared.versions.TheConstants.{COOPERATORS_SINCE}
use Rattle.dv_forms.specs.Forms.{Each, IsList, Field}
use Rattle.dv_forms.specs.Table.{is_free_under, can_declare, with_declared, table_after, are_declared, table_of}
use Rattle.dv_forms.specs.Table.{all_declared, first_classes}
use Rattle.dv_grammar.specs.Grammar.{IsDeclaration, declares}
use Rattle.dv_why.specs.Declaring.{MayDeclare, AllMayDeclare, class_after, table_before}
use Rattle.dv_why.specs.Documents.{or_no_items}

-- the table before the first declaration
pub table_first : (v : ℕ) (ds : Items) → table_before v ds 0 ≡ first_classes v
unfolding table_before
table_first v ds = refl

few_of : (b : Bool) → length (if b then later_builtin else builtin) ≤ 22
unfolding builtin
few_of true = omega arith
few_of false = omega arith

-- a version has so many classes at most
pub few_first : (v : ℕ) → length (first_classes v) ≤ 22
few_first v = few_of (nat_le COOPERATORS_SINCE v)

-- the table before the next
pub table_next : (v : ℕ) (ds : Items) (n : ℕ)
    → table_before v ds (suc n) ≡ class_after (table_before v ds n) (get_item n ds)
unfolding table_before
table_next v ds n = refl

-- no class is added where none is declared
pub table_none : (v n : ℕ) → table_before v no_items n ≡ first_classes v
table_none v zero = table_first v no_items
table_none v (suc n) = table_next v no_items n ∙ table_none v n

-- the items of an array by their numbers
pub items_at : (n : ℕ) (d : Data) → at n d ≡ get_item n (or_no_items (as_array d))
items_at n null = refl
items_at n (boolean b) = refl
items_at n (number x) = refl
items_at n (string s) = refl
items_at n (array ds) = refl
items_at n (object ms) = refl

free : (o p : Option ℕ) → o ≡ None → p ≢ None → is_free_under o p ≡ true
free (Some x) p h k = cc
free None (Some x) h k = refl
free None None h k = absurd (k refl)

may_declare : (table : List Class) (name parent : List ℕ) → CanDeclare table name parent
    → can_declare table (record { name = name; parent = parent }) ≡ true
may_declare table name parent h = free (find_class name table) (find_class parent table) h.is_free h.has_parent

-- the items from a number on
abbrev IsFrom : Items → ℕ → Items → Type 0
IsFrom all k ds = (n : ℕ) → get_item (k + n) all ≡ get_item n ds

later : (all : Items) (k : ℕ) (d : Data) (ds : Items) → IsFrom all k (item d ds) → IsFrom all (suc k) ds
later all k d ds from n = let same : suc k + n ≡ k + suc n = omega arith in rw same (from (suc n))

-- the answer about the table where each class from this number on may be declared
abbrev IsTableFrom : ℕ → Items → List Class → List Declaration → Type 0
IsTableFrom v all table cs =
    (are_declared table cs ≡ true) × (table_after table cs ≡ table_before v all MOST_CLASSES)

no_more : (v : ℕ) (all : Items) (k n : ℕ) → IsFrom all k no_items → table_before v all (n + k) ≡ table_before v all k
no_more v all k zero from = ap (table_before v all) (let e : 0 + k ≡ k = omega arith in e)
no_more v all k (suc n) from =
    let next : suc n + k ≡ suc (n + k) = omega arith in
    let none : get_item (n + k) all ≡ None =
    (let e : n + k ≡ k + n = omega arith in ap (λ i. get_item i all) e ∙ from n) in
    ap (table_before v all) next ∙ table_next v all (n + k) ∙ ap (class_after (table_before v all (n + k))) none
    ∙ no_more v all k n from

declare_one : (table : List Class) (d : Data) (c : Declaration) → IsDeclaration d c → MayDeclare table (Some d)
    → (can_declare table c ≡ true) × (with_declared table c ≡ class_after table (Some d))
declare_one table _ _ (declares name parent) h = let may = may_declare table name parent h in (may, rw may refl)

both : {a b : Bool} → a ≡ true → b ≡ true → (a && b) ≡ true
both h k = rw (h, k) refl

from_number : (v : ℕ) (all : Items) (k : ℕ) (ds : Items) (cs : List Declaration) → IsFrom all k ds → Each IsDeclaration ds cs
    → k + length cs ≤ MOST_CLASSES → AllMayDeclare v all → IsTableFrom v all (table_before v all k) cs
from_number v all k no_items [] from g most may =
    let rest : MOST_CLASSES ≡ (MOST_CLASSES - k) + k = omega arith in
    (refl, sym (ap (table_before v all) rest ∙ no_more v all k (MOST_CLASSES - k) from))
from_number v all k no_items (c ∷ cs) from g most may = absurd g
from_number v all k (item d ds) [] from g most may = absurd g
from_number v all k (item d ds) (c ∷ cs) from g most may =
    let first : k ≡ k + 0 = omega arith in
    let is : get_item k all ≡ Some d = ap (λ i. get_item i all) first ∙ from 0 in
    let one =
    declare_one (table_before v all k) d c g.0 (subst (MayDeclare (table_before v all k)) is (may k (omega arith))) in
    let next : with_declared (table_before v all k) c ≡ table_before v all (suc k) =
    one.1 ∙ ap (class_after (table_before v all k)) (sym is) ∙ sym (table_next v all k) in
    let rest = from_number v all (suc k) ds cs (later all k d ds from) g.1 (omega arith) may in
    (both one.0 (rw next rest.0), rw next rest.1)

-- each class may be declared, and the tables are the same
pub tables_same : (v : ℕ) (o : Option Data) (cs : List Declaration) → Field [] (IsList IsDeclaration) o cs
    → length cs ≤ MOST_CLASSES → AllMayDeclare v (or_no_items (option_and_then as_array o))
    → (all_declared v cs ≡ true)
    × (table_of v cs ≡ table_before v (or_no_items (option_and_then as_array o)) MOST_CLASSES)
tables_same v None cs g most may = rw g (refl, sym (table_none v MOST_CLASSES))
tables_same v (Some d) cs g most may =
    let few = le-leb (length cs) MOST_CLASSES most in
    let same = rw (table_first v) at (from_number v g.0 0 g.0 cs (λ n. let e : 0 + n ≡ n = omega arith in
    ap (λ i. get_item i g.0) e) g.2 (omega arith) (rw (g.1) at may)) in
    rw (few, g.1) same
