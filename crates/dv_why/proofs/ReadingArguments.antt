-- The arguments of a word that fit, by how many there are.
use Rattle.std.proofs.Common.{◌≡◌, ℕ}
use Rattle.std.proofs.Common.{List, [], ◌∷◌}
use Rattle.std.proofs.Common.{refl}
use Rattle.std.proofs.Common.{ap, ◌∙◌}
use Rattle.serde_json.specs.Data.{Data, Items, no_items, item}
use Rattle.dv_value.specs.declared.classes.Class.{Class}
use Rattle.dv_forms.specs.Forms.{IsNumber, IsText, IsClass}
use Rattle.dv_forms.specs.Forms.{place_of}
use Rattle.dv_forms.specs.declared.want.Want.{Want}
use Rattle.dv_forms.specs.declared.want.Want.TheVariants as want
use Rattle.dv_forms.specs.declared.want.Leaf.TheVariants as leaf
use Rattle.dv_forms.specs.Wants.{a_deferred, a_class}
use Rattle.dv_forms.specs.Wants.{want_for}
use Rattle.dv_why.proofs.Fine.{IsFine, fits_fine, text_of, number_of}
use Rattle.dv_why.proofs.Fine.{AreFine, one_arg, more_args}

-- ---- texts and classes

pub is_text : (v n : ℕ) (d : Data) → IsFine v n a_deferred d → (x : List ℕ) × IsText d x
is_text v n d h = text_of d (fits_fine h)

pub class_fine : (v n : ℕ) (table : List Class) (d : Data) → IsFine v n a_class d → (class : ℕ) × IsClass table d class
class_fine v n table d h = let x = text_of d (fits_fine h) in (place_of x.0 table, (x.0, x.1, refl))

pub number_fine : (v n low high : ℕ) (d : Data) → IsFine v n (want.Leaf (leaf.Number low high)) d
    → (k : ℕ) × IsNumber low high d k
number_fine v n low high d h = number_of low high d (fits_fine h)

-- ---- arguments, two to five

pub record IsTwo (v n : ℕ) (w1 w2 : Want) (ds : Items) : Type 0 where
  pub a : Data
  pub b : Data
  pub items : ds ≡ item a (item b no_items)
  pub one : IsFine v n (want_for w1 a) a
  pub two : IsFine v n (want_for w2 b) b

pub two_args : (v n : ℕ) (w1 w2 : Want) (ds : Items) → AreFine v n (w1 ∷ w2 ∷ []) ds → IsTwo v n w1 w2 ds
two_args v n w1 w2 ds h =
    let m = more_args v n w1 (w2 ∷ []) ds h in
    let l = one_arg v n w2 m.rest m.others in
    record { a = m.a; b = l.a; items = m.items ∙ ap (item m.a) l.items; one = m.fine; two = l.fine }

pub record IsThree (v n : ℕ) (w1 w2 w3 : Want) (ds : Items) : Type 0 where
  pub a : Data
  pub b : Data
  pub c : Data
  pub items : ds ≡ item a (item b (item c no_items))
  pub one : IsFine v n (want_for w1 a) a
  pub two : IsFine v n (want_for w2 b) b
  pub three : IsFine v n (want_for w3 c) c

pub three_args : (v n : ℕ) (w1 w2 w3 : Want) (ds : Items) → AreFine v n (w1 ∷ w2 ∷ w3 ∷ []) ds → IsThree v n w1 w2 w3 ds
three_args v n w1 w2 w3 ds h =
    let m = more_args v n w1 (w2 ∷ w3 ∷ []) ds h in
    let l = two_args v n w2 w3 m.rest m.others in
    record {
      a = m.a;
      b = l.a;
      c = l.b;
      items = m.items ∙ ap (item m.a) l.items;
      one = m.fine;
      two = l.one;
      three = l.two;
    }

pub record IsFour (v n : ℕ) (w1 w2 w3 w4 : Want) (ds : Items) : Type 0 where
  pub a : Data
  pub b : Data
  pub c : Data
  pub d : Data
  pub items : ds ≡ item a (item b (item c (item d no_items)))
  pub one : IsFine v n (want_for w1 a) a
  pub two : IsFine v n (want_for w2 b) b
  pub three : IsFine v n (want_for w3 c) c
  pub four : IsFine v n (want_for w4 d) d

pub four_args : (v n : ℕ) (w1 w2 w3 w4 : Want) (ds : Items) → AreFine v n (w1 ∷ w2 ∷ w3 ∷ w4 ∷ []) ds
    → IsFour v n w1 w2 w3 w4 ds
four_args v n w1 w2 w3 w4 ds h =
    let m = more_args v n w1 (w2 ∷ w3 ∷ w4 ∷ []) ds h in
    let l = three_args v n w2 w3 w4 m.rest m.others in
    record {
      a = m.a;
      b = l.a;
      c = l.b;
      d = l.c;
      items = m.items ∙ ap (item m.a) l.items;
      one = m.fine;
      two = l.one;
      three = l.two;
      four = l.three;
    }

pub record IsFive (v n : ℕ) (w1 w2 w3 w4 w5 : Want) (ds : Items) : Type 0 where
  pub a : Data
  pub b : Data
  pub c : Data
  pub d : Data
  pub e : Data
  pub items : ds ≡ item a (item b (item c (item d (item e no_items))))
  pub one : IsFine v n (want_for w1 a) a
  pub two : IsFine v n (want_for w2 b) b
  pub three : IsFine v n (want_for w3 c) c
  pub four : IsFine v n (want_for w4 d) d
  pub five : IsFine v n (want_for w5 e) e

pub five_args : (v n : ℕ) (w1 w2 w3 w4 w5 : Want) (ds : Items) → AreFine v n (w1 ∷ w2 ∷ w3 ∷ w4 ∷ w5 ∷ []) ds
    → IsFive v n w1 w2 w3 w4 w5 ds
five_args v n w1 w2 w3 w4 w5 ds h =
    let m = more_args v n w1 (w2 ∷ w3 ∷ w4 ∷ w5 ∷ []) ds h in
    let l = four_args v n w2 w3 w4 w5 m.rest m.others in
    record {
      a = m.a;
      b = l.a;
      c = l.b;
      d = l.c;
      e = l.d;
      items = m.items ∙ ap (item m.a) l.items;
      one = m.fine;
      two = l.one;
      three = l.two;
      four = l.three;
      five = l.four;
    }
