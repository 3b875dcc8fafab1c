-- Texts that end no line.
use Rattle.std.proofs.Common.{◌≡◌, ℕ, ◌/◌, ◌%◌, suc, zero, pos, negsuc, ℤ, Bool, true, false, ◌==◌, cond, List, [], ◌∷◌}
use Rattle.std.proofs.Common.{◌++◌, Option, None, Some, map, codes, refl, ◌∙◌, subst, arith}
use Rattle.std.proofs.lemmas.List.Folds.{list_all-append}
use Rattle.std.specs.Fmt.{decimal, digits, digits_onto, digit_glyph, signed_decimal}
use Rattle.json.specs.Print.{quoted, escape, escape_byte}
use Rattle.dv_value.specs.ValueText.{comma_if, rest_text, list_text, Inside, inside, after_class, failure_json_step}
use Rattle.dv_value.specs.ValueText.{failure_json, json_step, json}
use Rattle.dv_value.specs.declared.failure.Failure.{Failure, map-Failure}
use Rattle.dv_value.specs.declared.failure.Sub.{Sub}
use Rattle.dv_value.specs.declared.failure.Failure.TheFolds.{ind-Failure, fold-Sub, fold-roll-Failure, fold-roll-Sub}
use Rattle.dv_value.specs.declared.failure.Failure.TheOpen.{Failure-F}
use Rattle.dv_value.specs.declared.classes.Class.{Class}
use Rattle.dv_value.specs.Classes.{name_of}
use Rattle.dv_value.specs.declared.value.Value.{Value, map-Value}
use Rattle.dv_value.specs.declared.value.Value.TheOpen.{Value-F}
use Rattle.dv_value.specs.declared.value.Value.TheFolds.{ind-Value, fold-roll-Value}
use Rattle.dv_facts.specs.Parts.{is_visible, IsVisible, number_or_null, bool_text}

-- both parts end no line
pub visible_both : (a b : List ℕ) → IsVisible a → IsVisible b → IsVisible (a ++ b)
visible_both a b first second = list_all-append is_visible a b ∙ (rw (first, second) refl)

visible_digit : (d : ℕ) → is_visible (digit_glyph false d) ≡ true
visible_digit d = grind arith

visible_onto : (k n : ℕ) (after : List ℕ) → IsVisible after → IsVisible (digits_onto k 10 false n after)
visible_onto zero n after h = h
visible_onto (suc k) n after h =
    let longer : IsVisible (digit_glyph false (n % 10) ∷ after) = rw (visible_digit (n % 10)) h in
    elim (n / 10 == 0) as (λ b. IsVisible (cond b (digit_glyph false (n % 10) ∷ after)
    (digits_onto k 10 false (n / 10) (digit_glyph false (n % 10) ∷ after)))) [
      | true ↦ longer
      | false ↦ visible_onto k (n / 10) (digit_glyph false (n % 10) ∷ after) longer
    ]

pub visible_decimal : (n : ℕ) → IsVisible (decimal n)
unfolding digits
visible_decimal n = visible_onto 64 n [] refl

pub visible_signed : (z : ℤ) → IsVisible (signed_decimal z)
visible_signed (pos n) = visible_decimal n
visible_signed (negsuc n) = visible_decimal (suc n)

visible_escape_byte : (x : ℕ) → IsVisible (escape_byte x)
unfolding escape_byte
visible_escape_byte x = grind arith

visible_escape : (text : List ℕ) → IsVisible (escape text)
visible_escape [] = refl
visible_escape (x ∷ text) = visible_both (escape_byte x) (escape text) (visible_escape_byte x) (visible_escape text)

-- what JSON forbids in a string is escaped, and with it each end of a line
pub visible_quoted : (text : List ℕ) → IsVisible (quoted text)
visible_quoted text = visible_both (escape text) (34 ∷ []) (visible_escape text) refl

pub visible_number_or_null : (number : Option ℕ) → IsVisible (number_or_null number)
visible_number_or_null None = refl
visible_number_or_null (Some number) = visible_decimal number

pub visible_bool : (is_true : Bool) → IsVisible (bool_text is_true)
visible_bool true = refl
visible_bool false = refl

-- members between brackets, with a comma before each but the first
abbrev pub AllVisible : List (List ℕ) → Type 0
AllVisible [] = Unit {0}
AllVisible (text ∷ texts) = IsVisible text × AllVisible texts

visible_comma : (later : Bool) → IsVisible (comma_if later)
visible_comma true = refl
visible_comma false = refl

visible_rest : (later : Bool) (texts : List (List ℕ)) → AllVisible texts → IsVisible (rest_text later texts)
visible_rest later [] all = refl
visible_rest later (text ∷ texts) all =
    visible_both (comma_if later) (text ++ rest_text true texts) (visible_comma later)
    (visible_both text (rest_text true texts) all.0 (visible_rest true texts all.1))

pub visible_list : (texts : List (List ℕ)) → AllVisible texts → IsVisible (list_text texts)
visible_list texts all = visible_rest false texts all

pub ruleset visible =
    (visible_both, visible_decimal, visible_signed, visible_quoted, visible_number_or_null, visible_bool)

module _ (table : List Class) where
  abbrev InsideVisible : Option Inside → Type 0
  InsideVisible None = Unit {0}
  InsideVisible (Some sub) = IsVisible sub.1

  visible_after : (message : List ℕ) (sub : Option Inside) → InsideVisible sub → IsVisible (after_class message sub)
  visible_after message None h = visible_both (quoted message) (codes "}") (visible_quoted message) refl
  visible_after message (Some sub) h =
      let placed = decimal sub.0 ++ codes ",\"message\":" in
      let told = placed ++ quoted message ++ codes ",\"sub\":" in
      visible_both (told ++ sub.1) (codes "}")
      (visible_both told sub.1
      (visible_both (placed ++ quoted message) (codes ",\"sub\":")
      (visible_both placed (quoted message) (visible_both (decimal sub.0) (codes ",\"message\":")
      (visible_decimal sub.0) refl) (visible_quoted message)) refl) h) refl

  visible_failure_layer : (f : Failure-F (List ℕ) Inside) → InsideVisible f.sub → IsVisible (failure_json_step table f)
  visible_failure_layer f h =
      visible_both (quoted (name_of table f.class)) (after_class f.message f.sub)
      (visible_quoted (name_of table f.class)) (visible_after f.message f.sub h)

  abbrev text_inside : Sub → Inside
  text_inside = fold-Sub (List ℕ) Inside (failure_json_step table) inside

  abbrev VisibleFailure : Type 0
  VisibleFailure = (f : Failure) × IsVisible (failure_json table f)

  abbrev VisibleSub : Type 0
  VisibleSub = (s : Sub) × IsVisible (text_inside s).1

  -- one layer of a failure, by what lies in it
  abbrev texts_inside : Failure-F Failure Sub → Failure-F (List ℕ) Inside
  texts_inside = map-Failure Failure Sub (List ℕ) Inside (failure_json table) text_inside

  abbrev failures_inside : Failure-F VisibleFailure VisibleSub → Failure-F Failure Sub
  failures_inside = map-Failure VisibleFailure VisibleSub Failure Sub (λ e. e.0) (λ e. e.0)

  visible_inside : (y : Failure-F VisibleFailure VisibleSub) → InsideVisible (texts_inside (failures_inside y)).sub
  visible_inside y = elim y.sub as (λ o. InsideVisible (texts_inside (failures_inside (record y { sub = o }))).sub) [
    | None ↦ tt
    | Some e ↦ e.1
  ]

  pub visible_failure : (f : Failure) → IsVisible (failure_json table f)
  visible_failure = ind-Failure (λ f. IsVisible (failure_json table f)) (λ s. IsVisible (text_inside s).1)
      (λ x y is. rw (fold-roll-Failure (List ℕ) Inside (failure_json_step table) inside x)
      (visible_failure_layer (texts_inside x)
      (subst (λ (z : Failure-F Failure Sub). InsideVisible (texts_inside z).sub) is (visible_inside y))))
      (λ x y is. rw (fold-roll-Sub (List ℕ) Inside (failure_json_step table) inside x)
      (subst (λ z. IsVisible (failure_json table z.failure)) is y.failure.1))

  all_visible : (es : List ((v : Value) × IsVisible (json table v))) → AllVisible (map (json table) (map (λ e. e.0) es))
  all_visible [] = tt
  all_visible (e ∷ es) = (e.1, all_visible es)

  visible_layer : (x : Value-F Value) (y : Value-F ((v : Value) × IsVisible (json table v)))
      → IsVisible (json_step table
      (map-Value Value (List ℕ) (json table) (map-Value ((v : Value) × IsVisible (json table v)) Value (λ e. e.0) y)))
  visible_layer x Value-F.Null = refl
  visible_layer x (Value-F.Bool true) = refl
  visible_layer x (Value-F.Bool false) = refl
  visible_layer x (Value-F.Int n) = visible_signed n
  visible_layer x (Value-F.Text t) = visible_quoted t
  visible_layer x (Value-F.List es) = visible_list (map (json table) (map (λ e. e.0) es)) (all_visible es)
  visible_layer x (Value-F.Fault f) = visible_failure f

  pub visible_json : (v : Value) → IsVisible (json table v)
  visible_json = ind-Value (λ v. IsVisible (json table v)) (λ x y is.
      rw (fold-roll-Value (List ℕ) (json_step table) x) (subst (λ (z : Value-F Value).
      IsVisible (json_step table (map-Value Value (List ℕ) (json table) z))) is (visible_layer x y)))
