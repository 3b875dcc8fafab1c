-- The pointer of steps leads where the steps do.
use Rattle.std.proofs.Common.{◌==◌, ◌||◌, slice_index, eq-eqb, ◌≡◌, ◌≢◌, ℕ, zero, suc, ◌+◌, ◌^◌, ◌<◌, List, [], ◌∷◌}
use Rattle.std.proofs.Common.{◌++◌, length, get_or, take, Bool, true, false, not, Option, Some, None, option_and_then}
use Rattle.std.proofs.Common.{decimal, refl, sym, ap, ◌∙◌, arith, append_assoc, append-nil, add-one, ne_eqb, eqb}
use Rattle.std.proofs.Common.{lt-ltb, ◌⊎◌, inl, inr}
use Rattle.std.proofs.lemmas.Fmt.{decimal_is_IsNumeral, decimal_nonempty, first_decimal, decimal_digit}
use Rattle.std.proofs.lemmas.Bool.Decides.{eqb_tells}
use Rattle.std.proofs.lemmas.Str.{inside_one, encode_ascii}
use Rattle.std.proofs.Math.Seq.{take-suc}
use Rattle.std.proofs.Math.Utf8.{encode}
use Rattle.std.specs.Str.Parse.{AllDigits}
use Rattle.std.specs.Char.{digit_value}
use Rattle.fast_float.specs.Text.{Parts, scan, digits_of, IsWellFormed}
use Rattle.fast_float.proofs.Writing.{scan-text_of}
use Rattle.serde_json.specs.Data.{Data, null, boolean, number, string, array, object}
use Rattle.serde_json.specs.Find.{at, get, unescape, index_of, step as one_step, walk, pointer}
use Rattle.serde_json.specs.Read.{is_integer}
use Rattle.serde_json.proofs.Paths.{Lacks, walk_part, walk_last}
use Rattle.dv_why.specs.declared.misfit.Step.{Step}
use Rattle.dv_why.specs.declared.misfit.Step.TheVariants as step
use Rattle.dv_why.specs.Places.{step_to, at_place}
use Rattle.dv_why.specs.Pointers.{escaped_key, escaped_letter, part_text, pointer_text, HasIndex, HaveIndices}

-- ---- keys

-- neither `~` nor `/`
abbrev pub IsPlain : List ℕ → Type 0
IsPlain xs = (k : ℕ) → k < length xs → (get_or xs k 0 ≢ 126) × (get_or xs k 0 ≢ 47)

pub escaped_nil : escaped_key [] ≡ []
unfolding escaped_key
escaped_nil = refl

pub escaped_tilde : (rest : List ℕ) → escaped_key (126 ∷ rest) ≡ 126 ∷ 48 ∷ escaped_key rest
unfolding escaped_key
escaped_tilde rest = refl

pub escaped_slash : (rest : List ℕ) → escaped_key (47 ∷ rest) ≡ 126 ∷ 49 ∷ escaped_key rest
unfolding escaped_key
escaped_slash rest = refl

pub escaped_letter_same : (x : ℕ) (rest : List ℕ) → x ≢ 126 → x ≢ 47 → escaped_key (x ∷ rest) ≡ x ∷ escaped_key rest
unfolding escaped_key
escaped_letter_same x rest no_tilde no_slash = rw (ne_eqb x 126 no_tilde) (rw (ne_eqb x 47 no_slash))

-- what has neither goes on as it is
pub escaped_over : (xs rest : List ℕ) → IsPlain xs → escaped_key (xs ++ rest) ≡ xs ++ escaped_key rest
escaped_over [] rest h = refl
escaped_over (x ∷ xs) rest h =
    let first = h 0 (omega arith) in
    escaped_letter_same x (xs ++ rest) first.0 first.1
    ∙ ap (λ l. x ∷ l) (escaped_over xs rest (λ k less. h (suc k) (omega arith)))

-- another character has neither
encode_plain : (c : ℕ) → c ≢ 126 → c ≢ 47 → IsPlain (encode c)
encode_plain c no_tilde no_slash k less =
    let same : get_or (encode c) k 0 < 128 → c ≡ get_or (encode c) k 0 =
    λ small. inside_one c [] (encode c) k (sym (append-nil (encode c))) less small in (
      λ e. no_tilde (same (omega arith) ∙ e),
      λ e. no_slash (same (omega arith) ∙ e),
    )

-- a number is this one, or it isn't
abbrev pub Tells : ℕ → ℕ → Type 0
Tells a b = ((eqb a b ≡ true) × (a ≡ b)) ⊎ ((eqb a b ≡ false) × (a ≢ b))

escaped_by : (c : ℕ) (rest : List ℕ) → Tells c 126 → Tells c 47
    → escaped_key (encode c ++ rest) ≡ escaped_letter c ++ escaped_key rest
escaped_by c rest (inl t) slash =
    let small : 126 < 128 = omega arith in rw (t.1, encode_ascii 126 small) (escaped_tilde rest)
escaped_by c rest (inr f) (inl t) =
    let small : 47 < 128 = omega arith in rw (t.1, encode_ascii 47 small) (escaped_slash rest)
escaped_by c rest (inr f) (inr g) = rw (f.0, g.0) (escaped_over (encode c) rest (encode_plain c f.1 g.1))

-- a key, a character at a time
pub escaped_first : (c : ℕ) (rest : List ℕ) → escaped_key (encode c ++ rest) ≡ escaped_letter c ++ escaped_key rest
escaped_first c rest = escaped_by c rest (eqb_tells c 126) (eqb_tells c 47)

-- the key of which nothing is left
pub escaped_none : (xs : List ℕ) → length xs ≡ 0 → escaped_key xs ≡ []
escaped_none [] h = escaped_nil
escaped_none (x ∷ xs) h = absurd (omega arith)

-- ---- and read again

lacks_more : (x : ℕ) (rest : List ℕ) → x ≢ 47 → Lacks 47 rest → Lacks 47 (x ∷ rest)
lacks_more x rest h hs zero less e = h e
lacks_more x rest h hs (suc i) less e = hs i (omega arith) e

lacks_by : (x : ℕ) (rest : List ℕ) → Lacks 47 (escaped_key rest) → Tells x 126 → Tells x 47
    → Lacks 47 (escaped_key (x ∷ rest))
lacks_by x rest h (inl t) slash =
    rw t.1 (rw escaped_tilde
    (lacks_more 126 (48 ∷ escaped_key rest) (λ e. omega arith) (lacks_more 48 (escaped_key rest) (λ e. omega arith) h)))
lacks_by x rest h (inr f) (inl t) =
    rw t.1 (rw escaped_slash
    (lacks_more 126 (49 ∷ escaped_key rest) (λ e. omega arith) (lacks_more 49 (escaped_key rest) (λ e. omega arith) h)))
lacks_by x rest h (inr f) (inr g) = rw (escaped_letter_same x rest f.1 g.1) (lacks_more x (escaped_key rest) g.1 h)

-- what is escaped has no `/`
pub escaped_lacks : (key : List ℕ) → Lacks 47 (escaped_key key)
escaped_lacks [] = rw escaped_nil (λ i less e. absurd (omega arith))
escaped_lacks (x ∷ rest) = lacks_by x rest (escaped_lacks rest) (eqb_tells x 126) (eqb_tells x 47)

unescape_nil : unescape (escaped_key []) ≡ []
unfolding unescape escaped_key
unescape_nil = refl

unescape_tilde : (rest : List ℕ) → unescape (126 ∷ 48 ∷ rest) ≡ 126 ∷ unescape rest
unfolding unescape
unescape_tilde rest = refl

unescape_slash : (rest : List ℕ) → unescape (126 ∷ 49 ∷ rest) ≡ 47 ∷ unescape rest
unfolding unescape
unescape_slash rest = refl

unescape_other : (x : ℕ) (rest : List ℕ) → x ≢ 126 → unescape (x ∷ rest) ≡ x ∷ unescape rest
unfolding unescape
unescape_other x [] h = refl
unescape_other x (y ∷ rest) h = rw (ne_eqb x 126 h)

unescape_by : (x : ℕ) (rest : List ℕ) → unescape (escaped_key rest) ≡ rest → Tells x 126 → Tells x 47
    → unescape (escaped_key (x ∷ rest)) ≡ x ∷ rest
unescape_by x rest h (inl t) slash = rw t.1 (rw (escaped_tilde, unescape_tilde) (ap (λ l. 126 ∷ l) h))
unescape_by x rest h (inr f) (inl t) = rw t.1 (rw (escaped_slash, unescape_slash) (ap (λ l. 47 ∷ l) h))
unescape_by x rest h (inr f) (inr g) =
    rw (escaped_letter_same x rest f.1 g.1, unescape_other x (escaped_key rest) f.1) (ap (λ l. x ∷ l) h)

-- what is escaped is read as it was
pub unescape_escaped : (key : List ℕ) → unescape (escaped_key key) ≡ key
unescape_escaped [] = unescape_nil
unescape_escaped (x ∷ rest) = unescape_by x rest (unescape_escaped rest) (eqb_tells x 126) (eqb_tells x 47)

-- ---- numbers

digits_lack : (ds : List ℕ) → AllDigits 10 ds → Lacks 47 ds
digits_lack [] h = λ i less e. absurd (omega arith)
digits_lack (d ∷ ds) h =
    let digit : digit_value d < 10 = h.0 in
    lacks_more d ds (λ is. let e : d ≡ 47 = is in grind arith) (digits_lack ds h.1)

pub decimal_lacks : (n : ℕ) → n < 2 ^ 64 → Lacks 47 (decimal n)
decimal_lacks n h = digits_lack (decimal n) (decimal_is_IsNumeral n h).0.1

-- what is scanned of digits
abbrev digits : List ℕ → Parts
digits ds = record {
  whole = ds;
  point = false;
  fraction = [];
  exponent_negative = false;
  exponent = [];
  len = length (ds ++ []);
}

or_true : (b : Bool) → (b || true) ≡ true
or_true true = refl
or_true false = refl

-- no 0 stands before another digit
begins_well : (n : ℕ) → n < 2 ^ 64 → (length (decimal n) == 1 || not (slice_index (decimal n) 0 == 48)) ≡ true
begins_well zero h = let small : 0 < 10 = omega arith in rw (decimal_digit 0 small)
begins_well (suc n) h =
    let first = first_decimal (suc n) (omega arith) h in
    rw (ne_eqb (get_or (decimal (suc n)) 0 0) 48 (λ e. omega arith)) (or_true (length (decimal (suc n)) == 1))

pub index_of-decimal : (n : ℕ) → n < 2 ^ 64 → index_of (decimal n) ≡ Some n
unfolding index_of
index_of-decimal n h =
    let e = decimal_is_IsNumeral n h in
    let some = decimal_nonempty n h in
    let formed : IsWellFormed (digits (decimal n)) = record {
      whole_digits = e.0.1;
      fraction_digits = tt;
      exponent_digits = tt;
      no_point = λ _. refl;
      no_exponent = λ _. refl;
      len_is = refl;
    } in
    let scanned : scan (decimal n) ≡ digits (decimal n) =
    ap scan (sym (append-nil (decimal n))) ∙ scan-text_of (digits (decimal n)) formed in
    let integer : is_integer (digits (decimal n)) ≡ true = rw (lt-ltb _ _ some) in
    let same : ((digits (decimal n)).len == length (decimal n)) ≡ true =
    rw append-nil (eq-eqb (length (decimal n)) (length (decimal n)) refl) in
    let value : digits_of (digits (decimal n)) ≡ n = rw append-nil e.1 in
    rw scanned (rw (integer, same, value, lt-ltb _ _ h, begins_well n h))

-- ---- steps

pub part_lacks : (s : Step) → HasIndex s → Lacks 47 (part_text s)
part_lacks (step.Item n) h = decimal_lacks n h
part_lacks (step.Key key) h = escaped_lacks key.now

item_leads : (n : ℕ) (d e : Data) → n < 2 ^ 64 → at n d ≡ Some e → one_step (decimal n) d ≡ Some e
item_leads n null e h is = cc
item_leads n (boolean b) e h is = cc
item_leads n (number x) e h is = cc
item_leads n (string s) e h is = cc
item_leads n (array ds) e h is = rw (index_of-decimal n h) is
item_leads n (object ms) e h is = cc

key_leads : (key : List ℕ) (d e : Data) → get key d ≡ Some e → one_step (escaped_key key) d ≡ Some e
key_leads key null e is = cc
key_leads key (boolean b) e is = cc
key_leads key (number x) e is = cc
key_leads key (string s) e is = cc
key_leads key (array ds) e is = cc
key_leads key (object ms) e is = rw (unescape_escaped key) is

pub step_leads : (s : Step) (d e : Data) → HasIndex s → step_to s d ≡ Some e → one_step (part_text s) d ≡ Some e
step_leads (step.Item n) d e h is = item_leads n d e h is
step_leads (step.Key key) d e h is = key_leads key.now d e is

walk_by : (s : Step) (rest : List Step) (d part : Data) → HaveIndices (s ∷ rest) → (to : Option Data) → step_to s d ≡ to
    → option_and_then (at_place rest) to ≡ Some part → walk [] (part_text s ++ pointer_text rest) d ≡ Some part
walk_by s rest d part h None leads is = cc
walk_by s [] d part h (Some e) leads is =
    rw append-nil (walk_last (part_text s) d (part_lacks s h.0) ∙ step_leads s d e h.0 leads ∙ is)
walk_by s (r ∷ rest) d part h (Some e) leads is =
    walk_part (part_text s) (part_text r ++ pointer_text rest) d (part_lacks s h.0)
    ∙ rw (step_leads s d e h.0 leads) (walk_by r rest e part h.1 (step_to r e) refl is)

-- the pointer of steps leads where the steps do
pub pointer_leads : (steps : List Step) (d part : Data) → HaveIndices steps → at_place steps d ≡ Some part
    → pointer (pointer_text steps) d ≡ Some part
pointer_leads [] d part h is = is
pointer_leads (s ∷ rest) d part h is = walk_by s rest d part h (step_to s d) refl is

-- ---- steps so far

pointer_append : (xs ys : List Step) → pointer_text (xs ++ ys) ≡ pointer_text xs ++ pointer_text ys
pointer_append [] ys = refl
pointer_append (s ∷ xs) ys =
    ap (λ l. (47 ∷ part_text s) ++ l) (pointer_append xs ys)
    ∙ sym (append_assoc (47 ∷ part_text s) (pointer_text xs) (pointer_text ys))

indices_append : (xs : List Step) (s : Step) → HaveIndices xs → HasIndex s → HaveIndices (xs ++ s ∷ [])
indices_append [] s h hs = (hs, tt)
indices_append (x ∷ xs) s h hs = (h.0, indices_append xs s h.1 hs)

-- one step more
pub pointer_more : (steps : List Step) (i : ℕ) (default : Step) → i < length steps
    → pointer_text (take (i + 1) steps) ≡ pointer_text (take i steps) ++ 47 ∷ part_text (get_or steps i default)
pointer_more steps i default h =
    rw (add-one, take-suc steps i default h) (pointer_append (take i steps) (get_or steps i default ∷ [])
    ∙ ap (λ l. pointer_text (take i steps) ++ 47 ∷ l) (append-nil (part_text (get_or steps i default))))

pub indices_more : (steps : List Step) (i : ℕ) (default : Step) → i < length steps → HaveIndices (take i steps)
    → HasIndex (get_or steps i default) → HaveIndices (take (i + 1) steps)
indices_more steps i default h before here =
    rw (add-one, take-suc steps i default h) (indices_append (take i steps) (get_or steps i default) before here)
