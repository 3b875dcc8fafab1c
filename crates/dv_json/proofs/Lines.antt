-- Lines that are gathered one after the other.
use Rattle.std.proofs.Common.{◌≡◌, ℕ, suc, ◌+◌, ◌<◌, List, [], ◌∷◌, ◌++◌, Option, OnOk, Result, Ok, Err, length, take}
use Rattle.std.proofs.Common.{get_or, refl, ap, sym, ◌∙◌, subst, append_assoc, arith, codes, flat_map, length-append}
use Rattle.std.proofs.lemmas.List.{append-nil, take_more, length-take}
use Rattle.std.proofs.lemmas.List.Concat.{flat_map-append}
use Rattle.std.proofs.lemmas.List.Elements.{All-append, All-cons}
use Rattle.std.proofs.KnownBytes.{Appends-nil, Appends-trans}
use Rattle.dv_facts.specs.Parts.{IsVisible}
use Rattle.dv_journal.specs.Sink.{AppendsBut}
use Rattle.dv_json.specs.Text.{AreSoMany, EachHasLine, ended}
use Rattle.dv_json.specs.Gathered.{Gathers, GathersLines}

-- nothing yet
pub gathers_nothing : (a : Option (List ℕ)) (g : List ℕ) → Gathers a g a g []
gathers_nothing a g = record { written = ([], Appends-nil a, append-nil g) }

-- one text, then another
pub gathers_both : {a b c : Option (List ℕ)} {g h i s t : List ℕ} → Gathers a g b h s → Gathers b h c i t
    → Gathers a g c i (s ++ t)
gathers_both {a} {b} {c} {g} {h} {i} {s} {t} first second =
    let one = first.written in
    let two = second.written in
    record {
      written = (
        one.0 ++ two.0,
        Appends-trans a b c one.0 two.0 one.1 two.1,
        sym (append_assoc g s t) ∙ ap (λ (l : List ℕ). l ++ t) one.2 ∙ append_assoc one.0 h t
            ∙ ap (λ (l : List ℕ). one.0 ++ l) two.2 ∙ sym (append_assoc one.0 two.0 i),
      );
    }

-- a line that was added to what is gathered, and ended
pub gathers_line : (a b : Option (List ℕ)) (g with_line h line : List ℕ) → with_line ≡ g ++ line
    → AppendsBut a b (with_line ++ codes "\n") h → Gathers a g b h (ended line)
gathers_line a b g with_line h line is written = record {
  written = (
    written.0,
    written.1,
    sym (append_assoc g line (codes "\n")) ∙ ap (λ (l : List ℕ). l ++ codes "\n") (sym is) ∙ written.2,
  );
}

-- one item more has its line
has_more : {A : Type 0} (IsLine : ℕ → A → List ℕ
    → Type 0) (number : ℕ) (items : List A) (lines : List (List ℕ)) (item : A) (line : List ℕ) →
    EachHasLine IsLine number items lines → IsLine (number + length items) item line
    → EachHasLine IsLine number (items ++ item ∷ []) (lines ++ line ∷ [])
has_more IsLine number [] [] item line have is = (subst (λ (n : ℕ). IsLine n item line) (omega arith) is, tt)
has_more IsLine number [] (first ∷ lines) item line have is = absurd have
has_more IsLine number (first ∷ items) [] item line have is = absurd have
has_more IsLine number (first ∷ items) (one ∷ lines) item line have is = (
  have.0,
  has_more IsLine (suc number) items lines item line have.1 (subst (λ (n : ℕ). IsLine n item line) (omega arith) is),
)

-- no item has no line
pub each_none : {A : Type 0} (IsLine : ℕ → A → List ℕ → Type 0) (items : List A) (a : Option (List ℕ)) (g : List ℕ)
    → GathersLines (EachHasLine IsLine 0 (take 0 items)) a g a g
each_none IsLine items a g = record { lines = []; are = tt; gathers = gathers_nothing a g }

-- the line of the next item
pub each_next : {A : Type 0} (IsLine : ℕ → A → List ℕ
    → Type 0) (items : List A) (n : ℕ) (item : A) (line : List ℕ) (a b c : Option (List ℕ)) (g h with_line i : List ℕ) →
    n < length items → item ≡ get_or items n item → GathersLines (EachHasLine IsLine 0 (take n items)) a g b h
    → with_line ≡ h ++ line → IsLine n item line →
    AppendsBut b c (with_line ++ codes "\n") i → GathersLines (EachHasLine IsLine 0 (take (n + 1) items)) a g c i
each_next {A} IsLine items n item line a b c g h with_line i within found so_far is is_line written =
    let many : length (take n items) ≡ n = omega (arith, length-take n items) in
    record {
      lines = so_far.lines ++ line ∷ [];
      are = subst (λ (xs : List A). EachHasLine IsLine 0 xs (so_far.lines ++ line ∷ []))
          (sym (take_more items n item within ∙ ap (λ (x : A). take n items ++ x ∷ []) (sym found)))
          (has_more IsLine 0 (take n items) so_far.lines item line so_far.are
          (subst (λ (k : ℕ). IsLine k item line) (omega (arith, many)) is_line));
      gathers =
          subst (λ (text : List ℕ). Gathers a g c i text) (sym (flat_map-append ended so_far.lines (line ∷ [])
          ∙ ap (λ (l : List ℕ). flat_map ended so_far.lines ++ l) (append-nil (ended line))))
          (gathers_both so_far.gathers (gathers_line b c h with_line i line is written));
    }

-- no line yet
pub many_none : (a : Option (List ℕ)) (g : List ℕ) → GathersLines (AreSoMany 0) a g a g
many_none a g = record {
  lines = [];
  are = record { as_many = refl; visible = λ k d h. absurd (omega arith) };
  gathers = gathers_nothing a g;
}

-- one line more
pub many_next : (n : ℕ) (line : List ℕ) (a b c : Option (List ℕ)) (g h with_line i : List ℕ) →
    GathersLines (AreSoMany n) a g b h → with_line ≡ h ++ line → IsVisible line →
    AppendsBut b c (with_line ++ codes "\n") i → GathersLines (AreSoMany (n + 1)) a g c i
many_next n line a b c g h with_line i so_far is is_line written =
    record {
      lines = so_far.lines ++ line ∷ [];
      are = record {
        as_many = length-append so_far.lines (line ∷ []) ∙ ap (λ (k : ℕ). k + 1) so_far.are.as_many;
        visible =
            All-append IsVisible so_far.lines (line ∷ []) so_far.are.visible
            (All-cons IsVisible line [] is_line (λ k d h. absurd (omega arith)));
      };
      gathers =
          subst (λ (text : List ℕ). Gathers a g c i text) (sym (flat_map-append ended so_far.lines (line ∷ [])
          ∙ ap (λ (l : List ℕ). flat_map ended so_far.lines ++ l) (append-nil (ended line))))
          (gathers_both so_far.gathers (gathers_line b c h with_line i line is written));
    }

-- one line alone
pub one_line : {A E : Type 0} (r : Result A E)
    (AreLines : List (List ℕ) → Type 0) (line : List ℕ) (a b : Option (List ℕ)) (g with_line h : List ℕ) →
    OnOk r (AppendsBut a b (with_line ++ codes "\n") h) → with_line ≡ g ++ line → AreLines (line ∷ [])
    → OnOk r (GathersLines AreLines a g b h)
one_line (Ok x) AreLines line a b g with_line h written is are = record {
  lines = line ∷ [];
  are = are;
  gathers =
      subst (λ (text : List ℕ). Gathers a g b h text) (sym (append-nil (ended line)))
      (gathers_line a b g with_line h line is written);
}
one_line (Err e) AreLines line a b g with_line h written is are = tt
