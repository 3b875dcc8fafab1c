-- Lines of which a prefix was written.
use Rattle.std.proofs.Common.{◌≡◌, ℕ, zero, suc, ◌+◌, ◌-◌, ◌<◌, ◌≤◌, List, [], ◌∷◌, ◌++◌, Option, OnErr, Result, Ok}
use Rattle.std.proofs.Common.{Err, length, take, drop, get_or, refl, ap, sym, ◌∙◌, subst, append_assoc, add-one, arith}
use Rattle.std.proofs.Common.{codes, flat_map, length-append, take-append-drop}
use Rattle.std.proofs.lemmas.List.{drop_more, length-take}
use Rattle.std.proofs.lemmas.List.Concat.{flat_map-append}
use Rattle.std.proofs.lemmas.List.Elements.{All-append, All-cons}
use Rattle.std.proofs.KnownBytes.{Appends-nil, Appends-trans}
use Rattle.dv_facts.specs.Parts.{IsVisible}
use Rattle.dv_journal.specs.Sink.{AppendsPrefix}
use Rattle.dv_json.specs.Text.{AreSoMany, EachHasLine, ended}
use Rattle.dv_json.specs.Gathered.{CutsLines, Gathers, GathersLines}

-- nothing was written
pub prefix_none : (a : Option (List ℕ)) (text : List ℕ) → AppendsPrefix a a text
prefix_none a text = (text, ([], Appends-nil a, refl))

-- a prefix of a text is one of a longer text
pub prefix_longer : (a b : Option (List ℕ)) (text rest : List ℕ) → AppendsPrefix a b text
    → AppendsPrefix a b (text ++ rest)
prefix_longer a b text rest cut =
    let (left, (taken, grew, whole)) = cut in
    (left ++ rest, (taken, grew, ap (λ (l : List ℕ). l ++ rest) whole ∙ append_assoc taken left rest))

-- where a call has given up
pub on_err : {A E : Type 0} (r : Result A E) (P : Type 0) → P → OnErr r P
on_err (Ok x) P holds = tt
on_err (Err e) P holds = holds

-- what the calls that write cite
pub ruleset pieces = (prefix_none, prefix_longer)

-- a text was gathered, and then a prefix was written of what waits and of another text
cut_later : (a b c : Option (List ℕ)) (g h s t : List ℕ) → Gathers a g b h s → AppendsPrefix b c (h ++ t)
    → AppendsPrefix a c (g ++ (s ++ t))
cut_later a b c g h s t first cut =
    let one = first.written in
    let (left, (taken, grew, whole)) = cut in (
      left,
      (
        one.0 ++ taken,
        Appends-trans a b c one.0 taken one.1 grew,
        sym (append_assoc g s t) ∙ ap (λ (l : List ℕ). l ++ t) one.2 ∙ append_assoc one.0 h t
            ∙ ap (λ (l : List ℕ). one.0 ++ l) whole ∙ sym (append_assoc one.0 taken left),
      ),
    )

-- the same of lines
pub cut_lines : (a b c : Option (List ℕ)) (g h : List ℕ) (lines more : List (List ℕ))
    → Gathers a g b h (flat_map ended lines) → AppendsPrefix b c (h ++ flat_map ended more) →
    AppendsPrefix a c (g ++ flat_map ended (lines ++ more))
cut_lines a b c g h lines more first cut =
    subst (λ (text : List ℕ). AppendsPrefix a c (g ++ text)) (sym (flat_map-append ended lines more))
    (cut_later a b c g h (flat_map ended lines) (flat_map ended more) first cut)

-- no call has written yet
pub cut_none : (AreLines : List (List ℕ) → Type 0) (lines : List (List ℕ)) (a : Option (List ℕ)) (g : List ℕ)
    → AreLines lines → CutsLines AreLines a g a
cut_none AreLines lines a g are = record { lines = lines; are = are; cut = prefix_none a (g ++ flat_map ended lines) }

-- a line that was added, of which a prefix was written, and others after it
line_cut : (b c : Option (List ℕ)) (h with_line line rest : List ℕ) → with_line ≡ h ++ line
    → AppendsPrefix b c (with_line ++ codes "\n") → AppendsPrefix b c (h ++ (ended line ++ rest))
line_cut b c h with_line line rest is cut =
    subst (AppendsPrefix b c)
    (ap (λ (l : List ℕ). l ++ codes "\n" ++ rest) is ∙ ap (λ (l : List ℕ). l ++ rest) (append_assoc h line (codes "\n"))
    ∙ append_assoc h (ended line) rest)
    (prefix_longer b c (with_line ++ codes "\n") rest cut)

-- the only line, of which a prefix was written
pub one_cut : {A E : Type 0} (r : Result A E)
    (AreLines : List (List ℕ) → Type 0) (line : List ℕ) (a b : Option (List ℕ)) (g with_line : List ℕ) →
    OnErr r (AppendsPrefix a b (with_line ++ codes "\n")) → with_line ≡ g ++ line → AreLines (line ∷ [])
    → OnErr r (CutsLines AreLines a g b)
one_cut (Ok x) AreLines line a b g with_line cut is are = tt
one_cut (Err e) AreLines line a b g with_line cut is are =
    record { lines = line ∷ []; are = are; cut = line_cut a b g with_line line [] is cut }

module _ {A : Type 0} (IsLine : ℕ → A → List ℕ → Type 0) where
  -- each item has a line, of which there may be many
  abbrev pub Every : Type 0
  Every = (number : ℕ) (item : A) → (line : List ℕ) × IsLine number item line

  pub each_exist : Every → (number : ℕ) (items : List A)
      → (lines : List (List ℕ)) × EachHasLine IsLine number items lines
  each_exist every number [] = ([], tt)
  each_exist every number (item ∷ items) =
      let first = every number item in
      let rest = each_exist every (suc number) items in
      (first.0 ∷ rest.0, (first.1, rest.1))

  -- the lines of items, and those of the items after them
  each_both : (number : ℕ) (items others : List A) (lines more : List (List ℕ)) → EachHasLine IsLine number items lines
      → EachHasLine IsLine (number + length items) others more →
      EachHasLine IsLine number (items ++ others) (lines ++ more)
  each_both number [] others [] more have rest = subst (λ (n : ℕ). EachHasLine IsLine n others more) (omega arith) rest
  each_both number [] others (line ∷ lines) more have rest = absurd have
  each_both number (item ∷ items) others [] more have rest = absurd have
  each_both number (item ∷ items) others (line ∷ lines) more have rest = (
    have.0,
    each_both (suc number) items others lines more have.1
        (subst (λ (n : ℕ). EachHasLine IsLine n others more) (omega arith) rest),
  )

  each_cut : (items : List A) (n : ℕ) (more : List (List ℕ)) (a b c : Option (List ℕ)) (g h : List ℕ) → n ≤ length items
      → GathersLines (EachHasLine IsLine 0 (take n items)) a g b h →
      EachHasLine IsLine n (drop n items) more → AppendsPrefix b c (h ++ flat_map ended more)
      → CutsLines (EachHasLine IsLine 0 items) a g c
  each_cut items n more a b c g h within so_far rest cut =
      let many : length (take n items) ≡ n = omega (arith, length-take n items) in
      record {
        lines = so_far.lines ++ more;
        are = subst (λ (xs : List A). EachHasLine IsLine 0 xs (so_far.lines ++ more)) (take-append-drop n items)
            (each_both 0 (take n items) (drop n items) so_far.lines more so_far.are
            (subst (λ (k : ℕ). EachHasLine IsLine k (drop n items) more) (omega (arith, many)) rest));
        cut = cut_lines a b c g h so_far.lines more so_far.gathers cut;
      }

  -- an allocation failed before the line of an item was whole
  pub each_stopped : Every → (items : List A) (n : ℕ) (a b : Option (List ℕ)) (g h : List ℕ) → n ≤ length items
      → GathersLines (EachHasLine IsLine 0 (take n items)) a g b h → CutsLines (EachHasLine IsLine 0 items) a g b
  each_stopped every items n a b g h within so_far =
      let rest = each_exist every n (drop n items) in
      each_cut items n rest.0 a b b g h within so_far rest.1 (prefix_none b (h ++ flat_map ended rest.0))

  -- the line of an item was whole, and couldn't be written
  pub each_line_cut : Every
      → (items : List A) (n : ℕ) (item : A) (line : List ℕ) (a b c : Option (List ℕ)) (g h with_line : List ℕ) →
      n < length items → item ≡ get_or items n item → GathersLines (EachHasLine IsLine 0 (take n items)) a g b h
      → with_line ≡ h ++ line → IsLine n item line →
      AppendsPrefix b c (with_line ++ codes "\n") → CutsLines (EachHasLine IsLine 0 items) a g c
  each_line_cut every items n item line a b c g h with_line within found so_far is is_line cut =
      let rest = each_exist every (suc n) (drop (suc n) items) in
      let next : drop n items ≡ item ∷ drop (suc n) items =
      rw add-one at (drop_more items n item within) ∙ ap (λ (x : A). x ∷ drop (suc n) items) (sym found) in
      each_cut items n (line ∷ rest.0) a b c g h (omega arith) so_far
      (subst (λ (xs : List A). EachHasLine IsLine n xs (line ∷ rest.0)) (sym next) (is_line, rest.1))
      (line_cut b c h with_line line (flat_map ended rest.0) is cut)

-- so many lines may be
pub empties : ℕ → List (List ℕ)
empties zero = []
empties (suc n) = [] ∷ empties n

pub many_exist : (n : ℕ) → AreSoMany n (empties n)
unfolding empties
many_exist zero = record { as_many = refl; visible = λ k d h. absurd (omega arith) }
many_exist (suc n) = record {
  as_many = ap suc (many_exist n).as_many;
  visible = All-cons IsVisible [] (empties n) refl (many_exist n).visible;
}

many_cut : (count n : ℕ) (more : List (List ℕ)) (m : ℕ) (a b c : Option (List ℕ)) (g h : List ℕ) → n + m ≡ count
    → GathersLines (AreSoMany n) a g b h →
    AreSoMany m more → AppendsPrefix b c (h ++ flat_map ended more) → CutsLines (AreSoMany count) a g c
many_cut count n more m a b c g h all so_far rest cut =
    record {
      lines = so_far.lines ++ more;
      are = record {
        as_many = omega (arith, all, so_far.are.as_many, rest.as_many, length-append so_far.lines more);
        visible = All-append IsVisible so_far.lines more so_far.are.visible rest.visible;
      };
      cut = cut_lines a b c g h so_far.lines more so_far.gathers cut;
    }

-- an allocation failed before a line was whole
pub many_stopped : (count n : ℕ) (a b : Option (List ℕ)) (g h : List ℕ) → n ≤ count → GathersLines (AreSoMany n) a g b h
    → CutsLines (AreSoMany count) a g b
many_stopped count n a b g h within so_far =
    many_cut count n (empties (count - n)) (count - n) a b b g h (omega arith) so_far (many_exist (count - n))
    (prefix_none b (h ++ flat_map ended (empties (count - n))))

-- a line was whole, and couldn't be written
pub many_line_cut : (count n : ℕ) (line : List ℕ) (a b c : Option (List ℕ)) (g h with_line : List ℕ) → n < count
    → GathersLines (AreSoMany n) a g b h → with_line ≡ h ++ line → IsVisible line →
    AppendsPrefix b c (with_line ++ codes "\n") → CutsLines (AreSoMany count) a g c
many_line_cut count n line a b c g h with_line within so_far is is_line cut =
    let rest = many_exist (count - suc n) in
    many_cut count n (line ∷ empties (count - suc n)) (suc (count - suc n)) a b c g h (omega arith) so_far
    (record {
      as_many = ap suc rest.as_many;
      visible = All-cons IsVisible line (empties (count - suc n)) is_line rest.visible;
    })
    (line_cut b c h with_line line (flat_map ended (empties (count - suc n))) is cut)
