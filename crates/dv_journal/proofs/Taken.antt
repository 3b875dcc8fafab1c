-- A text that a sink takes piece by piece.
use Rattle.std.proofs.Common.{◌≡◌, ℕ, length, List, [], ◌++◌, ◌-◌, arith, Option, take, drop, refl, sym, ◌∙◌, ap, subst}
use Rattle.std.proofs.Common.{append_assoc, take-append-drop}
use Rattle.std.proofs.lemmas.List.{append-nil, take_rest}
use Rattle.std.proofs.KnownBytes.{Appends-nil, Appends-trans, Appends-kept}
use Rattle.std.specs.Io.KnownBytes.{Appends, Keeps}
use Rattle.dv_journal.specs.Sink.{AppendsBut, AppendsPrefix, HasFailed, one_more}

-- nothing was taken, and all is left
pub but_all : (a : Option (List ℕ)) (text : List ℕ) → AppendsBut a a text text
but_all a text = ([], Appends-nil a, refl)

-- one call more took n bytes; `take (length rest - n) (drop n rest)` is `&rest[n..]`
pub but_less : (a b c : Option (List ℕ)) (text rest : List ℕ) (n : ℕ) →
    AppendsBut a b text rest → Appends b c (take n rest) → AppendsBut a c text (take (length rest - n) (drop n rest))
but_less a b c text rest n so_far more = (
  so_far.0 ++ take n rest,
  Appends-trans a b c so_far.0 (take n rest) so_far.1 more,
  so_far.2
      ∙ ap (λ (l : List ℕ). so_far.0 ++ l)
      (sym (take-append-drop n rest) ∙ ap (λ (l : List ℕ). take n rest ++ l) (sym (take_rest rest n)))
      ∙ sym (append_assoc so_far.0 (take n rest) (take (length rest - n) (drop n rest))),
)

-- one call more took nothing
pub but_kept : (a b c : Option (List ℕ)) (text rest : List ℕ) →
    AppendsBut a b text rest → Keeps b c → AppendsBut a c text rest
but_kept a b c text rest so_far kept = (so_far.0, Appends-kept a b c so_far.0 so_far.1 kept, so_far.2)

-- nothing is left
pub but_nothing : (a b : Option (List ℕ)) (text : List ℕ) → AppendsBut a b text [] → Appends a b text
but_nothing a b text so_far = subst (Appends a b) (sym (so_far.2 ∙ append-nil so_far.0)) so_far.1

-- one failure more shows
pub fails : (n : ℕ) → HasFailed n (one_more n)
fails n = search arith

-- the next part of the text was taken whole
pub but_next : (a b c : Option (List ℕ)) (text part rest after : List ℕ) →
    AppendsBut a b text rest → rest ≡ part ++ after → Appends b c part → AppendsBut a c text after
but_next a b c text part rest after so_far next more = (
  so_far.0 ++ part,
  Appends-trans a b c so_far.0 part so_far.1 more,
  so_far.2 ∙ ap (λ (l : List ℕ). so_far.0 ++ l) next ∙ sym (append_assoc so_far.0 part after),
)

-- the next part of the text was cut short
pub prefix_next : (a b c : Option (List ℕ)) (text part rest after : List ℕ) →
    AppendsBut a b text rest → rest ≡ part ++ after → AppendsPrefix b c part → AppendsPrefix a c text
prefix_next a b c text part rest after so_far next more =
    let (left, (taken, grew, whole)) = more in (
      left ++ after,
      but_next a b c text taken rest (left ++ after) so_far
          (next ∙ ap (λ (l : List ℕ). l ++ after) whole ∙ append_assoc taken left after) grew,
    )

-- of the next part of the text all was taken but for a rest of it
pub but_cut : (a b c : Option (List ℕ)) (text part left after : List ℕ) →
    AppendsBut a b text (part ++ after) → AppendsBut b c part left → AppendsBut a c text (left ++ after)
but_cut a b c text part left after so_far more =
    but_next a b c text more.0 (part ++ after) (left ++ after) so_far
    (ap (λ (l : List ℕ). l ++ after) more.2 ∙ append_assoc more.0 left after) more.1

-- what the goals of a loop over writes cite
pub ruleset pieces = (but_kept, but_all, but_nothing, fails)
