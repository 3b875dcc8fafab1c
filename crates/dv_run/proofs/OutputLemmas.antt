-- The text that is left to print, line by line.
use Rattle.std.proofs.Common.{◌≡◌, ℕ, ◌+◌, ◌<◌, List, [], ◌∷◌, ◌++◌, Option, length, get_or, drop, refl, ap, sym, ◌∙◌}
use Rattle.std.proofs.Common.{add-one, append_assoc}
use Rattle.std.proofs.KnownBytes.{Appends-trans}
use Rattle.std.proofs.lemmas.List.{append-nil, drop_more}
use Rattle.std.specs.Io.KnownBytes.{Appends}
use Rattle.dv_journal.proofs.Taken.{prefix_next}
use Rattle.dv_journal.specs.Sink.{AppendsBut, AppendsPrefix}
use Rattle.dv_value.specs.declared.classes.Class.{Class}
use Rattle.dv_store.specs.declared.outcome.Outcome.{Outcome}
use Rattle.dv_run.specs.Output.{outcome_line, lines_from}

-- the line of the next outcome stands first
pub next_line : (table : List Class) (outcomes : List Outcome) (n : ℕ) (o : Outcome) →
    n < length outcomes → o ≡ get_or outcomes n o →
    lines_from table n (drop n outcomes) ≡ outcome_line table n o ++ lines_from table (n + 1) (drop (n + 1) outcomes)
next_line table outcomes n o within found =
    rw add-one (ap (lines_from table n)
    (drop_more outcomes n o within ∙ ap (λ (x : Outcome). x ∷ drop (n + 1) outcomes) (sym found)) ∙ rw add-one refl)

-- the next line joins what is gathered
pub gathered_next : (a b : Option (List ℕ)) (text : List ℕ) (table : List Class) (outcomes : List Outcome) (n : ℕ)
    (o : Outcome) (gathered longer : List ℕ) →
    n < length outcomes → o ≡ get_or outcomes n o → longer ≡ gathered ++ outcome_line table n o →
    AppendsBut a b text (gathered ++ lines_from table n (drop n outcomes))
    → AppendsBut a b text (longer ++ lines_from table (n + 1) (drop (n + 1) outcomes))
gathered_next a b text table outcomes n o gathered longer within found is so_far =
    let rest = lines_from table (n + 1) (drop (n + 1) outcomes) in
    let next : gathered ++ lines_from table n (drop n outcomes) ≡ longer ++ rest =
    ap (λ (l : List ℕ). gathered ++ l) (next_line table outcomes n o within found)
    ∙ sym (append_assoc gathered (outcome_line table n o) rest)
    ∙ ap (λ (l : List ℕ). l ++ rest) (sym is) in
    (so_far.0, so_far.1, so_far.2 ∙ ap (λ (l : List ℕ). so_far.0 ++ l) next)

-- the first part of a text and a prefix of the rest are a prefix of the text
pub first_then_prefix : (a b c : Option (List ℕ)) (first rest : List ℕ) → Appends a b first → AppendsPrefix b c rest
    → AppendsPrefix a c (first ++ rest)
first_then_prefix a b c first rest grew more =
    prefix_next a b c (first ++ rest) rest rest [] (first, grew, refl) (sym (append-nil rest)) more

-- a prefix of the first part of a text is one of the text
pub prefix_of_first : (a b : Option (List ℕ)) (first rest : List ℕ) → AppendsPrefix a b first
    → AppendsPrefix a b (first ++ rest)
prefix_of_first a b first rest cut =
    let (left, (taken, grew, whole)) = cut in
    (left ++ rest, (taken, grew, ap (λ (l : List ℕ). l ++ rest) whole ∙ append_assoc taken left rest))

pub ruleset both_parts = (Appends-trans, first_then_prefix, prefix_of_first)
