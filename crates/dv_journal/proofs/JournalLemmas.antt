-- The text that is left to print, line by line.
use Rattle.std.proofs.Common.{◌≡◌, ℕ, ◌+◌, ◌<◌, List, ◌∷◌, ◌++◌, Option, length, get_or, drop, ap, sym, ◌∙◌}
use Rattle.std.proofs.Common.{append_assoc}
use Rattle.std.proofs.lemmas.List.{drop_more}
use Rattle.dv_value.specs.declared.classes.Class.{Class}
use Rattle.dv_journal.specs.declared.entry.Entry.{Entry}
use Rattle.dv_journal.specs.Sink.{AppendsBut}
use Rattle.dv_journal.specs.Line.{line_of, text_of}

-- the line of the next entry stands first
pub next_line : (table : List Class) (entries : List Entry) (n : ℕ) (entry : Entry) →
    n < length entries → entry ≡ get_or entries n entry →
    text_of table (drop n entries) ≡ line_of table entry ++ text_of table (drop (n + 1) entries)
next_line table entries n entry within found =
    ap (text_of table) (drop_more entries n entry within ∙ ap (λ (e : Entry). e ∷ drop (n + 1) entries) (sym found))

-- the next line joins what is gathered
pub gathered_next : (a b : Option (List ℕ)) (text : List ℕ) (table : List Class) (entries : List Entry) (n : ℕ)
    (entry : Entry) (gathered longer : List ℕ) →
    n < length entries → entry ≡ get_or entries n entry → longer ≡ gathered ++ line_of table entry →
    AppendsBut a b text (gathered ++ text_of table (drop n entries))
    → AppendsBut a b text (longer ++ text_of table (drop (n + 1) entries))
gathered_next a b text table entries n entry gathered longer within found is so_far =
    let rest = text_of table (drop (n + 1) entries) in
    let next : gathered ++ text_of table (drop n entries) ≡ longer ++ rest =
    ap (λ (l : List ℕ). gathered ++ l) (next_line table entries n entry within found)
    ∙ sym (append_assoc gathered (line_of table entry) rest)
    ∙ ap (λ (l : List ℕ). l ++ rest) (sym is) in
    (so_far.0, so_far.1, so_far.2 ∙ ap (λ (l : List ℕ). so_far.0 ++ l) next)
