-- The line of an entry, in three parts.
use Rattle.std.proofs.Common.{◌≡◌, ℕ, List, ◌++◌, Option, codes, refl, ap, ◌∙◌, append_assoc}
use Rattle.std.specs.Fmt.{decimal}
use Rattle.json.specs.Print.{quoted}
use Rattle.dv_facts.proofs.Visible.{visible_both, visible_decimal, visible_number_or_null, visible_quoted}
use Rattle.dv_facts.specs.Lines.{AddsEntry, entry_members}
use Rattle.dv_facts.specs.Parts.{Adds, IsVisible, number_or_null}
use Rattle.dv_journal.specs.Line.{words_of}
use Rattle.dv_journal.specs.declared.entry.Entry.{Entry}
use Rattle.dv_value.specs.declared.classes.Class.{Class}

module _ (table : List Class) (event : Option ℕ) (kind : List ℕ) (number : ℕ) (entry : Entry) where
  -- they end no line
  visible_members : IsVisible (entry_members table event kind number entry)
  visible_members =
      let told = number_or_null event ++ codes ",\"kind\":" in
      let shown = told ++ quoted kind ++ codes ",\"line\":" in
      visible_both (shown ++ quoted (words_of table entry) ++ codes ",\"number\":") (decimal number)
      (visible_both (shown ++ quoted (words_of table entry)) (codes ",\"number\":")
      (visible_both shown (quoted (words_of table entry))
      (visible_both (told ++ quoted kind) (codes ",\"line\":") (visible_both told (quoted kind) (visible_both
      (number_or_null event) (codes ",\"kind\":") (visible_number_or_null event) refl) (visible_quoted kind)) refl)
      (visible_quoted (words_of table entry))) refl) (visible_decimal number)

  -- what stands before them, they, and what stands after them
  pub entry_added : (a b c d : List ℕ) → Adds a b → c ≡ b ++ entry_members table event kind number entry → Adds c d
      → AddsEntry table event number entry a d
  entry_added a b c d before members after =
      let line = before.text ++ entry_members table event kind number entry ++ after.text in
      record {
        line = line;
        grew =
            after.is ∙ ap (λ (l : List ℕ). l ++ after.text)
            (members ∙ ap (λ (l : List ℕ). l ++ entry_members table event kind number entry) before.is
            ∙ append_assoc a before.text (entry_members table event kind number entry))
            ∙ append_assoc a (before.text ++ entry_members table event kind number entry) after.text;
        is_line = record {
          before = before.text;
          kind = kind;
          after = after.text;
          is = refl;
          visible =
              visible_both (before.text ++ entry_members table event kind number entry) after.text (visible_both
              before.text (entry_members table event kind number entry) before.visible visible_members) after.visible;
        };
      }
