-- The line of an entry.
use Rattle.std.specs.Prelude.{◌≡◌, ℕ, Option, List, ◌++◌, codes}
use Rattle.std.specs.Fmt.{decimal}
use Rattle.json.specs.Print.{quoted}
use Rattle.dv_facts.specs.Parts.{IsVisible, number_or_null}
use Rattle.dv_journal.specs.Line.{words_of}
use Rattle.dv_journal.specs.declared.entry.Entry.{Entry}
use Rattle.dv_value.specs.declared.classes.Class.{Class}

-- ,"event":EVENT,"kind":KIND,"line":LINE,"number":NUMBER, with the index of an event or null, and the line of the
-- journal
abbrev pub entry_members : List Class → Option ℕ → List ℕ → ℕ → Entry → List ℕ
entry_members table event kind number entry =
    codes ",\"event\":" ++ number_or_null event ++ codes ",\"kind\":" ++ quoted kind
    ++ codes ",\"line\":" ++ quoted (words_of table entry) ++ codes ",\"number\":" ++ decimal number

-- the line has these members, and ends nowhere within
pub record IsEntryLine (table : List Class) (event : Option ℕ) (number : ℕ) (entry : Entry)
    (line : List ℕ) : Type 0 where
  pub before : List ℕ
  pub kind : List ℕ
  pub after : List ℕ
  pub is : line ≡ before ++ entry_members table event kind number entry ++ after
  pub visible : IsVisible line

-- the line of an entry was added
pub record AddsEntry (table : List Class) (event : Option ℕ) (number : ℕ) (entry : Entry)
    (old new : List ℕ) : Type 0 where
  pub line : List ℕ
  pub grew : new ≡ old ++ line
  pub is_line : IsEntryLine table event number entry line
