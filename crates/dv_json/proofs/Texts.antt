-- Lines of all kinds, one kind after the other.
use Rattle.std.proofs.Common.{◌≡◌, ℕ, Bool, List, [], ◌∷◌, ◌++◌, Option, refl, ap, sym, ◌∙◌, subst, append_assoc}
use Rattle.std.proofs.Common.{flat_map}
use Rattle.std.proofs.lemmas.List.{append-nil}
use Rattle.std.proofs.lemmas.List.Concat.{flat_map-append}
use Rattle.std.proofs.KnownBytes.{Appends-trans}
use Rattle.std.specs.Io.KnownBytes.{Appends}
use Rattle.dv_facts.proofs.Added.{adds_nothing}
use Rattle.dv_facts.proofs.EntryAdded.{entry_added}
use Rattle.dv_facts.specs.Events.{event_at}
use Rattle.dv_facts.specs.Lines.{IsEntryLine, entry_members}
use Rattle.dv_journal.specs.Journal.{Written}
use Rattle.dv_journal.specs.Sink.{AppendsPrefix}
use Rattle.dv_json.proofs.Cuts.{Every, cut_lines, each_exist, empties, many_exist, prefix_longer}
use Rattle.dv_json.proofs.Lines.{gathers_both}
use Rattle.dv_json.proofs.Parts.{end_exists, outcome_exists}
use Rattle.dv_json.specs.Gathered.{CutsLines, Gathers, GathersLines, IsEnd}
use Rattle.dv_json.specs.Text.{AreSoMany, EachHasLine, HasLines, IsOutcomeLine, Writes, WritesPrefix, ended, start_line}
use Rattle.dv_posts.specs.Batches.{Batch}
use Rattle.dv_store.specs.declared.outcome.Outcome.{Outcome}
use Rattle.dv_value.specs.declared.classes.Class.{Class}

-- lines of one kind, then lines of another
pub record Both (First Second : List (List ℕ) → Type 0) (lines : List (List ℕ)) : Type 0 where
  pub first : List (List ℕ)
  pub second : List (List ℕ)
  pub are_first : First first
  pub are_second : Second second
  pub is : lines ≡ first ++ second

-- there are such lines
abbrev pub Exist : (List (List ℕ) → Type 0) → Type 0
Exist AreLines = (lines : List (List ℕ)) × AreLines lines

pub both_exist : (First Second : List (List ℕ) → Type 0) → Exist First → Exist Second → Exist (Both First Second)
both_exist First Second one two =
    (one.0 ++ two.0, record { first = one.0; second = two.0; are_first = one.1; are_second = two.1; is = refl })

pub both_gathered : {First Second : List (List ℕ) → Type 0} {a b c : Option (List ℕ)} {g h i : List ℕ}
    → GathersLines First a g b h → GathersLines Second b h c i → GathersLines (Both First Second) a g c i
both_gathered {First} {Second} {a} {b} {c} {g} {h} {i} one two = record {
  lines = one.lines ++ two.lines;
  are = record { first = one.lines; second = two.lines; are_first = one.are; are_second = two.are; is = refl };
  gathers =
      subst (λ (text : List ℕ). Gathers a g c i text) (sym (flat_map-append ended one.lines two.lines))
      (gathers_both one.gathers two.gathers);
}

-- a prefix of the first lines was written
pub cut_first : {First Second : List (List ℕ) → Type 0} {a b : Option (List ℕ)} {g : List ℕ} → CutsLines First a g b
    → Exist Second → CutsLines (Both First Second) a g b
cut_first {First} {Second} {a} {b} {g} one two = record {
  lines = one.lines ++ two.0;
  are = record { first = one.lines; second = two.0; are_first = one.are; are_second = two.1; is = refl };
  cut =
      subst (AppendsPrefix a b) (append_assoc g (flat_map ended one.lines) (flat_map ended two.0)
      ∙ ap (λ (l : List ℕ). g ++ l) (sym (flat_map-append ended one.lines two.0)))
      (prefix_longer a b (g ++ flat_map ended one.lines) (flat_map ended two.0) one.cut);
}

-- the first lines were gathered, and a prefix of the second was written
pub cut_second : {First Second : List (List ℕ) → Type 0} {a b c : Option (List ℕ)} {g h : List ℕ}
    → GathersLines First a g b h → CutsLines Second b h c → CutsLines (Both First Second) a g c
cut_second {First} {Second} {a} {b} {c} {g} {h} one two = record {
  lines = one.lines ++ two.lines;
  are = record { first = one.lines; second = two.lines; are_first = one.are; are_second = two.are; is = refl };
  cut = cut_lines a b c g h one.lines two.lines one.gathers two.cut;
}

-- all lines were gathered, and a prefix was written of what waits
pub cut_rest : {AreLines : List (List ℕ) → Type 0} {a b c : Option (List ℕ)} {g h : List ℕ}
    → GathersLines AreLines a g b h → AppendsPrefix b c h → CutsLines AreLines a g c
cut_rest {AreLines} {a} {b} {c} {g} {h} all cut = record {
  lines = all.lines;
  are = all.are;
  cut =
      subst (λ (ls : List (List ℕ)). AppendsPrefix a c (g ++ flat_map ended ls)) (append-nil all.lines)
      (cut_lines a b c g h all.lines [] all.gathers (subst (AppendsPrefix b c) (sym (append-nil h)) cut));
}

-- there is a line of each entry, of each Deferred, and for the end
pub every_entry : (table : List Class) (marks : List ℕ)
    → Every (λ number. IsEntryLine table (event_at marks number) number)
every_entry table marks number entry =
    let members = entry_members table (event_at marks number) [] number entry in
    let added = entry_added table (event_at marks number) [] number entry [] [] members members (adds_nothing []) refl
    (adds_nothing members) in
    (added.line, added.is_line)

pub every_outcome : (table : List Class) → Every (IsOutcomeLine table)
every_outcome table number outcome = outcome_exists table number outcome

pub ends_exist : (batches : List Batch) (journal : Written) (stopped : Bool) → Exist (IsEnd batches journal stopped)
ends_exist batches journal stopped =
    let last = end_exists batches journal stopped in (last.0 ∷ [], record { line = last.0; only = refl; is_line = last.1 })

module _ (table : List Class) (marks : List ℕ) (batches : List Batch) (journal : Written) (stopped : Bool)
    (outcomes : List Outcome) (left : ℕ) where
  abbrev pub Start : List (List ℕ) → Type 0
  Start lines = lines ≡ start_line ∷ []

  abbrev pub Entries : List (List ℕ) → Type 0
  Entries = EachHasLine (λ number. IsEntryLine table (event_at marks number) number) 0 journal.entries

  abbrev pub Deferreds : List (List ℕ) → Type 0
  Deferreds = EachHasLine (IsOutcomeLine table) 0 outcomes

  abbrev pub All : List (List ℕ) → Type 0
  All = Both Start (Both Entries (Both Deferreds (Both (AreSoMany left) (IsEnd batches journal stopped))))

  pub after_deferreds : Exist (Both (AreSoMany left) (IsEnd batches journal stopped))
  after_deferreds = both_exist _ _ (empties left, many_exist left) (ends_exist batches journal stopped)

  pub after_entries : Exist (Both Deferreds (Both (AreSoMany left) (IsEnd batches journal stopped)))
  after_entries = both_exist _ _ (each_exist (IsOutcomeLine table) (every_outcome table) 0 outcomes) after_deferreds

  pub after_start : Exist (Both Entries (Both Deferreds (Both (AreSoMany left) (IsEnd batches journal stopped))))
  after_start =
      both_exist _ _ (each_exist (λ number. IsEntryLine table (event_at marks number) number)
      (every_entry table marks) 0 journal.entries) after_entries

  -- they are the lines of a run
  has_lines : (lines : List (List ℕ)) → All lines
      → HasLines table marks batches journal stopped outcomes left (flat_map ended lines)
  has_lines lines all =
      let entries = all.are_second.first in
      let deferreds = all.are_second.are_second.first in
      let rest = all.are_second.are_second.are_second in
      let last = rest.are_second in
      record {
        of_entries = entries;
        of_deferreds = deferreds;
        of_left = rest.first;
        last = last.line;
        each_entry = all.are_second.are_first;
        each_deferred = all.are_second.are_second.are_first;
        all_left = rest.are_first;
        end = last.is_line;
        is = ap (flat_map ended)
            (all.is ∙ ap (λ (ls : List (List ℕ)). ls ++ all.second) all.are_first
            ∙ ap (λ (ls : List (List ℕ)). start_line ∷ ls)
            (all.are_second.is
            ∙ ap (λ (ls : List (List ℕ)). entries ++ ls) (all.are_second.are_second.is ∙ ap (λ (ls : List (List ℕ)).
            deferreds ++ ls) (rest.is ∙ ap (λ (ls : List (List ℕ)). rest.first ++ ls) last.only))
            ∙ sym (append_assoc entries deferreds (rest.first ++ last.line ∷ []))
            ∙ sym (append_assoc (entries ++ deferreds) rest.first (last.line ∷ []))));
      }

  -- all was written
  pub text_written : (a f z : Option (List ℕ)) (g l : List ℕ) → g ≡ [] → GathersLines All a g f l → Appends f z l
      → Writes (HasLines table marks batches journal stopped outcomes left) a z
  text_written a f z g l empty all rest =
      let (part, grew, whole) = all.gathers.written in
      record {
        text = flat_map ended all.lines;
        is_text = has_lines all.lines all.are;
        written =
            subst (Appends a z) (sym whole ∙ ap (λ (waiting : List ℕ). waiting ++ flat_map ended all.lines) empty)
            (Appends-trans a f z part l grew rest);
      }

  -- a prefix was
  pub text_cut : (a z : Option (List ℕ)) (g : List ℕ) → g ≡ [] → CutsLines All a g z
      → WritesPrefix (HasLines table marks batches journal stopped outcomes left) a z
  text_cut a z g empty cut = record {
    text = flat_map ended cut.lines;
    is_text = has_lines cut.lines cut.are;
    written = subst (λ (waiting : List ℕ). AppendsPrefix a z (waiting ++ flat_map ended cut.lines)) empty cut.cut;
  }
