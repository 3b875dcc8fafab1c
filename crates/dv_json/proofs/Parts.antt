-- Parts of lines, one after the other.
use Rattle.std.proofs.Common.{◌≡◌, ◌-◌, ℕ, Bool, List, [], ◌++◌, OnOk, Result, Ok, Err, codes, length, refl, ap, ◌∙◌}
use Rattle.std.proofs.Common.{append_assoc, ◌∷◌, map}
use Rattle.std.specs.Fmt.{decimal}
use Rattle.dv_facts.proofs.Added.{adds_nothing}
use Rattle.dv_facts.proofs.Visible.{AllVisible, visible_bool, visible_both, visible_decimal, visible_list, visible_quoted}
use Rattle.dv_facts.specs.Parts.{Adds, IsVisible, bool_text}
use Rattle.dv_journal.specs.Journal.{Written, total_weight}
use Rattle.dv_journal.specs.Line.{name_text}
use Rattle.dv_journal.specs.Ending.{ending_of, is_at_limit}
use Rattle.dv_journal.specs.State.{hash, state_text}
use Rattle.dv_journal.specs.declared.ending.Ending.{Ending}
use Rattle.dv_journal.specs.declared.ending.Ending.TheVariants.{Over, AtLimit, Unmet}
use Rattle.dv_json.specs.Gathered.{AddsEnd, AddsOutcome, AddsShown, AddsWork}
use Rattle.dv_json.specs.Text.{IsEndLine, IsOutcomeLine, batches_member, ended, totals, unmet_text}
use Rattle.dv_posts.specs.Batches.{Batch}
use Rattle.dv_posts.specs.declared.posted.Posted.{Posted}
use Rattle.dv_run.specs.Output.{outcome_line, pauses_text}
use Rattle.dv_store.specs.declared.outcome.Outcome.{Outcome}
use Rattle.dv_survey.specs.Text.{batch_text, batches_text, posted_text}
use Rattle.dv_value.specs.declared.classes.Class.{Class}
use Rattle.json.specs.Print.{quoted}

-- one text, then another
pub text_next : (a b c s t : List ℕ) → b ≡ a ++ s → c ≡ b ++ t → c ≡ a ++ (s ++ t)
text_next a b c s t first second = second ∙ ap (λ (l : List ℕ). l ++ t) first ∙ append_assoc a s t

-- an outcome line without its end
abbrev words_of : List Class → ℕ → Outcome → List ℕ
words_of table number o =
    hash number ++ codes " " ++ name_text o.name ++ codes " " ++ pauses_text o.pauses ++ state_text table o.state

-- a line that was written into an empty text, and of which the end was taken
pub shown_added : {A E : Type 0} (r : Result A E) (table : List Class) (number : ℕ) (outcome : Outcome)
    (old new empty line left shown : List ℕ) →
    OnOk r (new ≡ old ++ (codes ",\"line\":" ++ quoted shown)) → empty ≡ []
    → line ≡ empty ++ outcome_line table number outcome →
    ((words : List ℕ) → line ≡ words ++ codes "\n" → left ≡ words) → shown ≡ left
    → OnOk r (AddsShown table number outcome old new)
shown_added (Ok x) table number outcome old new empty line left shown grew none written taken same = record {
  shown = shown;
  shows =
      ap ended (same ∙ taken (words_of table number outcome)
      (written ∙ ap (λ (l : List ℕ). l ++ outcome_line table number outcome) none));
  grew = grew;
}
shown_added (Err e) table number outcome old new empty line left shown grew none written taken same = tt

-- the line of a Deferred, in its parts
pub outcome_added : {A E : Type 0} (r : Result A E) (table : List Class) (number : ℕ) (outcome : Outcome)
    (a b c d e f : List ℕ) → OnOk r (Adds e f) →
    Adds a b → AddsShown table number outcome b c → Adds c d → e ≡ d ++ (codes ",\"number\":" ++ decimal number)
    → OnOk r (AddsOutcome table number outcome a f)
outcome_added (Ok x) table number outcome a b c d e f after before told between numbered =
    let shown = codes ",\"line\":" ++ quoted told.shown in
    let at = codes ",\"number\":" ++ decimal number in
    record {
      line = before.text ++ shown ++ between.text ++ at ++ after.text;
      grew = text_next _ _ _ (before.text ++ shown ++ between.text ++ at) _
          (text_next _ _ _ (before.text ++ shown ++ between.text) _ (text_next _ _ _ (before.text ++ shown) _
          (text_next _ _ _ before.text _ before.is told.grew) between.is) numbered) after.is;
      is_line = record {
        before = before.text;
        shown = told.shown;
        between = between.text;
        after = after.text;
        shows = told.shows;
        is = refl;
        visible = visible_both (before.text ++ shown ++ between.text ++ at) after.text
            (visible_both (before.text ++ shown ++ between.text) at
            (visible_both (before.text ++ shown) between.text (visible_both before.text shown before.visible
            (visible_quoted told.shown)) between.visible) (visible_decimal number)) after.visible;
      };
    }
outcome_added (Err e') table number outcome a b c d e f after before told between numbered = tt

-- what is printed at the end, member by member
pub totals_added : {A E : Type 0} (r : Result A E) (limit limit' : ℕ) (ending ending' : Ending) (stopped : Bool)
    (entries entries' time weight weight' : ℕ) (a b c d e f g : List ℕ) →
    OnOk r (g ≡ f ++ codes "}") → limit ≡ limit' → ending ≡ ending' → stopped ≡ is_at_limit ending
    → entries ≡ entries' → weight ≡ weight'
    → b ≡ a ++ (codes ",\"limit\":" ++ decimal limit)
    → c ≡ b ++ (codes ",\"stopped\":" ++ bool_text stopped) →
    d ≡ c ++ (codes ",\"time\":" ++ decimal time)
    → e ≡ d ++ (codes ",\"type\":\"end\",\"unmet\":" ++ unmet_text ending entries)
    → f ≡ e ++ (codes ",\"weight\":" ++ decimal weight)
    → OnOk r (g ≡ a ++ totals limit' ending' entries' time weight')
totals_added (Ok x) limit limit' ending ending' stopped entries entries' time weight weight' a b c d e f g last same ends
    halts counts weighs first second third fourth fifth =
    let limited = codes ",\"limit\":" ++ decimal limit in
    let halted = codes ",\"stopped\":" ++ bool_text (is_at_limit ending) in
    let timed = codes ",\"time\":" ++ decimal time in
    let missed = codes ",\"type\":\"end\",\"unmet\":" ++ unmet_text ending entries in
    let weighed = codes ",\"weight\":" ++ decimal weight in
    let halts_so : c ≡ b ++ halted = second ∙ ap (λ (h : Bool). b ++ (codes ",\"stopped\":" ++ bool_text h)) halts in
    text_next a f g (limited ++ halted ++ timed ++ missed ++ weighed) (codes "}")
    (text_next a e f (limited ++ halted ++ timed ++ missed) weighed
    (text_next a d e (limited ++ halted ++ timed) missed
    (text_next a c d (limited ++ halted) timed (text_next a b c limited halted first halts_so) third) fourth) fifth) last
    ∙ ap (λ (n : ℕ). a ++ totals n ending entries time weight) same
    ∙ ap (λ (x : Ending). a ++ totals limit' x entries time weight) ends
    ∙ ap (λ (n : ℕ). a ++ totals limit' ending' n time weight) counts
    ∙ ap (λ (n : ℕ). a ++ totals limit' ending' entries' time n) weighs
totals_added (Err e') limit limit' ending ending' stopped entries entries' time weight weight' a b c d e f g last same ends
    halts counts weighs first second third fourth fifth = tt

-- a text that ends in another way
pub told_as : {A E : Type 0} (r : Result A E) (a b before said meant : List ℕ) → OnOk r (b ≡ a ++ (before ++ said))
    → said ≡ meant → OnOk r (b ≡ a ++ (before ++ meant))
told_as (Ok x) a b before said meant told same = told ∙ ap (λ (l : List ℕ). a ++ (before ++ l)) same
told_as (Err e) a b before said meant told same = tt

visible_unmet : (ending : Ending) (entries : ℕ) → IsVisible (unmet_text ending entries)
visible_unmet Over entries = refl
visible_unmet AtLimit entries = refl
visible_unmet Unmet entries = visible_decimal (entries - 1)

-- what is printed at the end ends no line
visible_totals : (limit : ℕ) (ending : Ending) (entries time weight : ℕ)
    → IsVisible (totals limit ending entries time weight)
visible_totals limit ending entries time weight =
    let limited = codes ",\"limit\":" ++ decimal limit in
    let halted = limited ++ (codes ",\"stopped\":" ++ bool_text (is_at_limit ending)) in
    let timed = halted ++ (codes ",\"time\":" ++ decimal time) in
    let missed = timed ++ (codes ",\"type\":\"end\",\"unmet\":" ++ unmet_text ending entries) in
    visible_both (missed ++ (codes ",\"weight\":" ++ decimal weight)) (codes "}")
    (visible_both missed (codes ",\"weight\":" ++ decimal weight)
    (visible_both timed (codes ",\"type\":\"end\",\"unmet\":" ++ unmet_text ending entries)
    (visible_both halted (codes ",\"time\":" ++ decimal time)
    (visible_both limited (codes ",\"stopped\":" ++ bool_text (is_at_limit ending)) (visible_decimal limit)
    (visible_bool (is_at_limit ending)))
    (visible_decimal time)) (visible_unmet ending entries)) (visible_decimal weight)) refl

-- the counts of a journal, of a run that stopped or didn't
abbrev pub totals_of : Written → Bool → ℕ → List ℕ
totals_of journal stopped time =
    totals journal.limit (ending_of stopped journal.entries) (length journal.entries) time (total_weight journal.entries)

-- batches end no line
visible_posted : (posted : Posted) → IsVisible (posted_text posted)
visible_posted posted =
    let first = codes "[" ++ decimal posted.caller in
    visible_both ((first ++ codes ",") ++ decimal posted.index) (codes "]")
    (visible_both (first ++ codes ",") (decimal posted.index)
    (visible_both first (codes ",") (visible_decimal posted.caller) refl) (visible_decimal posted.index)) refl

visible_posts : (batch : Batch) → AllVisible (map posted_text batch)
visible_posts [] = tt
visible_posts (posted ∷ batch) = (visible_posted posted, visible_posts batch)

visible_batches : (batches : List Batch) → AllVisible (map batch_text batches)
visible_batches [] = tt
visible_batches (batch ∷ batches) = (visible_list (map posted_text batch) (visible_posts batch), visible_batches batches)

visible_member : (batches : List Batch) → IsVisible (batches_member batches)
visible_member batches = visible_list (map batch_text batches) (visible_batches batches)

-- the batches, and then what follows them
pub work_added : {A E : Type 0} (r : Result A E) (batches : List Batch) (a b c d e : List ℕ) → OnOk r (Adds d e) →
    b ≡ a ++ codes "{\"batches\":" → c ≡ b ++ batches_text batches → d ≡ c ++ codes ",\"jobs\":"
    → OnOk r (AddsWork batches a e)
work_added (Ok x) batches a b c d e more first second third =
    let jobs = codes ",\"jobs\":" in
    record {
      after = jobs ++ more.text;
      grew = text_next a c e (batches_member batches) (jobs ++ more.text)
          (text_next a b c (codes "{\"batches\":") (batches_text batches) first second)
          (text_next c d e jobs more.text third more.is);
      visible = more.visible;
    }
work_added (Err e') batches a b c d e more first second third = tt

-- the line that ends a run, in its parts
pub end_added : {A E : Type 0} (r : Result A E)
    (batches : List Batch) (journal : Written) (stopped : Bool) (time : ℕ) (a b c : List ℕ) →
    OnOk r (c ≡ b ++ totals_of journal stopped time) → AddsWork batches a b
    → OnOk r (AddsEnd batches journal stopped a c)
end_added (Ok x) batches journal stopped time a b c told work =
    let last = totals_of journal stopped time in
    let member = batches_member batches in
    record {
      line = member ++ work.after ++ last;
      grew = text_next a b c (member ++ work.after) last work.grew told;
      is_line = record {
        between = work.after;
        time = time;
        is = refl;
        visible =
            visible_both (member ++ work.after) last
            (visible_both member work.after (visible_member batches) work.visible)
            (visible_totals journal.limit (ending_of stopped journal.entries) (length journal.entries) time
            (total_weight journal.entries));
      };
    }
end_added (Err e) batches journal stopped time a b c told work = tt

-- there is a line of each Deferred
pub outcome_exists : (table : List Class) (number : ℕ) (outcome : Outcome)
    → (line : List ℕ) × IsOutcomeLine table number outcome line
outcome_exists table number outcome =
    let shown = codes ",\"line\":" ++ quoted (words_of table number outcome) in
    let at = codes ",\"number\":" ++ decimal number in
    let nothing : (a : List ℕ) → Adds a a = adds_nothing in
    let told : AddsShown table number outcome [] shown =
    record { shown = words_of table number outcome; shows = refl; grew = refl } in
    let added : AddsOutcome table number outcome [] (shown ++ at) =
    outcome_added {A = ℕ} {E = ℕ} (Ok 0) table number outcome [] [] shown shown (shown ++ at) (shown ++ at)
    (nothing (shown ++ at)) (nothing []) told (nothing shown) refl in
    (added.line, added.is_line)

-- there is a line that ends a run
pub end_exists : (batches : List Batch) (journal : Written) (stopped : Bool)
    → (line : List ℕ) × IsEndLine batches journal stopped line
end_exists batches journal stopped =
    let begun = batches_member batches ++ codes ",\"jobs\":" in
    let work : AddsWork batches [] begun =
    record { after = codes ",\"jobs\":"; grew = refl; visible = refl } in
    let added : AddsEnd batches journal stopped [] (begun ++ totals_of journal stopped 0) =
    end_added {A = ℕ} {E = ℕ} (Ok 0) batches journal stopped 0 [] begun (begun ++ totals_of journal stopped 0) refl work
    in
    (added.line, added.is_line)
