-- No time of a script that is read is cut.
use Rattle.std.proofs.Common.{◌≡◌, ◌≤◌, ℕ, zero, suc, List, [], ◌∷◌, ◌++◌, Option, Some, None, Bool, true, refl, subst, arith, codes}
use Rattle.std.specs.List.{list_all}
use Rattle.std.proofs.lemmas.Bool.{and_parts, leb-true}
use Rattle.serde_json.specs.Data.{Data, Items, no_items, item}
use Rattle.serde_json.specs.Find.{get_member}
use Rattle.dv_clock.specs.declared.limits.TheConstants.{MOST_DELAY, MOST_TICKS}
use Rattle.dv_script.specs.declared.event.Event.{Event}
use Rattle.dv_script.specs.declared.script.Cooperator.{Cooperator}
use Rattle.dv_script.specs.declared.script.NamedBody.{NamedBody}
use Rattle.dv_script.specs.declared.script.NamedCooperator.{NamedCooperator}
use Rattle.dv_value.specs.declared.classes.Class.{Class}
use Rattle.dv_forms.specs.Forms.{Each, Field, IsList, IsNumber, Key}
use Rattle.dv_reader.specs.Laws.{TimesAreKept}
use Rattle.dv_reader.specs.Limits.{ticks_in}
use Rattle.dv_script.specs.declared.body.Body.{Body}
use Rattle.dv_grammar.specs.Grammar.{plain_cooperator, IsBody, IsEvent, acts, advances, drains, expects, IsCooperator}
use Rattle.dv_grammar.specs.Grammar.{repeated, IsListed, one_event, repeats, AreListed, no_events, more_events}
use Rattle.dv_grammar.specs.Grammar.{AreEvents, is_interval, times_body, IsNamedBody, names_body}
use Rattle.dv_grammar.specs.Grammar.{IsNamedCooperator, names_cooperator}
use Rattle.dv_forms.specs.declared.versions.TheConstants.{COOPERATORS_SINCE}
use Rattle.dv_grammar.proofs.Actions.{interval_is, short_action, short_body}
use Rattle.dv_reader.specs.Times.{times_event, times_named, KeepsTimes}

short_event : (table : List Class) (d : Data) (e : Event) → IsEvent table d e → times_event e ≡ true
short_event table d _ (acts _ a g) = short_action g
short_event table _ _ (advances d n g) = refl
short_event table _ _ (drains d n g) = refl
short_event table _ _ (expects name d x g) = refl

-- what holds of each that an item stands for, holds of all
all_of : {X : Type 0} (Is : Data → X → Type 0) (test : X → Bool) → ((d : Data) (x : X) → Is d x → test x ≡ true)
    → (ds : Items) (xs : List X) → Each Is ds xs → list_all test xs ≡ true
all_of Is test one no_items [] h = refl
all_of Is test one no_items (x ∷ xs) h = absurd h
all_of Is test one (item d ds) [] h = absurd h
all_of Is test one (item d ds) (x ∷ xs) h = rw (one d x h.0, all_of Is test one ds xs h.1) refl

all_in : {X : Type 0} (Is : Data → X → Type 0) (test : X → Bool) → ((d : Data) (x : X) → Is d x → test x ≡ true)
    → (d : Data) (xs : List X) → IsList Is d xs → list_all test xs ≡ true
all_in Is test one d xs h = all_of Is test one h.0 xs h.2

both_short : (es rest : List Event) → list_all times_event es ≡ true → list_all times_event rest ≡ true
    → list_all times_event (es ++ rest) ≡ true
both_short [] rest h k = k
both_short (e ∷ es) rest h k =
    let parts = and_parts (times_event e) (list_all times_event es) h in
    rw (parts.0, both_short es rest parts.1 k) refl

repeated_short : (n : ℕ) (es : List Event) → list_all times_event es ≡ true
    → list_all times_event (repeated n es) ≡ true
repeated_short zero es h = refl
repeated_short (suc n) es h = both_short es (repeated n es) h (repeated_short n es h)

mutual
  listed_short : (table : List Class) {d : Data} {es : List Event} → IsListed table d es
      → list_all times_event es ≡ true
  listed_short table (one_event d e g) = rw (short_event table d e g) refl
  listed_short table (repeats d n ds es g h) = repeated_short n es (row_short table h)

  row_short : (table : List Class) {ds : Items} {es : List Event} → AreListed table ds es
      → list_all times_event es ≡ true
  row_short table no_events = refl
  row_short table (more_events d ds es rest g h) = both_short es rest (listed_short table g) (row_short table h)

events_short : (table : List Class) (events : List Event) (o : Option Data) → Key (AreEvents table) o events
    → list_all times_event events ≡ true
events_short table events None h = absurd h
events_short table events (Some d) h = row_short table h.2

posts_short : (table : List Class) (callers : List (List Body)) (o : Option Data)
    → Field [] (IsList (IsList (IsBody table))) o callers → list_all (λ posts. list_all times_body posts) callers ≡ true
posts_short table callers None h = rw h refl
posts_short table callers (Some d) h =
    all_in (IsList (IsBody table)) (λ posts. list_all times_body posts)
    (λ d posts k. all_in (IsBody table) times_body (λ d b l. short_body l) d posts k) d callers h

short_named : (table : List Class) (d : Data) (b : NamedBody) → IsNamedBody table d b → times_named b ≡ true
short_named table _ _ (names_body name d b g) = short_body g

bodies_short : (table : List Class) (bodies : List NamedBody) (o : Option Data)
    → Field [] (IsList (IsNamedBody table)) o bodies → list_all times_named bodies ≡ true
bodies_short table bodies None h = rw h refl
bodies_short table bodies (Some d) h = all_in (IsNamedBody table) times_named (short_named table) d bodies h

delay_short : (delay : ℕ) (o : Option Data) → Key (IsNumber 1 MOST_DELAY) o delay → is_interval delay ≡ true
delay_short delay None h = absurd h
delay_short delay (Some d) h = interval_is h

cooperator_short : (version : ℕ) (c : Cooperator) (o : Option Data)
    → Field (plain_cooperator version) (IsCooperator version) o c → is_interval c.delay ≡ true
cooperator_short version c None h = rw h refl
cooperator_short version c (Some d) h = delay_short c.delay (get_member (codes "delay") h.members) h.delay

short_named_cooperator : (d : Data) (c : NamedCooperator) → IsNamedCooperator d c
    → is_interval c.settings.delay ≡ true
short_named_cooperator _ _ (names_cooperator name d c g) = cooperator_short COOPERATORS_SINCE c (Some d) g

cooperators_short : (cooperators : List NamedCooperator) (o : Option Data)
    → Field [] (IsList IsNamedCooperator) o cooperators
    → list_all (λ c. is_interval c.settings.delay) cooperators ≡ true
cooperators_short cooperators None h = rw h refl
cooperators_short cooperators (Some d) h =
    all_in IsNamedCooperator (λ c. is_interval c.settings.delay) short_named_cooperator d cooperators h

pub times_are_kept : TimesAreKept
times_are_kept bytes s h =
    let shape = h.shape.shape in
    let few : ticks_in h.draft.script.events ≤ MOST_TICKS =
    leb-true (ticks_in h.draft.script.events) MOST_TICKS (and_parts _ _ h.small).1 in
    subst KeepsTimes h.same (record {
      events =
          events_short h.draft.script.classes h.draft.script.events
          (get_member (codes "events") shape.members) shape.events;
      posts =
          posts_short h.draft.script.classes h.draft.script.callers
          (get_member (codes "callers") shape.members) shape.callers;
      bodies =
          bodies_short h.draft.script.classes h.draft.script.bodies
          (get_member (codes "bodies") shape.members) shape.bodies;
      cooperator =
          cooperator_short h.draft.version h.draft.script.cooperator (get_member (codes "cooperator") shape.members)
          shape.cooperator;
      cooperators =
          cooperators_short h.draft.script.cooperators (get_member (codes "cooperators") shape.members)
          shape.cooperators;
      advances = omega (arith, few);
    })
