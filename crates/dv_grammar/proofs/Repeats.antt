-- Events that repeat: what is read of them is in the grammar, and what is in the grammar is read.
use Rattle.std.proofs.Common.{◌≡◌, ◌≢◌, ℕ, zero, suc, ◌≤◌, ◌<◌, ◌+◌, ◌-◌, Bool, true, false, ◌&&◌, List, [], ◌∷◌, ◌++◌}
use Rattle.std.proofs.Common.{Option, Some, None, is_some, option_and_then, option_map, bytes_eq, refl, sym, ap, ◌∙◌}
use Rattle.std.proofs.Common.{arith, codes}
use Rattle.std.proofs.Common.{append-nil, append_assoc}
use Rattle.std.proofs.lemmas.Slice.Eq.{bytes_eq-Decides}
use Rattle.serde_json.specs.Data.{Data, string, array, Items, no_items, item, depth, items_depth}
use Rattle.serde_json.specs.Find.{as_array}
use Rattle.serde_json.specs.Read.{max_depth}
use Rattle.dv_value.specs.declared.classes.Class.{Class}
use Rattle.dv_script.specs.declared.event.Event.{Event}
use Rattle.dv_forms.specs.Answer.{with_front}
use Rattle.dv_forms.specs.Forms.{call, IsNumber, Key}
use Rattle.dv_forms.specs.Parts.{call_at, number_at}
use Rattle.dv_forms.specs.Repeat.{repeat_at, times_at}
use Rattle.dv_forms.specs.declared.limits.TheConstants.{MOST_TIMES}
use Rattle.dv_grammar.specs.Grammar.{repeated, IsEvent, IsListed, one_event, repeats, AreListed, no_events, more_events}
use Rattle.dv_grammar.specs.Grammar.{AreEvents}
use Rattle.dv_grammar.specs.Shape.{action_by, all_listed, event_at, event_of, events_at, events_in, listed_at, listed_by}
use Rattle.dv_grammar.specs.Shape.{other_event, times_of}
use Rattle.dv_grammar.proofs.Steps.{bind, either_way, mapped, some_injective}
use Rattle.dv_grammar.proofs.Leaves.{array_is, number_is, complete_number}
use Rattle.dv_grammar.proofs.Events.{sound_event, complete_event}

-- ---- once more

-- what is there once
pub once : (es : List Event) → es ≡ repeated 1 es
once es = sym (append-nil es)

-- what is added at the end is one time more
pub once_more : (n : ℕ) (es : List Event) → repeated n es ++ es ≡ repeated (suc n) es
once_more zero es = once es
once_more (suc n) es = append_assoc es (repeated n es) es ∙ ap (λ (x : List Event). es ++ x) (once_more n es)

-- where the events stand so often, they do once more when they are read again
pub again : {o : Option (List Event)} (es more all new : List Event) (n : ℕ) → o ≡ Some es → o ≡ Some more
    → all ≡ repeated (suc n) es → new ≡ all ++ more
    → (x : List Event) × (o ≡ Some x) × (new ≡ repeated (suc (n + 1)) x)
again es more all new n is also whole added =
    let same : more ≡ es = some_injective (sym also ∙ is) in
    let next : suc n ≡ n + 1 = omega arith in
    let front : new ≡ repeated (suc n) es ++ es = rw (same, whole) at added in
    (es, is, front ∙ once_more (suc n) es ∙ ap (λ (k : ℕ). repeated (suc k) es) next)

-- ---- what is read is in the grammar

times_is : (ds : Items) (r : ℕ × Items) → times_at ds ≡ Some r
    → (c : Data) × (ds ≡ item c (item (array r.1) no_items)) × IsNumber 0 MOST_TIMES c r.0
unfolding times_at
times_is (item c (item (array ds) no_items)) r e =
    mapped (number_at 0 MOST_TIMES c) _ r e (λ n n_is made.
    rw (← made) (c, refl, number_is 0 MOST_TIMES c n n_is))
times_is _ r e = cc

repeat_is : (d : Data) (r : ℕ × Items) → repeat_at d ≡ Some r
    → (c : Data) × (d ≡ call (codes "repeat") (c ∷ array r.1 ∷ [])) × IsNumber 0 MOST_TIMES c r.0
unfolding repeat_at
repeat_is (array (item (string word) ds)) r e =
    either_way (bytes_eq word (codes "repeat")) (times_at ds) None (Some r) e
    (λ is found. let t = times_is ds r found in
    rw ((bytes_eq-Decides word (codes "repeat")).0 is, t.1) (t.0, refl, t.2))
    (λ isnt none. cc)
repeat_is _ r e = cc

sound_listed : (inner : Items → Option (List Event)) (table : List Class)
    → ((ds : Items) (es : List Event) → inner ds ≡ Some es → AreListed table ds es)
    → (d : Data) (es : List Event) (o : Option (ℕ × Items)) → repeat_at d ≡ o
    → listed_by inner true o (event_at table d) ≡ Some es → IsListed table d es
sound_listed inner table below d es None is e =
    mapped (event_at table d) _ es e (λ x x_is made. rw (← made) (one_event d x (sound_event table d x x_is)))
sound_listed inner table below d es (Some r) is e =
    mapped (inner r.1) (repeated r.0) es e (λ xs xs_is made.
    let t = repeat_is d r is in rw (t.1, ← made) (repeats t.0 r.0 r.1 xs t.2 (below r.1 xs xs_is)))

sound_row : (inner : Items → Option (List Event)) (table : List Class)
    → ((ds : Items) (es : List Event) → inner ds ≡ Some es → AreListed table ds es)
    → (ds : Items) (es : List Event) → all_listed (listed_at inner true table) ds ≡ Some es → AreListed table ds es
sound_row inner table below no_items es e = rw (← some_injective e) no_events
sound_row inner table below (item d ds) es e =
    bind (listed_at inner true table d) _ es e (λ xs xs_is xs_then.
    mapped (all_listed (listed_at inner true table) ds) _ es xs_then (λ ys ys_is made.
    rw (← made) (more_events d ds xs ys (sound_listed inner table below d xs (repeat_at d) refl xs_is)
    (sound_row inner table below ds ys ys_is))))

sound_all : (n : ℕ) (table : List Class) (ds : Items) (es : List Event) → events_at true table n ds ≡ Some es
    → AreListed table ds es
unfolding events_at
sound_all zero table ds es e = cc
sound_all (suc n) table ds es e = sound_row (events_at true table n) table (sound_all n table) ds es e

pub sound_events : (table : List Class) (d : Data) (es : List Event) → events_in true table d ≡ Some es
    → AreEvents table d es
sound_events table d es e =
    bind (as_array d) _ es e (λ ds ds_is ds_then. (ds, array_is d ds ds_is, sound_all max_depth table ds es ds_then))

-- ---- what is in the grammar is read

no_repeat_by : (table : List Class) (word : List ℕ) (ds : Items) (e : Event) (b : Bool)
    → bytes_eq word (codes "repeat") ≡ b → event_at table (array (item (string word) ds)) ≡ Some e
    → repeat_at (array (item (string word) ds)) ≡ None
unfolding repeat_at event_at other_event event_of action_by call_at
no_repeat_by table word ds e true is h =
    let same : word ≡ codes "repeat" = (bytes_eq-Decides word (codes "repeat")).0 is in
    let found : event_at table (array (item (string (codes "repeat")) ds)) ≡ Some e = rw same at h in
    let none : event_at table (array (item (string (codes "repeat")) ds)) ≡ None = refl in
    cc
no_repeat_by table word ds e false is h = rw is refl

-- an event is no repeat
pub no_repeat : (table : List Class) (d : Data) (e : Event) → event_at table d ≡ Some e → repeat_at d ≡ None
unfolding repeat_at
no_repeat table (array (item (string word) ds)) e h =
    no_repeat_by table word ds e (bytes_eq word (codes "repeat")) refl h
no_repeat table _ e h = refl

-- a repeat is one
pub is_repeat : (d : Data) (n : ℕ) (ds : Items) → IsNumber 0 MOST_TIMES d n
    → repeat_at (call (codes "repeat") (d ∷ array ds ∷ [])) ≡ Some (n, ds)
unfolding repeat_at times_at
is_repeat d n ds h = rw (complete_number 0 MOST_TIMES d n h) refl

mutual
  unfolding events_at

  complete_listed : (n : ℕ) (table : List Class) {d : Data} {es : List Event} → IsListed table d es → depth d ≤ n
      → n ≤ max_depth → listed_at (events_at true table n) true table d ≡ Some es
  complete_listed n table (one_event d e g) deep most =
      let is : event_at table d ≡ Some e = complete_event table d e (omega (arith, deep, most)) g in
      rw (no_repeat table d e is, is) refl
  complete_listed zero table (repeats d k ds es g h) deep most = absurd (omega (arith, deep))
  complete_listed (suc n) table (repeats d k ds es g h) deep most =
      rw (is_repeat d k ds g) (rw (complete_row n table h (omega (arith, deep)) (omega (arith, most))) refl)

  complete_row : (n : ℕ) (table : List Class) {ds : Items} {es : List Event} → AreListed table ds es
      → items_depth ds ≤ n → n ≤ max_depth
      → all_listed (listed_at (events_at true table n) true table) ds ≡ Some es
  complete_row n table no_events deep most = refl
  complete_row n table (more_events d ds es rest g h) deep most =
      rw (complete_listed n table g (omega (arith, deep)) most, complete_row n table h (omega (arith, deep)) most) refl

complete_all : (n : ℕ) (table : List Class) (ds : Items) (es : List Event) → items_depth ds < n → n ≤ max_depth
    → AreListed table ds es → events_at true table n ds ≡ Some es
unfolding events_at
complete_all zero table ds es deep most h = absurd (omega (arith, deep))
complete_all (suc n) table ds es deep most h =
    complete_row n table h (omega (arith, deep)) (omega (arith, most))

pub complete_events : (table : List Class) (d : Data) (es : List Event) → depth d ≤ max_depth → AreEvents table d es
    → events_in true table d ≡ Some es
complete_events table d es deep h =
    let inside : suc (items_depth h.0) ≤ max_depth = rw h.1 at deep in
    rw h.1 (complete_all max_depth table h.0 es (omega (arith, inside)) (omega arith) h.2)
