-- Whether a script reads, and its version, don't depend on whether its repeats are written out.
use Rattle.std.proofs.Common.{◌≡◌, ℕ, zero, suc, Bool, true, false, ◌&&◌, List, [], ◌∷◌, ◌++◌, Option, Some, None}
use Rattle.std.proofs.Common.{is_some, option_and_then, option_map, refl, sym, ap, ◌∙◌, codes}
use Rattle.serde_json.specs.Data.{Data, array, Items, no_items, item}
use Rattle.serde_json.specs.Find.{as_array, get}
use Rattle.serde_json.specs.Read.{max_depth}
use Rattle.dv_value.specs.declared.classes.Class.{Class}
use Rattle.dv_script.specs.declared.event.Event.{Event}
use Rattle.dv_script.specs.declared.limits.TheConstants.{USUAL_LIMIT}
use Rattle.dv_forms.specs.declared.versions.TheConstants.{LAST_VERSION}
use Rattle.dv_forms.specs.Limits.{most_limit}
use Rattle.dv_forms.specs.Parts.{declaration_at, field, fields_at, list_at, number_at, table_for}
use Rattle.dv_forms.specs.Answer.{with_front}
use Rattle.dv_forms.specs.Repeat.{repeat_at}
use Rattle.dv_grammar.specs.declared.draft.Draft.{Draft}
use Rattle.dv_grammar.specs.Grammar.{keys_of, plain_cooperator, repeated}
use Rattle.dv_grammar.specs.Shape.{all_listed, event_at, events_at, events_in, listed_at, listed_by, script_at}
use Rattle.dv_grammar.specs.Shape.{script_by}
use Rattle.dv_grammar.specs.Shape.{caller_at, cooperator_at, named_body_at, pool_at, named_cooperator_at, times_of}

-- ---- events

is_some-map : {X Y : Type 0} (f : X → Y) (o : Option X) → is_some (option_map f o) ≡ is_some o
is_some-map f None = refl
is_some-map f (Some x) = refl

is_some-row : (o rest : Option (List Event)) → is_some (option_and_then (λ es. with_front es rest) o)
    ≡ (is_some o && is_some rest)
is_some-row None rest = refl
is_some-row (Some es) None = refl
is_some-row (Some es) (Some xs) = refl

listed_same : (f g : Items → Option (List Event)) → ((ds : Items) → is_some (f ds) ≡ is_some (g ds))
    → (r : Option (ℕ × Items)) (o : Option Event)
    → is_some (listed_by f false r o) ≡ is_some (listed_by g true r o)
listed_same f g same None o = refl
listed_same f g same (Some r) o =
    is_some-map (repeated (times_of false r.0)) (f r.1) ∙ same r.1
    ∙ sym (is_some-map (repeated (times_of true r.0)) (g r.1))

row_same : (f g : Items → Option (List Event)) → ((ds : Items) → is_some (f ds) ≡ is_some (g ds)) → (table : List Class)
    → (ds : Items)
    → is_some (all_listed (listed_at f false table) ds) ≡ is_some (all_listed (listed_at g true table) ds)
row_same f g same table no_items = refl
row_same f g same table (item d ds) =
    rw (
      is_some-row (listed_at f false table d) (all_listed (listed_at f false table) ds),
      is_some-row (listed_at g true table d) (all_listed (listed_at g true table) ds),
      listed_same f g same (repeat_at d) (event_at table d),
      row_same f g same table ds,
    ) refl

all_same : (n : ℕ) (table : List Class) (ds : Items)
    → is_some (events_at false table n ds) ≡ is_some (events_at true table n ds)
unfolding events_at
all_same zero table ds = refl
all_same (suc n) table ds = row_same (events_at false table n) (events_at true table n) (all_same n table) table ds

in_same : (table : List Class) (o : Option Items) → is_some (option_and_then (events_at false table max_depth) o)
    ≡ is_some (option_and_then (events_at true table max_depth) o)
in_same table None = refl
in_same table (Some ds) = all_same max_depth table ds

key_same : (table : List Class) (o : Option Data) → is_some (option_and_then (events_in false table) o)
    ≡ is_some (option_and_then (events_in true table) o)
key_same table None = refl
key_same table (Some d) = in_same table (as_array d)

-- ---- scripts

abbrev pub version_of : Option Draft → Option ℕ
version_of o = option_map (λ (x : Draft). x.version) o

then_same : {A : Type 0} (o : Option A) (f g : A → Option Draft) → ((x : A) → version_of (f x) ≡ version_of (g x))
    → version_of (option_and_then f o) ≡ version_of (option_and_then g o)
then_same None f g h = refl
then_same (Some x) f g h = h x

last_same : (o p : Option (List Event)) (make : List Event → Draft) (version : ℕ) → is_some o ≡ is_some p
    → ((es : List Event) → (make es).version ≡ version)
    → version_of (option_and_then (λ es. Some (make es)) o) ≡ version_of (option_and_then (λ es. Some (make es)) p)
last_same None None make version same is = refl
last_same None (Some ys) make version same is = cc
last_same (Some xs) None make version same is = cc
last_same (Some xs) (Some ys) make version same is = rw (is xs, is ys) refl

pub outline : (d : Data) → version_of (script_by false d) ≡ version_of (script_at d)
unfolding script_by
outline d =
    then_same (option_and_then (number_at 1 LAST_VERSION) (get (codes "version") d)) _ _ (λ v.
    then_same (fields_at (keys_of v) d) _ _ (λ t.
    then_same (field USUAL_LIMIT (number_at 0 (most_limit v)) (get (codes "limit") d)) _ _ (λ l.
    then_same (field (plain_cooperator v) (cooperator_at v) (get (codes "cooperator") d)) _ _ (λ o.
    then_same (field [] (list_at named_cooperator_at) (get (codes "cooperators") d)) _ _ (λ w.
    then_same (field [] (list_at pool_at) (get (codes "pools") d)) _ _ (λ q.
    then_same (field [] (list_at declaration_at) (get (codes "classes") d)) _ _ (λ c.
    then_same (table_for v c) _ _ (λ (table : List Class × Bool).
    then_same (field [] (list_at (named_body_at table.0)) (get (codes "bodies") d)) _ _ (λ z.
    then_same (field [] (list_at (caller_at table.0)) (get (codes "callers") d)) _ _ (λ p.
    last_same (option_and_then (events_in false table.0) (get (codes "events") d))
    (option_and_then (events_in true table.0) (get (codes "events") d)) _ v
    (key_same table.0 (get (codes "events") d)) (λ es. refl)))))))))))
