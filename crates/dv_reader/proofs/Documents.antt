-- What documents say.
use Rattle.std.proofs.Common.{◌≡◌, ℕ, Bool, true, false, List, Option, Some, None, refl, sym, ap, subst, ◌∙◌, ◌⊎◌, inl}
use Rattle.std.proofs.Common.{inr, arith}
use Rattle.serde_json.specs.Data.{Data}
use Rattle.serde_json.proofs.Nesting.{depth-read}
use Rattle.dv_script.specs.declared.script.Script.{Script}
use Rattle.dv_grammar.specs.declared.draft.Draft.{Draft}
use Rattle.dv_reader.specs.declared.error.ScriptFault.TheVariants.{TooLong, NotJson, BadVersion, BadShape, TooMany}
use Rattle.dv_reader.specs.declared.error.ScriptFault.TheVariants.{BadName, BadClass, OutOfMemory, BadPool, BadBody}
use Rattle.dv_reader.specs.declared.error.ScriptFault.TheVariants.{BadCooperator}
use Rattle.dv_grammar.specs.Grammar.{IsScript}
use Rattle.dv_reader.specs.Limits.{is_small}
use Rattle.dv_reader.specs.Refusal.{IsDocument, HasVersion, HasShape, keeps_version, are_named, are_known, are_pooled}
use Rattle.dv_reader.specs.Refusal.{have_bodies, have_cooperators, Says}
use Rattle.dv_reader.specs.Passes.{is_version, shape_at}
use Rattle.dv_reader.specs.Laws.{IsRefused, SaysOneAtMost, RefusedSaysNone, SaysOrIsRefused}
use Rattle.dv_grammar.proofs.Steps.{some_injective}
use Rattle.dv_grammar.proofs.Scripts.{complete_script}
use Rattle.dv_reader.proofs.Version.{version_is, no_version}
use Rattle.dv_reader.proofs.Accepted.{shape_found}
use Rattle.dv_reader.proofs.Answers.{shaped, misshapen}

-- bytes are the text of one value
pub same_value : (bytes : List ℕ) (d e : Data) → IsDocument bytes d → IsDocument bytes e → d ≡ e
same_value bytes d e a b = some_injective (sym a.is ∙ b.is)

-- what has the shape of a script is read as that
read_as : (bytes : List ℕ) (d : Data) (draft : Draft) → HasShape bytes d draft → shape_at d ≡ Some draft
read_as bytes d draft h =
    shape_found d draft (complete_script d draft (depth-read bytes d h.document.is) h.shape) h.plain

pub same_draft : (bytes : List ℕ) (d e : Data) (a b : Draft) → HasShape bytes d a → HasShape bytes e b → a ≡ b
same_draft bytes d e a b h k =
    let same : d ≡ e = same_value bytes d e h.document k.document in
    some_injective (sym (read_as bytes d a h) ∙ ap shape_at same ∙ read_as bytes e b k)

-- so a test of both has one answer
pub same_test : (test : Data → Draft → Bool) (bytes : List ℕ) (d e : Data) (a b : Draft) → HasShape bytes d a
    → HasShape bytes e b → test d a ≡ test e b
same_test test bytes d e a b h k =
    ap (λ (x : Data). test x a) (same_value bytes d e h.document k.document)
    ∙ ap (test e) (same_draft bytes d e a b h k)

pub one_at_most : SaysOneAtMost
one_at_most bytes s t a b =
    sym a.same ∙ ap (λ (x : Draft). x.script) (same_draft bytes a.json b.json a.draft b.draft a.shape b.shape) ∙ b.same

pub refused_says_none : RefusedSaysNone
refused_says_none bytes TooLong s other h a =
    let over = h.1 a.json a.shape.document.text a.shape.document.is in
    let fits = a.shape.document.fits in omega (arith, over, fits)
refused_says_none bytes NotJson s other h a =
    let unread = h.1 a.shape.document.text in let is = a.shape.document.is in cc
refused_says_none bytes BadVersion s other h a =
    h.2 (subst HasVersion (same_value bytes a.json h.0 a.shape.document h.1) a.shape.version)
refused_says_none bytes BadShape s other h a =
    h.3 a.draft
    (subst (λ (x : Data). IsScript x a.draft) (same_value bytes a.json h.0 a.shape.document h.1) a.shape.shape) (subst
    (λ (x : Data). keeps_version x a.draft ≡ true) (same_value bytes a.json h.0 a.shape.document h.1) a.shape.plain)
refused_says_none bytes TooMany s other h a =
    let same : is_small a.json a.draft ≡ is_small h.0 h.1 =
    same_test is_small bytes a.json h.0 a.draft h.1 a.shape h.2 in
    let good : is_small a.json a.draft ≡ true = a.small in
    let bad : is_small h.0 h.1 ≡ false = h.3 in
    cc
refused_says_none bytes BadName s other h a =
    let same : are_named a.json a.draft ≡ are_named h.0 h.1 =
    same_test are_named bytes a.json h.0 a.draft h.1 a.shape h.2 in
    let good : are_named a.json a.draft ≡ true = a.named in
    let bad : are_named h.0 h.1 ≡ false = h.4 in
    cc
refused_says_none bytes BadClass s other h a =
    let same : are_known a.json a.draft ≡ are_known h.0 h.1 =
    same_test are_known bytes a.json h.0 a.draft h.1 a.shape h.2 in
    let good : are_known a.json a.draft ≡ true = a.known in
    let bad : are_known h.0 h.1 ≡ false = h.5 in
    cc
refused_says_none bytes OutOfMemory s other h a = other refl
refused_says_none bytes BadPool s other h a =
    let same : are_pooled a.json a.draft ≡ are_pooled h.0 h.1 =
    same_test are_pooled bytes a.json h.0 a.draft h.1 a.shape h.2 in
    let good : are_pooled a.json a.draft ≡ true = a.pooled in
    let bad : are_pooled h.0 h.1 ≡ false = h.6 in
    cc
refused_says_none bytes BadBody s other h a =
    let same : have_bodies a.json a.draft ≡ have_bodies h.0 h.1 =
    same_test have_bodies bytes a.json h.0 a.draft h.1 a.shape h.2 in
    let good : have_bodies a.json a.draft ≡ true = a.bodied in
    let bad : have_bodies h.0 h.1 ≡ false = h.7 in
    cc
refused_says_none bytes BadCooperator s other h a =
    let same : have_cooperators a.json a.draft ≡ have_cooperators h.0 h.1 =
    same_test have_cooperators bytes a.json h.0 a.draft h.1 a.shape h.2 in
    let good : have_cooperators a.json a.draft ≡ true = a.scheduled in
    let bad : have_cooperators h.0 h.1 ≡ false = h.8 in
    cc

pub tested : (b : Bool) → (b ≡ true) ⊎ (b ≡ false)
tested true = inl refl
tested false = inr refl

looked : (o : Option Draft) → ((draft : Draft) × (o ≡ Some draft)) ⊎ (o ≡ None)
looked (Some draft) = inl (draft, refl)
looked None = inr refl

abbrev Answered : List ℕ → Type 0
Answered bytes = ((s : Script) × Says bytes s) ⊎ IsRefused bytes

scheduled_or_not : (bytes : List ℕ) (d : Data) (draft : Draft) → HasShape bytes d draft → is_small d draft ≡ true
    → are_named d draft ≡ true → are_known d draft ≡ true → are_pooled d draft ≡ true → have_bodies d draft ≡ true
    → Answered bytes
scheduled_or_not bytes d draft shape small named known pooled bodied = elim (tested (have_cooperators d draft)) [
  | inl scheduled ↦ inl (
    draft.script,
    record {
      json = d;
      draft = draft;
      same = refl;
      shape = shape;
      small = small;
      named = named;
      known = known;
      pooled = pooled;
      bodied = bodied;
      scheduled = scheduled;
    },
  )
  | inr unscheduled ↦
      inr (BadCooperator, (λ e. cc), (d, draft, shape, small, named, known, pooled, bodied, unscheduled))
]

bodied_or_not : (bytes : List ℕ) (d : Data) (draft : Draft) → HasShape bytes d draft → is_small d draft ≡ true
    → are_named d draft ≡ true → are_known d draft ≡ true → are_pooled d draft ≡ true → Answered bytes
bodied_or_not bytes d draft shape small named known pooled = elim (tested (have_bodies d draft)) [
  | inl bodied ↦ scheduled_or_not bytes d draft shape small named known pooled bodied
  | inr bodiless ↦ inr (BadBody, (λ e. cc), (d, draft, shape, small, named, known, pooled, bodiless))
]

pooled_or_not : (bytes : List ℕ) (d : Data) (draft : Draft) → HasShape bytes d draft → is_small d draft ≡ true
    → are_named d draft ≡ true → are_known d draft ≡ true → Answered bytes
pooled_or_not bytes d draft shape small named known = elim (tested (are_pooled d draft)) [
  | inl pooled ↦ bodied_or_not bytes d draft shape small named known pooled
  | inr unpooled ↦ inr (BadPool, (λ e. cc), (d, draft, shape, small, named, known, unpooled))
]

known_or_not : (bytes : List ℕ) (d : Data) (draft : Draft) → HasShape bytes d draft → is_small d draft ≡ true
    → are_named d draft ≡ true → Answered bytes
known_or_not bytes d draft shape small named = elim (tested (are_known d draft)) [
  | inl known ↦ pooled_or_not bytes d draft shape small named known
  | inr unknown ↦ inr (BadClass, (λ e. cc), (d, draft, shape, small, named, unknown))
]

named_or_not : (bytes : List ℕ) (d : Data) (draft : Draft) → HasShape bytes d draft → is_small d draft ≡ true
    → Answered bytes
named_or_not bytes d draft shape small = elim (tested (are_named d draft)) [
  | inl named ↦ known_or_not bytes d draft shape small named
  | inr unnamed ↦ inr (BadName, (λ e. cc), (d, draft, shape, small, unnamed))
]

small_or_not : (bytes : List ℕ) (d : Data) (draft : Draft) → HasShape bytes d draft → Answered bytes
small_or_not bytes d draft shape = elim (tested (is_small d draft)) [
  | inl small ↦ named_or_not bytes d draft shape small
  | inr many ↦ inr (TooMany, (λ e. cc), (d, draft, shape, many))
]

shaped_or_not : (bytes : List ℕ) (d : Data) → IsDocument bytes d → is_version d ≡ true → Answered bytes
shaped_or_not bytes d document version = elim (looked (shape_at d)) [
  | inl found ↦ small_or_not bytes d found.0 (shaped bytes d found.0 document version found.1)
  | inr none ↦ inr (BadShape, (λ e. cc), (d, document, version_is d version, misshapen bytes d document none))
]

pub says_or_is_refused : SaysOrIsRefused
says_or_is_refused bytes d document = elim (tested (is_version d)) [
  | inl version ↦ shaped_or_not bytes d document version
  | inr other ↦ inr (BadVersion, (λ e. cc), (d, document, no_version d other))
]
