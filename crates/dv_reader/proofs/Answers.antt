-- What the passes answer is what the bytes say.
use Rattle.std.proofs.Common.{◌≡◌, ℕ, ◌≤◌, List, length, Option, Some, None, Result, Ok, Err, IfOk, IfErr, Bool, true}
use Rattle.std.proofs.Common.{false, cond, refl, sym, ap, ◌∙◌, arith}
use Rattle.serde_json.specs.Data.{Data}
use Rattle.std.proofs.lemmas.Bool.{and_parts, leb-true}
use Rattle.serde_json.proofs.Nesting.{depth-read}
use Rattle.dv_grammar.specs.declared.draft.Draft.{Draft}
use Rattle.dv_script.specs.declared.script.Script.{Script}
use Rattle.dv_script.specs.declared.limits.TheConstants.{MOST_POOLS, USUAL_LIMIT}
use Rattle.dv_reader.specs.declared.error.ScriptFault.{ScriptFault}
use Rattle.dv_reader.specs.declared.error.ScriptFault.TheVariants.{TooLong, NotJson, BadVersion, BadShape, TooMany}
use Rattle.dv_reader.specs.declared.error.ScriptFault.TheVariants.{BadName, BadClass, OutOfMemory, BadPool, BadBody}
use Rattle.dv_reader.specs.declared.error.ScriptFault.TheVariants.{BadCooperator}
use Rattle.dv_forms.specs.Forms.{Field, IsNumber}
use Rattle.dv_forms.specs.Limits.{most_limit, most_nodes}
use Rattle.dv_forms.specs.declared.limits.TheConstants.{WIDEST_LIMIT, WIDEST_NODES}
use Rattle.dv_reader.specs.Limits.{all_nodes, is_small}
use Rattle.dv_reader.specs.Refusal.{IsDocument, IsMisshapen, keeps_version, HasShape, Says, Refuses}
use Rattle.dv_grammar.specs.Shape.{script_at}
use Rattle.dv_reader.specs.Passes.{JudgedIn, Passes, is_version, shape_at}
use Rattle.dv_grammar.proofs.Steps.{some_injective, bind}
use Rattle.dv_grammar.proofs.Scripts.{complete_script}
use Rattle.dv_grammar.proofs.Scripts.{sound_script}
use Rattle.dv_reader.proofs.Accepted.{shape_found, small_nodes}
use Rattle.dv_reader.proofs.Version.{version_is, no_version}
use Rattle.dv_reader.proofs.Count.{events_few}
use Rattle.dv_reader.proofs.Lengths.{limit_most, nodes_most}

-- the value that was judged is that of the bytes
document : (bytes : List ℕ) (r : Result Script ScriptFault) (h : JudgedIn bytes r) → IsDocument bytes h.0
document bytes r h = record { fits = h.1; text = h.2; is = h.3 }

kept : (b : Bool) (a draft : Draft) → cond b (Some a) None ≡ Some draft → (b ≡ true) × (a ≡ draft)
kept true a draft e = (refl, some_injective e)
kept false a draft e = cc

-- what is a draft is read as one that keeps to its version
pub shape_is : (d : Data) (draft : Draft) → shape_at d ≡ Some draft
    → (script_at d ≡ Some draft) × (keeps_version d draft ≡ true)
shape_is d draft e =
    bind (script_at d) _ draft e (λ a a_is a_then.
    let k = kept (keeps_version d a) a draft a_then in
    (a_is ∙ ap Some k.1, ap (keeps_version d) (sym k.1) ∙ k.0))

-- what is read as a script has its shape
pub shaped : (bytes : List ℕ) (d : Data) (draft : Draft) → IsDocument bytes d → is_version d ≡ true
    → shape_at d ≡ Some draft → HasShape bytes d draft
shaped bytes d draft document version is =
    let s = shape_is d draft is in
    record { document = document; version = version_is d version; shape = sound_script d draft s.0; plain = s.1 }

-- what is read as nothing has no script's shape
pub misshapen : (bytes : List ℕ) (d : Data) → IsDocument bytes d → shape_at d ≡ None → IsMisshapen d
misshapen bytes d document is draft h keeps =
    let found : shape_at d ≡ Some draft =
    shape_found d draft (complete_script d draft (depth-read bytes d document.is) h) keeps in cc

pub says : (bytes : List ℕ) (r : Result Script ScriptFault) → Passes bytes r → IfOk r (λ s. Says bytes s)
says bytes (Ok s) h = let j = h.4 in record {
  json = h.0;
  draft = j.0;
  same = j.3;
  shape = shaped bytes h.0 j.0 (document bytes (Ok s) h) j.1 j.2;
  small = j.4;
  named = j.5;
  known = j.6;
  pooled = j.7;
  bodied = j.8;
  scheduled = j.9;
}
says bytes (Err fault) h = tt

pub refuses : (bytes : List ℕ) (r : Result Script ScriptFault) → Passes bytes r → IfErr r (λ fault. Refuses fault bytes)
refuses bytes (Ok s) h = tt
refuses bytes (Err TooLong) h = h
refuses bytes (Err NotJson) h = h
refuses bytes (Err BadVersion) h = (h.0, document bytes (Err BadVersion) h, no_version h.0 h.4)
refuses bytes (Err BadShape) h = (
  h.0,
  document bytes (Err BadShape) h,
  version_is h.0 h.4.0,
  misshapen bytes h.0 (document bytes (Err BadShape) h) h.4.1,
)
refuses bytes (Err TooMany) h =
    let j = h.4 in (h.0, j.0, shaped bytes h.0 j.0 (document bytes (Err TooMany) h) j.1 j.2, j.3)
refuses bytes (Err BadName) h =
    let j = h.4 in (h.0, j.0, shaped bytes h.0 j.0 (document bytes (Err BadName) h) j.1 j.2, j.3, j.4)
refuses bytes (Err BadClass) h =
    let j = h.4 in (h.0, j.0, shaped bytes h.0 j.0 (document bytes (Err BadClass) h) j.1 j.2, j.3, j.4, j.5)
refuses bytes (Err OutOfMemory) h = tt
refuses bytes (Err BadPool) h =
    let j = h.4 in (h.0, j.0, shaped bytes h.0 j.0 (document bytes (Err BadPool) h) j.1 j.2, j.3, j.4, j.5, j.6)
refuses bytes (Err BadBody) h =
    let j = h.4 in (h.0, j.0, shaped bytes h.0 j.0 (document bytes (Err BadBody) h) j.1 j.2, j.3, j.4, j.5, j.6, j.7)
refuses bytes (Err BadCooperator) h =
    let j = h.4 in
    (h.0, j.0, shaped bytes h.0 j.0 (document bytes (Err BadCooperator) h) j.1 j.2, j.3, j.4, j.5, j.6, j.7, j.8)

pub few : (bytes : List ℕ) (r : Result Script ScriptFault) → Passes bytes r
    → IfOk r (λ s. length s.events ≤ WIDEST_NODES)
few bytes (Ok s) h =
    let j = h.4 in
    let same : length s.events ≡ length j.0.script.events = ap (λ (x : Script). length x.events) (sym j.3) in
    let few_events : length j.0.script.events ≤ all_nodes h.0 =
    events_few h.0 j.0 (depth-read bytes h.0 h.3) (sound_script h.0 j.0 (shape_is h.0 j.0 j.2).0) in
    let few_nodes : all_nodes h.0 ≤ most_nodes j.0.version = small_nodes h.0 j.0 j.4 in
    omega (arith, same, few_events, few_nodes, nodes_most j.0.version)
few bytes (Err fault) h = tt

limited_field : (version : ℕ) (o : Option Data) (n : ℕ) → Field USUAL_LIMIT (IsNumber 0 (most_limit version)) o n
    → n ≤ WIDEST_LIMIT
limited_field version None n h = omega (arith, h)
limited_field version (Some d) n h = let most : n ≤ most_limit version = h.2 in omega (arith, most, limit_most version)

pub limited : (bytes : List ℕ) (r : Result Script ScriptFault) → Passes bytes r → IfOk r (λ s. s.limit ≤ WIDEST_LIMIT)
limited bytes (Ok s) h =
    let j = h.4 in
    let same : s.limit ≡ j.0.script.limit = ap (λ (x : Script). x.limit) (sym j.3) in
    omega
    (arith, same, limited_field j.0.version _ j.0.script.limit (sound_script h.0 j.0 (shape_is h.0 j.0 j.2).0).limit)
limited bytes (Err fault) h = tt

-- what is small enough has few pools
small_pools : (d : Data) (draft : Draft) → is_small d draft ≡ true → length draft.script.pools ≤ MOST_POOLS
small_pools d draft e =
    leb-true (length draft.script.pools) MOST_POOLS
    (and_parts _ _ (and_parts _ _ (and_parts _ _ (and_parts _ _ (and_parts _ _ (and_parts _ _ e).0).0).0).0).0).1

pub few_pools : (bytes : List ℕ) (r : Result Script ScriptFault) → Passes bytes r
    → IfOk r (λ s. length s.pools ≤ MOST_POOLS)
few_pools bytes (Ok s) h =
    let j = h.4 in
    let same : length s.pools ≡ length j.0.script.pools = ap (λ (x : Script). length x.pools) (sym j.3) in
    omega (arith, same, small_pools h.0 j.0 j.4)
few_pools bytes (Err fault) h = tt
