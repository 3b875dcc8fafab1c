-- What holds of events, posts and scripts: what is read is in the grammar, and what is in the grammar is read.
use Rattle.std.proofs.Common.{◌≡◌, ℕ, suc, ◌≤◌, Bool, List, [], ◌∷◌, Option, Some, None, option_and_then, refl, ap}
use Rattle.std.proofs.Common.{codes, arith, true}
use Rattle.serde_json.specs.Data.{Data, string, array, object, Items, no_items, item, Members, depth, items_depth}
use Rattle.serde_json.specs.Data.{members_depth}
use Rattle.serde_json.specs.Find.{as_array, get_member}
use Rattle.serde_json.specs.Read.{max_depth}
use Rattle.dv_value.specs.declared.classes.Class.{Class}
use Rattle.dv_script.specs.declared.body.Body.{Body}
use Rattle.dv_script.specs.declared.event.Event.{Event}
use Rattle.dv_script.specs.declared.script.Cooperator.{Cooperator}
use Rattle.dv_script.specs.declared.script.NamedBody.{NamedBody}
use Rattle.dv_script.specs.declared.script.NamedCooperator.{NamedCooperator}
use Rattle.dv_script.specs.declared.script.NamedPool.{NamedPool}
use Rattle.dv_script.specs.declared.limits.TheConstants.{MOST_DRAINED, MOST_UNITS, MOST_WORKERS}
use Rattle.dv_script.specs.declared.limits.TheConstants.{USUAL_LIMIT}
use Rattle.dv_clock.specs.declared.limits.TheConstants.{MOST_DELAY, MOST_TICKS}
use Rattle.dv_forms.specs.declared.declaration.Declaration.{Declaration}
use Rattle.dv_forms.specs.declared.versions.TheConstants.{LAST_VERSION}
use Rattle.dv_grammar.specs.declared.draft.Draft.{Draft}
use Rattle.dv_forms.specs.Forms.{Each, IsList, Field, Key, IsNumber}
use Rattle.dv_forms.specs.Limits.{most_limit}
use Rattle.dv_forms.specs.Table.{table_of}
use Rattle.dv_grammar.specs.Grammar.{AreEvents, cooperator_keys, keys_of, plain_cooperator, usual_turns, IsBody}
use Rattle.dv_grammar.specs.Grammar.{IsTurnRule}
use Rattle.dv_grammar.proofs.Leaves.{turn_rule_is, complete_turn_rule}
use Rattle.dv_forms.specs.Parts.{turn_rule_at}
use Rattle.dv_forms.specs.declared.versions.TheConstants.{COOPERATORS_SINCE}
use Rattle.dv_grammar.specs.Grammar.{IsDeclaration, declares, IsPool, pools, IsCooperator, IsScript}
use Rattle.dv_grammar.specs.Grammar.{IsNamedBody, names_body, IsNamedCooperator, names_cooperator}
use Rattle.dv_forms.specs.Parts.{each, list_at, text_at, number_at, within, call_at, none, first, one, two, sole, pair}
use Rattle.dv_forms.specs.Parts.{fields_at, field, declaration_at, table_for}
use Rattle.dv_grammar.specs.Shape.{body_at, cooperator_at, events_in, named_body_at, pool_at, caller_at, script_at}
use Rattle.dv_grammar.specs.Shape.{named_cooperator_at, script_by}
use Rattle.dv_grammar.proofs.Steps.{some_injective, bind}
use Rattle.dv_grammar.proofs.Leaves.{two_read, text_is, array_is, number_is, sound_list, sound_field}
use Rattle.dv_grammar.proofs.Repeats.{sound_events, complete_events}
use Rattle.dv_grammar.proofs.Leaves.{sound_key, fields_is, complete_list, complete_field, complete_key, complete_number}
use Rattle.dv_grammar.proofs.Actions.{sound_readers, depth-get_member, complete_body}

-- ---- events, posts, scripts

sound_declaration : (d : Data) (x : Declaration) → declaration_at d ≡ Some x → IsDeclaration d x
unfolding declaration_at
sound_declaration d x e =
    bind (as_array d) _ x e (λ ds ds_is ds_then.
    two_read text_at text_at _ ds x ds_then (λ c f n p items_are n_is p_is made.
    rw (array_is d ds ds_is, items_are, text_is c n n_is, text_is f p p_is, ← made) (declares n p)))

sound_cooperator : (version : ℕ) (d : Data) (x : Cooperator) → cooperator_at version d ≡ Some x
    → IsCooperator version d x
unfolding cooperator_at fields_at
sound_cooperator version (object ms) x e =
    bind (fields_at (cooperator_keys version) (object ms)) _ x e (λ t t_is t_then.
    bind (option_and_then (number_at 1 MOST_UNITS) (get_member (codes "units") ms)) _ x t_then (λ u u_is u_then.
    bind (option_and_then (number_at 1 MOST_DELAY) (get_member (codes "delay") ms)) _ x u_then (λ v v_is v_then.
    bind (field (usual_turns version) turn_rule_at (get_member (codes "turns") ms)) _ x v_then (λ r r_is r_then.
    rw (← some_injective r_then) (record {
      members = ms;
      whole = refl;
      only = fields_is (cooperator_keys version) ms t t_is;
      units =
          sound_key u (IsNumber 1 MOST_UNITS) (number_at 1 MOST_UNITS) (number_is 1 MOST_UNITS)
          (get_member (codes "units") ms) u_is;
      delay =
          sound_key v (IsNumber 1 MOST_DELAY) (number_at 1 MOST_DELAY) (number_is 1 MOST_DELAY)
          (get_member (codes "delay") ms) v_is;
      turns =
          sound_field (usual_turns version) r IsTurnRule turn_rule_at turn_rule_is
          (get_member (codes "turns") ms) r_is;
    })))))
sound_cooperator version _ x e = cc

sound_pool : (d : Data) (x : NamedPool) → pool_at d ≡ Some x → IsPool d x
unfolding pool_at
sound_pool d x e =
    bind (as_array d) _ x e (λ ds ds_is ds_then.
    two_read text_at (number_at 0 MOST_WORKERS) _ ds x ds_then (λ c f n k items_are n_is k_is made.
    rw (array_is d ds ds_is, items_are, text_is c n n_is, ← made) (pools n f k (number_is 0 MOST_WORKERS f k k_is))))

sound_named_cooperator : (d : Data) (x : NamedCooperator) → named_cooperator_at d ≡ Some x → IsNamedCooperator d x
unfolding named_cooperator_at
sound_named_cooperator d x e =
    bind (as_array d) _ x e (λ ds ds_is ds_then.
    two_read text_at (cooperator_at COOPERATORS_SINCE) _ ds x ds_then (λ c f n k items_are n_is k_is made.
    rw (array_is d ds ds_is, items_are, text_is c n n_is, ← made)
    (names_cooperator n f k (sound_cooperator COOPERATORS_SINCE f k k_is))))

sound_named_body : (table : List Class) (d : Data) (x : NamedBody) → named_body_at table d ≡ Some x
    → IsNamedBody table d x
unfolding named_body_at
sound_named_body table d x e =
    bind (as_array d) _ x e (λ ds ds_is ds_then.
    two_read text_at (body_at table max_depth) _ ds x ds_then (λ c f n b items_are n_is b_is made.
    rw (array_is d ds ds_is, items_are, text_is c n n_is, ← made)
    (names_body n f b ((sound_readers table max_depth).body f b b_is))))

sound_caller : (table : List Class) (d : Data) (posts : List Body) → caller_at table d ≡ Some posts
    → IsList (IsBody table) d posts
sound_caller table = sound_list (IsBody table) (body_at table max_depth) (sound_readers table max_depth).body

-- a value that is read as a script has its shape
pub sound_script : (d : Data) (draft : Draft) → script_at d ≡ Some draft → IsScript d draft
unfolding script_by fields_at table_for
sound_script (object ms) draft e =
    bind (option_and_then (number_at 1 LAST_VERSION) (get_member (codes "version") ms)) _ draft e (λ v v_is v_then.
    bind (fields_at (keys_of v) (object ms)) _ draft v_then (λ t t_is t_then.
    bind (field USUAL_LIMIT (number_at 0 (most_limit v)) (get_member (codes "limit") ms)) _ draft t_then
    (λ l l_is l_then.
    bind (field (plain_cooperator v) (cooperator_at v) (get_member (codes "cooperator") ms)) _ draft l_then
    (λ o o_is o_then.
    bind (field [] (list_at named_cooperator_at) (get_member (codes "cooperators") ms)) _ draft o_then
    (λ w w_is w_then.
    bind (field [] (list_at pool_at) (get_member (codes "pools") ms)) _ draft w_then (λ q q_is q_then.
    bind (field [] (list_at declaration_at) (get_member (codes "classes") ms)) _ draft q_then (λ c c_is c_then.
    bind (field [] (list_at (named_body_at (table_of v c))) (get_member (codes "bodies") ms)) _ draft c_then
    (λ z z_is z_then.
    bind (field [] (list_at (caller_at (table_of v c))) (get_member (codes "callers") ms)) _ draft z_then
    (λ p p_is p_then.
    bind (option_and_then (events_in true (table_of v c)) (get_member (codes "events") ms)) _ draft p_then
    (λ y y_is y_then.
    rw (← some_injective y_then) (record {
      members = ms;
      whole = refl;
      version =
          sound_key v (IsNumber 1 LAST_VERSION) (number_at 1 LAST_VERSION) (number_is 1 LAST_VERSION)
          (get_member (codes "version") ms) v_is;
      only = fields_is (keys_of v) ms t t_is;
      declared =
          sound_field [] c (IsList IsDeclaration) (list_at declaration_at)
          (sound_list IsDeclaration declaration_at sound_declaration) (get_member (codes "classes") ms) c_is;
      all_declared = refl;
      table = refl;
      ends_throw = refl;
      limit =
          sound_field USUAL_LIMIT l (IsNumber 0 (most_limit v)) (number_at 0 (most_limit v))
          (number_is 0 (most_limit v))
          (get_member (codes "limit") ms) l_is;
      cooperator =
          sound_field (plain_cooperator v) o (IsCooperator v) (cooperator_at v) (sound_cooperator v)
          (get_member (codes "cooperator") ms) o_is;
      cooperators =
          sound_field [] w (IsList IsNamedCooperator) (list_at named_cooperator_at)
          (sound_list IsNamedCooperator named_cooperator_at sound_named_cooperator)
          (get_member (codes "cooperators") ms) w_is;
      pools =
          sound_field [] q (IsList IsPool) (list_at pool_at) (sound_list IsPool pool_at sound_pool)
          (get_member (codes "pools") ms) q_is;
      bodies =
          sound_field [] z (IsList (IsNamedBody (table_of v c))) (list_at (named_body_at (table_of v c)))
          (sound_list (IsNamedBody (table_of v c)) (named_body_at (table_of v c)) (sound_named_body (table_of v c)))
          (get_member (codes "bodies") ms) z_is;
      callers =
          sound_field [] p (IsList (IsList (IsBody (table_of v c)))) (list_at (caller_at (table_of v c)))
          (sound_list (IsList (IsBody (table_of v c))) (caller_at (table_of v c)) (sound_caller (table_of v c)))
          (get_member (codes "callers") ms) p_is;
      events =
          sound_key y (AreEvents (table_of v c)) (events_in true (table_of v c)) (sound_events (table_of v c))
          (get_member (codes "events") ms) y_is;
    })))))))))))
sound_script _ draft e = cc

-- ---- events, posts, scripts

complete_each_deep : {X : Type 0} (Is : Data → X → Type 0) (at : Data → Option X)
    → ((d : Data) (x : X) → depth d ≤ max_depth → Is d x → at d ≡ Some x)
    → (ds : Items) (xs : List X) → items_depth ds ≤ max_depth → Each Is ds xs → each at ds ≡ Some xs
complete_each_deep Is at one no_items [] deep h = refl
complete_each_deep Is at one no_items (x ∷ xs) deep h = absurd h
complete_each_deep Is at one (item d ds) [] deep h = absurd h
complete_each_deep Is at one (item d ds) (x ∷ xs) deep h =
    rw (one d x (omega (arith, deep)) h.0, complete_each_deep Is at one ds xs (omega (arith, deep)) h.1) refl

complete_list_deep : {X : Type 0} (Is : Data → X → Type 0) (at : Data → Option X)
    → ((d : Data) (x : X) → depth d ≤ max_depth → Is d x → at d ≡ Some x)
    → (d : Data) (xs : List X) → depth d ≤ max_depth → IsList Is d xs → list_at at d ≡ Some xs
complete_list_deep Is at one d xs deep h =
    let inside : suc (items_depth h.0) ≤ max_depth = rw h.1 at deep in
    rw h.1 (complete_each_deep Is at one h.0 xs (omega (arith, inside)) h.2)

complete_caller : (table : List Class) (d : Data) (posts : List Body) → depth d ≤ max_depth
    → IsList (IsBody table) d posts → caller_at table d ≡ Some posts
complete_caller table =
    complete_list_deep (IsBody table) (body_at table max_depth) (λ d b deep h. complete_body table max_depth h deep)

complete_named_body : (table : List Class) (d : Data) (b : NamedBody) → depth d ≤ max_depth → IsNamedBody table d b
    → named_body_at table d ≡ Some b
unfolding named_body_at none first one two pair
complete_named_body table _ _ deep (names_body name d b h) =
    rw (complete_body table max_depth h (omega (arith, deep))) refl

complete_named_bodies : (table : List Class) (bodies : List NamedBody)
    → (o : Option Data) → ((d : Data) → o ≡ Some d → depth d ≤ max_depth)
    → Field [] (IsList (IsNamedBody table)) o bodies
    → field [] (list_at (named_body_at table)) o ≡ Some bodies
complete_named_bodies table bodies None within h = rw h refl
complete_named_bodies table bodies (Some d) within h =
    complete_list_deep (IsNamedBody table) (named_body_at table) (complete_named_body table) d bodies (within d refl) h

complete_declaration : (d : Data) (c : Declaration) → IsDeclaration d c → declaration_at d ≡ Some c
unfolding declaration_at none first one two pair
complete_declaration _ _ (declares name parent) = refl

complete_pool : (d : Data) (p : NamedPool) → IsPool d p → pool_at d ≡ Some p
unfolding pool_at none first one two pair
complete_pool _ _ (pools name d workers h) = rw (complete_number 0 MOST_WORKERS d workers h) refl

complete_cooperator : (version : ℕ) (d : Data) (c : Cooperator) → IsCooperator version d c
    → cooperator_at version d ≡ Some c
unfolding cooperator_at fields_at
complete_cooperator version d c h =
    rw h.whole (rw h.only (rw (
      complete_key c.units (IsNumber 1 MOST_UNITS) (number_at 1 MOST_UNITS) (complete_number 1 MOST_UNITS)
          (get_member (codes "units") h.members) h.units,
      complete_key c.delay (IsNumber 1 MOST_DELAY) (number_at 1 MOST_DELAY) (complete_number 1 MOST_DELAY)
          (get_member (codes "delay") h.members) h.delay,
      complete_field (usual_turns version) c.turns IsTurnRule turn_rule_at complete_turn_rule
          (get_member (codes "turns") h.members) h.turns,
    ) refl))

complete_named_cooperator : (d : Data) (c : NamedCooperator) → IsNamedCooperator d c
    → named_cooperator_at d ≡ Some c
unfolding named_cooperator_at none first one two pair
complete_named_cooperator _ _ (names_cooperator name d c h) = rw (complete_cooperator COOPERATORS_SINCE d c h) refl

complete_callers : (table : List Class) (ms : Members) (callers : List (List Body)) → members_depth ms ≤ max_depth
    → (o : Option Data) → ((d : Data) → o ≡ Some d → depth d ≤ max_depth)
    → Field [] (IsList (IsList (IsBody table))) o callers
    → field [] (list_at (caller_at table)) o ≡ Some callers
complete_callers table ms callers deep None within h = rw h refl
complete_callers table ms callers deep (Some d) within h =
    complete_list_deep (IsList (IsBody table)) (caller_at table) (complete_caller table) d callers (within d refl) h

complete_key_events : (table : List Class) (events : List Event)
    → (o : Option Data) → ((d : Data) → o ≡ Some d → depth d ≤ max_depth) → Key (AreEvents table) o events
    → option_and_then (events_in true table) o ≡ Some events
complete_key_events table events None within h = absurd h
complete_key_events table events (Some d) within h = complete_events table d events (within d refl) h

-- a draft whose table, and whether all its classes are declared and its ends throw, are written out
same_draft : (draft : Draft) (table : List Class) (all throws : Bool) → draft.script.classes ≡ table
    → draft.all_declared ≡ all → draft.script.ends_throw ≡ throws
    → record {
      version = draft.version;
      declared = draft.declared;
      all_declared = all;
      script = record {
        classes = table;
        ends_throw = throws;
        limit = draft.script.limit;
        cooperator = draft.script.cooperator;
        cooperators = draft.script.cooperators;
        pools = draft.script.pools;
        bodies = draft.script.bodies;
        callers = draft.script.callers;
        events = draft.script.events;
      };
    } ≡ draft
same_draft draft table all throws e f g = rw (← e, ← f, ← g) refl

-- a value of a script's shape is read as that script
pub complete_script : (d : Data) (draft : Draft) → depth d ≤ max_depth → IsScript d draft → script_at d ≡ Some draft
unfolding script_by fields_at table_for
complete_script d draft deep h =
    let inside : suc (members_depth h.members) ≤ max_depth = rw h.whole at deep in
    let within : (key : List ℕ) (e : Data) → get_member key h.members ≡ Some e → depth e ≤ max_depth =
    (λ key e is. let below : depth e ≤ members_depth h.members = depth-get_member key h.members e is in
    omega (arith, inside, below)) in
    let bodies :
    field [] (list_at (named_body_at (table_of draft.version draft.declared))) (get_member (codes "bodies") h.members)
    ≡ Some draft.script.bodies =
    complete_named_bodies (table_of draft.version draft.declared) draft.script.bodies
    (get_member (codes "bodies") h.members)
    (within (codes "bodies")) (rw h.table at h.bodies) in
    let callers :
    field [] (list_at (caller_at (table_of draft.version draft.declared))) (get_member (codes "callers") h.members)
    ≡ Some draft.script.callers =
    complete_callers (table_of draft.version draft.declared) h.members draft.script.callers (omega (arith, inside))
    (get_member (codes "callers") h.members) (within (codes "callers")) (rw h.table at h.callers) in
    let events :
    option_and_then (events_in true (table_of draft.version draft.declared)) (get_member (codes "events") h.members)
    ≡ Some draft.script.events =
    complete_key_events (table_of draft.version draft.declared) draft.script.events
    (get_member (codes "events") h.members)
    (within (codes "events")) (rw h.table at h.events) in
    let version =
    complete_key draft.version (IsNumber 1 LAST_VERSION) (number_at 1 LAST_VERSION) (complete_number 1 LAST_VERSION)
    (get_member (codes "version") h.members) h.version in
    rw h.whole (rw version (rw h.only (rw (
      complete_field USUAL_LIMIT draft.script.limit (IsNumber 0 (most_limit draft.version))
          (number_at 0 (most_limit draft.version)) (complete_number 0 (most_limit draft.version))
          (get_member (codes "limit") h.members) h.limit,
      complete_field (plain_cooperator draft.version) draft.script.cooperator (IsCooperator draft.version)
          (cooperator_at draft.version) (complete_cooperator draft.version)
          (get_member (codes "cooperator") h.members) h.cooperator,
      complete_field [] draft.script.cooperators (IsList IsNamedCooperator) (list_at named_cooperator_at)
          (complete_list IsNamedCooperator named_cooperator_at complete_named_cooperator)
          (get_member (codes "cooperators") h.members) h.cooperators,
      complete_field [] draft.script.pools (IsList IsPool) (list_at pool_at)
          (complete_list IsPool pool_at complete_pool) (get_member (codes "pools") h.members) h.pools,
      complete_field [] draft.declared (IsList IsDeclaration) (list_at declaration_at)
          (complete_list IsDeclaration declaration_at complete_declaration)
          (get_member (codes "classes") h.members) h.declared,
      bodies,
      callers,
      events,
    ) (ap Some (same_draft draft _ _ _ h.table h.all_declared h.ends_throw)))))
