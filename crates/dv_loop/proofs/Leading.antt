-- Where frames lead, the definition leads.
use Rattle.std.proofs.Common.{◌≡◌, ℕ, zero, suc, ◌+◌, List, [], ◌∷◌, Option, None, Some, refl, sym, ap, subst, ◌∙◌}
use Rattle.dv_definition.proofs.Sayings.{frames_say}
use Rattle.dv_definition.specs.Definition.{act, cancel, put_in_place, settle, settle_by}
use Rattle.dv_definition.specs.Rule.{Rule, ◌and_then◌, run, say}
use Rattle.dv_definition.specs.Scripts.{Returns, Occurrence, all_happen, happen, happens, occurrences, within}
use Rattle.dv_frames.specs.declared.frame.Frame.{Frame}
use Rattle.dv_frames.specs.declared.frame.Frame.TheVariants as frame
use Rattle.dv_objects.specs.Pair.{Pair}
use Rattle.dv_objects.specs.declared.performed.Performed.{Performed}
use Rattle.dv_objects.specs.declared.performed.Performed.TheVariants.{Done, Gave, Raised, Awaits}
use Rattle.dv_loop.proofs.Extends.{Ended, then_extends, say_extends, deeper_left, deeper_right, next_extends}
use Rattle.dv_loop.proofs.Total.{every_script_ends, runs_end}
use Rattle.dv_loop.specs.Defined.{ScriptsMeanWhatIsDefined, ActionsMeanWhatIsDefined, BodiesMeanWhatIsDefined}
use Rattle.dv_loop.specs.Defined.{CancelsMeanWhatIsDefined, SettlingMeansWhatIsDefined, OccurrencesMeanWhatIsDefined}
use Rattle.dv_loop.specs.Defined.{RunsMeanWhatIsDefined, EveryScriptLeads, EachScriptLeadsToOneWorld}
use Rattle.dv_loop.specs.Meaning.{Gives, Runs}
use Rattle.dv_script.specs.declared.script.Script.{Script}
use Rattle.dv_store.specs.declared.store.Step.{Step as Move}
use Rattle.dv_store.specs.declared.store.Step.TheVariants.{Nothing, Passed, Run, Handed}
use Rattle.dv_world.specs.World as world
use Rattle.dv_world.specs.World.{World, first_world}

-- a rule says what its frames give
rule_gives : (rule : Rule) (w : World) (p : Performed) (after : World)
    → (let t = run rule w in Gives t.0 t.1 t.2 p after) → Returns (λ go. say go rule w) (p, after)
rule_gives rule w p after g = record { depth = g.depth; ends = sym (frames_say (within g.depth) rule w) ∙ g.ends }

gives_rule : (rule : Rule) (w : World) (p : Performed) (after : World) → Returns (λ go. say go rule w) (p, after)
    → (let t = run rule w in Gives t.0 t.1 t.2 p after)
gives_rule rule w p after h = record { depth = h.depth; ends = frames_say (within h.depth) rule w ∙ h.ends }

pub actions_mean : ActionsMeanWhatIsDefined
actions_mean itself action w p after =
    (rule_gives (act itself action) w p after, gives_rule (act itself action) w p after)

pub bodies_mean : BodiesMeanWhatIsDefined
bodies_mean itself body input w p after =
    (λ g. record { depth = g.depth; ends = g.ends }, λ h. record { depth = h.depth; ends = h.ends })

-- the last step of frames does nothing
last : (a : Option Ended) → a ≡ (a and_then λ r. Some (r.0, r.1))
last None = refl
last (Some r) = refl

-- a frame gives what its rule says one level deeper
frame_says : (f : Frame) (rule : Rule) (w : World) (p : Performed) (after : World)
    → ((depth : ℕ) → within (suc depth) f Done w ≡ say (within depth) rule w) → Gives (f ∷ []) Done w p after
    → Returns (λ go. say go rule w) (p, after)
frame_says f rule w p after same g =
    record {
      depth = g.depth;
      ends =
          sym (same g.depth) ∙ (next_extends g.depth).at f Done w (p, after) (last (within g.depth f Done w) ∙ g.ends);
    }

says_frame : (f : Frame) (rule : Rule) (w : World) (p : Performed) (after : World)
    → ((depth : ℕ) → within (suc depth) f Done w ≡ say (within depth) rule w) → Returns (λ go. say go rule w) (p, after)
    → Gives (f ∷ []) Done w p after
says_frame f rule w p after same h =
    record { depth = suc h.depth; ends = sym (last (within (suc h.depth) f Done w)) ∙ same h.depth ∙ h.ends }

cancel_same : (d : ℕ) (w : World) (depth : ℕ)
    → within (suc depth) (frame.Cancel d) Done w ≡ say (within depth) (cancel d) w
unfolding within
cancel_same d w depth = refl

pub cancels_mean : CancelsMeanWhatIsDefined
cancels_mean d w p after = (
  frame_says (frame.Cancel d) (cancel d) w p after (cancel_same d w),
  says_frame (frame.Cancel d) (cancel d) w p after (cancel_same d w),
)

settle_same : (d : ℕ) (w : World) (depth : ℕ)
    → within (suc depth) (frame.Settle d) Done w ≡ say (within depth) (settle d) w
unfolding within
settle_same d w depth = refl

-- what gives nothing at its end
abbrev GivesNothing : Option Ended → Type 0
GivesNothing a = (p : Performed) (u : World) → a ≡ Some (p, u) → p ≡ Done

none_nothing : GivesNothing None
none_nothing p u h = absurd cc

some_nothing : (w : World) → GivesNothing (Some (Done, w))
some_nothing w p u h =
    let x : Ended = (Done, w) in
    let y : Ended = (p, u) in
    let same : x ≡ y = cc in
    sym (ap (λ (r : Ended). r.0) same)

then_nothing : (a : Option Ended) (f : Ended → Option Ended) → ((r : Ended) → GivesNothing (f r))
    → GivesNothing (a and_then f)
then_nothing None f h p u e = absurd cc
then_nothing (Some r) f h p u e = h r p u e

-- one frame alone
one_nothing : (a : Option Ended) → GivesNothing a → GivesNothing (a and_then λ r. Some (r.0, r.1))
one_nothing None h p u e = absurd cc
one_nothing (Some r) h p u e = h p u e

-- settling gives nothing, and putting in place neither
record Settles (n : ℕ) : Type 0 where
  settled : (d : ℕ) (p : Performed) (w : World) → GivesNothing (within n (frame.Settle d) p w)
  placed : (d : ℕ) (q p : Performed) (w : World) → GivesNothing (within n (frame.Place d) p w)

by_move : (n : ℕ) → Settles n → (d : ℕ) (move : Move Pair) (w : World)
    → GivesNothing (say (within n) (settle_by d move) w)
by_move n s d Nothing w = some_nothing w
by_move n s d Passed w = one_nothing (within n (frame.Settle d) Done w) (s.settled d Done w)
by_move n s d (Run pair) w =
    then_nothing _ _ (λ r. one_nothing (within n (frame.Place d) r.0 r.1) (s.placed d Done r.0 r.1))
by_move n s d (Handed c) w =
    then_nothing (within n (frame.Settle c) Done w) _
    (λ r. one_nothing (within n (frame.Settle d) r.0 r.1) (s.settled d r.0 r.1))

by_place : (n : ℕ) → Settles n → (d : ℕ) (p : Performed) (w : World)
    → GivesNothing (say (within n) (put_in_place d p) w)
by_place n s d Done w = one_nothing _ (s.settled d Done _)
by_place n s d (Gave v) w = one_nothing _ (s.settled d Done _)
by_place n s d (Raised failure) w = one_nothing _ (s.settled d Done _)
by_place n s d (Awaits e) w = one_nothing _ (s.settled d Done _)

settles : (n : ℕ) → Settles n
unfolding within
settles zero = record { settled = λ d p w. none_nothing; placed = λ d q p w. none_nothing }
settles (suc n) = record {
  settled = λ d p w. by_move n (settles n) d (world.step d w).0 (world.step d w).1;
  placed = λ d q p w. by_place n (settles n) d p w;
}

pub settling_means : SettlingMeansWhatIsDefined
settling_means d w p after = (
  λ g.
      let is_done =
      one_nothing (within g.depth (frame.Settle d) Done w) ((settles g.depth).settled d Done w) p after g.ends in (
        is_done,
        subst (λ q. Returns (λ go. say go (settle d) w) (q, after)) is_done
            (frame_says (frame.Settle d) (settle d) w p after (settle_same d w) g),
      ),
  λ h. subst (λ q. Gives (frame.Settle d ∷ []) Done w q after) (sym h.0)
      (says_frame (frame.Settle d) (settle d) w Done after (settle_same d w) h.1),
)

-- the world after it
world_after : (a : Option Ended) (after : World) → (a and_then λ (p, w). Some w) ≡ Some after
    → (p : Performed) × (a ≡ Some (p, after))
world_after None after h = absurd cc
world_after (Some r) after h = let same : r.1 ≡ after = cc in (r.0, ap (λ w. Some (r.0, w)) same)

some_world : (a : Option Ended) (p : Performed) (after : World) → a ≡ Some (p, after)
    → (a and_then λ (q, w). Some w) ≡ Some after
some_world a p after h = rw h refl

pub occurrences_mean : OccurrencesMeanWhatIsDefined
occurrences_mean o w after = (
  λ h. let said = rule_gives (happens o) w h.0 after h.1 in
      record { depth = said.depth; ends = some_world (say (within said.depth) (happens o) w) h.0 after said.ends },
  λ h. let last = world_after (say (within h.depth) (happens o) w) after h.ends in
      (last.0, gives_rule (happens o) w last.0 after (record { depth = h.depth; ends = last.1 })),
)

-- one thing after the other, with more depth
happen_extends : (f g : ℕ)
    → ((rule : Rule) (w : World) (r : Ended) → say (within f) rule w ≡ Some r → say (within g) rule w ≡ Some r)
    → (o : Occurrence) (w u : World) → happen (within f) o w ≡ Some u → happen (within g) o w ≡ Some u
happen_extends f g e o w u h =
    then_extends _ _ (λ (r : Ended). Some r.1) (λ (r : Ended). Some r.1) u (e (happens o) w) (λ r k. k) h

all_extends : (f g : ℕ)
    → ((rule : Rule) (w : World) (r : Ended) → say (within f) rule w ≡ Some r → say (within g) rule w ≡ Some r)
    → (all : List Occurrence) (w u : World) → all_happen (within f) all w ≡ Some u
    → all_happen (within g) all w ≡ Some u
all_extends f g e [] w u h = h
all_extends f g e (o ∷ rest) w u h =
    then_extends _ _ (all_happen (within f) rest) (all_happen (within g) rest) u (happen_extends f g e o w)
    (λ v. all_extends f g e rest v u) h

right : (k n : ℕ) (rule : Rule) (w : World) (r : Ended) → say (within n) rule w ≡ Some r
    → say (within (n + k)) rule w ≡ Some r
right k n rule w r h = say_extends (within n) (within (n + k)) (deeper_right k n) rule w r h

left : (k n : ℕ) (rule : Rule) (w : World) (r : Ended) → say (within n) rule w ≡ Some r
    → say (within (k + n)) rule w ≡ Some r
left k n rule w r h = say_extends (within n) (within (k + n)) (deeper_left k n) rule w r h

then_ends : (a : Option World) (f : World → Option World) (u r : World) → a ≡ Some u → f u ≡ Some r
    → (a and_then f) ≡ Some r
then_ends a f u r h k = rw h k

runs_lead : (all : List Occurrence) (w after : World) → Runs all w after → Returns (λ go. all_happen go all w) after
runs_lead [] w after h = record { depth = 0; ends = rw h refl }
runs_lead (o ∷ rest) w after h =
    let first = (occurrences_mean o w h.0).0 h.1 in
    let later = runs_lead rest h.0 after h.2 in
    record {
      depth = first.depth + later.depth;
      ends =
          then_ends (happen (within (first.depth + later.depth)) o w)
          (all_happen (within (first.depth + later.depth)) rest) h.0 after
          (happen_extends first.depth (first.depth + later.depth) (right later.depth first.depth) o w h.0 first.ends)
          (all_extends later.depth (first.depth + later.depth)
          (left first.depth later.depth) rest h.0 after later.ends);
    }

-- to one world
lead_one : (all : List Occurrence) (w u v : World) → Returns (λ go. all_happen go all w) u
    → Returns (λ go. all_happen go all w) v → u ≡ v
lead_one all w u v h k =
    let a = all_extends h.depth (h.depth + k.depth) (right k.depth h.depth) all w u h.ends in
    let b = all_extends k.depth (h.depth + k.depth) (left h.depth k.depth) all w v k.ends in
    let same : Some u ≡ Some v = sym a ∙ b in
    cc

lead_runs : (all : List Occurrence) (w after : World) → Returns (λ go. all_happen go all w) after → Runs all w after
lead_runs all w after h =
    let end = runs_end all w in
    subst (λ u. Runs all w u) (lead_one all w end.0 after (runs_lead all w end.0 end.1) h) end.1

pub runs_mean : RunsMeanWhatIsDefined
runs_mean all w after = (runs_lead all w after, lead_runs all w after)

-- scripts
abbrev first_of : Script → World
first_of script =
    first_world script.classes script.bodies script.ends_throw script.limit script.cooperator script.cooperators

pub scripts_mean_what_is_defined : ScriptsMeanWhatIsDefined
scripts_mean_what_is_defined script batches after =
    runs_mean (occurrences script.callers script.events batches) (first_of script) after

pub every_script_leads : EveryScriptLeads
every_script_leads script batches =
    let end = every_script_ends script batches in (end.0, (scripts_mean_what_is_defined script batches end.0).0 end.1)

pub each_script_leads_to_one_world : EachScriptLeadsToOneWorld
each_script_leads_to_one_world script batches u v h k =
    lead_one (occurrences script.callers script.events batches) (first_of script) u v h k
