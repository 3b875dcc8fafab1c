-- Whatever is to be done ends, in one way, and what every step keeps, frames, events, posts and scripts keep.
use Rattle.std.proofs.Common.{◌≡◌, ℕ, Option, List, [], ◌∷◌, refl, sym, subst, ◌∙◌}
use Rattle.dv_script.specs.declared.action.Action.{Action, out-Action}
use Rattle.dv_script.specs.declared.script.Script.{Script}
use Rattle.dv_loop.specs.Acting.{begun}
use Rattle.dv_posts.specs.Batches.{Batch}
use Rattle.dv_loop.specs.Laws.{FramesEnd, FramesHaveOneResult, EveryScriptEnds, EachScriptHasOneMeaning}
use Rattle.dv_loop.specs.Meaning.{Gives, Happens, Runs, Means}
use Rattle.dv_loop.specs.Beginning.{happening}
use Rattle.dv_definition.specs.Scripts.{Occurrence}
use Rattle.dv_definition.specs.Scripts.{occurrences}
use Rattle.dv_frames.specs.declared.frame.Frame.{Frame}
use Rattle.dv_loop.proofs.Extends.{gives_one}
use Rattle.dv_loop.proofs.Halts.{finishes}
use Rattle.dv_loop.proofs.FairTurns.{begun_comes, happening_comes}
use Rattle.dv_loop.proofs.Lasting.{Lasting}
use Rattle.dv_loop.proofs.RunComes.{run_comes}
use Rattle.dv_loop.proofs.Runs.{runs_lead}
use Rattle.dv_world.specs.World.{World, first_world}
use Rattle.dv_objects.specs.declared.performed.Performed.{Performed}

pub frames_end : FramesEnd
frames_end fs o w =
    let all = finishes fs o w in
    (all.outcome, all.after, runs_lead all.turns fs o w all.outcome all.after all.ends)

pub frames_have_one_result : FramesHaveOneResult
frames_have_one_result fs o w p q u v g h = gives_one g h

module _ (R : World → World → Type 0) (l : Lasting R) where
  pub gives_keeps : (fs : List Frame) (o : Performed) (w : World) (p : Performed) (u : World) → Gives fs o w p u → R w u
  gives_keeps fs o w p u g =
      let all = finishes fs o w in
      let same = gives_one (runs_lead all.turns fs o w all.outcome all.after all.ends) g in
      subst (λ x. R w x) same.1 ((run_comes all.turns fs o w all.outcome all.after all.ends).keeps R l)

  pub begun_gives_keeps : (itself : Option ℕ) (action : Action) (w : World) (p : Performed) (u : World)
      → (let t = begun itself (out-Action action) w in Gives t.0 t.1 t.2 p u) → R w u
  begun_gives_keeps itself action w p u g =
      let t = begun itself (out-Action action) w in
      l.joins w t.2 u ((begun_comes itself (out-Action action) w).keeps R l) (gives_keeps t.0 t.1 t.2 p u g)

  pub happens_keeps : (occurrence : Occurrence) (w u : World) → Happens occurrence w u → R w u
  happens_keeps occurrence w u h =
      let t = happening occurrence w in
      l.joins w t.2 u ((happening_comes occurrence w).keeps R l) (gives_keeps t.0 t.1 t.2 h.0 u h.1)

  pub runs_keeps : (all : List Occurrence) (w u : World) → Runs all w u → R w u
  runs_keeps [] w u h = subst (λ x. R w x) (sym h) (l.stays w)
  runs_keeps (occurrence ∷ rest) w u h =
      l.joins w h.0 u (happens_keeps occurrence w h.0 h.1) (runs_keeps rest h.0 u h.2)

  pub means_keeps : (script : Script) (batches : List Batch) (w : World) → Means script batches w
      → R
      (first_world script.classes script.bodies script.ends_throw script.limit script.cooperator script.cooperators) w
  means_keeps script batches w h =
      runs_keeps (occurrences script.callers script.events batches)
      (first_world script.classes script.bodies script.ends_throw script.limit script.cooperator script.cooperators) w h

pub happens_end : (occurrence : Occurrence) (w : World) → (u : World) × Happens occurrence w u
happens_end occurrence w =
    let t = happening occurrence w in
    let r = frames_end t.0 t.1 t.2 in
    (r.1, (r.0, r.2))

happens_one : (occurrence : Occurrence) (w u v : World) → Happens occurrence w u → Happens occurrence w v → u ≡ v
happens_one occurrence w u v r s = (gives_one r.1 s.1).1

pub runs_end : (all : List Occurrence) (w : World) → (u : World) × Runs all w u
runs_end [] w = (w, refl)
runs_end (occurrence ∷ rest) w =
    let first = happens_end occurrence w in
    let later = runs_end rest first.0 in
    (later.0, (first.0, first.1, later.1))

runs_one : (all : List Occurrence) (w u v : World) → Runs all w u → Runs all w v → u ≡ v
runs_one [] w u v r s = r ∙ sym s
runs_one (occurrence ∷ rest) w u v r s =
    let same = happens_one occurrence w r.0 s.0 r.1 s.1 in
    runs_one rest s.0 u v (subst (λ x. Runs rest x u) same r.2) s.2

pub every_script_ends : EveryScriptEnds
every_script_ends script batches =
    runs_end (occurrences script.callers script.events batches)
    (first_world script.classes script.bodies script.ends_throw script.limit script.cooperator script.cooperators)

pub each_script_has_one_meaning : EachScriptHasOneMeaning
each_script_has_one_meaning script batches u v r s =
    runs_one (occurrences script.callers script.events batches)
    (first_world script.classes script.bodies script.ends_throw script.limit script.cooperator script.cooperators) u v
    r s
