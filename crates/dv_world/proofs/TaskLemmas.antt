-- A task that has ended stays as it has ended.
use Rattle.std.proofs.Common.{◌≡◌, ◌≢◌, ℕ, zero, suc, ◌+◌, ◌-◌, Bool, true, false, if◌then◌else◌, List, [], ◌∷◌, ◌++◌}
use Rattle.std.proofs.Common.{drop, Option, Some, None, is_some, slice_get, slice_set, refl, sym, ap, ◌∙◌, ⊎_elim, eqb}
use Rattle.std.proofs.lemmas.Bool.Decides.{eqb_tells}
use Rattle.dv_journal.specs.Journal.{fits, with_entry}
use Rattle.dv_journal.specs.declared.entry.Entry.{Entry}
use Rattle.dv_journal.specs.declared.entry.Entry.TheVariants as entry
use Rattle.dv_objects.specs.Cooperator.{Cooperators, new_task, turn_in, with_new_task, with_step, with_pause}
use Rattle.dv_objects.specs.Cooperator.{with_resume}
use Rattle.dv_objects.specs.Cooperator.{with_end, with_waiting, result_of, unended}
use Rattle.dv_objects.specs.Objects.{Objects, cooperating}
use Rattle.dv_world.specs.World.{World, aside, arrange, cooperator_of, task_told, step_taken, turn_taken, task_ended}
use Rattle.dv_objects.specs.Cooperator.{with_next_turn}
use Rattle.dv_world.specs.Laws.{end_in, end_of, Same, Elsewhere, Makes, MakesIn, Steps, Pauses, Resumes, Holds, Awaits}
use Rattle.dv_world.specs.Laws.{Ends}
use Rattle.dv_world.specs.Laws.{TasksEndOnce, EndedTasksAreLeftAlone}
use Rattle.dv_objects.specs.declared.task.Task.{Task}
use Rattle.dv_objects.specs.declared.task.TaskEnd.{TaskEnd}

-- what is put in a place is there, and what stands elsewhere stays
placed_there : (xs : List Task) (i : ℕ) (x y : Task) → slice_get xs i ≡ Some x → slice_get (slice_set xs i y) i ≡ Some y
placed_there [] i x y h = absurd cc
placed_there (z ∷ zs) zero x y h = refl
placed_there (z ∷ zs) (suc i) x y h = placed_there zs i x y h

others_stay : (xs : List Task) (i j : ℕ) (y : Task) → j ≢ i → slice_get (slice_set xs i y) j ≡ slice_get xs j
others_stay [] i j y h = refl
others_stay (z ∷ zs) zero zero y h = absurd (h refl)
others_stay (z ∷ zs) zero (suc j) y h = refl
others_stay (z ∷ zs) (suc i) zero y h = refl
others_stay (z ∷ zs) (suc i) (suc j) y h = others_stay zs i j y (λ e. h (ap suc e))

-- a task that is changed and has the end that it had
abbrev ended_in : Option Task → Option TaskEnd
ended_in None = None
ended_in (Some x) = x.end

seen : (o : Option Task) (t : ℕ) (xs : List Task) → slice_get xs t ≡ o → end_in t xs ≡ ended_in o
seen None t xs h = rw h refl
seen (Some x) t xs h = rw h refl

set_keeps : (xs : List Task) (t s : ℕ) (x y : Task) (end : TaskEnd) → slice_get xs s ≡ Some x
    → (x.end ≡ Some end → y.end ≡ Some end) → end_in t xs ≡ Some end → end_in t (slice_set xs s y) ≡ Some end
set_keeps xs t s x y end g k h = ⊎_elim
    (λ (p : (eqb t s ≡ true) × (t ≡ s)).
    let here : slice_get xs t ≡ Some x = ap (slice_get xs) p.1 ∙ g in
    let put : slice_get (slice_set xs s y) t ≡ Some y =
    ap (slice_get (slice_set xs s y)) p.1 ∙ placed_there xs s x y g in
    seen (Some y) t (slice_set xs s y) put ∙ k (sym (seen (Some x) t xs here) ∙ h))
    (λ (p : (eqb t s ≡ false) × (t ≢ s)).
    seen (slice_get xs t) t (slice_set xs s y) (others_stay xs s t y p.1) ∙ sym (seen (slice_get xs t) t xs refl) ∙ h)
    (eqb_tells t s)

-- one more changes nothing of those before
more_keeps : (xs : List Task) (t : ℕ) (y : Task) (end : TaskEnd) → end_in t xs ≡ Some end
    → end_in t (xs ++ y ∷ []) ≡ Some end
more_keeps [] t y end h = absurd cc
more_keeps (x ∷ xs) zero y end h = h
more_keeps (x ∷ xs) (suc t) y end h = more_keeps xs t y end h

-- logged or not
told_keeps : (t : ℕ) (end : TaskEnd) (e : Entry) (change : Objects → Objects) (w : World) (s f : Bool)
    → end_of t w ≡ Some end → end_in t (change w.objects).cooperators.tasks ≡ Some end
    → end_of t (if s then w else if f then record w { objects = change w.objects; journal = with_entry w.journal e }
    else record w { stopped = true }) ≡ Some end
told_keeps t end e change w true f h k = h
told_keeps t end e change w false true h k = k
told_keeps t end e change w false false h k = h

aside_keeps : (t : ℕ) (end : TaskEnd) (e : Entry) (change : Objects → Objects) (w : World) → end_of t w ≡ Some end
    → end_in t (change w.objects).cooperators.tasks ≡ Some end → end_of t (aside e change w) ≡ Some end
unfolding aside
aside_keeps t end e change w h k = told_keeps t end e change w w.stopped (fits w.journal e) h k

-- a step that leaves the ends of tasks
abbrev Spares : (ℕ → Task → Cooperators → Cooperators) → Type 0
Spares change =
    (t s : ℕ) (x : Task) (end : TaskEnd) (c : Cooperators) → slice_get c.tasks s ≡ Some x → end_in t c.tasks ≡ Some end
    → end_in t (change s x c).tasks ≡ Some end

task_keeps : (change : ℕ → Task → Cooperators → Cooperators) → Spares change
    → (t s : ℕ) (end : TaskEnd) (e : Task → Entry) (o : Option Task) (w : World)
    → slice_get w.objects.cooperators.tasks s ≡ o → end_of t w ≡ Some end
    → end_of t (task_told e (change s) o w) ≡ Some end
task_keeps change k t s end e None w g h = h
task_keeps change k t s end e (Some x) w g h =
    aside_keeps t end (e x) (cooperating (change s x)) w h (k t s x end w.objects.cooperators g h)

pauses_spare : Spares with_pause
pauses_spare t s x end c g h = set_keeps c.tasks t s x (record x { pauses = x.pauses + 1 }) end g (λ k. k) h

resumes_spare : Spares with_resume
resumes_spare t s x end c g h = set_keeps c.tasks t s x (record x { pauses = x.pauses - 1 }) end g (λ k. k) h

waits_spare : (d : ℕ) → Spares (λ s. with_waiting s d)
waits_spare d t s x end c g h = set_keeps c.tasks t s x _ end g (λ k. k) h

steps_keep : (t s : ℕ) (end : TaskEnd) (o : Option Task) (w : World) → slice_get w.objects.cooperators.tasks s ≡ o
    → end_of t w ≡ Some end → end_of t (step_taken s o w).1 ≡ Some end
steps_keep t s end None w g h = h
steps_keep t s end (Some x) w g h =
    aside_keeps t end (entry.Step x.name) (cooperating (with_step s x)) w h
    (set_keeps w.objects.cooperators.tasks t s x (record x { bodies = drop 1 x.bodies }) end g (λ k. k) h)

next_keeps : (k t : ℕ) (end : TaskEnd) (w : World) (b : Bool) → end_of t w ≡ Some end
    → end_of t (if b then w else record w { objects = cooperating (with_next_turn k) w.objects }) ≡ Some end
next_keeps k t end w true h = h
next_keeps k t end w false h = h

turns_keep : (k t : ℕ) (end : TaskEnd) (o : Option ℕ) (w : World) → end_of t w ≡ Some end
    → end_of t (turn_taken k o w).1 ≡ Some end
unfolding arrange
turns_keep k t end None w h = next_keeps k t end w w.stopped h
turns_keep k t end (Some s) w h = steps_keep t s end (slice_get w.objects.cooperators.tasks s) w refl h

-- a task that is still to end is another
ends_keep : (t s : ℕ) (end other : TaskEnd) (x : Task) (w : World) (b : Bool) → is_some x.end ≡ b
    → slice_get w.objects.cooperators.tasks s ≡ Some x → end_of t w ≡ Some end
    → end_of t (task_ended s other (if b then None else Some x) w).1 ≡ Some end
ends_keep t s end other x w true b g h = h
ends_keep t s end other x w false b g h =
    aside_keeps t end (entry.End x.name (result_of x.name other)) (cooperating (with_end s other x)) w h (set_keeps
    w.objects.cooperators.tasks t s x (record x { end = Some other; waiting = [] }) end g (λ k. absurd (no k)) h) where
      no : x.end ≡ Some end → ⊥
      no k = let e : true ≡ false = sym (ap is_some k) ∙ b in absurd cc

found_ends_keep : (t s : ℕ) (end other : TaskEnd) (o : Option Task) (w : World)
    → slice_get w.objects.cooperators.tasks s ≡ o → end_of t w ≡ Some end
    → end_of t (task_ended s other (unended o) w).1 ≡ Some end
found_ends_keep t s end other None w g h = h
found_ends_keep t s end other (Some x) w g h = ends_keep t s end other x w (is_some x.end) refl g h

pub ends_stay : TasksEndOnce
ends_stay w _ t end h Same = h
ends_stay w u t end h (Elsewhere v _ e b) = ap (end_in t) e ∙ ends_stay w v t end h b
ends_stay w _ t end h (Makes v name bodies b) =
    let before = ends_stay w v t end h b in
    aside_keeps t end (entry.Task name) (cooperating (with_new_task 0 name bodies)) v before
    (more_keeps v.objects.cooperators.tasks t (new_task 0 name bodies) end before)
ends_stay w _ t end h (MakesIn v k name of bodies b) =
    let before = ends_stay w v t end h b in
    aside_keeps t end (entry.TaskIn name of) (cooperating (with_new_task k name bodies)) v before
    (more_keeps v.objects.cooperators.tasks t (new_task k name bodies) end before)
ends_stay w _ t end h (Steps v k b) = turns_keep k t end (turn_in (cooperator_of k v)) v (ends_stay w v t end h b)
ends_stay w _ t end h (Pauses v s b) =
    task_keeps with_pause pauses_spare t s end _ (slice_get v.objects.cooperators.tasks s) v refl
    (ends_stay w v t end h b)
ends_stay w _ t end h (Resumes v s b) =
    task_keeps with_resume resumes_spare t s end _ (slice_get v.objects.cooperators.tasks s) v refl
    (ends_stay w v t end h b)
ends_stay w _ t end h (Holds v s e b) =
    task_keeps with_pause pauses_spare t s end _ (slice_get v.objects.cooperators.tasks s) v refl
    (ends_stay w v t end h b)
ends_stay w _ t end h (Awaits v s d b) =
    task_keeps (λ r. with_waiting r d) (waits_spare d) t s end _ (slice_get v.objects.cooperators.tasks s) v refl
    (ends_stay w v t end h b)
ends_stay w _ t end h (Ends v s other b) =
    found_ends_keep t s end other (slice_get v.objects.cooperators.tasks s) v refl (ends_stay w v t end h b)

-- a task that has ended doesn't end again
left_alone : (t : ℕ) (end again : TaskEnd) (o : Option Task) (w : World) → ended_in o ≡ Some end
    → task_ended t again (unended o) w ≡ ([], w)
left_alone t end again None w h = absurd cc
left_alone t end again (Some x) w h = rw h refl

pub ended_are_left_alone : EndedTasksAreLeftAlone
ended_are_left_alone w t end again h =
    left_alone t end again (slice_get w.objects.cooperators.tasks t) w
    (sym (seen (slice_get w.objects.cooperators.tasks t) t w.objects.cooperators.tasks refl) ∙ h)
