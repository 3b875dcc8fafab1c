-- A Deferred whose next item may be used is to be settled, unless the run has stopped.
use Rattle.std.proofs.Common.{◌≡◌, ℕ, zero, suc, ◌+◌, ◌-◌, ◌≤◌, ◌++◌, Bool, true, false, nat_eq, List, [], ◌∷◌, Option}
use Rattle.std.proofs.Common.{None, Some, Ok, Err, refl, sym, ap, subst, ◌∙◌, arith, slice_get, slice_set, cond, sum_by}
use Rattle.std.specs.Prelude.{◌&&◌, ◌||◌, not, is_none, is_some, if◌then◌else◌}
use Rattle.std.proofs.lemmas.Bool.{eqb-true}
use Rattle.std.proofs.lemmas.Bool.Decides.{nat_tests}
use Rattle.std.proofs.lemmas.List.Sums.{sum_by-append, sum_by-cons}
use Rattle.dv_value.specs.Failure.{is_fault}
use Rattle.dv_value.specs.declared.value.Value.{Value, Null, Fault}
use Rattle.dv_journal.specs.Journal.{fits, with_entry}
use Rattle.dv_journal.specs.declared.entry.Entry.TheVariants as entry
use Rattle.dv_journal.specs.declared.error.Fault.TheVariants as fault
use Rattle.dv_journal.specs.declared.error.Stop.TheVariants as stop
use Rattle.dv_script.specs.declared.action.Action.{out-Action}
use Rattle.dv_script.specs.declared.event.Event.TheVariants as event
use Rattle.dv_script.specs.declared.script.Script.{Script}
use Rattle.dv_store.specs.Callbacks as callbacks
use Rattle.dv_store.specs.Callbacks.{with_handed, with_result}
use Rattle.dv_store.specs.Chaining as chaining
use Rattle.dv_store.specs.Fire as firing
use Rattle.dv_store.specs.Pausing as pausing
use Rattle.dv_store.specs.Pausing.{with_pauses}
use Rattle.dv_store.specs.Record.{with_item, new_record, changing}
use Rattle.dv_store.specs.declared.record.Item.{Item}
use Rattle.dv_store.specs.declared.record.Item.TheVariants as item
use Rattle.dv_store.specs.declared.store.Step.{Step}
use Rattle.dv_store.specs.declared.store.Step.TheVariants.{Nothing, Passed, Run, Handed}
use Rattle.dv_objects.specs.Pair.{Pair, side_for, passes}
use Rattle.dv_objects.specs.Refusals.{cancelled}
use Rattle.dv_objects.specs.declared.canceller.Canceller.{Canceller}
use Rattle.dv_objects.specs.declared.follow.Follow.{Follow}
use Rattle.dv_objects.specs.declared.follow.Follow.TheVariants as follow
use Rattle.dv_objects.specs.declared.performed.Performed.{Performed}
use Rattle.dv_objects.specs.declared.performed.Performed.TheVariants.{Done, Gave, Raised, Awaits}
use Rattle.dv_objects.specs.declared.reached.Reached.{Reached}
use Rattle.dv_posts.specs.Batches.{Batch}
use Rattle.dv_frames.specs.Turn.{Turned, settle_next, ◌over◌}
use Rattle.dv_frames.specs.declared.frame.Frame.{Frame}
use Rattle.dv_frames.specs.declared.frame.Frame.TheVariants as frame
use Rattle.dv_definition.specs.Definition as page
use Rattle.dv_definition.specs.Rule.{Rule, Ends, By, If, Finds, Then, Asks, Fires, Unpauses, Over, found}
use Rattle.dv_definition.specs.Rule.{run as run_rule}
use Rattle.dv_definition.specs.Scripts as scripts
use Rattle.dv_definition.specs.Scripts.{Occurrence, Occurs, Posts, occurrences}
use Rattle.dv_definition.specs.Steps as steps
use Rattle.dv_definition.specs.Steps.{stepped, Question, Reply}
use Rattle.dv_loop.specs.Beginning.{happening}
use Rattle.dv_loop.specs.Meaning.{Gives, Runs, Means}
use Rattle.dv_loop.specs.Settling.{place, side_begun, settled}
use Rattle.dv_loop.specs.Turning.{turned}
use Rattle.dv_loop.proofs.Extends.{Ended, gives_one}
use Rattle.dv_loop.proofs.Halts.{finishes}
use Rattle.dv_loop.proofs.Kept.{Both, Kind}
use Rattle.dv_loop.proofs.Runs.{run, runs_lead}
use Rattle.dv_world.specs.World as world
use Rattle.dv_world.specs.World.{World, Records, state_of, with_state, with_stop, append, fire, fired}
use Rattle.dv_world.specs.World.{fire_then_swallow}
use Rattle.dv_world.specs.World.{fired_then_swallows, unpause, unpaused, step, put, put_deferred, first_world, value_of}
use Rattle.dv_laws.proofs.At.{counted_of, at, set_at, changing_at, push_at, set_by, changing_by}
use Rattle.dv_laws.proofs.Calm.{Quiet, Calmly, IsCalm}
use Rattle.dv_laws.proofs.Mild.{settled_by, SettlesFirst, CallsToSettle, Follows, Mildly, IsMild}
use Rattle.dv_laws.proofs.Calm.{reached_by, step_quiet, question_quiet}
use Rattle.dv_laws.proofs.Mild.{AsksCalmly, rule_mild, side_rule_mild}
use Rattle.dv_laws.proofs.Mild.{carry_mild}
use Rattle.dv_laws.proofs.Mild.{side_mild, turned_mild, action_mild, drain_mild, expect_mild, expect_mildly, post_comes}
use Rattle.dv_laws.proofs.Still.{Still, calm}
use Rattle.dv_laws.proofs.Settles.{place_runs}
use Rattle.dv_objects.specs.Objects.{with_time}
use Rattle.dv_laws.proofs.Steps.{put_cases, put_deferred_cases, append_cases, pause_cases, make_cases, aside_cases}
use Rattle.dv_laws.proofs.Steps.{arrange_cases, submit_cases, cancel_cases, fire_cases, step_cases, unless}
use Rattle.dv_laws.proofs.Steps.{put_into_cases, get_from_cases, ask_cases, release_cases}

-- 1. Which Deferred may use an item.

abbrev pub some_of : List (Item Pair) → Bool
some_of [] = false
some_of (first ∷ rest) = true

-- as a count: it is ready, and an item is left
abbrev pub owes_of : Kind → ℕ
owes_of r = cond (callbacks.is_ready r && some_of r.items) 1 0

abbrev pub owes_at : ℕ → World → ℕ
owes_at n w = at owes_of n w.records

once_by : (b : Bool) → cond {A = ℕ} b 1 0 ≤ 1
once_by true = omega arith
once_by false = omega arith

owes_once : (r : Kind) → owes_of r ≤ 1
owes_once r = once_by (callbacks.is_ready r && some_of r.items)

once_in : (f : Kind → ℕ) → ((r : Kind) → f r ≤ 1) → (o : Option Kind) → counted_of f o ≤ 1
once_in f h None = omega arith
once_in f h (Some r) = h r

owes_at_most : (n : ℕ) (w : World) → owes_at n w ≤ 1
owes_at_most n w = once_in owes_of owes_once (slice_get w.records n)

-- one that isn't ready owes nothing
owes_none : (r : Kind) → callbacks.is_ready r ≡ false → owes_of r ≡ 0
owes_none r h = ap {B = ℕ} (λ b. cond (b && some_of r.items) 1 0) h

running_unready : (a b c d : Bool) → b ≡ true → (a && not b && c && d) ≡ false
running_unready a false c d h = absurd cc
running_unready true true c d h = refl
running_unready false true c d h = refl

paused_unready : (a b c d : Bool) → c ≡ false → (a && not b && c && d) ≡ false
paused_unready a b true d h = absurd cc
paused_unready true true false d h = refl
paused_unready true false false d h = refl
paused_unready false b false d h = refl

not_zero : (x : ℕ) → nat_eq (x + 1) 0 ≡ false
not_zero x = grind (arith, nat_tests)

-- 2. Steps that leave no more to be used.

-- one that owes no more than before
less_by : (b : Bool) (n d : ℕ) (r s : Kind) (l : Records) → nat_eq d n ≡ b → slice_get l d ≡ Some r
    → owes_of s ≤ owes_of r → cond b (owes_of s) (at owes_of n l) ≤ at owes_of n l
less_by true n d r s l e h p = rw (← (eqb-true d n e), h) p
less_by false n d r s l e h p = omega arith

less_at : (n d : ℕ) (r s : Kind) (l : Records) → slice_get l d ≡ Some r → owes_of s ≤ owes_of r
    → at owes_of n (slice_set l d s) ≤ at owes_of n l
less_at n d r s l h p = rw (set_by owes_of n d r s l h) (less_by _ n d r s l refl h p)

record Less (w u : World) : Type 0 where
  each : (n : ℕ) → owes_at n u ≤ owes_at n w

less_same : (w : World) → Less w w
less_same w = record { each = λ n. omega arith }

less_stop : (w : World) → Less w (with_stop w)
less_stop w = record { each = λ n. omega arith }

quiet_less : Quiet Less
quiet_less = record {
  stays = less_same;
  joins = λ u v w p q. record { each = λ n. omega (arith, p.each n, q.each n) };
  by_stop = less_stop;
  by_make = λ name canceller w. make_cases w (Less w) (less_same w) (less_stop w) name canceller (λ x. record {
    each = λ n. omega (arith, push_at owes_of n (new_record name canceller) w.records refl);
  });
  by_cancel = λ d w m. cancel_cases w (Less w) (less_same w) (less_stop w) d (λ x. record { each = λ n. omega arith });
  by_pause = λ d w.
      pause_cases w (Less w) (less_same w) (less_stop w) d
      (λ r x g.
      let more = with_pauses (r.pauses + 1) r in
      record {
        each = λ n. less_at n d r more w.records g (omega (
          arith,
          owes_none more
              (paused_unready r.fired r.running (nat_eq (r.pauses + 1) 0) (is_none r.waits_for) (not_zero r.pauses)),
        ));
      });
  by_aside =
      λ e change w a q c l t n.
      aside_cases w (Less w) (less_same w) (less_stop w) e change (λ x. record { each = λ n. omega arith });
  by_arrange =
      λ change w q s l t n.
      arrange_cases w (Less w) (less_same w) (less_stop w) change (record { each = λ n. omega arith });
  by_submit =
      λ d pool work w.
      submit_cases w (Less w) (less_same w) (less_stop w) d pool work (λ x. record { each = λ n. omega arith });
}

-- 3. Rules: what may be used after one might be before, or is to be settled.

-- how many frames settle n
abbrev settles_by : ℕ → Option ℕ → ℕ
settles_by n None = 0
settles_by n (Some d) = cond (nat_eq d n) 1 0

abbrev settles_of : ℕ → Frame → ℕ
settles_of n f = settles_by n (settled_by f)

abbrev pub settlings : ℕ → List Frame → ℕ
settlings n fs = sum_by (settles_of n) fs

record Paid (w : World) (t : Turned) : Type 0 where
  each : (n : ℕ) → owes_at n t.2 ≤ owes_at n w + settlings n t.0

-- a record that is set may owe then
more_by : (b : Bool) (x y : ℕ) → x ≤ 1 → cond b x y ≤ y + cond b 1 0
more_by true x y h = omega (arith, h)
more_by false x y h = omega arith

more_at : (n d : ℕ) (r s : Kind) (l : Records) → slice_get l d ≡ Some r
    → at owes_of n (slice_set l d s) ≤ at owes_of n l + cond (nat_eq d n) 1 0
more_at n d r s l h = rw (set_by owes_of n d r s l h) (more_by (nat_eq d n) (owes_of s) (at owes_of n l) (owes_once s))

-- after a pair is added to d, or d is fired since it was cancelled
append_more : (n d : ℕ) (pair : Pair) (w : World) → owes_at n (append d pair w) ≤ owes_at n w + cond (nat_eq d n) 1 0
append_more n d pair w =
    append_cases w (λ u. owes_at n u ≤ owes_at n w + cond (nat_eq d n) 1 0) (omega arith) (omega arith) d pair
    (λ r x g. more_at n d r (with_item (item.Pair pair) r) w.records g)

swallows_more : (n d : ℕ) (w : World) → owes_at n (fire_then_swallow d w) ≤ owes_at n w + cond (nat_eq d n) 1 0
unfolding fire_then_swallow
swallows_more n d w =
    let P : World → Type 0 = λ u. owes_at n u ≤ owes_at n w + cond (nat_eq d n) 1 0 in
    unless w P (omega arith) (omega arith) w.stopped _
    (fire_cases w (λ answer s. P (fired_then_swallows d answer s w)) (omega arith) d cancelled _ refl
    (λ g. rw g (omega arith))
    (λ r x g q. omega (arith, set_at owes_of n d r (firing.with_swallows false r) w.records g refl))
    (λ r x g p q. omega arith)
    (λ r x g p.
    let set = firing.with_firing cancelled r in
    omega (
      arith,
      changing_at owes_of n d (firing.with_swallows true) (slice_set w.records d set) (λ y. refl),
      more_at n d r set w.records g,
    )))

own_settling : (n d : ℕ) → settlings n (frame.Settle d ∷ []) ≡ cond (nat_eq d n) 1 0
own_settling n d = omega (arith, sum_by-cons (settles_of n) (frame.Settle d) [])

module _ (d : ℕ) (w : World) where
  abbrev PaidNext : Follow × World → Type 0
  PaidNext p = Paid w (settle_next d p.0 p.1)

  next_unless : (b : Bool) (p : Follow × World) → PaidNext p
      → PaidNext (cond {A = Follow × World} b (follow.Nothing, w) p)
  next_unless true p h = record { each = λ n. omega arith }
  next_unless false p h = h

  -- after d is fired, and after it is unpaused
  fire_pays : (value : Value) → PaidNext (fire d value w)
  unfolding fire
  fire_pays value =
      next_unless w.stopped _
      (fire_cases w (λ answer s. PaidNext (fired answer s w)) (record { each = λ n. omega arith }) d value _ refl
      (λ g. record { each = λ n. omega arith })
      (λ r x g q. record {
        each = λ n. omega (arith, set_at owes_of n d r (firing.with_swallows false r) w.records g refl);
      }) (λ r x g p q. record { each = λ n. omega arith })
      (λ r x g p. record {
        each = λ n. omega (arith, own_settling n d, more_at n d r (firing.with_firing value r) w.records g);
      }))

  less_pays : (b : Bool) (r : Kind) → slice_get w.records d ≡ Some r
      → (let t = cond {A = pausing.Unpaused Pair Canceller} b (
        Ok tt,
        (slice_set w.records d (with_pauses (r.pauses - 1) r), with_entry w.journal (entry.Unpause d)),
      ) (Err fault.Limit, state_of w) in PaidNext (unpaused t.0 t.1 w))
  less_pays true r g =
      record { each = λ n. omega (arith, own_settling n d, more_at n d r (with_pauses (r.pauses - 1) r) w.records g) }
  less_pays false r g = record { each = λ n. omega arith }

  unpaused_pays : (b : Bool) (r : Kind) → slice_get w.records d ≡ Some r
      → (let t = cond {A = pausing.Unpaused Pair Canceller} b (Err (fault.Refused (record {})), state_of w)
      (pausing.less_paused d r (state_of w)) in PaidNext (unpaused t.0 t.1 w))
  unpaused_pays true r g = record { each = λ n. omega arith }
  unpaused_pays false r g = less_pays (fits w.journal (entry.Unpause d)) r g

  unpause_found_pays : (o : Option Kind) → slice_get w.records d ≡ o
      → (let t = pausing.unpause_found d o (state_of w) in PaidNext (unpaused t.0 t.1 w))
  unpause_found_pays None g = record { each = λ n. omega arith }
  unpause_found_pays (Some r) g = unpaused_pays (nat_eq r.pauses 0) r g

  unpause_pays : PaidNext (unpause d w)
  unfolding unpause
  unpause_pays = next_unless w.stopped _ (unpause_found_pays _ refl)

-- a rule that calls for it that d is settled leaves that to be done
first_settles : (n d : ℕ) (fs : List Frame) → SettlesFirst d fs → cond {A = ℕ} (nat_eq d n) 1 0 ≤ settlings n fs
first_settles n d [] m = absurd m
first_settles n d (f ∷ fs) m = omega (arith, sum_by-cons (settles_of n) f fs, ap (settles_by n) m)

calls_settle : (n d : ℕ) (rule : Rule) (u : World) → CallsToSettle d rule
    → cond {A = ℕ} (nat_eq d n) 1 0 ≤ settlings n (run_rule rule u).0
calls_settle n d (Ends p) u m = absurd m
calls_settle n d (By rule) u m = absurd m
calls_settle n d (If b one other) u m = absurd m
calls_settle n d (Finds x none some) u m = absurd m
calls_settle n d (Then step rule) u m = absurd m
calls_settle n d (Asks question rule) u m = absurd m
calls_settle n d (Fires e v) u m = absurd m
calls_settle n d (Unpauses e) u m = absurd m
calls_settle n d (Over rule frames) u m =
    omega (arith, sum_by-append (settles_of n) (run_rule rule u).0 frames, first_settles n d frames m)

-- what follows a step pays for what that leaves
settled_pays : (d : ℕ) (rule : Rule) (w u : World) → ((n : ℕ) → owes_at n u ≤ owes_at n w + cond (nat_eq d n) 1 0)
    → CallsToSettle d rule → Paid u (run_rule rule u) → Paid w (run_rule rule u)
settled_pays d rule w u h m p =
    record { each = λ n. omega (arith, h n, calls_settle n d rule u m, p.each n, owes_at_most n (run_rule rule u).2) }

quiet_pays : (w u : World) (t : Turned) → Less w u → Paid u t → Paid w t
quiet_pays w u t l p = record { each = λ n. omega (arith, l.each n, p.each n) }

-- who gets a name, or waits no longer for a value or a token, owes nothing more, nor does anybody where a lock or a
-- question is asked
name_less : (d : ℕ) (name : List ℕ) (w : World) → Less w (stepped (steps.Name d name) w)
name_less d name w =
    aside_cases w (Less w) (less_same w) (less_stop w) (entry.Name d (Some name)) _ (λ x. record {
      each = λ n. omega arith;
    })

withdrawn_less : (k d : ℕ) (w : World) → Less w (world.withdraw k d w)
withdrawn_less k d w = arrange_cases w (Less w) (less_same w) (less_stop w) _ (record { each = λ n. omega arith })

asked_less : (l d : ℕ) (w : World) → Less w (world.ask l d w)
asked_less l d w = ask_cases w (Less w) (less_same w) (less_stop w) l d (λ s x g. record { each = λ n. omega arith })

released_less : (l : ℕ) (w : World) → Less w (world.release l w)
released_less l w =
    release_cases w (Less w) (less_same w) (less_stop w) l (λ s x g u. record { each = λ n. omega arith })

forgotten_less : (l d : ℕ) (w : World) → Less w (world.forget l d w)
forgotten_less l d w = arrange_cases w (Less w) (less_same w) (less_stop w) _ (record { each = λ n. omega arith })

question_less : (question : Question) (rule : Reply question → Rule) (w : World) → AsksCalmly w question rule
    → Less w (steps.asked question w).1
question_less (steps.Cancel d) rule w m =
    cancel_cases w (Less w) (less_same w) (less_stop w) d (λ x. record { each = λ n. omega arith })
question_less (steps.PutInto k v) rule w m =
    put_into_cases w (λ o u. Less w u) (less_same w) (less_stop w) k v (λ q s x g p. record { each = λ n. omega arith })
question_less (steps.GetFrom k d) rule w m =
    get_from_cases w (λ o u. Less w u) (less_same w) (less_stop w) k d (λ q s x g. record { each = λ n. omega arith })
question_less (steps.Moves d) rule w m = absurd m
question_less question rule w m = (question_quiet question w tt).keeps Less quiet_less

step_pays : (step : steps.Step) (o : Option Reached) (rule : Rule) (w : World) → IsCalm o step → Follows w step rule
    → Paid (stepped step w) (run_rule rule (stepped step w)) → Paid w (run_rule rule (stepped step w))
step_pays (steps.Put d v) o rule w c f p = absurd c
step_pays (steps.PutDeferred d e) o rule w c f p = absurd c
step_pays (steps.Advance ticks) o rule w c f p = absurd c
step_pays (steps.Name d name) o rule w c f p =
    quiet_pays w (stepped (steps.Name d name) w) (run_rule rule (stepped (steps.Name d name) w)) (name_less d name w) p
step_pays (steps.Append d pair) o rule w c f p =
    settled_pays d rule w (append d pair w) (λ n. append_more n d pair w) f p
step_pays (steps.FireThenSwallow d) o rule w c f p =
    settled_pays d rule w (fire_then_swallow d w) (λ n. swallows_more n d w) f p
step_pays (steps.Withdraw k d) o rule w c f p =
    quiet_pays w (world.withdraw k d w) (run_rule rule (world.withdraw k d w)) (withdrawn_less k d w) p
step_pays (steps.Ask l d) o rule w c f p =
    quiet_pays w (world.ask l d w) (run_rule rule (world.ask l d w)) (asked_less l d w) p
step_pays (steps.Release l) o rule w c f p =
    quiet_pays w (world.release l w) (run_rule rule (world.release l w)) (released_less l w) p
step_pays (steps.Forget l d) o rule w c f p =
    quiet_pays w (world.forget l d w) (run_rule rule (world.forget l d w)) (forgotten_less l d w) p
step_pays step o rule w c f p =
    quiet_pays w (stepped step w) (run_rule rule (stepped step w)) ((step_quiet step w tt).keeps Less quiet_less) p

either_pays : (b : Bool) (w : World) (t u : Turned) → (b ≡ true → Paid w t) → (b ≡ false → Paid w u)
    → Paid w (if b then t else u)
either_pays true w t u c d = c refl
either_pays false w t u c d = d refl

found_pays : {A : Type 0} (o : Option A) (w : World) (t : Turned) (f : A → Turned) → Paid w t
    → ((a : A) → o ≡ Some a → Paid w (f a)) → Paid w (found o t f)
found_pays None w t f c d = c
found_pays (Some a) w t f c d = d a refl

rule_pays : (rule : Rule) (o : Option Reached) (w : World) → Mildly o w rule → Paid w (run_rule rule w)
rule_pays (Ends p) o w m = record { each = λ n. omega arith }
rule_pays (By rule) o w m = rule_pays (rule w) o w m
rule_pays (If b one other) o w m =
    either_pays b w (run_rule one w) (run_rule other w) (λ e. rule_pays one o w (m.0 e))
    (λ e. rule_pays other o w (m.1 e))
rule_pays (Finds x none some) o w m =
    found_pays x w (run_rule none w) (λ a. run_rule (some a) w) (rule_pays none o w m.0)
    (λ a e. rule_pays (some a) o w (m.1 a e))
rule_pays (Then step rule) o w m = step_pays step o rule w m.0 m.1 (rule_pays rule None (stepped step w) m.2)
rule_pays (Asks question rule) o w m =
    let a = steps.asked question w in
    quiet_pays w a.1 (run_rule (rule a.0) a.1) (question_less question rule w m.0)
    (rule_pays (rule a.0) (reached_by question a.0) a.1 (m.1 a.0))
rule_pays (Fires d v) o w m = fire_pays d w v
rule_pays (Unpauses d) o w m = unpause_pays d w
rule_pays (Over rule frames) o w m = record {
  each = λ n. omega (arith, sum_by-append (settles_of n) (run_rule rule w).0 frames, (rule_pays rule o w m.0).each n);
}

-- 4. Turns: what may be used is to be settled.

-- a run that goes on hasn't stopped before
record GoesOn (w u : World) : Type 0 where
  going : u.stopped ≡ false → w.stopped ≡ false

on_same : (w : World) → GoesOn w w
on_same w = record { going = λ h. h }

on_stop : (w : World) → GoesOn w (with_stop w)
on_stop w = record { going = λ h. absurd cc }

still_on : Still GoesOn
still_on = record {
  stays = on_same;
  joins = λ u v w p q. record { going = λ h. p.going (q.going h) };
  stops = on_stop;
  news = λ name canceller w x. record { going = λ h. h };
  asides = λ e change w a c l b x. record { going = λ h. h };
  arranges = λ change w s l b. record { going = λ h. h };
  submits = λ d pool work w x. record { going = λ h. h };
  refuses = λ d r w x g p q. record { going = λ h. h };
  swallows = λ d r w x g q. record { going = λ h. h };
  cancels = λ d w x. record { going = λ h. h };
  sets_swallows = λ d r w x g p c. record { going = λ h. h };
  fires = λ d value r w x g p. record { going = λ h. h };
  adds = λ d pair r w x g. record { going = λ h. h };
  pauses = λ d r w x g. record { going = λ h. h };
  unpauses = λ d r w x g p. record { going = λ h. h };
}

on_calm : (w u : World) → Calmly w u → GoesOn w u
on_calm w u c = c.keeps GoesOn (calm GoesOn still_on)

-- each that may use an item is to be settled, unless the run has stopped
record Watched (fs : List Frame) (w : World) : Type 0 where
  watched : w.stopped ≡ false → (n : ℕ) → owes_at n w ≤ settlings n fs

mild_watched : (below : List Frame) (w : World) (t : Turned) → Watched below w → Paid w t → GoesOn w t.2
    → Watched (t.0 ++ below) t.2
mild_watched below w t s p g =
    record { watched = λ h n. omega (arith, sum_by-append (settles_of n) t.0 below, s.watched (g.going h) n, p.each n) }

-- the frames by which n is settled after a move of d
abbrev settled_of : ℕ → ℕ → Step Pair → ℕ
settled_of n d Nothing = cond (nat_eq d n) 1 0
settled_of n d Passed = cond (nat_eq d n) 1 0
settled_of n d (Run pair) = 0
settled_of n d (Handed c) = cond (nat_eq c n) 1 0 + cond (nat_eq d n) 1 0

within_by : (b : Bool) (x y k : ℕ) → x ≤ 1 → y ≤ cond b 1 0 + k → cond b x y ≤ cond b 1 0 + k
within_by true x y k h q = omega (arith, h)
within_by false x y k h q = omega (arith, q)

none_by : (b : Bool) (x y k : ℕ) → x ≡ 0 → y ≤ cond b 1 0 + k → cond b x y ≤ k
none_by true x y k h q = omega (arith, h)
none_by false x y k h q = omega (arith, q)

both_by : (b c : Bool) (x y z s k : ℕ) → s ≡ cond b y z → x ≤ 1 → y ≤ 1 → z ≤ cond b 1 0 + k
    → cond c x s ≤ cond c 1 0 + cond b 1 0 + k
both_by true true x y z s k e h i q = omega (arith, h)
both_by true false x y z s k e h i q = omega (arith, e, i)
both_by false true x y z s k e h i q = omega (arith, h)
both_by false false x y z s k e h i q = omega (arith, e, q)

move_owes : (n d k : ℕ) (w : World) → owes_at n w ≤ cond (nat_eq d n) 1 0 + k
    → owes_at n (step d w).1 ≤ settled_of n d (step d w).0 + k
move_owes n d k w h =
    step_cases w (λ move u. owes_at n u ≤ settled_of n d move + k) h h d
    (λ r pair rest g e a.
    let left : Kind = record r { items = rest } in
    omega (
      arith,
      set_by owes_of n d r left w.records g,
      within_by (nat_eq d n) (owes_of left) (owes_at n w) k (owes_once left) h,
    ))
    (λ r pair rest x g e a.
    let begun : Kind = record r { items = rest; running = true } in
    omega (
      arith,
      set_by owes_of n d r begun w.records g,
      none_by (nat_eq d n) (owes_of begun) (owes_at n w) k
          (owes_none begun (running_unready r.fired true (nat_eq r.pauses 0) (is_none r.waits_for) refl)) h,
    ))
    (λ r c rest x g e a.
    let left : Kind = record r { items = rest; value = Null } in
    let first = slice_set w.records d left in
    omega (
      arith,
      changing_by owes_of n c (with_handed r.value) first,
      both_by (nat_eq d n) (nat_eq c n) (at (λ y. owes_of (with_handed r.value y)) n first) (owes_of left) (owes_at n w)
          (at owes_of n first) k (set_by owes_of n d r left w.records g)
          (once_in (λ y. owes_of (with_handed r.value y)) (λ y. owes_once (with_handed r.value y)) (slice_get first n))
          (owes_once left) h,
    ))

move_on : (d : ℕ) (w : World) → GoesOn w (step d w).1
move_on d w =
    step_cases w (λ move u. GoesOn w u) (on_same w) (on_stop w) d (λ r pair rest g e a. record { going = λ h. h })
    (λ r pair rest x g e a. record { going = λ h. h }) (λ r c rest x g e a. record { going = λ h. h })

no_items : (b : Bool) → cond {A = ℕ} (b && false) 1 0 ≡ 0
no_items true = refl
no_items false = refl

-- where nothing is used, nothing may be, unless the run has stopped
module _ (d : ℕ) (w : World) where
  abbrev IsIdle : Step Pair × World → Type 0
  IsIdle m = m.0 ≡ Nothing → m.1.stopped ≡ false → owes_at d m.1 ≡ 0

  idle_moved : (b : Bool) (move : Step Pair) (s : Both) → (move ≡ Nothing → ⊥)
      → (let t = cond {A = callbacks.Stepped Pair Canceller} b (Ok move, s) (Err stop.Limit, state_of w) in
      IsIdle (world.moved t.0 t.1 w))
  idle_moved true move s h x y = absurd (h x)
  idle_moved false move s h x y = absurd cc

  idle_pair : (b : Bool) (r : Kind) (pair : Pair) (rest : List (Item Pair))
      → (let t = cond {A = callbacks.Stepped Pair Canceller} b (
        Ok Passed,
        (slice_set w.records d (record r { items = rest }), w.journal),
      ) (callbacks.run_pair d r pair rest (state_of w)) in IsIdle (world.moved t.0 t.1 w))
  idle_pair true r pair rest x y = absurd cc
  idle_pair false r pair rest x y = idle_moved (fits w.journal (entry.Run d)) (Run pair) _ (λ q. absurd cc) x y

  idle_item : (r : Kind) (first : Item Pair) (rest : List (Item Pair))
      → (let t = callbacks.use_item passes d r first rest (state_of w) in IsIdle (world.moved t.0 t.1 w))
  idle_item r (item.Pair pair) rest x y = idle_pair (passes pair (is_fault r.value)) r pair rest x y
  idle_item r (item.HandOver c) rest x y =
      idle_moved (fits w.journal (entry.Hand d c r.value)) (Handed c) _ (λ q. absurd cc) x y

  idle_first : (r : Kind) (items : List (Item Pair)) → r.items ≡ items → slice_get w.records d ≡ Some r
      → (let t = callbacks.use_first passes d r items (state_of w) in IsIdle (world.moved t.0 t.1 w))
  idle_first r [] e g x y =
      rw g (ap {B = ℕ} (λ items. cond (callbacks.is_ready r && some_of items) 1 0) e ∙ no_items (callbacks.is_ready r))
  idle_first r (first ∷ rest) e g x y = idle_item r first rest x y

  idle_ready : (b : Bool) (r : Kind) → callbacks.is_ready r ≡ b → slice_get w.records d ≡ Some r
      → (let t = cond {A = callbacks.Stepped Pair Canceller} b (callbacks.use_first passes d r r.items (state_of w))
      (Ok Nothing, state_of w) in IsIdle (world.moved t.0 t.1 w))
  idle_ready true r a g x y = idle_first r r.items refl g x y
  idle_ready false r a g x y = rw g (owes_none r a)

  idle_found : (o : Option Kind) → slice_get w.records d ≡ o
      → (let t = callbacks.step_found passes d o (state_of w) in IsIdle (world.moved t.0 t.1 w))
  idle_found None g x y = rw g refl
  idle_found (Some r) g x y = idle_ready _ r refl g x y

  idle_unless : (b : Bool) (m : Step Pair × World) → w.stopped ≡ b → IsIdle m
      → IsIdle (cond {A = Step Pair × World} b (Nothing, w) m)
  idle_unless true m e h x y = absurd cc
  idle_unless false m e h x y = h x y

  idle_step : IsIdle (step d w)
  unfolding step callbacks.step
  idle_step x y = idle_unless w.stopped _ refl (idle_found _ refl) x y

idle_by : (b : Bool) (n d k : ℕ) (u : World) → nat_eq d n ≡ b → owes_at d u ≡ 0 → owes_at n u ≤ cond b 1 0 + k
    → owes_at n u ≤ k
idle_by true n d k u e z q = subst (λ x. owes_at x u ≤ k) (eqb-true d n e) (omega (arith, z))
idle_by false n d k u e z q = omega (arith, q)

-- after d has moved
module _ (below : List Frame) (d : ℕ) (w u : World) (g : GoesOn w u) (s : Watched (frame.Settle d ∷ below) w) where
  before_move : u.stopped ≡ false → (n : ℕ) → owes_at n w ≤ cond (nat_eq d n) 1 0 + settlings n below
  before_move h n = omega (arith, sum_by-cons (settles_of n) (frame.Settle d) below, s.watched (g.going h) n)

  abbrev Moved : Step Pair → Type 0
  Moved move = (n k : ℕ) → owes_at n w ≤ cond (nat_eq d n) 1 0 + k → owes_at n u ≤ settled_of n d move + k

  run_watched : (pair : Pair) → Moved (Run pair) → (let t = settled d (Run pair) u in Watched (t.0 ++ below) t.2)
  run_watched pair m =
      let side = side_for pair (is_fault (value_of d u)) in
      let t = side_begun d side (value_of d u) u in
      let c = on_calm u t.2 (side_mild d side (value_of d u) u).comes in
      let p = rule_pays (page.run_side d side (value_of d u)) None u (side_rule_mild d side (value_of d u) u) in
      record {
        watched = λ h n.
            omega (
              arith,
              sum_by-append (settles_of n) (t.0 ++ frame.Place d ∷ []) below,
              sum_by-append (settles_of n) t.0 (frame.Place d ∷ []),
              p.each n,
              m n (settlings n below) (before_move (c.going h) n),
            );
      }

  settled_watched : (move : Step Pair) → Moved move → (move ≡ Nothing → u.stopped ≡ false → owes_at d u ≡ 0)
      → (let t = settled d move u in Watched (t.0 ++ below) t.2)
  settled_watched Nothing m i = record {
    watched = λ h n.
        idle_by (nat_eq d n) n d (settlings n below) u refl (i refl h) (m n (settlings n below) (before_move h n));
  }
  settled_watched Passed m i = record {
    watched = λ h n.
        omega (arith, sum_by-cons (settles_of n) (frame.Settle d) below, m n (settlings n below) (before_move h n));
  }
  settled_watched (Run pair) m i = run_watched pair m
  settled_watched (Handed other) m i = record {
    watched = λ h n. omega (
      arith,
      sum_by-cons (settles_of n) (frame.Settle other) (frame.Settle d ∷ below),
      sum_by-cons (settles_of n) (frame.Settle d) below,
      m n (settlings n below) (before_move h n),
    );
  }

-- what a side gave is put in place
set_within : (b : Bool) (x y s k : ℕ) → s ≡ cond b x y → x ≤ 1 → y ≤ k → s ≤ cond b 1 0 + k
set_within true x y s k e h q = omega (arith, e, h)
set_within false x y s k e h q = omega (arith, e, q)

put_owes : (n d k : ℕ) (value : Value) (w : World) → owes_at n w ≤ k
    → owes_at n (put d value w) ≤ cond (nat_eq d n) 1 0 + k
put_owes n d k value w h =
    put_cases w (λ u. owes_at n u ≤ cond (nat_eq d n) 1 0 + k) (omega (arith, h)) (omega (arith, h)) d value
    (λ r x g. set_within (nat_eq d n) (owes_of (with_result value r)) (owes_at n w) _ k
    (set_by owes_of n d r (with_result value r) w.records g) (owes_once (with_result value r)) h)

-- one that has no value to take yet isn't ready
pending_unready : (q a b c : Bool) (o : Option ℕ) → q ≡ false → (q || not a || not c || is_some o) ≡ true
    → (a && not b && c && is_none o) ≡ false
pending_unready true a b c o e h = absurd cc
pending_unready false false b c o e h = refl
pending_unready false true true c o e h = refl
pending_unready false true false false o e h = refl
pending_unready false true false true None e h = absurd cc
pending_unready false true false true (Some x) e h = refl

other_by : (n d e : ℕ) → nat_eq d n ≡ false → e ≡ n → nat_eq d e ≡ false
other_by n d e h q = rw q h

waits_within : (b c : Bool) (n d e k x : ℕ) (given : Kind) (w : World) → nat_eq d n ≡ b → nat_eq e n ≡ c
    → slice_get w.records e ≡ Some given → chaining.is_pending d e given ≡ true → x ≤ 1 → owes_at n w ≤ k
    → cond b x (cond c (at (λ y. owes_of (with_item (item.HandOver d) y)) n w.records) (owes_at n w)) ≤ cond b 1 0 + k
waits_within true c n d e k x given w p q g i h z = omega (arith, h)
waits_within false true n d e k x given w p q g i h z =
    let same = eqb-true e n q in
    let none : owes_of (with_item (item.HandOver d) given) ≡ 0 =
    owes_none (with_item (item.HandOver d) given) (pending_unready (nat_eq d e) given.fired given.running
    (nat_eq given.pauses 0) given.waits_for (other_by n d e p same) i) in
    let found : slice_get w.records n ≡ Some given = ap (λ y. slice_get w.records y) (sym same) ∙ g in
    omega (arith, ap (counted_of (λ y. owes_of (with_item (item.HandOver d) y))) found, none)
waits_within false false n d e k x given w p q g i h z = omega (arith, z)

put_deferred_owes : (n d e k : ℕ) (w : World) → owes_at n w ≤ k
    → owes_at n (put_deferred d e w) ≤ cond (nat_eq d n) 1 0 + k
put_deferred_owes n d e k w h =
    put_deferred_cases w (λ u. owes_at n u ≤ cond (nat_eq d n) 1 0 + k) (omega (arith, h)) (omega (arith, h)) d e
    (λ r given x g i p.
    let first = changing e (with_item (item.HandOver d)) w.records in
    rw (
      changing_by owes_of n d (chaining.with_wait e) first,
      changing_by owes_of n e (with_item (item.HandOver d)) w.records,
    )
    (waits_within (nat_eq d n) (nat_eq e n) n d e k _ given w refl refl i p
    (once_in (λ y. owes_of (chaining.with_wait e y)) (λ y. owes_once (chaining.with_wait e y)) (slice_get first n)) h))
    (λ r given x g i p.
    let first = changing e chaining.without_value w.records in
    set_within (nat_eq d n) (at (λ y. owes_of (with_result given.value y)) n first) (at owes_of n first) _ k
    (changing_by owes_of n d (with_result given.value) first)
    (once_in (λ y. owes_of (with_result given.value y)) (λ y. owes_once (with_result given.value y))
    (slice_get first n)) (omega (arith, changing_at owes_of n e chaining.without_value w.records (λ y. refl), h)))

place_owes : (n d k : ℕ) (o : Performed) (w : World) → owes_at n w ≤ k
    → owes_at n (place d o w) ≤ cond (nat_eq d n) 1 0 + k
place_owes n d k Done w h = put_owes n d k Null w h
place_owes n d k (Gave value) w h = put_owes n d k value w h
place_owes n d k (Raised failure) w h = put_owes n d k (Fault failure) w h
place_owes n d k (Awaits e) w h = put_deferred_owes n d e k w h

put_on : (d : ℕ) (value : Value) (w : World) → GoesOn w (put d value w)
put_on d value w = put_cases w (GoesOn w) (on_same w) (on_stop w) d value (λ r x g. record { going = λ h. h })

place_on : (d : ℕ) (o : Performed) (w : World) → GoesOn w (place d o w)
place_on d Done w = put_on d Null w
place_on d (Gave value) w = put_on d value w
place_on d (Raised failure) w = put_on d (Fault failure) w
place_on d (Awaits e) w =
    put_deferred_cases w (GoesOn w) (on_same w) (on_stop w) d e (λ r given x g i p. record { going = λ h. h })
    (λ r given x g i p. record { going = λ h. h })

placed_watched : (below : List Frame) (d : ℕ) (o : Performed) (w : World) → Watched (frame.Place d ∷ below) w
    → Watched (frame.Settle d ∷ below) (place d o w)
placed_watched below d o w s = record {
  watched = λ h n.
      let before : owes_at n w ≤ settlings n below =
      omega (arith, sum_by-cons (settles_of n) (frame.Place d) below, s.watched ((place_on d o w).going h) n) in
      omega (arith, sum_by-cons (settles_of n) (frame.Settle d) below, place_owes n d (settlings n below) o w before);
}

-- one turn
abbrev WatchedAfter : List Frame → Turned → Type 0
WatchedAfter below t = Watched (t.0 ++ below) t.2

mild_turn : (f : Frame) (o : Performed) (w : World) (below : List Frame) → ((n : ℕ) → settles_of n f ≡ 0) → IsMild f
    → Watched (f ∷ below) w → WatchedAfter below (turned f o w)
mild_turn f o w below z m s =
    mild_watched below w (turned f o w) (record {
      watched = λ h n. omega (arith, sum_by-cons (settles_of n) f below, z n, s.watched h n);
    }) (rule_pays (scripts.rule_of f o) None w (rule_mild f o w m))
    (on_calm w (turned f o w).2 (turned_mild f o w m).comes)

turn_watched : (f : Frame) (o : Performed) (w : World) (below : List Frame) → Watched (f ∷ below) w
    → WatchedAfter below (turned f o w)
turn_watched (frame.Settle d) o w below s =
    settled_watched below d w (step d w).1 (move_on d w) s (step d w).0 (λ n k h. move_owes n d k w h) (idle_step d w)
turn_watched (frame.Place d) o w below s =
    subst (λ (t : Turned). WatchedAfter below t) (sym (place_runs d o w)) (placed_watched below d o w s)
turn_watched (frame.Rest rest) o w below s = mild_turn (frame.Rest rest) o w below (λ n. refl) tt s
turn_watched (frame.Canceller d) o w below s = mild_turn (frame.Canceller d) o w below (λ n. refl) tt s
turn_watched (frame.Maybe purpose) o w below s = mild_turn (frame.Maybe purpose) o w below (λ n. refl) tt s
turn_watched (frame.Add d pair) o w below s = mild_turn (frame.Add d pair) o w below (λ n. refl) tt s
turn_watched (frame.Cancel d) o w below s = mild_turn (frame.Cancel d) o w below (λ n. refl) tt s
turn_watched (frame.Give given) o w below s = mild_turn (frame.Give given) o w below (λ n. refl) tt s
turn_watched (frame.Notify d t) o w below s = mild_turn (frame.Notify d t) o w below (λ n. refl) tt s
turn_watched (frame.Stepped t) o w below s = mild_turn (frame.Stepped t) o w below (λ n. refl) tt s
turn_watched (frame.Halt t) o w below s = mild_turn (frame.Halt t) o w below (λ n. refl) tt s
turn_watched (frame.Tick k units) o w below s = mild_turn (frame.Tick k units) o w below (λ n. refl) tt s
turn_watched frame.Tell o w below s = mild_turn frame.Tell o w below (λ n. refl) tt s
turn_watched frame.Due o w below s = mild_turn frame.Due o w below (λ n. refl) tt s
turn_watched (frame.Inline inlining) o w below s = mild_turn (frame.Inline inlining) o w below (λ n. refl) tt s

-- 5. Runs.

-- all turns
turns_watched : (n : ℕ) (fs : List Frame) (o : Performed) (w : World) (q : Performed) (v : World)
    → run n fs o w ≡ Some (q, v) → Watched fs w → Watched [] v
unfolding run
turns_watched zero [] o w q v h s =
    let x : Ended = (o, w) in
    let y : Ended = (q, v) in
    let e : x ≡ y = cc in
    subst (λ u. Watched [] u) (ap (λ (r : Ended). r.1) e) s
turns_watched zero (f ∷ below) o w q v h s = absurd cc
turns_watched (suc n) [] o w q v h s = absurd cc
turns_watched (suc n) (f ∷ below) o w q v h s =
    let t = turned f o w over below in turns_watched n t.0 t.1 t.2 q v h (turn_watched f o w below s)

gives_watched : (fs : List Frame) (o : Performed) (w : World) (p : Performed) (u : World) → Gives fs o w p u
    → Watched fs w → Watched [] u
gives_watched fs o w p u g s =
    let all = finishes fs o w in
    let same = gives_one (runs_lead all.turns fs o w all.outcome all.after all.ends) g in
    subst (λ x. Watched [] x) same.1 (turns_watched all.turns fs o w all.outcome all.after all.ends s)

-- what an event or a post begins with
begun_watched : (w : World) (t : Turned) → Watched [] w → Paid w t → GoesOn w t.2 → Watched t.0 t.2
begun_watched w t s p g = record { watched = λ h n. omega (arith, s.watched (g.going h) n, p.each n) }

advance_on : (ticks : ℕ) (w : World) → GoesOn w (world.advance ticks w)
advance_on ticks w =
    aside_cases w (GoesOn w) (on_same w) (on_stop w) (entry.Advance _) (with_time _) (λ x. record { going = λ h. h })

advance_less : (ticks : ℕ) (w : World) → Less w (world.advance ticks w)
advance_less ticks w = aside_cases w (Less w) (less_same w) (less_stop w) (entry.Advance _) (with_time _) (λ x. record {
  each = λ n. omega arith;
})

happens_begins : (occurrence : Occurrence) (w : World) → Watched [] w
    → (let t = happening occurrence w in Watched t.0 t.2)
happens_begins (Occurs (event.Action action)) w s =
    let t = happening (Occurs (event.Action action)) w in
    begun_watched w t s (rule_pays (scripts.happens (Occurs (event.Action action))) None w
    (carry_mild None (out-Action action) w, (tt, tt))) (on_calm w t.2 (action_mild action w).comes)
happens_begins (Occurs (event.Advance ticks)) w s =
    let t = happening (Occurs (event.Advance ticks)) w in
    begun_watched w t s (record { each = λ n. omega (arith, (advance_less ticks w).each n) }) (advance_on ticks w)
happens_begins (Occurs (event.Drain most)) w s =
    let t = happening (Occurs (event.Drain most)) w in
    begun_watched w t s (rule_pays (scripts.happens (Occurs (event.Drain most))) None w (tt, tt, tt))
    (on_calm w t.2 (drain_mild w).comes)
happens_begins (Occurs (event.Expect name expected)) w s =
    let t = happening (Occurs (event.Expect name expected)) w in
    begun_watched w t s (rule_pays (scripts.happens (Occurs (event.Expect name expected))) None w
    (expect_mildly name expected w)) (on_calm w t.2 (expect_mild name expected w).comes)
happens_begins (Posts posted body) w s =
    let t = happening (Posts posted body) w in
    begun_watched w t s (rule_pays (scripts.happens (Posts posted body)) None w (tt, tt, (tt, (tt, (tt, tt)))))
    (on_calm w t.2 (post_comes posted.caller posted.index w))

runs_watched : (all : List Occurrence) (w u : World) → Runs all w u → Watched [] w → Watched [] u
runs_watched [] w u h s = subst (λ x. Watched [] x) (sym h) s
runs_watched (occurrence ∷ rest) w u h s =
    let t = happening occurrence w in
    runs_watched rest h.0 u h.2 (gives_watched t.0 t.1 t.2 h.1.0 h.0 h.1.1 (happens_begins occurrence w s))

-- so at the end of a run that hasn't stopped none may use an item
pub all_settled : (script : Script) (batches : List Batch) (w : World) → Means script batches w → w.stopped ≡ false
    → (n : ℕ) → owes_at n w ≡ 0
all_settled script batches w m h n =
    let first =
    first_world script.classes script.bodies script.ends_throw script.limit script.cooperator script.cooperators in
    let all = runs_watched (occurrences script.callers script.events batches) first w m (record {
      watched = λ g k. omega arith;
    }) in
    omega (arith, all.watched h n)
