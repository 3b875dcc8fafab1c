-- The telling cases, each worked out.
use Rattle.std.proofs.Common.{◌≡◌, ℕ, nat_eq, arith, true, false, [], Option, None, Some, refl}
use Rattle.dv_definition.specs.Cases.{TokensAreWaitedFor, FullQueuesRefuse, FiredListsStay, TurnsFollow, EndedTasksStay}
use Rattle.dv_definition.specs.Cases.{NameErrorsAreThrown, ErrbacksAreForFailures, ManyJobsAreRefused}
use Rattle.dv_definition.specs.Cases.{FairTurnsGoRound, JoinersWantTicks}
use Rattle.dv_definition.specs.Cases.{FailuresOfCallsAreTold, StoppedOnesTakeNone, TurnsTakeBodies, UnmetRunsEnd}
use Rattle.std.proofs.lemmas.Bool.Decides.{nat_tests}
use Rattle.dv_definition.specs.Rule.{Finds, Fires, run}
use Rattle.dv_definition.specs.Words.{finished, if_unfired}
use Rattle.dv_objects.specs.declared.performed.Performed.TheVariants.{Done}
use Rattle.dv_value.specs.declared.value.Value.{Value}
use Rattle.dv_world.specs.World as world
use Rattle.dv_world.specs.World.{World, is_unfired}

pub tokens_are_waited_for : TokensAreWaitedFor
tokens_are_waited_for name l w s is taken = rw (is, taken) refl

pub full_queues_refuse : FullQueuesRefuse
full_queues_refuse k v w q is full = rw (is, full) refl

-- whatever is due
none_fired : (d : ℕ) (o : Option Value) (u : World) → is_unfired d u ≡ false
    → run (Finds o finished (λ v. if_unfired d (Fires d v) finished)) u ≡ ([], Done, u)
none_fired d None u h = refl
none_fired d (Some v) u h = rw h refl

pub fired_lists_stay : FiredListsStay
fired_lists_stay child input w h =
    let after = world.child_fired_in child.list child.place input w in
    rw (none_fired child.of after.0.fire after.1 h) refl

pub turns_follow : TurnsFollow
turns_follow l w x is runs = rw (is, runs) refl

pub turns_take_bodies : TurnsTakeBodies
turns_take_bodies l w x is = rw is refl

pub ended_tasks_stay : EndedTasksStay
ended_tasks_stay t e w over = rw over refl

pub stopped_ones_take_none : StoppedOnesTakeNone
stopped_ones_take_none k t w c x is stopped there unpaused = rw (is, stopped, there, unpaused) refl

pub joiners_want_ticks : JoinersWantTicks
joiners_want_ticks k t w c is runs ticks twisted none some = rw (is, runs, ticks, twisted, none, some) refl

pub fair_turns_go_round : FairTurnsGoRound
fair_turns_go_round a b other =
    let same : nat_eq b b ≡ true = grind (arith, nat_tests) in
    rw (other, same) refl

pub name_errors_are_thrown : NameErrorsAreThrown
name_errors_are_thrown i name p w none = rw none refl

pub errbacks_are_for_failures : ErrbacksAreForFailures
errbacks_are_for_failures itself name body d w is = rw is refl

pub many_jobs_are_refused : ManyJobsAreRefused
many_jobs_are_refused name pool delay work w full = rw full refl

pub failures_of_calls_are_told : FailuresOfCallsAreTold
failures_of_calls_are_told name key body w is = rw is refl

pub unmet_runs_end : UnmetRunsEnd
unmet_runs_end d expected w unmet = rw unmet refl
