-- Every rule leads on by steps of the world, by its form alone.
use Rattle.std.proofs.Common.{ℕ, Bool, true, false, if◌then◌else◌, Option, None, Some}
use Rattle.dv_definition.specs.Rule.{found}
use Rattle.dv_frames.specs.Turn.{Turned, settle_next}
use Rattle.dv_objects.specs.declared.follow.Follow.{Follow}
use Rattle.dv_objects.specs.declared.follow.Follow.TheVariants as follow
use Rattle.dv_loop.proofs.Lasting.{Comes}
use Rattle.dv_definition.specs.Rule.{Rule, Ends, By, If, Finds, Then, Asks, Fires, Unpauses, Over, run}
use Rattle.dv_definition.specs.Steps.{stepped, asked}
use Rattle.dv_loop.proofs.StepsCome.{same, join, step_comes, question_comes}
use Rattle.dv_world.specs.World as world
use Rattle.dv_world.specs.World.{World}

next_comes : (d : ℕ) (o : Follow) (w u : World) → Comes w u → Comes w (settle_next d o u).2
next_comes d follow.Settle w u c = c
next_comes d follow.Nothing w u c = c
next_comes d (follow.Raise failure) w u c = c

either_comes : (b : Bool) (w : World) (t u : Turned) → Comes w t.2 → Comes w u.2 → Comes w (if b then t else u).2
either_comes true w t u c d = c
either_comes false w t u c d = d

found_comes : {A : Type 0} (o : Option A) (w : World) (t : Turned) (f : A → Turned) → Comes w t.2
    → ((a : A) → Comes w (f a).2) → Comes w (found o t f).2
found_comes None w t f c d = c
found_comes (Some a) w t f c d = d a

pub rule_comes : (rule : Rule) (w : World) → Comes w (run rule w).2
rule_comes (Ends p) w = same w
rule_comes (By rule) w = rule_comes (rule w) w
rule_comes (If b one other) w = either_comes b w (run one w) (run other w) (rule_comes one w) (rule_comes other w)
rule_comes (Finds o none some) w =
    found_comes o w (run none w) (λ a. run (some a) w) (rule_comes none w) (λ a. rule_comes (some a) w)
rule_comes (Then step rule) w = join w (stepped step w) _ (step_comes step w) (rule_comes rule (stepped step w))
rule_comes (Asks question rule) w =
    let a = asked question w in join w a.1 _ (question_comes question w) (rule_comes (rule a.0) a.1)
rule_comes (Fires d v) w =
    next_comes d (world.fire d v w).0 w (world.fire d v w).1 (record { keeps = λ R l. l.by_fire d v w })
rule_comes (Unpauses d) w =
    next_comes d (world.unpause d w).0 w (world.unpause d w).1 (record { keeps = λ R l. l.by_unpause d w })
rule_comes (Over rule frames) w = rule_comes rule w
