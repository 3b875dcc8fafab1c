-- For every rule: its frames lead where it says, whatever frames mean. By the form of a rule alone.
use Rattle.std.proofs.Common.{◌≡◌, ℕ, Bool, true, false, not, if◌then◌else◌, Option, None, Some, refl}
use Rattle.dv_frames.specs.Turn.{Turned, settle_next}
use Rattle.dv_objects.specs.Refusals.{refused_firing, refused_unpausing}
use Rattle.dv_objects.specs.declared.follow.Follow.{Follow}
use Rattle.dv_objects.specs.declared.performed.Performed.TheVariants.{Done, Raised}
use Rattle.dv_definition.proofs.Through.{here, over_all}
use Rattle.dv_definition.proofs.Fires.{Fires as FiresBy, stopped, set, swallowed, refused, fires as fires_by}
use Rattle.dv_definition.proofs.Fires.{Unpauses as UnpausesBy, halted, unheld, less, unpauses as unpauses_by}
use Rattle.dv_definition.specs.Law.{FramesSayTheRule, FramesSayWhatHappens}
use Rattle.dv_definition.specs.Scripts.{happens, rule_of}
use Rattle.dv_definition.specs.Rule.{Answer, found, through, Rule, Ends, By, If, Finds, Then, Asks, Fires, Unpauses}
use Rattle.dv_definition.specs.Rule.{Over, run, say, Meant, settles}
use Rattle.dv_definition.specs.Steps.{stepped, asked}
use Rattle.dv_world.specs.World as world
use Rattle.dv_world.specs.World.{World}

by_fires : (go : Meant) (d : ℕ) (u : World) (f : Follow) (halts b c : Bool) → FiresBy f halts b c
    → here go (settle_next d f u) ≡ (if halts then Some (Done, u) else if not b then through go (settles d) Done u
    else if c then Some (Done, u) else Some (Raised refused_firing, u))
by_fires go d u f halts b c stopped = refl
by_fires go d u f halts b c set = refl
by_fires go d u f halts b c swallowed = refl
by_fires go d u f halts b c refused = refl

by_unpauses : (go : Meant) (d : ℕ) (u : World) (f : Follow) (halts b : Bool) → UnpausesBy f halts b
    → here go (settle_next d f u) ≡ (if halts then Some (Done, u) else if b then Some (Raised refused_unpausing, u)
    else through go (settles d) Done u)
by_unpauses go d u f halts b halted = refl
by_unpauses go d u f halts b unheld = refl
by_unpauses go d u f halts b less = refl

either : (go : Meant) (b : Bool) (t u : Turned) (a c : Answer) → here go t ≡ a → here go u ≡ c
    → here go (if b then t else u) ≡ (if b then a else c)
either go true t u a c h k = h
either go false t u a c h k = k

finds : {A : Type 0} (go : Meant) (o : Option A) (t : Turned) (f : A → Turned) (a : Answer) (g : A → Answer)
    → here go t ≡ a → ((x : A) → here go (f x) ≡ g x) → here go (found o t f) ≡ found o a g
finds go None t f a g h k = h
finds go (Some x) t f a g h k = k x

pub frames_say : (go : Meant) (rule : Rule) (w : World) → here go (run rule w) ≡ say go rule w
frames_say go (Ends p) w = refl
frames_say go (By rule) w = frames_say go (rule w) w
frames_say go (If b one other) w =
    either go b (run one w) (run other w) (say go one w) (say go other w) (frames_say go one w) (frames_say go other w)
frames_say go (Finds o none some) w =
    finds go o (run none w) (λ a. run (some a) w) (say go none w) (λ a. say go (some a) w) (frames_say go none w)
    (λ a. frames_say go (some a) w)
frames_say go (Then step rule) w = frames_say go rule (stepped step w)
frames_say go (Asks question rule) w = let (reply, after) = asked question w in frames_say go (rule reply) after
frames_say go (Fires d v) w = by_fires go d (world.fire d v w).1 (world.fire d v w).0 _ _ _ (fires_by d v w)
frames_say go (Unpauses d) w = by_unpauses go d (world.unpause d w).1 (world.unpause d w).0 _ _ (unpauses_by d w)
frames_say go (Over rule frames) w = over_all go (run rule w) frames (say go rule w) (frames_say go rule w)

pub rules_say : FramesSayTheRule
rules_say go f p w = frames_say go (rule_of f p) w

pub occurrences_say : FramesSayWhatHappens
occurrences_say go occurrence w = frames_say go (happens occurrence) w
