-- Whose turn it is among tasks that join and leave (Twisted: `Cooperator`).
use Rattle.std.specs.Prelude.{◌≡◌, ◌<◌, ◌≤◌, ◌+◌, ◌-◌, ℕ, suc, Bool, nat_eq, nat_lt, if◌then◌else◌, List, [], ◌∷◌, ◌++◌}
use Rattle.std.specs.Prelude.{length, map, take, Option, None, Some, slice_get}
use Rattle.std.specs.List.{list_any}
use Rattle.std.specs.List.Sorted.{IsStrictlySortedBy}
use Rattle.std.specs.Map.{keys_of, lookup}
use Rattle.std.specs.Ordering.{nat_cmp}
use Rattle.std.specs.Set.{remove_key}
use Rattle.dv_script.specs.declared.turn_rule.TurnRule.{TurnRule}
use Rattle.dv_script.specs.declared.turn_rule.TurnRule.TheVariants.{Earlier, Fair, Twisted}
use Rattle.dv_clock.specs.declared.place.Place.{Place}

-- by which rule a task leaves, the tasks that take turns, in order of joining, and how many of them stand before the
-- one whose turn it is
pub record Turns : Type 0 where
  pub rule : TurnRule
  pub tasks : List ℕ
  pub position : ℕ

-- nobody takes turns at first
abbrev pub new_turns : TurnRule → Turns
new_turns rule = record { rule = rule; tasks = []; position = 0 }

-- whether a task is among some tasks
abbrev pub is_among : ℕ → List ℕ → Bool
is_among task tasks = list_any (nat_eq task) tasks

-- a task joins, last; one that has joined already stays where it is
abbrev pub joined : ℕ → Turns → Turns
joined task t = if is_among task t.tasks then t else record t { tasks = t.tasks ++ task ∷ [] }

-- whether a task stands before the position
abbrev pub is_before : ℕ → Turns → Bool
is_before task t = is_among task (take t.position t.tasks)

-- the position goes back by one if a task leaves that stands before it, so that nobody's turn is skipped
abbrev pub position_back : ℕ → Turns → ℕ
position_back task t = if is_before task t then t.position - 1 else t.position

-- a position at the end of the list goes to its beginning
abbrev pub position_in : List ℕ → ℕ → ℕ
position_in tasks position = if nat_lt position (length tasks) then position else 0

-- the position once a task has left, by the rule: it goes back; it goes back, and from the end of what is left to the
-- beginning; it stays, so that it may lie past the end, and the turn of one task is skipped if the task that left stood
-- before it
abbrev pub position_left : TurnRule → ℕ → Turns → ℕ
position_left Earlier task t = position_back task t
position_left Fair task t = position_in (remove_key (nat_eq task) t.tasks) (position_back task t)
position_left Twisted task t = t.position

-- a task leaves; one that takes no turns changes nothing
abbrev pub left : ℕ → Turns → Turns
left task t =
    if is_among task t.tasks
    then record t { tasks = remove_key (nat_eq task) t.tasks; position = position_left t.rule task t } else t

-- the place of the task whose turn it is: that at the position, and the first if the position is the list's end or
-- past it
abbrev pub place_of_turn : Turns → ℕ
place_of_turn t = if nat_lt t.position (length t.tasks) then t.position else 0

-- whose turn it is, if anybody takes turns
abbrev pub turn_of : Turns → Option ℕ
turn_of t = slice_get t.tasks (place_of_turn t)

-- the position goes on by one; if nobody takes turns, it goes to the beginning
abbrev pub gone_on_by : Option ℕ → Turns → Turns
gone_on_by None t = record t { position = 0 }
gone_on_by (Some task) t = record t { position = place_of_turn t + 1 }

abbrev pub gone_on : Turns → Turns
gone_on t = gone_on_by (turn_of t) t

-- a task with the number under which it joined
abbrev pub Joined : Type 0
Joined = ℕ × ℕ

-- the tasks of those that joined
abbrev pub tasks_of : List Joined → List ℕ
tasks_of order = map (λ j. j.1) order

-- how many have a number below that from which on the next is looked for
abbrev pub stepped : ℕ → List Joined → ℕ
stepped next [] = 0
stepped next (j ∷ order) = if nat_lt j.0 next then suc (stepped next order) else 0

-- the first whose number isn't below it
abbrev pub found_from : ℕ → List Joined → Option Joined
found_from next order = slice_get order (stepped next order)

-- the one whose turn it is: the first from there on, or the first of all
abbrev pub turn_from : Option Joined → List Joined → Option Joined
turn_from None order = slice_get order 0
turn_from (Some j) order = Some j

-- the place once another has joined under a number, last: while the position is past the end, that one stands before it
abbrev pub place_joined : ℕ → Place → Place
place_joined number p =
    if nat_eq p.beyond 0 then p else record { next = number + 1; beyond = p.beyond - 1 }

-- the place once the one with a number has left that stood before it, where this is found from the place on: that one's
-- turn is skipped; else the position is past the end by one more
abbrev pub place_stayed : Option Joined → Place → Place
place_stayed None p = record { next = p.next; beyond = p.beyond + 1 }
place_stayed (Some j) p = record { next = j.0 + 1; beyond = p.beyond }

-- the place once one has left, from which on this is found: where none is, it goes to the beginning
abbrev pub place_in : Option Joined → Place → Place
place_in None p = record { next = 0; beyond = 0 }
place_in (Some j) p = p

-- the place once the one with a number has left, where this is found from the place on
abbrev pub place_left : TurnRule → ℕ → Option Joined → Place → Place
place_left Earlier number found p = p
place_left Fair number found p = place_in found p
place_left Twisted number found p = if nat_lt number p.next then place_stayed found p else p

-- the number under which a task joined
abbrev pub number_of : ℕ → List Joined → Option ℕ
number_of task [] = None
number_of task (j ∷ order) = if nat_eq task j.1 then Some j.0 else number_of task order

-- numbers below n have been given
abbrev pub AreBelow : ℕ → List Joined → Type 0
AreBelow n [] = Unit
AreBelow n (j ∷ order) = (j.0 < n) × AreBelow n order

-- each task stands once among those that joined
abbrev pub AreOnce : List Joined → Type 0
AreOnce [] = Unit
AreOnce (j ∷ order) = (number_of j.1 order ≡ None) × AreOnce order

-- those that joined, with the numbers by which each is found, how many numbers were given, and the place: the position
-- is past the end only if none is found from the place on
pub record IsKept (order : List Joined) (numbers : List (ℕ × ℕ)) (given : ℕ) (place : Place) : Type 0 where
  pub ascends : IsStrictlySortedBy nat_cmp (keys_of order)
  pub below : AreBelow given order
  pub once : AreOnce order
  pub found : (task : ℕ) → lookup (nat_eq task) numbers ≡ number_of task order
  pub begun : place.next ≤ given
  pub within : stepped place.next order + place.beyond ≤ given
  pub past : 1 ≤ place.beyond → found_from place.next order ≡ None

-- a task is found by a number, and the others as before
abbrev pub FindsToo : List (ℕ × ℕ) → List (ℕ × ℕ) → ℕ → ℕ → Type 0
FindsToo old new task number =
    (other : ℕ) → lookup (nat_eq other) new ≡ (if nat_eq task other then Some number else lookup (nat_eq other) old)

-- all are found as before
abbrev pub FindsSame : List (ℕ × ℕ) → List (ℕ × ℕ) → Type 0
FindsSame old new = (other : ℕ) → lookup (nat_eq other) new ≡ lookup (nat_eq other) old
