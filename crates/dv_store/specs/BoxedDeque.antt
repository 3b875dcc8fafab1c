-- What a boxed deque is seen as.
use Rattle.std.specs.Prelude.{List, [], Option, Some, None, Box}

module _ {X Z : Type 0} where
  -- its elements, from the front
  abbrev pub elements_of : Option (Box (List X) Z) → List X
  elements_of None = []
  elements_of (Some deque) = deque.value
