-- The frames, as they are kept: what takes room lies aside, each sort on a stack of its own.
use Rattle.std.specs.Prelude.{List, [], ◌∷◌}
use Rattle.dv_frames.specs.declared.frame.Frame.{Frame}
use Rattle.dv_frames.specs.declared.frame.Frame.TheVariants as frame
use Rattle.dv_frames.specs.declared.frame.Rest.{Rest}
use Rattle.dv_frames.specs.declared.frames.Kind.{Kind}
use Rattle.dv_frames.specs.declared.frames.Kind.TheVariants as kind
use Rattle.dv_frames.specs.declared.frames.Large.{Large}
use Rattle.dv_frames.specs.declared.frames.Large.TheVariants as large

-- a large one
abbrev pub frame_of : Large → Frame
frame_of (large.Maybe purpose) = frame.Maybe purpose
frame_of (large.Add d pair) = frame.Add d pair
frame_of (large.Give performed) = frame.Give performed
frame_of (large.Notify d task) = frame.Notify d task
frame_of (large.Tick of left) = frame.Tick of left
frame_of (large.Inline inlining) = frame.Inline inlining

-- the rest of a body under those kinds, with the frames below it; there is one for each
abbrev pub rest_over : List Rest → (List Rest → List Frame) → List Frame
rest_over [] below = []
rest_over (rest ∷ rests) below = frame.Rest rest ∷ below rests

-- a large one, likewise
abbrev pub large_over : List Large → (List Large → List Frame) → List Frame
large_over [] below = []
large_over (large ∷ larges) below = frame_of large ∷ below larges

-- all, from the one that was pushed last
unfoldable pub frames_of : List Kind → List Rest → List Large → List Frame
frames_of [] rests larges = []
frames_of (kind.Settle d ∷ kinds) rests larges = frame.Settle d ∷ frames_of kinds rests larges
frames_of (kind.Place d ∷ kinds) rests larges = frame.Place d ∷ frames_of kinds rests larges
frames_of (kind.Rest ∷ kinds) rests larges = rest_over rests (λ rests. frames_of kinds rests larges)
frames_of (kind.Canceller d ∷ kinds) rests larges = frame.Canceller d ∷ frames_of kinds rests larges
frames_of (kind.Cancel d ∷ kinds) rests larges = frame.Cancel d ∷ frames_of kinds rests larges
frames_of (kind.Stepped task ∷ kinds) rests larges = frame.Stepped task ∷ frames_of kinds rests larges
frames_of (kind.Halt task ∷ kinds) rests larges = frame.Halt task ∷ frames_of kinds rests larges
frames_of (kind.Tell ∷ kinds) rests larges = frame.Tell ∷ frames_of kinds rests larges
frames_of (kind.Due ∷ kinds) rests larges = frame.Due ∷ frames_of kinds rests larges
frames_of (kind.Large ∷ kinds) rests larges = large_over larges (λ larges. frames_of kinds rests larges)

-- what the kinds say lies aside is there, each in its turn
unfoldable pub AreThere : List Kind → List Rest → List Large → Type 0
AreThere [] rests larges = Unit
AreThere (kind.Settle d ∷ kinds) rests larges = AreThere kinds rests larges
AreThere (kind.Place d ∷ kinds) rests larges = AreThere kinds rests larges
AreThere (kind.Rest ∷ kinds) [] larges = ⊥
AreThere (kind.Rest ∷ kinds) (rest ∷ rests) larges = AreThere kinds rests larges
AreThere (kind.Canceller d ∷ kinds) rests larges = AreThere kinds rests larges
AreThere (kind.Cancel d ∷ kinds) rests larges = AreThere kinds rests larges
AreThere (kind.Stepped task ∷ kinds) rests larges = AreThere kinds rests larges
AreThere (kind.Halt task ∷ kinds) rests larges = AreThere kinds rests larges
AreThere (kind.Tell ∷ kinds) rests larges = AreThere kinds rests larges
AreThere (kind.Due ∷ kinds) rests larges = AreThere kinds rests larges
AreThere (kind.Large ∷ kinds) rests [] = ⊥
AreThere (kind.Large ∷ kinds) rests (large ∷ larges) = AreThere kinds rests larges
