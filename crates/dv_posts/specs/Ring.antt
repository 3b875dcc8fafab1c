-- The ring between a poster and the inbox.
use Rattle.std.specs.Prelude.{ℕ, ◌+◌, ◌≤◌, length}
use denote.RawPtr.{Ptr}
use Rattle.std.specs.declared.alloc.Global.{Global}
use Rattle.rtrb.specs.Ring.{sent, known_free, producer_capacity}
use Rattle.rtrb.specs.declared.AnyItems.{AnyItems}
use Rattle.rtrb.specs.declared.end.End.{End}
use Rattle.rtrb.specs.declared.producer.Producer.{Producer}

-- which ring: the two ends of one ring say the same
abbrev pub Ring : Type 0
Ring = Ptr × Ptr × (ℕ × (ℕ × ℕ)) × Global

-- the ring that this is an end of
abbrev pub ring_of : End ℕ Global AnyItems → Ring
ring_of e = (e.words, e.slots, e.names, e.heap)

-- as many as the capacity go in, without a look at the other end
abbrev pub HasRoom : Producer ℕ Global AnyItems → Type 0
HasRoom p = producer_capacity p ≤ known_free p + length (sent p)
