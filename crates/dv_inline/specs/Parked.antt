-- Inline bodies that are kept under keys.
use Rattle.std.specs.Prelude.{◌≡◌, ◌≢◌, ℕ, List, Option, None, slice_index_or}
use Rattle.dv_inline.specs.Position.{Position}

-- a body or nothing at each key from 0 on
abbrev pub Bodies : Type 0
Bodies = List (Option Position)

-- the body under a key
abbrev pub body_under : Bodies → ℕ → Option Position
body_under bodies key = slice_index_or bodies key None

-- this is under the key now, and under every other key what was there
pub record Changes (old new : Bodies) (key : ℕ) (body : Option Position) : Type 0 where
  pub changed : body_under new key ≡ body
  pub others : (other : ℕ) → other ≢ key → body_under new other ≡ body_under old other
