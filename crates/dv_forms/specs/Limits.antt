-- How large a script of a version may be: from a version on, larger than before.
use Rattle.std.specs.Prelude.{ℕ, nat_le, if◌then◌else◌}
use Rattle.dv_script.specs.declared.limits.TheConstants.{MOST_BYTES, MOST_LIMIT, MOST_NODES}
use Rattle.dv_forms.specs.declared.limits.TheConstants.{WIDEST_BYTES, WIDEST_LIMIT, WIDEST_NODES}
use Rattle.dv_forms.specs.declared.versions.TheConstants.{WIDE_SINCE}

-- the most bytes of a script of this version
abbrev pub most_bytes : ℕ → ℕ
most_bytes version = if nat_le WIDE_SINCE version then WIDEST_BYTES else MOST_BYTES

-- the most nodes
abbrev pub most_nodes : ℕ → ℕ
most_nodes version = if nat_le WIDE_SINCE version then WIDEST_NODES else MOST_NODES

-- the most that it may let its journal weigh
abbrev pub most_limit : ℕ → ℕ
most_limit version = if nat_le WIDE_SINCE version then WIDEST_LIMIT else MOST_LIMIT
