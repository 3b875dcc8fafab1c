-- What has become of a Deferred, and what a script expects of it: how much its text weighs, and what a line shows.
use Rattle.std.specs.Prelude.{ℕ, List, ◌++◌, codes}
use Rattle.std.specs.Fmt.{decimal}
use Rattle.dv_value.specs.Size.{size}
use Rattle.dv_value.specs.ValueText.{outcome}
use Rattle.dv_value.specs.declared.classes.Class.{Class}
use Rattle.dv_value.specs.declared.expected.Expected.{Expected}
use Rattle.dv_value.specs.declared.expected.Expected.TheVariants as expected
use Rattle.dv_journal.specs.declared.state.State.{State}
use Rattle.dv_journal.specs.declared.state.State.TheVariants.{Unfired, Waiting, Fired}

-- #N, a Deferred by its number
abbrev pub hash : ℕ → List ℕ
hash id = codes "#" ++ decimal id

-- the size of its value, where it has one
abbrev pub state_size : State → ℕ
state_size Unfired = 0
state_size (Waiting id) = 0
state_size (Fired value) = size value

-- unfired, waiting for another, or what it was fired with: `ok` and a value, or `fail` and a failure
abbrev pub state_text : List Class → State → List ℕ
state_text table Unfired = codes "unfired"
state_text table (Waiting id) = codes "waiting " ++ hash id
state_text table (Fired value) = outcome table value

-- unfired, waiting for any other, or what it is fired with
abbrev pub wanted_text : List Class → Expected → List ℕ
wanted_text table expected.Unfired = codes "unfired"
wanted_text table expected.Waiting = codes "waiting"
wanted_text table (expected.Fired value) = outcome table value

-- the same after a word that says that it is expected
abbrev pub expected_text : List Class → Expected → List ℕ
expected_text table e = codes "expected " ++ wanted_text table e
