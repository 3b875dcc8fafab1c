-- How an inline body may be left.
use Rattle.std.specs.Prelude.{Bool, true, false}
use Rattle.dv_script.specs.declared.body.End.{End}
use Rattle.dv_script.specs.declared.body.End.TheVariants.{Return, Pass, Plus, Raise, Trap, Wait, Run, Throw}

-- whether an inline body may be left by this END
abbrev pub may_leave : End → Bool
may_leave (Return v) = true
may_leave Pass = true
may_leave (Plus n) = true
may_leave (Raise class text) = true
may_leave (Trap classes v) = false
may_leave (Wait name) = false
may_leave (Run name) = false
may_leave (Throw path) = true
