use Rattle.std.proofs.Common.{◌≡◌, length}
use Rattle.dv_inline.specs.Position.{left_from}
use Rattle.dv_inline.proofs.walk.Walk.leave.Given as goal

-- from the tries and finallys that are left it goes where it went from all of them
abbrev pub invariant-loop-around : goal.invariant-loop-around
invariant-loop-around l = record {
  same : left_from l.outcome l.self.opens l.fn.self ≡ left_from l.fn.outcome l.fn.self.opens l.fn.self;
  classes : l.self.classes ≡ l.fn.self.classes;
  ends_throw : l.self.ends_throw ≡ l.fn.self.ends_throw;
  statements : l.self.statements ≡ l.fn.self.statements;
  value : l.self.value ≡ l.fn.self.value;
  result : l.self.result ≡ l.fn.self.result;
}

abbrev pub decreases-loop-around : goal.decreases-loop-around
decreases-loop-around l = length l.self.opens
