use Rattle.std.proofs.Common.{refl}
use Rattle.dv_orders.proofs.laws.orders_are_worked_out.Goals as goal

pub returns-clause-turns : goal.returns-clause-turns
returns-clause-turns c = λ body lock note. refl

pub returns-clause-drains : goal.returns-clause-drains
returns-clause-drains c = λ body ticks. refl

pub returns-clause-few : goal.returns-clause-few
returns-clause-few c = λ body. refl

pub returns-clause-none : goal.returns-clause-none
returns-clause-none c = λ action. refl

pub returns-clause-end : goal.returns-clause-end
returns-clause-end c = λ body. refl
