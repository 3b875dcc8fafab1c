use Rattle.dv_orders.proofs.Listing.{all_counted, every_order, never_twice, one_order}
use Rattle.dv_orders.proofs.NumberLemmas.{there_is_one}
use Rattle.dv_orders.proofs.laws.every_order_is_listed.Goals as goal

pub returns-clause-all : goal.returns-clause-all
returns-clause-all c = every_order

pub returns-clause-once : goal.returns-clause-once
returns-clause-once c = never_twice

pub returns-clause-counted : goal.returns-clause-counted
returns-clause-counted c = all_counted

pub returns-clause-one : goal.returns-clause-one
returns-clause-one c = one_order

pub returns-clause-some : goal.returns-clause-some
returns-clause-some c = there_is_one
