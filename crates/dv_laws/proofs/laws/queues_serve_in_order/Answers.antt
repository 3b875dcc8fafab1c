use Rattle.dv_laws.proofs.ServedRuns.{queues_serve_in_order}
use Rattle.dv_laws.proofs.laws.queues_serve_in_order.Goals as goal

pub returns : goal.returns
returns c = record { order = queues_serve_in_order }
