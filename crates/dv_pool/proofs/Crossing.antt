-- What a worker holds may go to a thread of its own.
use denote.RattleType.{RattleType}
use denote.Struct.Field.{row_field, u32-field}
use denote.Struct.Tuple.{TupleAt, type_at}
use denote.Param.Send.{IsSend, IsSync, sendable}
use denote.Param.SendFields.{as_row_send, declared_send, declared_sync}
use Rattle.std.proofs.Crossing.{crosses, Arc-send}
use Rattle.crossbeam_deque.below.atomic_blocks.proofs.rows.loose.Link.TheSendSync as link
use Rattle.crossbeam_deque.below.atomic_blocks.proofs.rows.shared.Rows.TheSendSync as rows
use Rattle.crossbeam_deque.below.atomic_blocks.proofs.rows.shared.Seat.TheSendSync as deque_seat
use Rattle.crossbeam_deque.proofs.handles.Stealer.TheSendSync as stealer
use Rattle.crossbeam_deque.proofs.inner.Inner.TheSendSync as inner
use Rattle.crossbeam_deque.proofs.view.Shape.TheSendSync as deque_shape
use Rattle.crossbeam_deque.proofs.view.Turns.TheSendSync as deque_turns
use Rattle.atomic_table.proofs.owned.Table.TheSendSync as table
use Rattle.atomic_table.proofs.send_lease.SendLease.TheSendSync as lease
use Rattle.atomic_table.proofs.shared.Shared.TheSendSync as table_shared
use Rattle.atomic_table.proofs.shared.Seat.TheSendSync as queue_seat
use Rattle.crossbeam_queue.proofs.array_queue.Doing.TheSendSync as queue_doing
use Rattle.crossbeam_queue.proofs.array_queue.Slotted.TheSendSync as slotted
use Rattle.crossbeam_queue.proofs.array_queue.Stage.TheSendSync as stage
use Rattle.crossbeam_queue.proofs.array_queue.Turns.TheSendSync as queue_turns
use Rattle.dv_pool.proofs.rule.Hand.TheSendSync as hand
use Rattle.dv_pool.proofs.answer_queue.Fair.TheSendSync as queue_rule
use Rattle.dv_pool.proofs.job_deque.Fair.TheSendSync as deque_rule
use Rattle.dv_value.proofs.boxed.Boxed.TheSendSync as boxed
use Rattle.dv_value.proofs.items.Items.TheSendSync as items
use Rattle.dv_value.proofs.shared.Shared.TheSendSync as shared_value
use Rattle.dv_value.proofs.text.Text.TheSendSync as text
use Rattle.dv_value.proofs.class_id.ClassId.TheSendSync as class_id
use Rattle.dv_value.proofs.failure.Failure.TheLaws.TheKnot as failures
use Rattle.dv_value.proofs.value.Value.TheLaws.TheKnot as values
use Rattle.std.proofs.Common.{ℕ, List, [], ◌∷◌}
use Rattle.std.specs.contracts.sync.Arc as arc
use Rattle.std.specs.contracts.alloc.Global as heap
use Rattle.std.specs.contracts.impls.GlobalAllocator.TheImpl.{ghosts}
use Rattle.dv_jobs.specs.contracts.job.Job as job
use Rattle.dv_jobs.specs.contracts.job.Done as done
use Rattle.dv_pool.specs.contracts.worker.End as end
use Rattle.dv_pool.specs.contracts.worker.Shared as shared

ruleset values_cross = (
  sendable,
  crosses,
  boxed.the_send,
  boxed.the_sync,
  items.the_send,
  items.the_sync,
  shared_value.the_send,
  shared_value.the_sync,
  text.the_send,
  text.the_sync,
  class_id.the_send,
  class_id.the_sync,
  failures.crosses,
  values.crosses_both,
)

Job-send : IsSend job.the_row
Job-send = search values_cross depth 20

Done-send : IsSend done.the_row
Done-send = search values_cross depth 20

ruleset tokens_cross = (
  Job-send,
  Done-send,
  sendable,
  crosses,
  link.the_send,
  deque_seat.the_send,
  queue_seat.the_send,
  queue_doing.the_send,
  stage.the_send,
  hand.the_send,
)

pub End-send : IsSend end.the_row
End-send = declared_send end.the_type (search tokens_cross depth 20, (search tokens_cross depth 20, tt))

ruleset queues_cross = (
  Job-send,
  Done-send,
  sendable,
  crosses,
  link.the_send,
  link.the_sync,
  rows.the_send,
  rows.the_sync,
  stealer.the_send,
  stealer.the_sync,
  inner.the_send,
  inner.the_sync,
  deque_shape.the_send,
  deque_shape.the_sync,
  deque_turns.the_send,
  deque_turns.the_sync,
  table.the_send,
  table.the_sync,
  lease.the_send,
  lease.the_sync,
  table_shared.the_send,
  table_shared.the_sync,
  queue_doing.the_send,
  queue_doing.the_sync,
  slotted.the_send,
  slotted.the_sync,
  stage.the_send,
  stage.the_sync,
  queue_turns.the_send,
  queue_turns.the_sync,
  hand.the_send,
  hand.the_sync,
  queue_rule.the_send,
  queue_rule.the_sync,
  deque_rule.the_send,
  deque_rule.the_sync,
)

pub Shared-send : IsSend shared.the_row
Shared-send = declared_send shared.the_type (
  search queues_cross depth 20,
  (search queues_cross depth 20, (search queues_cross depth 20, tt)),
)

pub Shared-sync : IsSync shared.the_row
Shared-sync = declared_sync shared.the_type (
  search queues_cross depth 20,
  (search queues_cross depth 20, (search queues_cross depth 20, tt)),
)

pub Arc-of_shared-send : IsSend (arc.the_row shared.the_row heap.the_row ghosts)
Arc-of_shared-send = Arc-send shared.the_row Shared-send Shared-sync

-- six captures may go where each may
pub six-send : (name : List ℕ) (A B C D E F : RattleType) → IsSend A → IsSend B → IsSend C → IsSend D → IsSend E
    → IsSend F → IsSend (TupleAt name (A ∷ B ∷ C ∷ D ∷ E ∷ F ∷ []))
six-send name A B C D E F a b c d e f =
    declared_send (type_at name (A ∷ B ∷ C ∷ D ∷ E ∷ F ∷ [])) (
      as_row_send (row_field A) a,
      (
        as_row_send (row_field B) b,
        (
          as_row_send (row_field C) c,
          (as_row_send (row_field D) d, (as_row_send (row_field E) e, (as_row_send (row_field F) f, tt))),
        ),
      ),
    )

pub number-send : IsSend u32-field.row
number-send = search sendable
