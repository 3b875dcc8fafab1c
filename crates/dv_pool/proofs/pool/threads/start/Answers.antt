use mir.Syntax.{named}
use denote.Exit.{yes}
use denote.Param.{param}
use denote.Param.Send.{IsSync, sendable, param_send, arg_send, shr_send}
use Rattle.std.proofs.Crossing.{send}
use Rattle.dv_pool.proofs.Crossing.{End-send, Arc-of_shared-send, six-send, number-send}
use Rattle.dv_pool.proofs.pool.threads.start.Lts as lts
use Rattle.dv_pool.proofs.pool.threads.start.Goals as goal

pub spawn_with-requires-send-T : goal.spawn_with-requires-send-T
spawn_with-requires-send-T g c = λ κs h. search (End-send, sendable)

pub spawn_with-requires-send-F : goal.spawn_with-requires-send-F
spawn_with-requires-send-F g c = λ κs h.
    let r : IsSync (param 1 g.row.R) = c.type_bounds.sync-R in
    let s : IsSync (param 2 g.row.G) = c.type_bounds.sync-G in
    param_send 2 (lts.arg-3-2 g.row.E g.row.R g.row.G g.E.laws g.R.laws g.G.laws g.R.Wait-dict g.G.Gate-dict κs)
    (arg_send _ yes _
    (six-send _ _ _ _ _ _ _ End-send (shr_send (named 6) κs.1.1.1.1.1.1.0 (param 1 g.row.R) r) send Arc-of_shared-send
    (shr_send (named 7) κs.1.1.1.1.1.1.1.0 (param 2 g.row.G) s) number-send))
