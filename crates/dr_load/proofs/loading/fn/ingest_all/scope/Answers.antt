use Rattle.std.proofs.Common.{rules, List, [], ◌∷◌}
use denote.RattleType.{RattleType}
use denote.Exit.{no}
use denote.Param.{param}
use denote.Param.Send.{IsSend, IsSync, AllSend, given_sync, shr_send, mut_send, param_sync}
use denote.Struct.Field as field
use mir.Syntax.{named}
use Rattle.dr_ask.specs.contracts.query.Query as Query
use Rattle.dr_node.specs.contracts.node.Node as Node
use Rattle.dr_node.specs.contracts.seat.Seat as Seat
use Rattle.dr_node.specs.contracts.stop.Stop as Stop
use Rattle.dr_node.proofs.node.Node.TheSendSync as node
use Rattle.dr_node.proofs.seat.Seat.TheSendSync as seat
use Rattle.dr_node.proofs.stop.Stop.TheSendSync as stop
use Rattle.dr_scatter.proofs.Crossing.{query-sync}
use Rattle.dr_load.proofs.Crossing.{closure-send}
use Rattle.dr_load.proofs.loading.fn.ingest_all.scope.Goals as goal

-- the captures of the query thread: the handle, the node, its seat, the query, the stop and the watch
pub spawn-asker-requires-send-F : goal.spawn-asker-requires-send-F
spawn-asker-requires-send-F g c κs within =
    let books : IsSend (param 0 g.row.B) = search rules in
    let share : IsSend (param 4 g.row.B-Share) = search rules in
    let handle : IsSync g.row.T = search (rules, given_sync) in
    let watch : IsSync g.row.W = search (rules, given_sync) in
    let shared : IsSync (Node.the_row (param 0 g.row.B) (param 4 g.row.B-Share) (param 5 g.row.B-Blanks) g.B.Books) = node.the_sync (param 0 g.row.B) (param 4 g.row.B-Share) (param 5 g.row.B-Blanks) g.B.Books books in
    let own : IsSend (Seat.the_row (param 0 g.row.B) (param 4 g.row.B-Share) (param 5 g.row.B-Blanks) g.B.Books) = seat.the_send (param 0 g.row.B) (param 4 g.row.B-Share) (param 5 g.row.B-Blanks) g.B.Books share in
    let captures : List RattleType = (field.shr_ref_field (record { mir = named 5; lft = κs.1.1.1.1.1.0 }) (param 2 g.row.T) tt).row
    ∷ (field.shr_ref_field (record { mir = named 6; lft = κs.1.1.1.1.1.1.0 }) (Node.the_row (param 0 g.row.B) (param 4 g.row.B-Share) (param 5 g.row.B-Blanks) g.B.Books) tt).row
    ∷ (field.mut_ref_field (record { mir = named 7; lft = κs.1.1.1.1.1.1.1.0 }) (Seat.the_row (param 0 g.row.B) (param 4 g.row.B-Share) (param 5 g.row.B-Blanks) g.B.Books) tt).row
    ∷ (field.shr_ref_field (record { mir = named 8; lft = κs.1.1.1.1.1.1.1.1.0 }) Query.the_row tt).row
    ∷ (field.shr_ref_field (record { mir = named 9; lft = κs.1.1.1.1.1.1.1.1.1.0 }) Stop.the_row tt).row
    ∷ (field.shr_ref_field (record { mir = named 10; lft = κs.1.1.1.1.1.1.1.1.1.1.0 }) (param 3 g.row.W) tt).row
    ∷ [] in
    let all : AllSend captures = (shr_send _ _ _ (param_sync 2 g.row.T handle), (shr_send _ _ _ shared, (mut_send _ _ _ own, (shr_send _ _ _ query-sync, (shr_send _ _ _ stop.the_sync, (shr_send _ _ _ (param_sync 3 g.row.W watch), tt)))))) in
    closure-send 1 _ no _ captures all
