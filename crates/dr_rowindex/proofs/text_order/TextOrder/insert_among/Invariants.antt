use Rattle.std.proofs.Common.{take, bytes_eq}
use Rattle.std.specs.List.{list_any}
use Rattle.dr_rowindex.specs.Orders.{Adds}
use Rattle.dr_rowindex.proofs.text_order.TextOrder.insert_among.Given as goal

abbrev pub invariant-loop-text : goal.invariant-loop-text
invariant-loop-text l = Adds (λ value. list_any (bytes_eq value) (take l.text-index l.texts)) l.self l.initial.set l.set
