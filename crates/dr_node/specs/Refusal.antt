-- The numbers and names of the refusals of a node.
use Rattle.std.specs.Prelude.{ℕ, List, codes}
use Rattle.dr_merge.specs.Refusal as merge
use Rattle.dr_timeline.specs.Refusal as timeline
use Rattle.dr_node.specs.declared.node_error.NodeError.{NodeError}
use Rattle.dr_node.specs.declared.node_error.NodeError.TheVariants.{Timeline, Merge, HistoryMismatch}

abbrev pub number_of : NodeError → ℕ
number_of (Timeline e) = timeline.number_of e
number_of (Merge e) = merge.number_of e
number_of HistoryMismatch = 94

abbrev pub name_of : NodeError → List ℕ
name_of (Timeline e) = timeline.name_of e
name_of (Merge e) = merge.name_of e
name_of HistoryMismatch = codes "HistoryMismatch"
