use Rattle.std.proofs.Common.{Result, Ok, Err, OnOk, List}
use Rattle.std.specs.List.Sorted.{IsPermutation}
use Rattle.dr_base.specs.declared.row.Row.{Row}
use Rattle.dr_time.specs.Instant.{IsInstant}
use Rattle.dr_ask.specs.Asked.{Asked}
use Rattle.dr_ask.specs.Once.{asked_once}
use Rattle.dr_partial.specs.Grouped.{IsSound, AddsAll}
use Rattle.dr_partial.specs.Partial.{kinds_in}
use Rattle.dr_partial.proofs.Moved.{adds-moved, all-moved}
use Rattle.dr_partial.proofs.index.add_index.Goals as goal

moved_all : {E : Type 0} (q : Asked) (before a b after : List Row) (result : Result (Unit {0}) E) → IsSound (kinds_in q.aggregations) before → IsPermutation a b → OnOk result (AddsAll q before a after) → OnOk result (AddsAll q before b after)
moved_all q before a b after (Ok u) so moved adds = adds-moved q before a b after so moved adds
moved_all q before a b after (Err e) so moved adds = tt

pub add_arrived-requires-clause-instants : goal.add_arrived-requires-clause-instants
add_arrived-requires-clause-instants c = all-moved (λ (r : Row). IsInstant r.key.time) c.arrived.result c.args.index.now.rows c.arrived.ensures.permuted c.requires.instants

pub returns : goal.returns
returns c = moved_all (asked_once c.args.query.now) c.args.groups.now c.arrived.result c.args.index.now.rows c.add_arrived.new.groups c.add_arrived.result c.requires.sound c.arrived.ensures.permuted c.add_arrived.ensures
