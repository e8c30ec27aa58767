use Rattle.std.proofs.Common.{◌≡◌, ◌++◌, drop, take}
use Rattle.dr_ask.specs.Outputs.{distinct_from}
use Rattle.dr_ask.proofs.outputs.add_names.Given as goal

abbrev pub invariant-loop-name : goal.invariant-loop-name
invariant-loop-name l = record {
  same : distinct_from l.seen (drop l.name-index l.names) ≡ distinct_from l.initial.seen l.names;
  added : l.seen ≡ l.initial.seen ++ take l.name-index l.names;
}
