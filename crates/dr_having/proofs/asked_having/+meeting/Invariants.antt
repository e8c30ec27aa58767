use Rattle.std.proofs.Common.{◌≡◌, not, map, drop}
use Rattle.std.specs.List.{list_all}
use Rattle.dr_having.specs.Asked.{asked_meets}
use Rattle.dr_having.proofs.asked_having.+meeting.Given as goal

abbrev pub invariant-none_meets-loop-asked : goal.invariant-none_meets-loop-asked
invariant-none_meets-loop-asked l =
    list_all not (map (asked_meets l.dims l.values) (drop l.asked-index l.denied)) ≡ list_all not (map (asked_meets l.dims l.values) l.denied)
