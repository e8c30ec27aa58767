use Rattle.std.proofs.Common.{◌≡◌, ◌+◌, ◌≤◌, drop}
use Rattle.std.specs.Prelude.{nat_lt, ◌&&◌}
use Rattle.std.specs.List.{count_by}
use Rattle.dr_cuts.specs.declared.range_info.RangeInfo.{RangeInfo}
use Rattle.dr_load.proofs.progress.progress_of.Given as goal

abbrev pub invariant-loop-range : goal.invariant-loop-range
invariant-loop-range l = (l.sealed ≤ l.range-index) × (l.published ≤ l.range-index)
    × (l.sealed + count_by (λ (r : RangeInfo). r.sealed) (drop l.range-index l.ranges) ≡ count_by (λ (r : RangeInfo). r.sealed) l.ranges)
    × (l.published + count_by (λ (r : RangeInfo). r.sealed && nat_lt 0 r.version) (drop l.range-index l.ranges) ≡ count_by (λ (r : RangeInfo). r.sealed && nat_lt 0 r.version) l.ranges)
