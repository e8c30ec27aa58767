-- What is shown of a load while it runs. No public contract cites this file.
use Rattle.std.specs.Prelude.{ℕ, List, nat_lt, ◌&&◌}
use Rattle.std.specs.List.{count_by}
use Rattle.dr_cuts.specs.declared.range_info.RangeInfo.{RangeInfo}
use Rattle.dr_load.specs.declared.progress.Progress.{Progress}

-- how many events there are, how many ranges are sealed, how many of these are published, and how many queries were answered
abbrev pub progress_of : ℕ → List RangeInfo → ℕ → Progress
progress_of events ranges answers = record {
  events = events;
  sealed = count_by (λ (r : RangeInfo). r.sealed) ranges;
  published = count_by (λ (r : RangeInfo). r.sealed && nat_lt 0 r.version) ranges;
  answers = answers;
}
