-- Eternity, the interval that holds the time of every event (Apache Druid documentation, intervals). It has one text.
use Rattle.std.specs.Prelude.{ℕ, List, codes, ℤ, pos, neg_ℤ}
use Rattle.dr_time.specs.declared.interval.Interval.{Interval}

-- half of the least number of 64 bits with a sign, and half of the greatest, rounded down
abbrev pub eternity_start : ℤ
eternity_start = neg_ℤ (pos 4_611_686_018_427_387_904)

abbrev pub eternity_end : ℤ
eternity_end = pos 4_611_686_018_427_387_903

abbrev pub eternity : Interval
eternity = record { start = eternity_start; end = eternity_end }

abbrev pub eternity_start_text : List ℕ
eternity_start_text = codes "-146136543-09-08T08:23:32.096Z"

abbrev pub eternity_text : List ℕ
eternity_text = codes "-146136543-09-08T08:23:32.096Z/146140482-04-24T15:36:27.903Z"
