-- The order of keys, and so of rows (Apache Druid documentation, segments: rows are sorted by time, then by dimensions).
use Rattle.std.specs.Ordering.{nat_cmp, int_cmp, ordering_then}
use Rattle.std.specs.Cmp.Lexicographic.{slice_cmp}
use Rattle.std.specs.declared.cmp.Ordering.{Ordering}
use Rattle.dr_base.specs.declared.key.Key.{Key}

-- by time, and then by the dimensions in their order, each by its UTF-8 bytes
abbrev pub key_cmp : Key → Key → Ordering
key_cmp a b = ordering_then (int_cmp a.time b.time) (slice_cmp (slice_cmp nat_cmp) a.dims b.dims)
