-- The entries of a scan (Apache Druid documentation, scan queries; where offset, limit and `batchSize` cut is this project's own
-- rule).
use Rattle.std.specs.Prelude.{ℕ, ℤ, ◌-◌, ◌==◌, List, [], ◌∷◌, ◌++◌, length, map, drop, Option, Some, None, if◌then◌else◌}
use Rattle.std.specs.List.{flat_map}
use Rattle.std.specs.Ordering.{int_cmp}
use Rattle.std.specs.declared.cmp.Ordering.{Ordering}
use Rattle.dr_base.specs.declared.row.Row.{Row}
use Rattle.dr_answers.specs.Given.{limited}
use Rattle.dr_answers.specs.InOrder.{in_order_by}
use Rattle.dr_answers.specs.Selection.{selected}
use Rattle.dr_ask.specs.declared.scan.Scan.{Scan}
use Rattle.dr_ask.specs.declared.time_order.TimeOrder.{TimeOrder}
use Rattle.dr_ask.specs.declared.time_order.TimeOrder.TheVariants.{Ascending, Descending}
use Rattle.dr_ask.specs.Asked.{Asked, AskedShape, timeseries, group_by, scan}
use Rattle.dr_scan.specs.declared.segment.Segment.{Segment}

-- some rows of a segment, or of all of them
pub record Entry : Type 0 where
  pub segment_id : Option (List ℕ)
  pub rows : List Row

-- ---- without an order: segment by segment

-- what is left of a limit
abbrev pub less : Option ℕ → ℕ → Option ℕ
less None n = None
less (Some limit) n = Some (limit - n)

-- the rows behind the first ones, and of these at most so many, over all segments together
abbrev pub within : ℕ → Option ℕ → List Segment → List Segment
within offset limit [] = []
within offset limit (g ∷ gs) =
    record { identifier = g.identifier; rows = limited limit (drop offset g.rows) }
    ∷ within (offset - length g.rows) (less limit (length g.rows - offset)) gs

-- rows in lists of that length, the last one of what is left; a list is begun already
abbrev pub batches_from : ℕ → List Row → List Row → List (List Row)
batches_from size begun [] = begun ∷ []
batches_from size begun (r ∷ rs) = if length begun == size then begun ∷ batches_from size (r ∷ []) rs else batches_from size (begun ++ r ∷ []) rs

-- none of no rows
abbrev pub batches : ℕ → List Row → List (List Row)
batches size [] = []
batches size (r ∷ rs) = batches_from size (r ∷ []) rs

-- the entries of a segment
abbrev pub entries_of : ℕ → Segment → List Entry
entries_of size g = map (λ rows. record { segment_id = Some g.identifier; rows = rows }) (batches size g.rows)

-- ---- with an order: one entry

-- the earlier time first, or the later one
abbrev pub times_cmp : TimeOrder → ℤ → ℤ → Ordering
times_cmp Ascending a b = int_cmp a b
times_cmp Descending a b = int_cmp b a

-- rows of equal times stay in their order
abbrev pub by_time : TimeOrder → List Row → List Row
by_time order rows = in_order_by (λ a b. times_cmp order a.key.time b.key.time) rows

-- none of no rows
abbrev pub one_entry : List Row → List Entry
one_entry [] = []
one_entry (r ∷ rs) = record { segment_id = None; rows = r ∷ rs } ∷ []

-- ---- a scan

abbrev pub entries_by : Option TimeOrder → Scan → List Segment → List Entry
entries_by None s segments = flat_map (entries_of s.batch_size) (within s.offset s.limit segments)
entries_by (Some order) s segments = one_entry (limited s.limit (drop s.offset (by_time order (flat_map (λ g. g.rows) segments))))

-- a segment with the rows that a query selects
abbrev pub selected_in : Asked → Segment → Segment
selected_in q g = record { identifier = g.identifier; rows = selected q g.rows }

-- the entries of a scan over segments; no other query has any
abbrev pub entries_in : AskedShape → Asked → List Segment → List Entry
entries_in (timeseries t) q segments = []
entries_in (group_by g) q segments = []
entries_in (scan s) q segments = entries_by s.order s (map (selected_in q) segments)

abbrev pub entries : Asked → List Segment → List Entry
entries q segments = entries_in q.shape q segments
