-- A query may be read by several threads at once.
use denote.Param.Send.{IsSync, sendable}
use Rattle.std.proofs.Crossing.{crosses, Vec-sync, Box-sync}
use Rattle.dr_filter.specs.contracts.filter.Filter as Filter
use Rattle.dr_filter.specs.contracts.filter_tree.FilterTree as FilterTree
use Rattle.dr_filter.proofs.filter_tree.FilterTree.TheLaws.TheKnot as tree
use Rattle.dr_having.specs.contracts.having.Having as Having
use Rattle.dr_having.proofs.having.Having.TheLaws.TheKnot as having
use Rattle.dr_ask.specs.contracts.group_by.GroupBy as GroupBy
use Rattle.dr_ask.specs.contracts.shape.Shape as Shape
use Rattle.dr_ask.specs.contracts.query.Query as Query
use Rattle.dr_order.proofs.limit_spec.LimitSpec.TheSendSync as limit
use Rattle.dr_ask.proofs.dimensions.Dimensions.TheSendSync as dimensions
use Rattle.dr_ask.proofs.aggregations.Aggregations.TheSendSync as aggregations
use Rattle.dr_ask.proofs.scan.Scan.TheSendSync as scan
use Rattle.dr_ask.proofs.timeseries.Timeseries.TheSendSync as timeseries
use Rattle.dr_time.proofs.union.Union.TheSendSync as union
use Rattle.dr_predicate.proofs.dimension_test.DimensionTest.TheSendSync as test
use Rattle.dr_having.proofs.group_value.GroupValue.TheSendSync as group_value
use Rattle.dr_having.proofs.dimension_value.DimensionValue.TheSendSync as dimension_value
use Rattle.dr_gran.proofs.gran.Gran.TheSendSync as gran

tree-sync : IsSync (FilterTree.the_field).row
tree-sync = tree.sync-FilterTree test.the_field_sync union.the_sync Vec-sync Box-sync

filter-sync : IsSync Filter.the_row
filter-sync = search (sendable, crosses, tree-sync) depth 20

having-sync : IsSync (Having.the_field).row
having-sync = having.sync-Having group_value.the_field_sync dimension_value.the_field_sync Vec-sync Box-sync

group-sync : IsSync (GroupBy.the_field).row
group-sync = search (sendable, crosses, having-sync, limit.the_field_sync, dimensions.the_sync) depth 20

shape-sync : IsSync (Shape.the_field).row
shape-sync = search (sendable, crosses, group-sync, timeseries.the_field_sync, scan.the_field_sync) depth 20

pub query-sync : IsSync Query.the_row
query-sync = search (sendable, crosses, filter-sync, shape-sync, aggregations.the_sync, union.the_sync, gran.the_field_sync) depth 20
