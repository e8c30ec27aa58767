use Rattle.dr_ask.proofs.ReadColumns.{columns-aggregations_by}
use Rattle.dr_ask.proofs.ReadNames.{outputs-differ}
use Rattle.dr_ask.proofs.ReadScans.{made-shape_by}
use Rattle.dr_ask.proofs.query.read_query.Goals as goal

pub returns-clause-made : goal.returns-clause-made
returns-clause-made c = record {
  rollup = c.rollup.ensures;
  columns = columns-aggregations_by _ c.args.schema.now _ _ c.in_ok-aggregations.ensures;
  distinct = outputs-differ _ c.args.schema.now _ _ _ _ _ c.in_ok-aggregations.ensures c.in_ok-shape.ensures;
  printable = c.in_ok-intervals.ensures.printable;
  shape = made-shape_by _ c.args.schema.now _ _ _ _ c.in_ok-shape.ensures;
}
