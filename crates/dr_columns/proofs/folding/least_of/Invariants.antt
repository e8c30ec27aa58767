use Rattle.std.proofs.Common.{◌≡◌, map, drop}
use Rattle.std.specs.List.{fold}
use Rattle.dr_agg.specs.declared.kind.Kind.TheVariants.{LongMin}
use Rattle.dr_agg.specs.Combination.{combine_of, fold_of}
use Rattle.dr_image.specs.Words.{long}
use Rattle.dr_columns.proofs.folding.least_of.Given as goal

abbrev pub invariant-loop-cell : goal.invariant-loop-cell
invariant-loop-cell l = fold (combine_of LongMin) l.least (map long (drop l.cell-index l.cells)) ≡ fold_of LongMin (map long l.cells)
