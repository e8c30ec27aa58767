use Rattle.std.proofs.Common.{◌∙◌, sym, ap, ◌-◌, map, rules, FitsSigned, w64}
use Rattle.std.specs.List.{range_with_len}
use Rattle.std.proofs.lemmas.Int.{to_z-of_z}
use Rattle.dr_agg.specs.Combination.{fold_of}
use Rattle.dr_image.specs.Words.{long}
use Rattle.dr_columns.specs.Read.{value_in}
use Rattle.dr_columns.proofs.RunLemmas.{cells-run}
use Rattle.dr_columns.proofs.reading.Reading.fold.Goals as goal

pub returns-in-Some : goal.returns-in-Some
returns-in-Some c =
    let r = c.args.self.now in
    let folded : FitsSigned w64 c.fold_column.result = search rules in
    let got = c.in-Some.ensures.lookup in
    to_z-of_z w64 c.fold_column.result folded ∙ c.fold_column.ensures
    ∙ ap (λ l. fold_of r.kind (map long l)) got.0.2
    ∙ ap (fold_of r.kind) (cells-run c.in-Column.cells.now c.args.from c.args.to got.0.0 got.0.1)
    ∙ ap (λ v. fold_of r.kind (map (value_in v) (range_with_len c.args.from (c.args.to - c.args.from)))) (sym c.in-Column.is)
