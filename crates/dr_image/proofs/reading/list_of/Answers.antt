use Rattle.std.proofs.Common.{◌∙◌, sym, ap, arith, [], length, ◌<◌}
use Rattle.std.specs.Prelude.{Some, slice_get}
use Rattle.std.proofs.lemmas.List.{length-map}
use Rattle.std.proofs.lemmas.Option.{slice_get-get_or}
use Rattle.dr_image.specs.Words.{word}
use Rattle.dr_image.specs.Table.{Column}
use Rattle.dr_image.specs.Layout.{column_in}
use Rattle.dr_image.specs.Parts.{part_seen}
use Rattle.dr_image.proofs.PieceLemmas.{length-pieces}
use Rattle.dr_image.proofs.ReadingLemmas.{dims_seen, column_is, length-texts}
use Rattle.dr_image.proofs.reading.list_of.Goals as goal

pub rows_of-requires-clause-within : goal.rows_of-requires-clause-within
rows_of-requires-clause-within c =
    let e = ap (λ (k : Column). length k.dictionary) (column_is c.args.layout.now.bytes.now c.args.d (part_seen c.part.result) (omega (arith, c.requires.dimension, dims_seen c.args.layout.now.bytes.now)) c.part.ensures.seen) in
    omega (arith, c.requires.value, length-texts (part_seen c.part.result), length-map c.part.result.ends.now word, c.part.ensures.even.lists)

pub returns : goal.returns
returns c =
    let p = part_seen c.part.result in
    let is = column_is c.args.layout.now.bytes.now c.args.d p (omega (arith, c.requires.dimension, dims_seen c.args.layout.now.bytes.now)) c.part.ensures.seen in
    let e = ap (λ (k : Column). length k.dictionary) is in
    let lt : c.args.v < length (column_in p).lists = omega (arith, c.requires.value, length-texts p, length-map c.part.result.ends.now word, length-map c.part.result.list_ends.now word, length-pieces 0 p.list_ends p.rows, c.part.ensures.even.lists) in
    ap (λ (k : Column). slice_get k.lists c.args.v) is ∙ slice_get-get_or (column_in p).lists c.args.v [] lt ∙ ap Some (sym c.rows_of.ensures)
