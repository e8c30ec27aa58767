use Rattle.std.proofs.Common.{◌∙◌, sym, ap, arith, [], length, ◌<◌}
use Rattle.std.specs.Prelude.{Some, slice_get}
use Rattle.std.proofs.lemmas.List.{length-map}
use Rattle.std.proofs.lemmas.Option.{slice_get-get_or}
use Rattle.dr_image.specs.Words.{word}
use Rattle.dr_image.specs.Table.{Column}
use Rattle.dr_image.specs.Layout.{column_in}
use Rattle.dr_image.specs.Parts.{part_seen}
use Rattle.dr_image.proofs.ReadingLemmas.{dims_seen, column_is, length-texts}
use Rattle.dr_image.proofs.reading.value_of.Goals as goal

pub text_of-requires-clause-within : goal.text_of-requires-clause-within
text_of-requires-clause-within c =
    let e = ap (λ (k : Column). length k.dictionary) (column_is c.args.layout.now.bytes.now c.args.d (part_seen c.part.result) (omega (arith, c.requires.dimension, dims_seen c.args.layout.now.bytes.now)) c.part.ensures.seen) in
    omega (arith, c.requires.value, length-texts (part_seen c.part.result), length-map c.part.result.ends.now word)

pub returns : goal.returns
returns c =
    let p = part_seen c.part.result in
    let is = column_is c.args.layout.now.bytes.now c.args.d p (omega (arith, c.requires.dimension, dims_seen c.args.layout.now.bytes.now)) c.part.ensures.seen in
    let e = ap (λ (k : Column). length k.dictionary) is in
    let lt : c.args.v < length (column_in p).dictionary = omega (arith, c.requires.value) in
    ap (λ (k : Column). slice_get k.dictionary c.args.v) is ∙ slice_get-get_or (column_in p).dictionary c.args.v [] lt ∙ ap Some (sym c.text_of.ensures)
