use Rattle.std.proofs.Common.{ap, arith, length}
use Rattle.std.proofs.lemmas.List.{length-map}
use Rattle.dr_image.specs.Words.{word}
use Rattle.dr_image.specs.Table.{Column}
use Rattle.dr_image.specs.Parts.{part_seen}
use Rattle.dr_image.proofs.ReadingLemmas.{dims_seen, column_is, length-texts}
use Rattle.dr_image.proofs.reading.values_of.Goals as goal

pub returns : goal.returns
returns c =
    let e = ap (λ (k : Column). length k.dictionary) (column_is c.args.layout.now.bytes.now c.args.d (part_seen c.part.result) (omega (arith, c.requires, dims_seen c.args.layout.now.bytes.now)) c.part.ensures.seen) in
    omega (arith, length-texts (part_seen c.part.result), length-map c.part.result.ends.now word)
