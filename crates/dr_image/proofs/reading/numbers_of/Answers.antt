use Rattle.std.proofs.Common.{sym, ap, arith}
use Rattle.dr_image.specs.Table.{Column}
use Rattle.dr_image.specs.Parts.{part_seen}
use Rattle.dr_image.proofs.ReadingLemmas.{dims_seen, column_is}
use Rattle.dr_image.proofs.reading.numbers_of.Goals as goal

pub returns : goal.returns
returns c =
    let p = part_seen c.part.result in
    sym (ap (λ (k : Column). k.numbers) (column_is c.args.layout.now.bytes.now c.args.d p (omega (arith, c.requires, dims_seen c.args.layout.now.bytes.now)) c.part.ensures.seen))
