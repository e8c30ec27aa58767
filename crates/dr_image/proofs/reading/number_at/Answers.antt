use Rattle.std.proofs.Common.{◌≡◌, ◌∙◌, sym, ap, arith, get_or, [], length, ◌<◌}
use Rattle.std.specs.Prelude.{Some, slice_get}
use Rattle.std.proofs.lemmas.List.{length-map, get_or-map}
use Rattle.std.proofs.lemmas.Option.{slice_get-get_or}
use Rattle.dr_image.specs.Words.{word}
use Rattle.dr_image.specs.Table.{Column}
use Rattle.dr_image.specs.Parts.{part_seen}
use Rattle.dr_image.proofs.LayoutLemmas.{times_seen}
use Rattle.dr_image.proofs.ReadingLemmas.{dims_seen, column_is, number_known, has_numbers}
use Rattle.dr_image.proofs.reading.number_at.Goals as goal

pub returns-clause-value : goal.returns-clause-value
returns-clause-value c =
    let p = part_seen c.part.result in
    let is = column_is c.args.layout.now.bytes.now c.args.d p (omega (arith, c.requires.dimension, dims_seen c.args.layout.now.bytes.now)) c.part.ensures.seen in
    let row = times_seen c.args.layout.now.bytes.now in
    let lt : c.args.i < length p.numbers = omega (arith, c.requires.row, c.part.ensures.even.numbers, length-map c.part.result.numbers.now word) in
    let lt' : c.args.i < length c.part.result.numbers.now = omega (arith, c.requires.row, c.part.ensures.even.numbers) in
    ap (λ (k : Column). slice_get k.numbers c.args.i) is ∙ slice_get-get_or p.numbers c.args.i 0 lt ∙ ap Some (get_or-map word c.part.result.numbers.now c.args.i [] 0 lt' ∙ sym c.number.ensures)

pub returns-clause-known : goal.returns-clause-known
returns-clause-known c =
    let p = part_seen c.part.result in
    let is = column_is c.args.layout.now.bytes.now c.args.d p (omega (arith, c.requires.dimension, dims_seen c.args.layout.now.bytes.now)) c.part.ensures.seen in
    let row = times_seen c.args.layout.now.bytes.now in
    let lt : c.args.i < length p.numbers = omega (arith, c.requires.row, c.part.ensures.even.numbers, length-map c.part.result.numbers.now word) in
    let lt' : c.args.i < length c.part.result.numbers.now = omega (arith, c.requires.row, c.part.ensures.even.numbers) in
    let known = number_known p c.args.i (has_numbers c.args.layout.now.bytes.now c.args.d p c.requires.checked (omega (arith, c.requires.dimension, dims_seen c.args.layout.now.bytes.now)) c.part.ensures.seen) lt in
    let e = ap (λ (k : Column). length k.dictionary) is in
    let n : get_or p.numbers c.args.i 0 ≡ c.number.result = get_or-map word c.part.result.numbers.now c.args.i [] 0 lt' ∙ sym c.number.ensures in
    omega arith
