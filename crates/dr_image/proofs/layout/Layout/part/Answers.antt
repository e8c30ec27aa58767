use Rattle.std.proofs.Common.{◌≡◌, arith, length}
use Rattle.dr_image.specs.Layout.{parts_in}
use Rattle.dr_image.proofs.LayoutLemmas.{length-parts_in, start_of, seen_part, counted}
use Rattle.dr_image.proofs.layout.Layout.part.Goals as goal

pub offset_bounds-self-d : goal.offset_bounds-self-d
offset_bounds-self-d c =
    let l = c.args.self.now in
    let few = (counted l.header l.laid.counts).few_dimensions in
    let is : l.header.dims ≡ length (parts_in l.bytes.now) = length-parts_in l.bytes.now l.header l.head in
    omega (arith, c.requires)

pub bounds-self-d : goal.bounds-self-d
bounds-self-d c =
    let l = c.args.self.now in
    let few = (counted l.header l.laid.counts).few_dimensions in
    let is : l.header.dims ≡ length (parts_in l.bytes.now) = length-parts_in l.bytes.now l.header l.head in
    omega (arith, c.requires)

pub part_at-requires-clause-front : goal.part_at-requires-clause-front
part_at-requires-clause-front c =
    let l = c.args.self.now in
    let is : l.header.dims ≡ length (parts_in l.bytes.now) = length-parts_in l.bytes.now l.header l.head in
    (start_of l.bytes.now l.header l.starts c.args.d l.laid (omega (arith, c.requires))).front

pub part_at-requires-clause-within : goal.part_at-requires-clause-within
part_at-requires-clause-within c =
    let l = c.args.self.now in
    let is : l.header.dims ≡ length (parts_in l.bytes.now) = length-parts_in l.bytes.now l.header l.head in
    (start_of l.bytes.now l.header l.starts c.args.d l.laid (omega (arith, c.requires))).inside

pub returns-clause-seen : goal.returns-clause-seen
returns-clause-seen c =
    let l = c.args.self.now in
    let is : l.header.dims ≡ length (parts_in l.bytes.now) = length-parts_in l.bytes.now l.header l.head in
    seen_part l.bytes.now l.header l.starts c.args.d _ l.head l.laid (omega (arith, c.requires)) c.part_at.ensures.seen
