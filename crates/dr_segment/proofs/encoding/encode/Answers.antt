use Rattle.std.proofs.Common.{ap, cond, ℕ, List, Bool, length, arith, Ok, Err, Result}
use Rattle.std.proofs.lemmas.Bool.{lt-leb}
use Rattle.dr_image.specs.declared.image_error.ImageError.{ImageError}
use Rattle.dr_image.specs.declared.image_error.ImageError.TheVariants.{ImageTooLarge}
use Rattle.dr_image.specs.Sealed.{Sealed}
use Rattle.dr_image.specs.Image.{image}
use Rattle.dr_segment.specs.Encoding.{sealed}
use Rattle.dr_segment.proofs.WritingLemmas.{long_by_rows}
use Rattle.dr_segment.proofs.encoding.encode.Goals as goal

pub returns-then-rows-gt-MOST_ROWS : goal.returns-then-rows-gt-MOST_ROWS
returns-then-rows-gt-MOST_ROWS c = λ _.
    let s : Sealed = sealed c.args.schema.now c.args.chunk c.args.from c.args.to c.args.rows.now in
    let most : ℕ = c.args.schema.now.limits.max_image_bytes in
    let few = c.fields.ensures.well_formed.limits.few_bytes in
    let long = long_by_rows s in
    let many = c.if-rows-gt-MOST_ROWS.true in
    ap (λ (b : Bool). cond {A = Result (List ℕ) ImageError} b (Ok (image s)) (Err ImageTooLarge)) (lt-leb (length (image s)) most (omega arith))
