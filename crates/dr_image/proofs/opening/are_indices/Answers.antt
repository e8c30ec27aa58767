use Rattle.std.proofs.Common.{◌∙◌, sym, ap, arith}
use Rattle.dr_image.specs.Layout.{parts_in}
use Rattle.dr_image.specs.Parts.{no_part}
use Rattle.dr_image.specs.Opening.{is_index}
use Rattle.dr_image.proofs.ContentLemmas.{all_stops, all_goes_on, all_ends}
use Rattle.dr_image.proofs.opening.are_indices.Goals as goal

pub returns-then-not-has_index : goal.returns-then-not-has_index
returns-then-not-has_index c =
    let parts = parts_in c.args.layout.now.bytes.now in
    sym (sym c.loop-d.invariant ∙ all_stops is_index parts c.loop-d.d no_part (omega arith) (ap is_index (sym c.part.ensures.seen) ∙ sym c.has_index.ensures ∙ c.if-not-has_index.true))

pub loop-d-preserved : goal.loop-d-preserved
loop-d-preserved c =
    let parts = parts_in c.args.layout.now.bytes.now in
    sym (all_goes_on is_index parts c.loop-d.d no_part (omega arith) (ap is_index (sym c.part.ensures.seen) ∙ sym c.has_index.ensures ∙ c.if-not-has_index.false)) ∙ c.loop-d.invariant

pub returns : goal.returns
returns c = sym (all_ends is_index (parts_in c.args.layout.now.bytes.now) c.loop-d.d (omega (arith, c.loop-d-test.false))) ∙ c.loop-d.invariant
