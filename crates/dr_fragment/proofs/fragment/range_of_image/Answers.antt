use Rattle.std.proofs.Common.{rules, FitsSigned}
use Rattle.std.specs.Int.{w64}
use Rattle.std.proofs.lemmas.Int.{to_z-of_z}
use Rattle.dr_fragment.proofs.Images.{known_at}
use Rattle.dr_fragment.proofs.fragment.range_of_image.Goals as goal

pub returns : goal.returns
returns c =
    let fits : FitsSigned w64 c.chunk.result = search rules in
    let at = known_at c.args.bytes.now c.of_image-view.result c.requires c.of_image-view.ensures.value in
    simp to_z-of_z (rw (c.chunk.ensures, c.range-from.ensures.from, c.range-from.ensures.to) at)
