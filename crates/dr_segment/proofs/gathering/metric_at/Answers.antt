use Rattle.std.proofs.Common.{rules, arith, FitsSigned}
use Rattle.std.specs.Int.{w64}
use Rattle.std.proofs.lemmas.Int.{to_z-of_z, ints}
use Rattle.std.proofs.lemmas.Option.{unwrap_or-slice_get}
use Rattle.dr_segment.proofs.gathering.metric_at.Goals as goal

pub returns : goal.returns
returns c =
    let fits : FitsSigned w64 c.unwrap_or.result = search rules in
    rw (to_z-of_z w64 c.unwrap_or.result fits, c.unwrap_or.ensures, c.get.ensures) (grind (arith, ints, unwrap_or-slice_get))
