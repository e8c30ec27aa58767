-- The sum in 64 bits is the sum.
use Rattle.std.proofs.Common.{◌≡◌, ◌∙◌, pos, ◌+ℤ◌, ◌-ℤ◌, ◌*ℤ◌, to_z, of_z, w64, ap}
use Rattle.jiff_core.proofs.SignedLemmas.{signed_arith}
use Rattle.std.proofs.Common.{arith}
use Rattle.dr_time.specs.Instant.{in_range, time_at}
use Rattle.dr_time.proofs.instant.instant_at.Goals as goal

pub returns : goal.returns
returns c =
    let value : to_z w64 (of_z w64 (to_z w64 (of_z w64 (to_z w64 (of_z w64 (to_z w64 (of_z w64 c.args.day) *ℤ pos 86_400_000)) +ℤ to_z w64 (of_z w64 c.from.result))) -ℤ to_z w64 (of_z w64 c.args.offset))) ≡ time_at c.args.day c.args.millis c.args.offset =
    omega (arith, signed_arith) in
    c.in_range.ensures ∙ ap in_range value
