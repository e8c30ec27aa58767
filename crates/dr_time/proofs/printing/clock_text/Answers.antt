-- Each hole shows its part of the time of day.
use Rattle.std.proofs.Common.{string_bytes, Some, ap}
use Rattle.dr_time.proofs.PrintedLemmas.{formatted, clock_text-pieces, styled_two, styled_three}
use Rattle.dr_time.proofs.printing.clock_text.Goals as goal

pub returns : goal.returns
returns c =
    formatted c.format.result string_bytes _ _ c.format.ensures.ok
    (ap Some (clock_text-pieces c.args.millis _ _ _ _ (rw c.laid_out.ensures (styled_two _)) (rw c.laid_out-2.ensures (styled_two _)) (rw c.laid_out-3.ensures (styled_two _)) (rw c.laid_out-4.ensures (styled_three _))))
