-- The hole shows the day.
use Rattle.std.proofs.Common.{string_bytes, Some, ap, arith}
use Rattle.dr_time.proofs.PrintedLemmas.{formatted, date_text-late, styled_two}
use Rattle.dr_time.proofs.printing.late_date_text.Goals as goal

pub returns : goal.returns
returns c =
    formatted c.format.result string_bytes _ _ c.format.ensures.ok
    (ap Some (date_text-late c.args.day _ c.requires.low (omega arith) (rw c.laid_out.ensures (styled_two _))))
