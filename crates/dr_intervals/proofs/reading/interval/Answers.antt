use Rattle.std.proofs.Common.{sym}
use Rattle.dr_intervals.proofs.PrintableIntervals.{IsPrintable-from_interval_of}
use Rattle.dr_intervals.proofs.reading.interval.Goals as goal

pub returns-clause-printable : goal.returns-clause-printable
returns-clause-printable c = IsPrintable-from_interval_of _ _ (sym c.in_ok-parse_interval.ensures)
