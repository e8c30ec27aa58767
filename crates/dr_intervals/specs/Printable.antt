-- Intervals whose start has a text.
use Rattle.dr_time.specs.declared.interval.Interval.{Interval}
use Rattle.dr_time.specs.Printed as time

-- it starts at a time that can be printed
abbrev pub StartsPrintable : Interval → Type 0
StartsPrintable i = time.IsPrintable i.start
