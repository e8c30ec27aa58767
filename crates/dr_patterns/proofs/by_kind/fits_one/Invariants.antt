use Rattle.std.proofs.Common.{◌≡◌, drop}
use Rattle.dr_patterns.specs.Fitting.{fits_some}
use Rattle.dr_patterns.proofs.by_kind.fits_one.Given as goal

abbrev pub invariant-loop-pattern : goal.invariant-loop-pattern
invariant-loop-pattern l = fits_some (drop l.pattern-index l.patterns) l.text ≡ fits_some l.patterns l.text
