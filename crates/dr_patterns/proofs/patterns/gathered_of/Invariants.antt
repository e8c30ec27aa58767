use Rattle.std.proofs.Common.{◌≡◌, ◌||◌, drop, List, ℕ}
use Rattle.dr_patterns.specs.Fitting.{fits_some}
use Rattle.dr_patterns.proofs.patterns.gathered_of.Given as goal

abbrev pub invariant-loop-pattern : goal.invariant-loop-pattern
invariant-loop-pattern l = (text : List ℕ) → fits_some l.gathered text || fits_some (drop l.pattern-index l.patterns) text ≡ fits_some l.patterns text
