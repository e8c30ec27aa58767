use Rattle.std.proofs.Common.{◌≡◌, ◌-◌}
use Rattle.dr_time.specs.Digits.{behind_digits}
use Rattle.dr_time.proofs.digits.behind_digits.Given as goal

abbrev pub invariant-loop : goal.invariant-loop
invariant-loop l = behind_digits (l.most - l.counter) l.rest ≡ behind_digits l.most l.text
