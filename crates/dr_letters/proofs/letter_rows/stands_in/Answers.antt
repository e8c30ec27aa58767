use Rattle.std.proofs.Common.{arith}
use Rattle.dr_letters.proofs.PieceLemmas.{stands-any}
use Rattle.dr_letters.proofs.letter_rows.stands_in.Goals as goal

pub returns-then-letter-eq95 : goal.returns-then-letter-eq95
returns-then-letter-eq95 c = stands-any c.args.letter c.args.place c.args.own.now c.if-letter-eq95.true (omega (arith, c.if-place-own.false))
