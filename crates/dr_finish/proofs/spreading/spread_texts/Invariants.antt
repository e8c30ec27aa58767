use Rattle.std.proofs.Common.{◌≡◌, take}
use Rattle.dr_outputs.specs.Numbered.{texts_by}
use Rattle.dr_finish.proofs.spreading.spread_texts.Given as goal

abbrev pub invariant-loop-number : goal.invariant-loop-number
invariant-loop-number l = l.spread.items ≡ texts_by (take l.number-index l.numbers) l.all
