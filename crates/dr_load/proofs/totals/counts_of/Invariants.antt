use Rattle.std.proofs.Common.{◌≡◌, ◌+◌, ◌≤◌, length, map, sum}
use Rattle.std.specs.Prelude.{min, ◌-◌, ◌^◌}
use Rattle.std.specs.Vec.Iter.{into_iter_items, into_iter_len}
use Rattle.dr_load.specs.Totals.{first_refusal, total}
use Rattle.dr_load.proofs.totals.counts_of.Given as goal

abbrev pub invariant-loop-file : goal.invariant-loop-file
invariant-loop-file l = (into_iter_len l.file-iterator ≡ length (into_iter_items l.file-iterator))
    × (first_refusal (into_iter_items l.file-iterator) ≡ first_refusal l.fn.told.items)
    × (min (l.unparseable + sum (map (λ f. f.tally.unparseable) (into_iter_items l.file-iterator))) (2 ^ 64 - 1) ≡ total (map (λ f. f.tally.unparseable) l.fn.told.items))
    × (min (l.thrown_away + sum (map (λ f. f.tally.thrown_away) (into_iter_items l.file-iterator))) (2 ^ 64 - 1) ≡ total (map (λ f. f.tally.thrown_away) l.fn.told.items))
    × (l.unparseable ≤ 2 ^ 64 - 1) × (l.thrown_away ≤ 2 ^ 64 - 1)
