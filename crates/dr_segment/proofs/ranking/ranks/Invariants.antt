use Rattle.std.proofs.Common.{◌≡◌, ◌<◌, ℕ, map, length, get_or}
use Rattle.dr_segment.proofs.ranking.ranks.Given as goal

abbrev pub invariant-loop-rank : goal.invariant-loop-rank
invariant-loop-rank l = record {
  long : length l.ranks.items ≡ length l.ranked;
  each : (k : ℕ) → k < l.rank → get_or l.ranks.items (get_or (map (λ r. r.place) l.ranked) k 0) 0 ≡ k;
}
