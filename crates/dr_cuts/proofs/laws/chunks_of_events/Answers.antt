use Rattle.std.specs.Ordering.{int_eq}
use Rattle.dr_cuts.specs.Chunks.{chunk}
use Rattle.dr_cuts.proofs.Parts.{rising-values, any-values}
use Rattle.dr_cuts.proofs.laws.chunks_of_events.Goals as goal

pub returns : goal.returns
returns c = λ schema es. (rising-values (chunk schema) es, λ k. any-values (int_eq k) (chunk schema) es)
