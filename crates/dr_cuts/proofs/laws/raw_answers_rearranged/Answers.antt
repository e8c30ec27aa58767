use Rattle.std.proofs.Common.{map}
use Rattle.std.proofs.lemmas.List.Sorted.{IsPermutation-map}
use Rattle.dr_answers.proofs.AlikeRows.{answer-alike}
use Rattle.dr_answers.proofs.RearrangedRows.{Alike-IsPermutation}
use Rattle.dr_rollup.specs.Unrolled.{unrolled}
use Rattle.dr_cuts.proofs.laws.raw_answers_rearranged.Goals as goal

pub returns : goal.returns
returns c = λ schema q es fs moved.
    answer-alike q (map (unrolled schema) es) (map (unrolled schema) fs) (Alike-IsPermutation q (map (unrolled schema) es) (map (unrolled schema) fs) (IsPermutation-map (unrolled schema) es fs moved))
