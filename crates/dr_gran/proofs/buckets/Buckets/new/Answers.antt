use Rattle.std.proofs.Common.{FitsSigned, w64, rules}
use Rattle.std.proofs.lemmas.Int.{to_z-of_z}
use Rattle.dr_gran.specs.Buckets.{buckets_of}
use Rattle.dr_gran.proofs.buckets.Buckets.new.Goals as goal

pub returns : goal.returns
returns c =
    let f : FitsSigned w64 c.max.result = search rules in
    let g : FitsSigned w64 c.min.result = search rules in
    let p : FitsSigned w64 c.args.from = search rules in
    let q : FitsSigned w64 c.args.to = search rules in
    let low = simp to_z-of_z at c.max.ensures.value in
    let high = simp to_z-of_z at c.min.ensures.value in
    rw (to_z-of_z w64 c.max.result f, to_z-of_z w64 c.min.result g)
    (λ i. buckets_of c.args.bound c.args.gran c.args.union.now (low i) (high i))
