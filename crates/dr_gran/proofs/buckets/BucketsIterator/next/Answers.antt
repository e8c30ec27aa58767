-- What is given is the first of the buckets that were to come, and those behind it are still to come.
use Rattle.std.proofs.Common.{◌≡◌, ◌∙◌, sym, ap, [], Some, None, FitsSigned, w64, rules, arith}
use Rattle.std.proofs.lemmas.Int.{to_z-of_z}
use Rattle.dr_gran.specs.Truncation.{truncation, next}
use Rattle.dr_gran.specs.Buckets.{first_common, buckets_of}
use Rattle.dr_gran.proofs.BucketsLemmas.{buckets_of-zero, buckets_of-none, buckets_of-given, progress}
use Rattle.dr_gran.proofs.buckets.BucketsIterator.next.Goals as goal

pub returns-then-self-eq0-clause-steps : goal.returns-then-self-eq0-clause-steps
returns-then-self-eq0-clause-steps c =
    let b = c.self.inside in
    let empty : c.args.self.now ≡ [] = sym c.self.view_is ∙ (ap (λ n. buckets_of n b.gran b.union.now b.from b.to) c.if-self-eq0.true ∙ buckets_of-zero b.gran b.union.now b.from b.to) in
    (empty, empty)

pub returns-in_err-time-clause-steps : goal.returns-in_err-time-clause-steps
returns-in_err-time-clause-steps c =
    let b = c.self.inside in
    let from_fits : FitsSigned w64 c.self.inside.from = search rules in
    let to_fits : FitsSigned w64 c.self.inside.to = search rules in
    let none : first_common c.self.inside.union.now c.self.inside.from c.self.inside.to ≡ None = sym (simp to_z-of_z at c.in_err-time.ensures.value) in
    let empty : c.args.self.now ≡ [] = sym c.self.view_is ∙ buckets_of-none b.left b.gran b.union.now b.from b.to none in
    rw c.from_residual.ensures (empty, empty)

pub returns-clause-steps : goal.returns-clause-steps
returns-clause-steps c =
    let b = c.self.inside in
    let from_fits : FitsSigned w64 c.self.inside.from = search rules in
    let to_fits : FitsSigned w64 c.self.inside.to = search rules in
    let time_fits : FitsSigned w64 c.in_ok-time.time = search rules in
    let start_fits : FitsSigned w64 c.truncate-start.result = search rules in
    let end_fits : FitsSigned w64 c.bucket_end-end.result = search rules in
    let some : first_common c.self.inside.union.now c.self.inside.from c.self.inside.to ≡ Some c.in_ok-time.time = sym (simp to_z-of_z at c.in_ok-time.ensures.value) in
    let start : c.truncate-start.result ≡ truncation c.self.inside.gran c.in_ok-time.time = simp to_z-of_z at c.truncate-start.ensures.value in
    let end : c.bucket_end-end.result ≡ next c.self.inside.gran c.in_ok-time.time = simp to_z-of_z at c.bucket_end-end.ensures.value in
    sym c.self.view_is ∙ buckets_of-given b.left b.gran b.union.now b.from b.to c.in_ok-time.time _ _ (sym c.if-is_all.ensures) (omega arith) some (simp to_z-of_z start) (simp to_z-of_z end)

pub returns-clause-goes : goal.returns-clause-goes
returns-clause-goes c = progress _ _ _ (returns-clause-steps c)
