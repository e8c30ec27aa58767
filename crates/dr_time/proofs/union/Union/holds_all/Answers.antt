use Rattle.std.proofs.Common.{◌∙◌, sym, w64}
use Rattle.std.proofs.lemmas.Int.{to_z-of_z}
use Rattle.dr_time.proofs.union.Union.holds_all.Goals as goal

pub returns-clause-all : goal.returns-clause-all
returns-clause-all c =
    let same = rw c.self.view_is at c.self.invariant in
    let all = rw (to_z-of_z w64 c.args.least c.ranges.least, to_z-of_z w64 c.args.greatest c.ranges.greatest) at c.holds_all.ensures.all in
    λ held t from to. sym (same t) ∙ all held t from to

pub returns-clause-only : goal.returns-clause-only
returns-clause-only c =
    let same = rw c.self.view_is at c.self.invariant in
    let only = rw (to_z-of_z w64 c.args.least c.ranges.least, to_z-of_z w64 c.args.greatest c.ranges.greatest) at c.holds_all.ensures.only in
    λ all. only (λ t from to. same t ∙ all t from to)
