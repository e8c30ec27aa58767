use Rattle.std.proofs.Common.{◌∙◌}
use Rattle.dr_time.specs.Union.{union_holds, union_start}
use Rattle.dr_time.proofs.JoinedLemmas.{first-unique}
use Rattle.dr_time.proofs.UnionLemmas.{IsFirstTime-same, union_start-first}
use Rattle.dr_time.proofs.union.Union.start.Goals as goal

pub returns : goal.returns
returns c =
    let same = rw c.self.view_is at c.self.invariant in
    let first = IsFirstTime-same (union_holds c.self.inside.joined) (union_holds c.args.self.now) (union_start c.self.inside.joined) same (union_start-first c.self.inside.joined) in
    c.start.ensures ∙ first-unique (union_holds c.args.self.now) (union_start c.self.inside.joined) (union_start c.args.self.now) first (union_start-first c.args.self.now)
