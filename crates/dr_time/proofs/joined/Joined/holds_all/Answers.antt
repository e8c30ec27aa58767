use Rattle.std.proofs.Common.{◌≡◌, ◌∙◌, sym, subst, true, int_le, int_lt, rules, w64, FitsSigned}
use Rattle.std.proofs.lemmas.Fn.{always_returns_same}
use Rattle.std.proofs.lemmas.Int.{to_z-of_z}
use Rattle.dr_time.specs.declared.interval.Interval.{Interval}
use Rattle.dr_time.proofs.JoinedLemmas.{starts-part, some_started, all_held, ends_behind, not_behind}
use Rattle.dr_time.proofs.joined.Joined.holds_all.Goals as goal

pub returns-then-place-eq0-clause-only : goal.returns-then-place-eq0-clause-only
returns-then-place-eq0-clause-only c =
    let items = c.deref.ensures.value ∙ c.self.view_is in
    let apart = rw c.self.view_is at c.self.invariant in
    let split = rw items at (c.partition_point-place.ensures.partitioned (λ i. int_le i.start c.args.least) (always_returns_same _ (λ a r. r ≡ int_le a.0.now.start c.args.least) _ (λ a r f called. search rules))) in
    let sides = split (starts-part c.args.self.now c.args.least apart) in
    let f : FitsSigned w64 c.args.least = c.ranges.least in
    let g : FitsSigned w64 c.args.greatest = c.ranges.greatest in
    let rise = not_behind c.args.greatest c.args.least (simp to_z-of_z at c.if-greatest-least.false) in
    λ all. absurd (some_started c.args.self.now c.args.least c.args.greatest rise (rw c.if-place-eq0.true at sides.1) all)

pub returns-clause-all : goal.returns-clause-all
returns-clause-all c =
    let items = c.deref.ensures.value ∙ c.self.view_is in
    let apart = rw c.self.view_is at c.self.invariant in
    let split = rw items at (c.partition_point-place.ensures.partitioned (λ i. int_le i.start c.args.least) (always_returns_same _ (λ a r. r ≡ int_le a.0.now.start c.args.least) _ (λ a r f called. search rules))) in
    let sides = split (starts-part c.args.self.now c.args.least apart) in
    let le = rw items at c.partition_point-place.ensures.bound in
    let item = rw c.self.view_is at c.index.ensures in
    let f : FitsSigned w64 c.args.greatest = c.ranges.greatest in
    let g : FitsSigned w64 c.index.result.now.end = search rules in
    λ less. all_held c.args.self.now c.args.least c.args.greatest c.partition_point-place.result c.index.result.now c.if-place-eq0.false le sides.0
    (subst (λ (x : Interval). int_lt c.args.greatest x.end ≡ true) item (simp to_z-of_z at less))

pub returns-clause-only : goal.returns-clause-only
returns-clause-only c =
    let items = c.deref.ensures.value ∙ c.self.view_is in
    let apart = rw c.self.view_is at c.self.invariant in
    let split = rw items at (c.partition_point-place.ensures.partitioned (λ i. int_le i.start c.args.least) (always_returns_same _ (λ a r. r ≡ int_le a.0.now.start c.args.least) _ (λ a r f called. search rules))) in
    let sides = split (starts-part c.args.self.now c.args.least apart) in
    let le = rw items at c.partition_point-place.ensures.bound in
    let item = rw c.self.view_is at c.index.ensures in
    let f : FitsSigned w64 c.args.greatest = c.ranges.greatest in
    let h : FitsSigned w64 c.args.least = c.ranges.least in
    let g : FitsSigned w64 c.index.result.now.end = search rules in
    let rise = not_behind c.args.greatest c.args.least (simp to_z-of_z at c.if-greatest-least.false) in
    λ all. (λ j. int_lt (to_z-of_z w64 c.args.greatest f j) (to_z-of_z w64 c.index.result.now.end g j))
    ∙ subst (λ (x : Interval). int_lt c.args.greatest x.end ≡ true) (sym item)
    (ends_behind c.args.self.now c.args.least c.args.greatest c.partition_point-place.result c.index.result.now apart rise c.if-place-eq0.false le sides.0 sides.1 all)
