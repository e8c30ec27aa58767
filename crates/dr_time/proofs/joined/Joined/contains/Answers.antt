use Rattle.std.proofs.Common.{◌≡◌, ◌∙◌, sym, rules, int_le, w64}
use Rattle.std.proofs.lemmas.Int.{to_z-of_z}
use Rattle.std.proofs.lemmas.Fn.{always_returns_same}
use Rattle.dr_time.specs.Interval.{holds_time}
use Rattle.dr_time.proofs.JoinedLemmas.{starts-part, none_started, held_at}
use Rattle.dr_time.proofs.joined.Joined.contains.Goals as goal

pub returns-then-place-eq0 : goal.returns-then-place-eq0
returns-then-place-eq0 c =
    let items = c.deref.ensures.value ∙ c.self.view_is in
    let apart = rw c.self.view_is at c.self.invariant in
    let split = rw items at (c.partition_point-place.ensures.partitioned (λ i. int_le i.start c.args.time) (always_returns_same _ (λ a r. r ≡ int_le a.0.now.start c.args.time) _ (λ a r f called. search rules))) in
    let sides = split (starts-part c.args.self.now c.args.time apart) in
    sym (none_started c.args.time c.args.self.now (rw c.if-place-eq0.true at sides.1))

pub returns : goal.returns
returns c =
    let items = c.deref.ensures.value ∙ c.self.view_is in
    let apart = rw c.self.view_is at c.self.invariant in
    let split = rw items at (c.partition_point-place.ensures.partitioned (λ i. int_le i.start c.args.time) (always_returns_same _ (λ a r. r ≡ int_le a.0.now.start c.args.time) _ (λ a r f called. search rules))) in
    let sides = split (starts-part c.args.self.now c.args.time apart) in
    let le = rw items at c.partition_point-place.ensures.bound in
    let held = held_at c.args.time c.args.self.now c.partition_point-place.result c.index.result.now apart c.if-place-eq0.false le sides.0 sides.1 in
    let item = rw c.self.view_is at c.index.ensures in
    (rw (to_z-of_z w64 c.args.time c.ranges.time) at c.contains.ensures) ∙ (λ j. holds_time (item j) c.args.time) ∙ sym held
