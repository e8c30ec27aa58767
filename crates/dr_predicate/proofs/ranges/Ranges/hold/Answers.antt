use Rattle.std.proofs.Common.{◌≡◌, ◌∙◌, sym, rules}
use Rattle.std.proofs.lemmas.Fn.{always_returns_same}
use Rattle.dr_predicate.specs.Ranges.{begun, unended}
use Rattle.dr_predicate.proofs.Reaching.{part, none_begun, held_at}
use Rattle.dr_predicate.proofs.ranges.Ranges.hold.Goals as goal

pub returns-then-place-eq0 : goal.returns-then-place-eq0
returns-then-place-eq0 c =
    let text = c.args.text.now in
    let items = c.deref.ensures.value ∙ c.self.view_is in
    let apart = rw c.self.view_is at c.self.invariant in
    let split = rw items at (c.partition_point-place.ensures.partitioned (begun text) (always_returns_same _ (λ a r. r ≡ begun text a.0.now) _ (λ a r f called. search rules))) in
    let sides = split (part text c.args.self.now apart.0) in
    sym (none_begun text c.args.self.now (rw c.if-place-eq0.true at sides.1))

pub returns : goal.returns
returns c =
    let text = c.args.text.now in
    let items = c.deref.ensures.value ∙ c.self.view_is in
    let apart = rw c.self.view_is at c.self.invariant in
    let split = rw items at (c.partition_point-place.ensures.partitioned (begun text) (always_returns_same _ (λ a r. r ≡ begun text a.0.now) _ (λ a r f called. search rules))) in
    let sides = split (part text c.args.self.now apart.0) in
    let le = rw items at c.partition_point-place.ensures.bound in
    let held = held_at text c.args.self.now c.partition_point-place.result c.index-last.result.now apart.1 c.if-place-eq0.false le sides.0 sides.1 in
    let item = rw c.self.view_is at c.index-last.ensures in
    c.not_after.ensures ∙ (λ j. unended text (item j)) ∙ sym held
