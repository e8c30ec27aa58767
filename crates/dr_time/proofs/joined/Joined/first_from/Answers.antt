use Rattle.std.proofs.Common.{◌≡◌, ◌∙◌, ◌&&◌, sym, rules, int_le, None, w64}
use Rattle.std.proofs.lemmas.Fn.{always_returns_same}
use Rattle.std.proofs.lemmas.Int.{to_z-of_z}
use Rattle.dr_time.specs.Interval.{first_time_from}
use Rattle.dr_time.specs.Union.{union_holds, union_first_from}
use Rattle.dr_time.proofs.JoinedLemmas.{ends-part, found_none, found_first, first-unique}
use Rattle.dr_time.proofs.UnionLemmas.{union_first_from-first}
use Rattle.dr_time.proofs.joined.Joined.first_from.Goals as goal

pub returns-then-place-len : goal.returns-then-place-len
returns-then-place-len c =
    let items = c.deref.ensures.value ∙ c.self.view_is in
    let apart = rw c.self.view_is at c.self.invariant in
    let split = rw items at (c.partition_point-place.ensures.partitioned (λ i. int_le i.end c.args.from) (always_returns_same _ (λ a r. r ≡ int_le a.0.now.end c.args.from) _ (λ a r f called. search rules))) in
    let sides = split (ends-part c.args.self.now c.args.from apart) in
    let len = rw items at (c.len.ensures ∙ sym c.deref.ensures.len) in
    let none = found_none c.args.from c.args.self.now c.partition_point-place.result (c.if-place-len.true ∙ len) sides.0 in
    first-unique (λ t. int_le c.args.from t && union_holds c.args.self.now t) None (union_first_from c.args.from c.args.self.now) none (union_first_from-first c.args.from c.args.self.now)

pub returns : goal.returns
returns c =
    let items = c.deref.ensures.value ∙ c.self.view_is in
    let apart = rw c.self.view_is at c.self.invariant in
    let split = rw items at (c.partition_point-place.ensures.partitioned (λ i. int_le i.end c.args.from) (always_returns_same _ (λ a r. r ≡ int_le a.0.now.end c.args.from) _ (λ a r f called. search rules))) in
    let sides = split (ends-part c.args.self.now c.args.from apart) in
    let len = rw items at (c.len.ensures ∙ sym c.deref.ensures.len) in
    let le = rw items at c.partition_point-place.ensures.bound in
    let first = found_first c.args.from c.args.self.now c.partition_point-place.result c.index.result.now apart le (λ e. c.if-place-len.false (e ∙ sym len)) sides.0 sides.1 in
    let item = rw c.self.view_is at c.index.ensures in
    (rw (to_z-of_z w64 c.args.from c.ranges.from) at c.first_from.ensures) ∙ (λ j. first_time_from c.args.from (item j))
    ∙ first-unique (λ t. int_le c.args.from t && union_holds c.args.self.now t) _ (union_first_from c.args.from c.args.self.now) first (union_first_from-first c.args.from c.args.self.now)
