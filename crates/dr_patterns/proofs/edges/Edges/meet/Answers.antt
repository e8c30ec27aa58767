use Rattle.std.proofs.Common.{◌≡◌, ◌∙◌, sym, ap, rules}
use Rattle.std.proofs.lemmas.Fn.{always_returns_same}
use Rattle.dr_patterns.specs.Begun.{is_at_most, begins}
use Rattle.dr_patterns.specs.Sides.{seen, some_at}
use Rattle.dr_patterns.proofs.Begun.{rise-part, none-begins, some-begins}
use Rattle.dr_patterns.proofs.edges.Edges.meet.Goals as goal

pub returns-then-place-eq0 : goal.returns-then-place-eq0
returns-then-place-eq0 c =
    let read = seen c.self.inside.side in
    let text = read c.args.text.now in
    let items = c.deref.ensures.value in
    let split = rw items at (c.partition_point-place.ensures.partitioned (λ e. is_at_most (read e) text) (always_returns_same _ (λ a r. r ≡ is_at_most (read a.0.now) text) _ (λ a r f called. search rules))) in
    let sides = split (rise-part read text c.self.inside.texts.items c.self.invariant) in
    sym (ap (λ v. some_at v.0 v.1 c.args.text.now) (sym c.self.view_is) ∙ none-begins read text c.self.inside.texts.items (rw c.if-place-eq0.true at sides.1))

pub returns : goal.returns
returns c =
    let read = seen c.self.inside.side in
    let text = read c.args.text.now in
    let items = c.deref.ensures.value in
    let split = rw items at (c.partition_point-place.ensures.partitioned (λ e. is_at_most (read e) text) (always_returns_same _ (λ a r. r ≡ is_at_most (read a.0.now) text) _ (λ a r f called. search rules))) in
    let sides = split (rise-part read text c.self.inside.texts.items c.self.invariant) in
    let le = rw items at c.partition_point-place.ensures.bound in
    let one = some-begins read text c.self.inside.texts.items c.partition_point-place.result c.index.result.now c.self.invariant c.if-place-eq0.false le sides.0 sides.1 in
    c.has.ensures ∙ ap (λ e. begins (read e) text) (c.as_str.ensures ∙ c.index.ensures) ∙ sym one ∙ ap (λ v. some_at v.0 v.1 c.args.text.now) c.self.view_is
