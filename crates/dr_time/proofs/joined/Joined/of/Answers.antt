use Rattle.std.proofs.Common.{◌≡◌, ◌∙◌, sym, rules, subst}
use Rattle.std.proofs.lemmas.Fn.{always_returns_same}
use Rattle.dr_time.specs.Joined.{Rise}
use Rattle.dr_time.specs.Union.{union_holds}
use Rattle.dr_time.proofs.JoinedLemmas.{sorted-rise, sorted-held}
use Rattle.dr_time.proofs.joined.Joined.of.Goals as goal

pub join_all-requires : goal.join_all-requires
join_all-requires c =
    let up = c.sort_unstable_by_key.ensures.sorted (λ i. i.start) (always_returns_same _ (λ a r. r ≡ a.0.now.start) _ (λ a r f called. search rules)) in
    subst Rise (sym c.as_slice.ensures.value) (sorted-rise c.sort_unstable_by_key.new.self.items up)

pub returns : goal.returns
returns c =
    let moved = c.sort_unstable_by_key.ensures.permutation in
    let same = sorted-held c.in_ok-sorted.sorted.items c.sort_unstable_by_key.new.self.items moved in
    λ t. c.in_ok-join_all.ensures.same t ∙ (λ k. union_holds (c.as_slice.ensures.value k) t) ∙ same t ∙ (λ k. union_holds (c.in_ok-sorted.ensures.items k) t)
