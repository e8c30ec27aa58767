use Rattle.std.proofs.Common.{◌≡◌, ◌∙◌, rules}
use Rattle.std.proofs.lemmas.Fn.{always_returns_same}
use Rattle.std.specs.Ordering.{is_lt}
use Rattle.dr_predicate.specs.Ranges.{start_order}
use Rattle.dr_predicate.proofs.Reaching.{sorted-rise, sorted-held, starts_rank}
use Rattle.dr_predicate.proofs.ranges.Ranges.of.Goals as goal

pub outer-requires : goal.outer-requires
outer-requires c =
    sorted-rise c.sort_by.new.self.items (c.in_ok-sort_by.ensures.sorted (λ a b. is_lt (start_order a b)) starts_rank (always_returns_same _ (λ a r. is_lt r ≡ is_lt (start_order a.0.now a.1.0.now)) _ (λ a r f called. search rules)))

pub returns : goal.returns
returns c = λ text. c.in_ok-outer.ensures.same text ∙ sorted-held _ _ c.sort_by.ensures.permutation text
