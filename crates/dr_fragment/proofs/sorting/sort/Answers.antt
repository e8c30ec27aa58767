use Rattle.std.proofs.Common.{rules, is_lt}
use Rattle.dr_base.specs.declared.row.Row.{Row}
use Rattle.dr_base.specs.Order.{key_cmp}
use Rattle.std.proofs.lemmas.List.Sorted.{answers_always, ranks_by}
use Rattle.dr_agg.proofs.KeyOrder.{key_cmp_total}
use Rattle.dr_fragment.proofs.sorting.sort.Goals as goal

pub returns-clause-sorted : goal.returns-clause-sorted
returns-clause-sorted c = c.in_ok-sort_by.ensures.sorted (λ a b. is_lt (key_cmp a.key b.key)) (ranks_by key_cmp_total (λ (r : Row). r.key)) (answers_always _ _ _ (λ f a r g h. search rules))

pub returns-clause-stable : goal.returns-clause-stable
returns-clause-stable c = c.in_ok-sort_by.ensures.stable (λ a b. is_lt (key_cmp a.key b.key)) (ranks_by key_cmp_total (λ (r : Row). r.key)) (answers_always _ _ _ (λ f a r g h. search rules))
