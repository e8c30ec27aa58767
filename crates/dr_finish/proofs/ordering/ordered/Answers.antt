use Rattle.std.proofs.Common.{rules, ◌≡◌, ◌∙◌, refl, is_lt}
use Rattle.std.proofs.lemmas.List.Sorted.{ranks_by}
use Rattle.std.proofs.lemmas.Fn.{answers_by}
use Rattle.dr_base.specs.declared.row.Row.{Row}
use Rattle.dr_finish.specs.RowOrder.{row_cmp}
use Rattle.dr_finish.proofs.AnyOrder.{row_total}
use Rattle.dr_finish.proofs.ordering.ordered.Goals as goal

pub returns-clause-sorted : goal.returns-clause-sorted
returns-clause-sorted c =
    let by = c.args.by.now in
    let aggregations = c.args.aggregations.now in
    c.in_ok-sort_by.ensures.sorted (λ a b. is_lt (row_cmp by.limit_spec.columns by.dimensions aggregations a b)) (ranks_by (row_total by.limit_spec.columns by.dimensions aggregations) (λ (g : Row). g))
    (answers_by _ _ (λ f. (f.0.now ≡ by) × (f.1.now ≡ aggregations)) (λ f a r g h i. (
      let own : is_lt r ≡ is_lt (row_cmp f.0.now.limit_spec.columns f.0.now.dimensions f.1.now a.0.now a.1.0.now) = search rules in
          own ∙ (λ j. is_lt (row_cmp (i.0 j).limit_spec.columns (i.0 j).dimensions (i.1 j) a.0.now a.1.0.now)),
      let first : g.0.now ≡ f.0.now = search rules in let second : g.1.now ≡ f.1.now = search rules in (first ∙ i.0, second ∙ i.1),
    )) _ (refl, refl))

pub returns-clause-stable : goal.returns-clause-stable
returns-clause-stable c =
    let by = c.args.by.now in
    let aggregations = c.args.aggregations.now in
    c.in_ok-sort_by.ensures.stable (λ a b. is_lt (row_cmp by.limit_spec.columns by.dimensions aggregations a b)) (ranks_by (row_total by.limit_spec.columns by.dimensions aggregations) (λ (g : Row). g))
    (answers_by _ _ (λ f. (f.0.now ≡ by) × (f.1.now ≡ aggregations)) (λ f a r g h i. (
      let own : is_lt r ≡ is_lt (row_cmp f.0.now.limit_spec.columns f.0.now.dimensions f.1.now a.0.now a.1.0.now) = search rules in
          own ∙ (λ j. is_lt (row_cmp (i.0 j).limit_spec.columns (i.0 j).dimensions (i.1 j) a.0.now a.1.0.now)),
      let first : g.0.now ≡ f.0.now = search rules in let second : g.1.now ≡ f.1.now = search rules in (first ∙ i.0, second ∙ i.1),
    )) _ (refl, refl))
