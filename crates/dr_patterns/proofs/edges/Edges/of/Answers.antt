use Rattle.std.proofs.Common.{◌≡◌, ◌∙◌, sym, ap, subst, rules}
use Rattle.std.specs.Ordering.{is_lt}
use Rattle.std.specs.Cmp.Lexicographic.{nat_list_cmp_total}
use Rattle.std.proofs.lemmas.Fn.{always_returns_same}
use Rattle.std.proofs.lemmas.List.Sorted.{ranks_by, list_any-IsPermutation}
use Rattle.dr_patterns.specs.Begun.{begins, begins_some, InOrder}
use Rattle.dr_patterns.specs.Literals.{IsLiteral, AreLiteral}
use Rattle.dr_patterns.specs.Sides.{seen}
use Rattle.dr_patterns.proofs.Begun.{all-permuted, in_order, is_less}
use Rattle.dr_patterns.proofs.edges.Edges.of.Goals as goal

pub outer-requires : goal.outer-requires
outer-requires c =
    let up = c.sort_unstable_by.ensures.sorted (is_less (seen c.args.side)) (ranks_by nat_list_cmp_total (seen c.args.side)) (always_returns_same _ (λ a r. is_lt r ≡ is_less (seen c.args.side) a.0.now a.1.0.now) _ (λ a r f called. search rules)) in
    subst (InOrder (seen c.args.side)) (sym c.as_slice.ensures.value) (in_order (seen c.args.side) c.sort_unstable_by.new.self.items up)

pub returns-clause-same : goal.returns-clause-same
returns-clause-same c = λ text.
    c.in_ok-texts.ensures.same text ∙ ap (λ ts. begins_some (seen c.args.side) ts text) c.as_slice.ensures.value
    ∙ sym (list_any-IsPermutation (λ e. begins (seen c.args.side e) text) c.args.texts.items c.sort_unstable_by.new.self.items c.sort_unstable_by.ensures.permutation)

pub returns-clause-literal : goal.returns-clause-literal
returns-clause-literal c = λ all.
    c.in_ok-texts.ensures.literal (subst AreLiteral (sym c.as_slice.ensures.value) (all-permuted IsLiteral c.args.texts.items c.sort_unstable_by.new.self.items c.sort_unstable_by.ensures.permutation all))
