use Rattle.std.proofs.Common.{rules, ◌≡◌, ap, sym, subst, pos, get_or, length, arith}
use Rattle.std.specs.Ordering.{is_lt, int_cmp}
use Rattle.std.proofs.lemmas.Fn.{always_returns_same}
use Rattle.std.proofs.lemmas.List.FromFn.{length-range_with_len}
use Rattle.std.proofs.lemmas.List.Sorted.{length_permutation}
use Rattle.dr_rowindex.specs.Orders.{NumbersRise}
use Rattle.dr_rowindex.proofs.RowLemmas.{all-sorted}
use Rattle.dr_rowindex.proofs.NumberLemmas.{numbers_rank, numbers-rise}
use Rattle.dr_rowindex.proofs.number_order.NumberOrder.of.Goals as goal

pub of-requires : goal.of-requires
of-requires c =
    let before = c.in_ok-rows.rows.items in
    let after = c.sort_by.new.self.items in
    all-sorted c.len.result before after c.in_ok-rows.ensures c.sort_by.ensures.permutation (length_permutation before after c.sort_by.ensures.permutation)

pub invariant_of-result : goal.invariant_of-result
invariant_of-result c =
    let numbers = c.args.numbers.items in
    let before = c.in_ok-rows.rows.items in
    let after = c.sort_by.new.self.items in
    let long : length c.in_ok-order.order ≡ length numbers =
    omega (arith, ap length c.in_ok-order.ensures, length_permutation before after c.sort_by.ensures.permutation, ap length c.in_ok-rows.ensures, length-range_with_len 0 c.len.result, c.len.ensures, c.args.numbers.ok.0) in
    let sorted = c.in_ok-sort_by.ensures.sorted (λ a b. is_lt (int_cmp (get_or numbers a (pos 0)) (get_or numbers b (pos 0)))) (numbers_rank numbers)
    (always_returns_same _ (λ a r. is_lt r ≡ is_lt (int_cmp (get_or numbers a.0.now (pos 0)) (get_or numbers a.1.0.now (pos 0)))) _ (λ a r f called. search rules)) in
    (long, subst (NumbersRise numbers) (sym c.in_ok-order.ensures) (numbers-rise numbers after sorted))
