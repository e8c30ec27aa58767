use Rattle.std.proofs.Common.{◌≡◌, ◌∙◌, sym, ◌||◌, ℤ, arith}
use Rattle.std.proofs.lemmas.List.{drop_all}
use Rattle.std.proofs.lemmas.Result.{IfOk-weaker}
use Rattle.dr_base.proofs.Truths.{or_false}
use Rattle.dr_time.specs.Union.{union_holds}
use Rattle.dr_filter.specs.Times.{some_held}
use Rattle.dr_filter.proofs.times.some_time.Goals as goal

pub returns : goal.returns
returns c =
    let unions = c.args.unions.now in
    let intervals = c.loop-union.intervals.items in
    let none = drop_all c.loop-union.union-index unions (omega (arith, c.loop-union-test.false)) in
    IfOk-weaker c.of.result (λ u. u ≡ c.as_slice.result.now) (λ u. (t : ℤ) → union_holds u t ≡ some_held t unions)
    (λ u is t. (λ k. union_holds ((is ∙ c.as_slice.ensures.value) k) t)
    ∙ sym (or_false (union_holds intervals t))
    ∙ (λ k. union_holds intervals t || some_held t (sym none k))
    ∙ c.loop-union.invariant t)
    c.of.ensures
