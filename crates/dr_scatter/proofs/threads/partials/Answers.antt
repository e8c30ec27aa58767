use Rattle.std.proofs.Common.{◌≡◌, ◌∙◌, sym, ap, subst, [], ◌∷◌, length, arith}
use Rattle.std.specs.Vec.Iter.{into_iter_items}
use Rattle.dr_agg.proofs.Sorting.{nothing-left}
use Rattle.dr_workers.specs.Shared.{rows_of}
use Rattle.dr_scatter.specs.Folds.{AreFoldsWhereOk}
use Rattle.dr_scatter.proofs.Kept.{Taking, none-taken, one-taken, all-taken}
use Rattle.dr_scatter.proofs.threads.partials.Goals as goal

pub loop-result-init : goal.loop-result-init
loop-result-init g c =
    let gives = c.into_iter-result-iterator.ensures.into_iter_gives in
    let found = c.in_ok-results.ensures in (
      none-taken c.args.query.now (rows_of c.args.fragments.now) found.0 c.in_ok-parts.parts.items (into_iter_items c.into_iter-result-iterator.result) c.in_ok-parts.ensures.items found.1
          (subst (AreFoldsWhereOk c.args.query.now found.0) (sym gives.0) found.2),
      let kept = ap length gives.0 in let len = gives.1 in omega (arith, kept, len),
    )

pub loop-result-preserved : goal.loop-result-preserved
loop-result-preserved g c =
    let at = c.loop-result in
    let q = c.args.query.now in
    let rows = rows_of c.args.fragments.now in
    let steps : into_iter_items at.result-iterator ≡ c.in-Some.result ∷ into_iter_items c.next.new.self = c.in-Some.ensures.steps.0 in (
      one-taken q rows at.parts.items c.push.new.self.items c.in-Some.result c.in_ok-result.field-0 (into_iter_items c.next.new.self)
          (subst (Taking q rows at.parts.items) steps at.invariant.0) c.in_ok-result.was c.in_ok-push.ensures.items,
      let was = at.invariant.1 in
          let gone = c.in-Some.ensures.steps.1 in
          let short = ap length steps in
          omega arith,
    )

pub returns : goal.returns
returns g c =
    let at = c.loop-result in
    let none = c.in-None.ensures.steps in
    let empty : into_iter_items at.result-iterator ≡ [] = nothing-left _ (sym at.invariant.1 ∙ none.0) in
    all-taken c.args.query.now (rows_of c.args.fragments.now) at.parts.items (into_iter_items at.result-iterator) empty at.invariant.0
