use Rattle.std.proofs.Common.{◌∙◌, sym, ap, [], ◌∷◌, ◌++◌, arith}
use Rattle.std.proofs.lemmas.List.{map_more}
use Rattle.std.proofs.lemmas.Option.{get_or_from_slice_get}
use Rattle.dr_predicate.specs.Match.{passes}
use Rattle.dr_image.specs.Checked.{column_at}
use Rattle.dr_columns.proofs.filtering.truths.Goals as goal

pub loop-v-preserved : goal.loop-v-preserved
loop-v-preserved c =
    let dictionary = (column_at c.args.view.now c.args.d).dictionary in
    let item = sym (get_or_from_slice_get dictionary c.loop-v.v _ [] c.value.ensures) in
    let lt = c.loop-v-test.true in
    c.in_ok-push.ensures.items
    ∙ (λ k. c.loop-v.invariant k ++ (c.passes.ensures ∙ ap (passes c.args.test.now) item) k ∷ [])
    ∙ sym (map_more (passes c.args.test.now) dictionary c.loop-v.v [] (omega (arith, lt, c.value_count-count.ensures)))
