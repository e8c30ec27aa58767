use Rattle.std.proofs.Common.{◌∙◌, ◌-◌, ◌++◌, ◌∷◌, [], Bool, not, ap, map}
use Rattle.dr_base.specs.declared.row.Row.{Row}
use Rattle.dr_filter.specs.Condition.{condition_in, matches}
use Rattle.dr_image.specs.Table.{row_at}
use Rattle.dr_columns.proofs.AtOnce.{failed-more}
use Rattle.dr_columns.proofs.at_once.put_failures.Goals as goal

pub loop-i-preserved : goal.loop-i-preserved
loop-i-preserved c =
    let condition = condition_in c.args.filter.now in
    let passes : Row → Bool = λ r. matches r.key.time r.key.dims condition in
    failed-more passes (row_at c.args.view.now) c.args.from (c.args.to - c.args.from) c.loop-i.i c.in_ok-kept.kept c.args.failed.now.items c.loop-i.failed.items c.push.new.self.items
    c.loop-i-test.true (c.in_ok-kept.ensures ∙ ap (map passes) (c.as_slice.ensures.value ∙ c.in_ok-rows.ensures))
    (c.in_ok-push.ensures.items ∙ ap (λ b. c.loop-i.failed.items ++ not b ∷ []) c.contains.ensures) c.loop-i.invariant
