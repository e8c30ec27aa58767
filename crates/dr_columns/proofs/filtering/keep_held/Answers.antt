use Rattle.std.proofs.Common.{◌≡◌, ◌<◌, ◌∙◌, length, arith, ap, sym, pos, false, get_or, ◌&&◌, rules, FitsSigned, w64}
use Rattle.std.proofs.lemmas.Int.{to_z-of_z}
use Rattle.dr_time.specs.Union.{union_holds}
use Rattle.dr_columns.specs.Rows.{key_at}
use Rattle.dr_columns.proofs.NarrowLemmas.{to-more}
use Rattle.dr_columns.proofs.ValueLemmas.{key-time}
use Rattle.dr_columns.proofs.filtering.keep_held.Goals as goal

pub loop-i-preserved : goal.loop-i-preserved
loop-i-preserved c =
    let t = c.args.view.now in
    let us = c.args.union.now in
    let i = c.loop-i.i in
    let fits : FitsSigned w64 c.value_at-next.result = search rules in
    let next : c.value_at-next.result ≡ (key_at t i).time = c.value_at-next.ensures ∙ ap (λ l. get_or l i (pos 0)) c.times-times.ensures ∙ sym (key-time t i) in
    let held = c.is_held-held.ensures in
    let now : c.is_held-held.result ≡ union_holds us (key_at t i).time = held ∙ ap (union_holds us) (to_z-of_z w64 c.value_at-next.result fits ∙ next) in
    let lt : i < length c.loop-i.told = omega (arith, c.loop-i-test.true, c.loop-i.invariant.0.count) in
    (to-more i (λ k. union_holds us (key_at t k).time) c.args.told.now c.loop-i.told c.both.result lt (c.both.ensures ∙ ap (λ b. get_or c.loop-i.told i false && b) now) c.loop-i.invariant.0, held)
