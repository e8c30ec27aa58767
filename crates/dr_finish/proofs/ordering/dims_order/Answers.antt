use Rattle.std.proofs.Common.{◌∙◌, sym, ap, length, nat_cmp}
use Rattle.std.specs.Cmp.Lexicographic.{slice_cmp}
use Rattle.std.specs.Ordering.{ordering_then}
use Rattle.dr_finish.proofs.Numbered.{compared, texts-compared, then_decided}
use Rattle.dr_finish.proofs.ordering.dims_order.Goals as goal

pub returns-in-Equal : goal.returns-in-Equal
returns-in-Equal c =
    let rest = slice_cmp (slice_cmp nat_cmp) c.args.dims.now c.args.other_dims.now in
    let ds = c.args.dimensions.now in
    let all = c.texts_order.ensures ∙ ap (λ l. compared c.args.dims.now c.args.other_dims.now (length l) 0) c.distinct.ensures ∙ texts-compared ds c.args.dims.now c.args.other_dims.now in
    c.cmp.ensures ∙ ap (λ o. ordering_then o rest) (sym c.in-Equal.is ∙ all)

pub returns-in_default : goal.returns-in_default
returns-in_default c =
    let ds = c.args.dimensions.now in
    let rest = slice_cmp (slice_cmp nat_cmp) c.args.dims.now c.args.other_dims.now in
    let all = c.texts_order.ensures ∙ ap (λ l. compared c.args.dims.now c.args.other_dims.now (length l) 0) c.distinct.ensures ∙ texts-compared ds c.args.dims.now c.args.other_dims.now in
    sym (then_decided c.texts_order.result rest c.in_default.not-Equal) ∙ ap (λ o. ordering_then o rest) all
