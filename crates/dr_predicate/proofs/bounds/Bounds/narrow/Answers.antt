use Rattle.std.proofs.Common.{◌∙◌, sym, ap, ◌&&◌}
use Rattle.dr_predicate.specs.Match.{lies_within, not_before, not_after}
use Rattle.dr_base.proofs.Truths.{and_regroups}
use Rattle.dr_predicate.proofs.bounds.Bounds.narrow.Goals as goal

pub returns : goal.returns
returns c = λ text.
    let b = c.args.self.now in
    let o = c.args.other in
    c.narrow_upper.ensures text
    ∙ ap (λ a. a && not_after o.upper o.upper_strict text) (c.narrow_lower.ensures text)
    ∙ sym (and_regroups (lies_within b text) (not_before o.lower o.lower_strict text) (not_after o.upper o.upper_strict text))
