use Rattle.std.proofs.Common.{◌∙◌, ◌&&◌, false, Some}
use Rattle.dr_predicate.specs.Within.{not_before, not_after}
use Rattle.dr_predicate.proofs.Gaps.{one-text}
use Rattle.dr_predicate.proofs.bounds.Bounds.one_text.Goals as goal

pub returns : goal.returns
returns c = λ value.
    (λ k. not_before (Some (c.in_ok-from_str.ensures k)) false value && not_after (Some (c.in_ok-from_str-2.ensures k)) false value) ∙ one-text c.args.text.now value
