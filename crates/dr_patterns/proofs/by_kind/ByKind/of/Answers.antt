use Rattle.std.proofs.Common.{◌∙◌, ap}
use Rattle.dr_patterns.specs.Fitting.{fits_some}
use Rattle.dr_patterns.proofs.Literals.{fit-alike, rest-alike}
use Rattle.dr_patterns.proofs.by_kind.ByKind.of.Goals as goal

pub returns : goal.returns
returns c = λ text.
    let made = c.gathered.invariant in
    let left = c.in_ok-together.together.items in
    let literal = c.in_ok-together.ensures.literal made.are_parts in
    fit-alike c.gathered.inside.words c.gathered.inside.starts.items c.gathered.inside.ends.items left c.parts_together.new.others.items c.in_ok-starts.starts.1 c.in_ok-ends.ends.1 c.in_ok-parts.parts.1
    made.are_starts (c.in_ok-starts.ensures.literal made.are_starts) made.are_ends (c.in_ok-ends.ensures.literal made.are_ends) literal (c.in_ok-parts.ensures.literal literal)
    c.in_ok-starts.ensures.same c.in_ok-ends.ensures.same c.in_ok-parts.ensures.same text
    ∙ rest-alike c.gathered.inside.words c.gathered.inside.starts.items c.gathered.inside.ends.items c.gathered.inside.parts.items left c.gathered.inside.others.items c.parts_together.new.others.items c.in_ok-together.ensures.same text
    ∙ ap (λ ps. fits_some ps text) c.gathered.view_is
