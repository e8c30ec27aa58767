use Rattle.std.proofs.Common.{◌∙◌, sym, ap, subst}
use Rattle.dr_patterns.specs.Begun.{Rise, InOrder, begins_some}
use Rattle.dr_patterns.specs.Literals.{IsLiteral, AreLiteral}
use Rattle.dr_patterns.specs.Sides.{seen}
use Rattle.dr_patterns.proofs.Begun.{outer-rise, outer-same, outer_of-all}
use Rattle.dr_patterns.proofs.edges.outer.Goals as goal

pub returns-in_ok-kept-in-Some-clause-rise : goal.returns-in_ok-kept-in-Some-clause-rise
returns-in_ok-kept-in-Some-clause-rise c =
    let order = subst (InOrder (seen c.args.side)) c.in-Some.ensures.cases.0 c.requires in
    subst (Rise (seen c.args.side)) (sym c.in_ok-kept-in-Some.ensures) (outer-rise (seen c.args.side) c.in-Some.first.now c.in-Some.others.now order)

pub returns-in_ok-kept-in-Some-clause-same : goal.returns-in_ok-kept-in-Some-clause-same
returns-in_ok-kept-in-Some-clause-same c = λ text.
    ap (λ es. begins_some (seen c.args.side) es text) c.in_ok-kept-in-Some.ensures ∙ outer-same (seen c.args.side) text c.in-Some.first.now c.in-Some.others.now
    ∙ ap (λ es. begins_some (seen c.args.side) es text) (sym c.in-Some.ensures.cases.0)

pub returns-in_ok-kept-in-Some-clause-literal : goal.returns-in_ok-kept-in-Some-clause-literal
returns-in_ok-kept-in-Some-clause-literal c = λ all.
    subst AreLiteral (sym c.in_ok-kept-in-Some.ensures) (outer_of-all IsLiteral (seen c.args.side) c.in-Some.first.now c.in-Some.others.now (subst AreLiteral c.in-Some.ensures.cases.0 all))
