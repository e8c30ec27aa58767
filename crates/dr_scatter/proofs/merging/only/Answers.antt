use Rattle.std.proofs.Common.{◌≡◌, length, vec_len, rules, arith}
use Rattle.dr_scatter.proofs.Folded.{one-fold, no-fold}
use Rattle.dr_scatter.proofs.merging.only.Goals as goal

pub returns-in-Some : goal.returns-in-Some
returns-in-Some c = λ rows folds. one-fold c.args.query.now rows c.pop.new.self.items c.in-Some.groups c.args.parts.items c.requires c.in-Some.ensures.items folds

pub returns : goal.returns
returns c =
    let same : length c.args.parts.items ≡ vec_len c.args.parts = search rules in
    let none : length c.args.parts.items ≡ 0 = omega (arith, same, c.in-None.ensures.cases.0) in
    no-fold c.args.query.now c.args.parts.items c.of_rows.result none c.of_rows.ensures.value c.of_rows.ensures.printable
