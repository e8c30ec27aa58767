use Rattle.std.proofs.Common.{◌≡◌, ◌+◌, take, drop, ap, ◌∙◌}
use Rattle.dr_lines.specs.Lines.{Reading}
use Rattle.dr_lines.proofs.line_reader.LineReader.take_part.Goals as goal

pub returns-in-Some-clause-part : goal.returns-in-Some-clause-part
returns-in-Some-clause-part c =
    let at = c.in-Some.at in
    let here = rw c.ahead.ensures at c.in-Some.ensures in
    let rest : c.skip.new.self.ahead ≡ drop (at + 1) c.args.self.now.ahead =
    ap (λ (r : Reading). r.ahead) c.skip.ensures ∙ ap (λ (r : Reading). drop (at + 1) r.ahead) c.grow.ensures.kept in
    (take at c.args.self.now.ahead, here.1, rw (rest) here.2, rw c.skip.ensures c.grow.ensures.grows)
