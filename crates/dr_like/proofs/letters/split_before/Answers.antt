use Rattle.std.proofs.Common.{sym, ◌∙◌, ap, append-nil, ◌++◌}
use Rattle.std.specs.Str.{chars}
use Rattle.std.proofs.lemmas.Str.{chars-nil, IsUtf8-take}
use Rattle.dr_like.proofs.Texts.{chars-cut, lacks-chars}
use Rattle.dr_like.proofs.letters.split_before.Goals as goal

pub returns-in-Some-clause-parts : goal.returns-in-Some-clause-parts
returns-in-Some-clause-parts c =
    let found = c.in-Some.ensures.cases in
    rw (c.split_at.ensures.front, c.split_at.ensures.back) (chars-cut c.args.text.now c.in-Some.at (IsUtf8-take _ _ c.utf8.text found.3))

pub returns-in-Some-clause-lacks : goal.returns-in-Some-clause-lacks
returns-in-Some-clause-lacks c =
    let found = c.in-Some.ensures.cases in
    rw (c.split_at.ensures.front) (lacks-chars _ _ (IsUtf8-take _ _ c.utf8.text found.3) found.1.0)

pub returns-in-None-clause-parts : goal.returns-in-None-clause-parts
returns-in-None-clause-parts c = sym (ap (λ l. chars c.args.text.now ++ l) chars-nil ∙ append-nil _)

pub returns-in-None-clause-lacks : goal.returns-in-None-clause-lacks
returns-in-None-clause-lacks c = lacks-chars _ _ c.utf8.text c.in-None.ensures.cases
