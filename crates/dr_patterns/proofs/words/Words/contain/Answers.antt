use Rattle.std.proofs.Common.{◌∙◌, sym, ap, bytes_eq}
use Rattle.std.specs.List.{list_any}
use Rattle.dr_patterns.proofs.AddedTexts.{none_as_long}
use Rattle.dr_patterns.proofs.words.Words.contain.Goals as goal

pub returns-then-text-self : goal.returns-then-text-self
returns-then-text-self c =
    sym (ap (list_any (bytes_eq c.args.text.now)) (sym c.self.view_is) ∙ none_as_long c.self.inside.bound c.self.inside.texts c.args.text.now c.self.invariant c.if-text-self.true)
