use Rattle.std.proofs.Common.{◌≡◌, ◌∙◌, ap, ◌||◌}
use Rattle.std.specs.List.{list_any}
use Rattle.dr_patterns.proofs.AddedTexts.{added-any}
use Rattle.dr_patterns.proofs.words.Words.add.Goals as goal
use Rattle.dr_patterns.proofs.words.Words.add.Goals.{then-bytes-self, else-bytes-self}

pub returns-clause-any : goal.returns-clause-any
returns-clause-any c = λ test.
    let texts : c.if-bytes-self.self-inside.texts ≡ c.args.self.now = elim c.if-bytes-self.branch [ then-bytes-self w ↦ ap (λ i. i.texts) w.self-inside-is ∙ c.self.view_is | else-bytes-self w ↦ ap (λ i. i.texts) w.self-inside-is ∙ c.self.view_is ] in
    added-any c.if-bytes-self.self-inside.texts c.add.new.self c.args.text.now c.in_ok-add.field-0 c.in_ok-add.ensures.is_new c.in_ok-add.ensures.added c.in_ok-add.ensures.same test
    ∙ ap (λ ts. list_any test ts || test c.args.text.now) texts
