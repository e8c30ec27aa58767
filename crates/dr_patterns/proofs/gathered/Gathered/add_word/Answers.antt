use Rattle.std.proofs.Common.{◌∙◌, ap, ◌||◌}
use Rattle.dr_patterns.specs.Fitting.{fits_some, fits_text}
use Rattle.dr_patterns.proofs.Literals.{more-words}
use Rattle.dr_patterns.proofs.gathered.Gathered.add_word.Goals as goal

pub returns : goal.returns
returns c = λ text.
    more-words c.self.inside.words c.add.new.self _ c.args.word.now text c.in_ok-add.ensures.any
    ∙ ap (λ ps. fits_some ps text || fits_text c.args.word.now text) c.self.view_is
