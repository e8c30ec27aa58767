use Rattle.std.proofs.Common.{◌∙◌, ap, ◌||◌}
use Rattle.std.proofs.lemmas.List.Folds.{list_any-append}
use Rattle.dr_base.proofs.Truths.{or_false}
use Rattle.dr_patterns.specs.Fitting.{fits_some, fits_text}
use Rattle.dr_patterns.proofs.divided.DividedPatterns.joined_where_few.Goals as goal

pub returns : goal.returns
returns c = λ text.
    let d = c.args.self in
    ap (λ l. fits_some c.append.new.self.items text || fits_some l text) c.new.ensures.items
    ∙ or_false (fits_some c.append.new.self.items text)
    ∙ ap (λ l. fits_some l text) c.in_ok-append.ensures.items
    ∙ list_any-append (λ p. fits_text p text) d.together.items d.tried.items
