use Rattle.std.proofs.Common.{map}
use Rattle.dr_dict.proofs.PlacedTexts.{none-any}
use Rattle.dr_segment.proofs.first_values.place_of.Goals as goal

pub returns-clause-none : goal.returns-clause-none
returns-clause-none c = λ none. none-any (map (λ t. t.now) c.args.texts.now) c.args.text.now (λ place at. c.find.ensures.none none place (c.requires place c.args.text.now at) at)
