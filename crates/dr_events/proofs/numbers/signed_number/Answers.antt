use Rattle.std.proofs.Common.{◌∙◌}
use Rattle.dr_events.proofs.SignedTexts.{parsed}
use Rattle.dr_events.proofs.numbers.signed_number.Goals as goal

pub returns : goal.returns
returns c = c.ok.ensures.value ∙ parsed c.args.text.now c.parse.result c.parse.ensures.value.0
