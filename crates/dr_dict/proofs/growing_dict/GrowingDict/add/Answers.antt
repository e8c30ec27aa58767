use Rattle.std.proofs.Common.{ap, sym}
use Rattle.dr_dict.specs.Dictionary.{with_texts}
use Rattle.dr_dict.proofs.Texts.{with_text-known}
use Rattle.dr_dict.proofs.growing_dict.GrowingDict.add.Goals as goal

pub returns-in-Some-clause-ok : goal.returns-in-Some-clause-ok
returns-in-Some-clause-ok c = ap (with_texts c.args.self.now) (sym (with_text-known c.args.self.now.texts c.args.text.now c.in-Some.number c.in-Some.ensures))
