use Rattle.std.proofs.Common.{◌∙◌, sym, ap}
use Rattle.dr_outputs.specs.Numbered.{texts_by}
use Rattle.dr_finish.specs.RowOrder.{numbers_from}
use Rattle.dr_finish.proofs.Numbered.{texts-all}
use Rattle.dr_finish.proofs.spreading.spread_texts.Goals as goal

pub returns-then-are_all : goal.returns-then-are_all
returns-then-are_all c =
    sym (ap (λ ns. texts_by ns c.args.texts) (c.are_all.ensures c.if-are_all.true) ∙ ap (λ n. texts_by (numbers_from n 0) c.args.texts) c.len.ensures ∙ texts-all c.args.texts)
