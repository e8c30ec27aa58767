use Rattle.std.proofs.Common.{◌∙◌, ap, sym, List, ◌++◌, drop}
use Rattle.std.proofs.lemmas.List.{append-nil}
use Rattle.json.specs.Token.{Token}
use Rattle.dr_ask.specs.Asked.{asked}
use Rattle.dr_scan.proofs.EntryTokens.{none-after}
use Rattle.dr_scan.proofs.InTurn.{turned}
use Rattle.dr_scan.proofs.scanning.write_in_turn.Goals as goal

pub returns-then-is_over : goal.returns-then-is_over
returns-then-is_over c =
    let over = turned _ (sym c.is_over.ensures ∙ c.if-is_over.true) in
    let none = none-after (asked c.args.query.now) c.args.scan.now c.args.columns.now c.loop-segment.window (drop c.loop-segment.segment-index c.args.segments.now) over in
    (c.loop-segment.invariant.0, sym (append-nil c.loop-segment.out.tokens) ∙ ap (λ (t : List Token). c.loop-segment.out.tokens ++ t) (sym none) ∙ c.loop-segment.invariant.1)
