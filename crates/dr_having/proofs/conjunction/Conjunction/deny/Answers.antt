use Rattle.std.proofs.Common.{rules, ◌≡◌, ◌∙◌, sym, ap, not, length, arith}
use Rattle.dr_having.specs.Gathered.{conjunction_meets}
use Rattle.dr_having.specs.OutputMeets.{outputs_meet}
use Rattle.dr_having.proofs.Gathering.{told-more, outputs-alone}
use Rattle.dr_having.proofs.conjunction.Conjunction.deny.Goals as goal

pub returns : goal.returns
returns c =
    let others = c.args.others in
    let len : c.len.result ≡ length others.denied.items = search rules in
    let none : length others.denied.items ≡ 0 = let zero = c.if-len-ne0.false in omega (arith, len, zero) in
    told-more c.args.self.now c.deny_outputs.new.self (λ dims values. not (outputs_meet dims values c.in_ok-asked.field-0.items)) (λ dims values. not (conjunction_meets dims values others)) c.deny_outputs.result
    (λ dims values. ap not (c.in_ok-asked.ensures dims values ∙ sym (outputs-alone dims values others none)))
    c.deny_outputs.ensures
