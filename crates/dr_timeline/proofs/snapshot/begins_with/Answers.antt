use Rattle.std.proofs.Common.{◌≡◌, ◌∙◌, sym, refl, ap, ◌++◌, [], ◌∷◌, take, drop, length, ◌≤◌, ◌<◌, arith}
use Rattle.std.proofs.lemmas.List.{take_all, take-append-drop}
use Rattle.dr_chunks.proofs.Blocks.{taken-more}
use Rattle.dr_timeline.proofs.snapshot.begins_with.Goals as goal

pub loop-i-preserved : goal.loop-i-preserved
loop-i-preserved c =
    let test = c.loop-i-test.true in
    let few = c.if-len.false in
    let end = c.len-i-end.ensures in
    let long = c.len.ensures in
    let short = c.len-2.ensures in
    let lt : c.loop-i.i < length c.args.first.now.items = omega arith in
    let within : c.loop-i.i < length c.args.events.now.items = omega arith in
    let same = c.equals.ensures.0 c.if-not-equals.false in
    taken-more c.args.events.now.items c.loop-i.i c.at-in-loop-i.result.now within c.at-in-loop-i.ensures
    ∙ (λ i. c.loop-i.invariant i ++ (sym same) i ∷ [])
    ∙ sym (taken-more c.args.first.now.items c.loop-i.i c.at.result.now lt c.at.ensures)

pub returns : goal.returns
returns c =
    let past : length c.args.first.now.items ≤ c.loop-i.i = omega (arith, c.loop-i-test.false, c.len-i-end.ensures) in
    let first : take c.loop-i.i c.args.first.now.items ≡ c.args.first.now.items = take_all c.loop-i.i c.args.first.now.items past in
    let events = sym (take-append-drop c.loop-i.i c.args.events.now.items) ∙ ap (λ es. es ++ drop c.loop-i.i c.args.events.now.items) (c.loop-i.invariant ∙ first) in
    (λ h. (drop c.loop-i.i c.args.events.now.items, events), λ h. refl)
