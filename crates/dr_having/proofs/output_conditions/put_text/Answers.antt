use Rattle.std.proofs.Common.{◌≡◌, ◌<◌, rules, arith, length}
use Rattle.dr_having.proofs.Collecting.{texts-more, texts-behind}
use Rattle.dr_having.proofs.output_conditions.put_text.Goals as goal

pub returns-then-index-look_up : goal.returns-then-index-look_up
returns-then-index-look_up c =
    let texts = c.args.texts.now.items in
    let len : c.len.result ≡ length texts = search rules in
    let there : c.args.likely < length texts = let within = c.if-likely-len.true in omega (arith, within, len) in
    texts-more texts c.args.likely c.args.look_up c.args.holds c.index.result.now c.index_mut-conditions.result.now c.add.new.self c.add.result there c.index.ensures c.if-index-look_up.true c.index_mut-conditions.ensures.value c.add.ensures.place c.add.ensures.more

pub returns : goal.returns
returns c = texts-behind c.args.texts.now.items c.push.new.self.items c.args.look_up c.args.holds c.new-conditions.result c.add-2.new.self c.new-conditions.ensures.place c.new-conditions.ensures.every c.in_ok-add.ensures.place c.in_ok-add.ensures.more c.in_ok-push.ensures.items
