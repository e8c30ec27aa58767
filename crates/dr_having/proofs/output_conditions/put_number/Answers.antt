use Rattle.std.proofs.Common.{◌≡◌, ◌<◌, rules, refl, arith, length}
use Rattle.dr_having.proofs.Collecting.{numbers-more}
use Rattle.dr_having.proofs.output_conditions.put_number.Goals as goal

pub returns-then-index-look_up : goal.returns-then-index-look_up
returns-then-index-look_up c =
    let numbers = c.args.numbers.now.items in
    let len : c.len.result ≡ length numbers = search rules in
    let there : c.args.likely < length numbers = let within = c.if-likely-len.true in omega (arith, within, len) in
    let old = c.index_mut-conditions.result.now in
    numbers-more numbers c.args.likely c.args.look_up c.index.result.now old (record { place = old.place; sets = c.push.new.self }) there c.index.ensures c.if-index-look_up.true c.index_mut-conditions.ensures.value refl c.in_ok-push.ensures.items
