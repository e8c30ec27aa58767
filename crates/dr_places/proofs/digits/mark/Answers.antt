use Rattle.std.proofs.Common.{rules, ◌≡◌, ◌∙◌, ap, ◌<◌, ◌/◌, ◌%◌, [], length, get_or, arith}
use Rattle.std.proofs.lemmas.List.{get_or_default}
use Rattle.std.proofs.lemmas.Nat.{mod_below}
use Rattle.dr_places.specs.Places.{truth_in}
use Rattle.dr_places.proofs.DigitLemmas.{marked-more}
use Rattle.dr_places.proofs.digits.mark.Goals as goal

pub loop-k-preserved : goal.loop-k-preserved
loop-k-preserved c =
    let letters = c.args.letters.now in
    let k = c.loop-k.k in
    let x = c.digit_of.result in
    let sets = c.loop-k.sets in
    let lt : k < length letters = search rules in
    let letter = c.index-letters-k.is ∙ get_or_default letters k c.index-letters-k.result 0 lt in
    let digit = c.digit_of.ensures ∙ ap (λ l. l / c.args.divisor % c.args.count) letter in
    let within : x < c.args.count = omega (arith, c.digit_of.ensures, mod_below (c.index-letters-k.result / c.args.divisor) c.args.count c.requires.count) in
    let there : x < length sets = omega (arith, within, c.loop-k.invariant.all) in
    let one : get_or sets x c.index-sets-digit_of.result ≡ get_or sets x [] = get_or_default sets x c.index-sets-digit_of.result [] there in
    marked-more letters k c.args.divisor c.args.count x sets c.insert.new.self lt digit within c.loop-k.invariant
    (c.insert.ensures.count ∙ ap length one) c.insert.ensures.same (λ j apart. c.insert.ensures.others j apart ∙ ap (λ l. truth_in l j) one)
