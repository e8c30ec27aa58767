use Rattle.std.proofs.Common.{◌≡◌, ◌∙◌, ◌<◌, ap, set, true, [], length, get_or, arith}
use Rattle.std.proofs.lemmas.List.{get_or_default, length-set}
use Rattle.dr_letters.specs.declared.text_letter.TextLetter.{TextLetter}
use Rattle.dr_letters.proofs.RareLemmas.{put-held, put-more, rows-set}
use Rattle.dr_letters.proofs.digit_sets.digit_sets.Goals as goal

pub loop-k-preserved : goal.loop-k-preserved
loop-k-preserved c =
    let at = c.loop-k in
    let letters = c.args.letters.now in
    let k = at.k in
    let x = c.digit_of.result in
    let sets = at.sets.items in
    let new = c.insert.new.self in
    let other : TextLetter = record { row = 0; code = 0 } in
    let l = get_or letters k other in
    let within : k < length letters = omega (arith, c.loop-k-test.true) in
    let few = at.invariant.digits (get_or c.args.ranks.now k 0) (c.requires.few k 0 (omega (arith, within, c.requires.ranks))) in
    let there : x < length sets = omega (arith, few, c.digit_of.ensures) in
    let one : c.index_mut.result.now ≡ get_or sets x [] = c.index_mut.ensures.value ∙ get_or_default sets x c.index_mut.result.now [] there in
    let rows : length (get_or sets x []) ≡ c.args.count = at.invariant.rows x [] there in
    let inside : l.row < length (get_or sets x []) = omega (arith, rows, c.requires.rows k other within) in
    let put : new ≡ set (get_or sets x []) l.row true = c.insert.ensures ∙ ap (λ s. set s l.row true) one in
    record {
      rows = rows-set c.args.count x sets new there (ap length put ∙ length-set (get_or sets x []) l.row true ∙ rows) at.invariant.rows;
      digits = λ r lt. omega (arith, at.invariant.digits r lt, length-set sets x new);
      told = λ of_codes each. put-more letters c.args.ranks.now of_codes c.args.divisor c.args.base c.args.count k x l sets new within (get_or_default letters k other l within) each c.digit_of.ensures there inside put (at.invariant.told of_codes each);
    }

pub returns-clause-told : goal.returns-clause-told
returns-clause-told c = λ of_codes each.
    put-held c.args.letters.now of_codes c.args.divisor c.args.base c.args.count c.loop-k.k c.loop-k.sets.items (omega (arith, c.loop-k-test.false)) (c.loop-k.invariant.told of_codes each)
