use Rattle.std.proofs.Common.{◌≡◌, ◌<◌, sym, subst, length, arith}
use Rattle.std.specs.List.{All}
use Rattle.dr_letters.specs.Ranks.{AreRanksOf}
use Rattle.dr_letters.proofs.RankLemmas.{ranks-apart, ranks-few, ranks-only, ranks-some, sets-for}
use Rattle.dr_letters.proofs.rare_codes.RareCodes.of.Goals as goal

pub digit_sets-requires-clause-few : goal.digit_sets-requires-clause-few
digit_sets-requires-clause-few c =
    let codes = c.in_ok-ranks.ranks.codes in
    let most : c.len-most.result ≡ length codes.items = omega (arith, c.len-most.ensures, codes.ok.0) in
    let few = ranks-few c.in_ok-ranks.ranks.of_codes c.args.letters.now c.in_ok-ranks.ranks.of_letters.items codes.items c.in_ok-ranks.ensures.own c.in_ok-ranks.ensures.each in
    subst (λ m. All (λ r. r < m) c.as_slice-own.result.now) (sym most) (subst (All (λ r. r < length codes.items)) (sym c.as_slice-own.ensures.value) few)

pub digit_sets-requires-2-clause-few : goal.digit_sets-requires-2-clause-few
digit_sets-requires-2-clause-few c =
    let codes = c.in_ok-ranks.ranks.codes in
    let most : c.len-most.result ≡ length codes.items = omega (arith, c.len-most.ensures, codes.ok.0) in
    let few = ranks-few c.in_ok-ranks.ranks.of_codes c.args.letters.now c.in_ok-ranks.ranks.of_letters.items codes.items c.in_ok-ranks.ensures.own c.in_ok-ranks.ensures.each in
    subst (λ m. All (λ r. r < m) c.as_slice-own.result.now) (sym most) (subst (All (λ r. r < length codes.items)) (sym c.as_slice-own.ensures.value) few)

pub invariant_of-result : goal.invariant_of-result
invariant_of-result c =
    let ranks = c.in_ok-ranks.ranks.of_codes in
    let codes = c.in_ok-ranks.ranks.codes in
    let own = c.in_ok-ranks.ensures.own in
    let most : c.len-most.result ≡ length codes.items = omega (arith, c.len-most.ensures, codes.ok.0) in
    record {
      apart = ranks-apart ranks codes.items own (omega (arith, most, c.len-most.type_inv));
      some = c.base_for-base.ensures;
      last_sets = sets-for ranks codes.items c.args.count c.len-most.result 1 c.base_for-base.result c.in_ok-last.last.items own most c.in_ok-last.ensures.rows c.in_ok-last.ensures.digits;
      first_sets = sets-for ranks codes.items c.args.count c.len-most.result c.base_for-base.result 18446744073709551615 c.in_ok-first.first.items own most c.in_ok-first.ensures.rows c.in_ok-first.ensures.digits;
    }

pub returns-clause-held : goal.returns-clause-held
returns-clause-held c =
    let ranks = c.in_ok-ranks.ranks.of_codes in
    let letters = c.args.letters.now in
    let each = subst (AreRanksOf ranks letters) (sym c.as_slice-own.ensures.value) c.in_ok-ranks.ensures.each in
    record {
      ranked = ranks-some ranks letters c.in_ok-ranks.ranks.of_letters.items c.in_ok-ranks.ensures.each;
      first = c.in_ok-first.ensures.told ranks each;
      last = c.in_ok-last.ensures.told ranks each;
    }

pub returns-clause-only : goal.returns-clause-only
returns-clause-only c = λ test n all has. ranks-only c.in_ok-ranks.ranks.of_codes test n (λ r is. c.in_ok-ranks.ensures.only test n r all is) has
