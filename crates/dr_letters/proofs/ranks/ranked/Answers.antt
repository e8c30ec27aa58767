use Rattle.std.proofs.Common.{inl, inr, ◌≡◌, ◌<◌, ap, sym, subst, true, Some, length, arith}
use Rattle.std.proofs.lemmas.List.{get_or_default}
use Rattle.dr_letters.specs.Ranks.{rank_of}
use Rattle.dr_letters.proofs.RankLemmas.{ranks-more}
use Rattle.dr_letters.proofs.ranks.ranked.Goals as goal

pub loop-letter-preserved : goal.loop-letter-preserved
loop-letter-preserved c =
    let at = c.loop-letter in
    let letters = c.args.letters.now in
    let ranks = c.rank.new.of_codes in
    let within : at.letter-index < length letters = omega (arith, c.loop-letter-test.true, at.auto.letter-index-end) in
    record {
      own = c.in_ok-rank.ensures.own;
      count = omega (arith, c.in_ok-push.ensures.len, at.invariant.count, ap length c.in_ok-push.ensures.items);
      each = ranks-more at.of_codes ranks letters at.of_letters.items c.push.new.self.items at.letter-index c.in_ok-rank.field-0 at.invariant.count c.in_ok-push.ensures.items c.in_ok-rank.ensures.others
          (λ l. subst (λ x. rank_of ranks x.code ≡ Some c.in_ok-rank.field-0) (get_or_default letters at.letter-index _ l within) c.in_ok-rank.ensures.there) at.invariant.each;
      only = λ test n r all has. elim (c.in_ok-rank.ensures.only n r has) [
        | inl before ↦ at.invariant.only test n r all before
        | inr same ↦ subst (λ m. test m ≡ true) (sym same) (all at.letter-index _ within)
      ];
    }
