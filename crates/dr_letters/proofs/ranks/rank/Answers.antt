use Rattle.std.proofs.Common.{◌≡◌, ◌∙◌, ap, cond, length, Some, arith}
use Rattle.std.specs.Ordering.{nat_cmp}
use Rattle.std.specs.BTreeMap.{is_at}
use Rattle.dr_letters.specs.Ranks.{rank_of}
use Rattle.dr_letters.proofs.RankLemmas.{ranked-more, same-code}
use Rattle.dr_letters.proofs.ranks.rank.Goals as goal

pub returns-clause-own : goal.returns-clause-own
returns-clause-own c =
    let code = c.args.code in
    let codes = c.args.codes.now in
    let long : c.len-rank.result ≡ length codes.items = omega (arith, c.len-rank.ensures, codes.ok.0) in
    ranked-more c.args.of_codes.now c.insert.new.self codes.items c.push.new.self.items code
    (λ n. c.in_ok-insert.ensures.updates.0 n ∙ ap (λ k. cond (is_at (nat_cmp code) n) (Some k) (rank_of c.args.of_codes.now n)) long) (same-code code) c.in_ok-push.ensures.items c.requires
