use Rattle.std.proofs.Common.{◌≡◌, ◌∙◌, ◌<◌, ap, sym, ℕ, List, Bool, [], Some, length, get_or}
use Rattle.std.proofs.lemmas.List.{get_or_default}
use Rattle.dr_rowindex.specs.declared.row_set.RowSet.{RowSet}
use Rattle.dr_letters.specs.Ranks.{digit, rank_of}
use Rattle.dr_letters.proofs.RareLemmas.{few-meet}
use Rattle.dr_letters.proofs.rare_codes.RareCodes.sets_with.Goals as goal

at_digit : (sets : List RowSet) (x y : ℕ) (found : List Bool) → x ≡ y → y < length sets → found ≡ get_or sets x found → found ≡ get_or sets y []
at_digit sets x y found same lt is = is ∙ ap (λ k. get_or sets k found) same ∙ get_or_default sets y found [] lt

pub returns-clause-told : goal.returns-clause-told
returns-clause-told c = λ test codes are passes.
    let r = c.args.self.now in
    let rank = c.in_ok-rank.field-0.now in
    let has : rank_of r.ranks c.args.code ≡ Some rank = sym c.in_ok-rank.ensures.value in
    let last = r.last_sets.within c.args.code rank has in
    let first = r.first_sets.within c.args.code rank has in
    few-meet r c.args.code rank r.apart r.some has test codes c.index.result.now c.index-2.result.now are passes
    (at_digit r.last.items c.digit_of.result (digit 1 r.base rank) c.index.result.now c.digit_of.ensures last c.index.ensures)
    (at_digit r.first.items c.digit_of-2.result (digit r.base 18446744073709551615 rank) c.index-2.result.now c.digit_of-2.ensures first c.index-2.ensures) last first
