use Rattle.std.proofs.Common.{◌≡◌, ◌∙◌, sym, subst, map, length, List, ℕ, [], ◌<◌, arith, get_or, All}
use Rattle.std.proofs.lemmas.List.{length-map, length-set, get_or-map}
use Rattle.std.proofs.lemmas.List.Elements.{All-get_or}
use Rattle.dr_segment.specs.declared.ranking.PlacedText.{PlacedText}
use Rattle.dr_segment.proofs.RankingLemmas.{rank_more}
use Rattle.dr_segment.proofs.ranking.ranks.Goals as goal

abbrev none : PlacedText
none = record { text = record { ref_ptr = (0, 0); now = [] }; place = 0 }

abbrev places : List PlacedText → List ℕ
places rs = map (λ (r : PlacedText). r.place) rs

place : (rs : List PlacedText) (k : ℕ) → k < length rs → (get_or rs k none).place ≡ get_or (places rs) k 0
place rs k lt = sym (get_or-map (λ (r : PlacedText). r.place) rs k none 0 lt)

inside : (rs : List PlacedText) (k : ℕ) → k < length rs → All (λ n. n < length rs) (places rs) → (get_or rs k none).place < length rs
inside rs k lt all = subst (λ n. n < length rs) (sym (place rs k lt)) (All-get_or (λ n. n < length rs) (places rs) k 0 (omega (arith, length-map rs (λ (r : PlacedText). r.place))) all)

pub index_mut-requires : goal.index_mut-requires
index_mut-requires c = omega (arith, inside c.args.ranked.now c.loop-rank.rank c.loop-rank-test.true c.requires.inside, c.loop-rank.invariant.long, c.loop-rank.ranks.ok.0)

pub loop-rank-preserved : goal.loop-rank-preserved
loop-rank-preserved c =
    let rs = c.args.ranked.now in
    let k = c.loop-rank.rank in
    let p = (get_or rs k none).place in
    let many = length-map rs (λ (r : PlacedText). r.place) in
    let low = inside rs k c.loop-rank-test.true c.requires.inside in
    record {
      long = length-set c.loop-rank.ranks.items p k ∙ c.loop-rank.invariant.long;
      each = rank_more (places rs) c.loop-rank.ranks.items k p (c.loop-rank.invariant.long ∙ sym many) c.requires.apart c.loop-rank.invariant.each (omega (arith, many, c.loop-rank-test.true)) (place rs k c.loop-rank-test.true) (omega (arith, low, c.loop-rank.invariant.long));
    }
