use Rattle.std.proofs.Common.{◌≡◌, ◌∙◌, sym, map, take, ◌-◌, ◌+◌, ◌*◌, drop, arith, ap, ℕ}
use Rattle.dr_image.specs.Words.{word}
use Rattle.dr_image.proofs.PartLemmas.{part_with_at}
use Rattle.dr_image.proofs.part.part_within.Goals as goal

pub returns-clause-seen : goal.returns-clause-seen
returns-clause-seen c =
    let size : c.args.at + 4 * c.args.values + c.args.texts - (c.args.at + 4 * c.args.values) ≡ c.args.texts = omega arith in
    let texts = ap (λ (k : ℕ). take k (drop (c.args.at + 4 * c.args.values) c.args.bytes.now)) size in
    (λ i. record {
      ends = map word (c.cells4.ensures.value i);
      texts = texts i;
      numbers = map word (c.cells4-2.ensures.value i);
      list_ends = map word (c.cells4-3.ensures.value i);
      rows = map word (c.cells4-4.ensures.value i);
    }) ∙ sym (part_with_at c.args.rows c.args.at c.args.values c.args.texts c.args.bytes.now)
