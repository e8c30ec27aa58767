use Rattle.std.proofs.lemmas.List.Sorted.{IsPermutation-map}
use Rattle.dr_dict.proofs.SortedTexts.{sorted-map}
use Rattle.dr_dict.proofs.sorted_dict.SortedDict.of.Goals as goal

pub returns : goal.returns
returns c = record {
  moved = rw (← c.in_ok-texts.ensures) (IsPermutation-map (λ t. t.now) c.in_ok-texts.texts.items c.sort_unstable.new.self.items c.sort_unstable.ensures.permutation);
  rising = sorted-map (λ t. t.now) c.sort_unstable.new.self.items c.sort_unstable.ensures.sorted;
}
