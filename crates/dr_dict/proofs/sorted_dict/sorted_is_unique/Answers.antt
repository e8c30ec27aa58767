use Rattle.dr_dict.proofs.SortedTexts.{sorted-unique}
use Rattle.dr_dict.proofs.sorted_dict.sorted_is_unique.Goals as goal

pub returns : goal.returns
returns c = λ texts sorted others distinct a b. sorted-unique texts sorted others distinct a b
