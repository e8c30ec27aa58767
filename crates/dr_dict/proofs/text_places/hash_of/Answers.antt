use Rattle.std.proofs.Common.{◌∙◌, ap, ◌/◌, ◌^◌, fold, FoldHasher}
use Rattle.std.specs.Hash as fed
use Rattle.std.specs.Hash.FoldHasher as folding
use Rattle.dr_dict.specs.TextPlaces.{text_hash}
use Rattle.dr_dict.proofs.text_places.hash_of.Goals as goal

pub returns : goal.returns
unfolding text_hash
returns c = ap (λ n. n / 2 ^ 32) (c.hash_one.ensures ∙ ap (λ (h : FoldHasher). folding.finish (fold folding.write h (fed.str c.args.text.now))) c.new-hashers.ensures)
