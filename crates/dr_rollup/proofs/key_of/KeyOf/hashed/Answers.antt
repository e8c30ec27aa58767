use Rattle.std.proofs.Common.{◌∙◌, ◌++◌, ap, ◌/◌, ◌^◌, fold, FoldHasher}
use Rattle.std.specs.Hash as fed
use Rattle.std.specs.Hash.FoldHasher as folding
use Rattle.dr_rollup.specs.Hashes.{key_hash}
use Rattle.dr_rollup.proofs.key_of.KeyOf.hashed.Goals as goal

pub returns : goal.returns
unfolding key_hash
returns c = ap (λ n. n / 2 ^ 32) (c.hash_one.ensures ∙ ap (λ (h : FoldHasher). folding.finish (fold folding.write h (fed.i64 c.args.self.now.time ++ fed.slice fed.str c.args.self.now.dims.now))) c.new-hashers.ensures)
