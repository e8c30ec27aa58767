-- The hash of a key. No public contract cites this file.
use Rattle.std.specs.Prelude.{ℕ, ◌++◌, ◌/◌, ◌^◌, fold}
use Rattle.std.specs.Hash as fed
use Rattle.std.specs.Hash.FoldHasher as folding
use Rattle.dr_base.specs.declared.key.Key.{Key}

-- its time and its dimension values, hashed; the first 32 bits of that
unfoldable pub key_hash : Key → ℕ
key_hash k = folding.finish (fold folding.write folding.initial (fed.i64 k.time ++ fed.slice fed.str k.dims)) / 2 ^ 32
