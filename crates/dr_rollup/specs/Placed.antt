-- Where the rows of keys stand. No public contract cites this file.
use Rattle.std.specs.Prelude.{◌≡◌, ◌⊎◌, ℕ, List, Some, slice_get}
use Rattle.std.specs.BTreeMap.{BTreeMap, get}
use Rattle.dr_base.specs.declared.key.Key.{Key}
use Rattle.dr_base.specs.Order.{key_cmp}
use Rattle.dr_slots.specs.declared.table.Table.{Table}
use Rattle.dr_rollup.specs.declared.placed.Placed.{Placed}
use Rattle.dr_rollup.specs.Hashes.{key_hash}
use Rattle.dr_slots.specs.Table.{Finds}

-- a key stands at a place
abbrev pub StandsAt : List Key → Key → ℕ → Type 0
StandsAt keys k place = slice_get keys place ≡ Some k

-- a key stands nowhere
abbrev pub IsNew : List Key → Key → Type 0
IsNew keys k = (place : ℕ) → StandsAt keys k place → ⊥

-- each key is found at a place where it stands, by its hash or else by its order
abbrev pub AreFoundIn : List Key → Table → BTreeMap Key ℕ → Type 0
AreFoundIn keys table far = (k : Key) (i : ℕ) → StandsAt keys k i → (place : ℕ) × StandsAt keys k place × (Finds table (key_hash k) place ⊎ (get key_cmp far k ≡ Some place))

abbrev pub AreFound : List Key → Placed → Type 0
AreFound keys p = AreFoundIn keys p.table p.far
