-- What a table of slots finds.
use Rattle.std.specs.Prelude.{◌≡◌, ◌⊎◌, ⊤, ℕ, zero, suc, ◌<◌, ◌+◌, List, Some, slice_get, bit_and}
use Rattle.dr_slots.specs.declared.slot.Slot.{Slot}
use Rattle.dr_slots.specs.declared.table.Table.{Table}

-- from the slot at a place on, in so many slots, a hash finds the place, and no empty slot before
unfoldable pub FindsFrom : List Slot → ℕ → ℕ → ℕ → ℕ → Type 0
FindsFrom slots zero at hash place = ⊥
FindsFrom slots (suc looks) at hash place = (s : Slot) × (slice_get slots at ≡ Some s) × (((s.hash ≡ hash) × (s.end ≡ suc place)) ⊎ ((0 < s.end) × FindsFrom slots looks (suc at) hash place))

-- where a hash is looked for first
abbrev pub start : Table → ℕ → ℕ
start t hash = bit_and hash t.mask

-- a hash finds a place
abbrev pub Finds : Table → ℕ → ℕ → Type 0
Finds t hash place = FindsFrom t.slots.items 64 (start t hash) hash place

-- what one table finds another finds too
abbrev pub KeepsFound : Table → Table → Type 0
KeepsFound before after = (hash place : ℕ) → Finds before hash place → Finds after hash place

-- so many slots are taken from one on
unfoldable pub AreTaken : List Slot → ℕ → ℕ → Type 0
AreTaken slots zero at = ⊤
AreTaken slots (suc n) at = ((s : Slot) × (slice_get slots at ≡ Some s) × (0 < s.end)) × AreTaken slots n (suc at)

-- the first slot that is empty among those in which a hash is looked for
pub record IsFree (t : Table) (hash at : ℕ) : Type 0 where
  pub looks : ℕ
  pub within : looks < 64
  pub behind : at ≡ start t hash + looks
  pub taken : AreTaken t.slots.items looks (start t hash)
  pub slot : Slot
  pub there : slice_get t.slots.items at ≡ Some slot
  pub empty : slot.end ≡ 0
