-- Events in blocks that are shared. No public contract cites this file.
use Rattle.std.specs.Prelude.{◌≡◌, ℕ, ℤ, ◌≤◌, ◌&&◌, Bool, nat_lt, List, ◌++◌, length, Option}
use Rattle.std.specs.List.{AllByRecursion, flat_map}
use Rattle.dr_base.specs.declared.event.Event.{Event}
use Rattle.dr_chunks.specs.Times.{times}

-- events in order, and whether there is room for one more
pub record EventList : Type 0 where
  pub items : List Event
  pub room : Bool

-- the events of full blocks, and those behind
abbrev pub in_blocks : List (List Event) → List Event → List Event
in_blocks blocks last = flat_map (λ block. block) blocks ++ last

-- one more event can be put behind the full blocks without memory
abbrev pub has_room : List Event → ℕ → Bool
has_room last cap = nat_lt (length last) cap && nat_lt (length last) 256

-- each block is full, and no more events than one block takes stand behind; how many there are, and from when to when
pub record AreBlocks (blocks : List (List Event)) (last : List Event) (count : ℕ) (span : Option (ℤ × ℤ)) : Type 0 where
  pub full : AllByRecursion (λ block. length block ≡ 256) blocks
  pub short : length last ≤ 256
  pub counted : count ≡ length (in_blocks blocks last)
  pub spanned : span ≡ times (in_blocks blocks last)
