-- Where texts stand.
use Rattle.std.specs.Prelude.{◌≡◌, ◌⊎◌, ℕ, List, Some, slice_get, ◌/◌, ◌^◌, fold}
use Rattle.std.specs.Hash as fed
use Rattle.std.specs.Hash.FoldHasher as folding
use Rattle.std.specs.BTreeMap.{get_by_text}
use Rattle.dr_slots.specs.Table.{Finds}
use Rattle.dr_dict.specs.declared.text_places.TextPlaces.{TextPlaces}

-- the hash of a text; the first 32 bits of it
unfoldable pub text_hash : List ℕ → ℕ
text_hash text = folding.finish (fold folding.write folding.initial (fed.str text)) / 2 ^ 32

-- a text is found at a place, by its hash or else by its order
abbrev pub IsFoundAt : TextPlaces → List ℕ → ℕ → Type 0
IsFoundAt places text place = Finds places.table (text_hash text) place ⊎ (get_by_text places.far text ≡ Some place)

-- each of some texts is found where it stands
abbrev pub AreFound : TextPlaces → List (List ℕ) → Type 0
AreFound places texts = (i : ℕ) (text : List ℕ) → slice_get texts i ≡ Some text → IsFoundAt places text i
