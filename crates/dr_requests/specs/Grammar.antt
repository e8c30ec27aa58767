-- The lines of a script as a grammar: each form of a line, and what it asks for. Words stand with one space between them.
use Rattle.std.specs.Prelude.{◌≡◌, ◌≢◌, ℕ, ◌<◌, ◌^◌, List, [], ◌++◌, length, All, Some, Ok, codes}
use Rattle.dr_events.specs.WholeNumber.{digits_number}
use Rattle.dr_merge.specs.declared.purpose.Purpose.{Purpose}
use Rattle.dr_merge.specs.declared.purpose.Purpose.TheVariants.{Merge, Publish}
use Rattle.dr_requests.specs.declared.request.Request.{Request}
use Rattle.dr_requests.specs.declared.request.Request.TheVariants.{Add, Seal, Join, Plan, Commit, Pin, Query, At, Audit, Image, Stats}
use Rattle.dr_requests.specs.Request.{request_in}

-- one byte at least, and no space
abbrev pub IsWord : List ℕ → Type 0
IsWord word = (0 < length word) × All (λ b. b ≢ 32) word

-- decimal digits of a number within 64 bits
abbrev pub SpellsNumber : List ℕ → ℕ → Type 0
SpellsNumber word n = (digits_number word ≡ Some n) × (n < 2 ^ 64)

-- the word of a purpose
pub data SpellsPurpose : List ℕ → Purpose → Type 0 where
  to_merge : SpellsPurpose (codes "merge") Merge
  to_publish : SpellsPurpose (codes "publish") Publish

-- `INSTANT LO HI`
pub data SpellsPlaces : List ℕ → List ℕ → ℕ → ℕ → Type 0 where
  from_to : (instant lo hi : List ℕ) (m n : ℕ) → IsWord instant → IsWord lo → SpellsNumber lo m → SpellsNumber hi n
      → SpellsPlaces (instant ++ (codes " " ++ (lo ++ (codes " " ++ hi)))) instant m n

-- the line asks for this
pub data SpellsRequest : List ℕ → Request (List ℕ) → Type 0 where
  no_event : SpellsRequest (codes "+") (Add [])
  event : (text : List ℕ) → SpellsRequest (codes "+ " ++ text) (Add text)
  seal : (instant : List ℕ) → IsWord instant → SpellsRequest (codes "seal " ++ instant) (Seal instant)
  join : (word places instant : List ℕ) (purpose : Purpose) (lo hi : ℕ) → SpellsPurpose word purpose → SpellsPlaces places instant lo hi
      → SpellsRequest (word ++ (codes " " ++ places)) (Join purpose instant lo hi)
  plan : (word places instant : List ℕ) (purpose : Purpose) (lo hi : ℕ) → IsWord word → SpellsPurpose word purpose → SpellsPlaces places instant lo hi
      → SpellsRequest (codes "plan " ++ (word ++ (codes " " ++ places))) (Plan purpose instant lo hi)
  commit : (word : List ℕ) (n : ℕ) → SpellsNumber word n → SpellsRequest (codes "commit " ++ word) (Commit n)
  pin : SpellsRequest (codes "pin") Pin
  query : (text : List ℕ) → SpellsRequest (codes "query " ++ text) (Query text)
  at_pin : (word text : List ℕ) (n : ℕ) → IsWord word → SpellsNumber word n → SpellsRequest (codes "at " ++ (word ++ (codes " " ++ text))) (At n text)
  audit : (text : List ℕ) → SpellsRequest (codes "audit " ++ text) (Audit text)
  image : (instant word : List ℕ) (place : ℕ) → IsWord instant → SpellsNumber word place → SpellsRequest (codes "image " ++ (instant ++ (codes " " ++ word))) (Image instant place)
  stats : SpellsRequest (codes "stats") Stats

-- whatever line the grammar spells is read as what it asks for
abbrev pub ReadsAllSpelled : Type 0
ReadsAllSpelled = (line : List ℕ) (r : Request (List ℕ)) → SpellsRequest line r → request_in line ≡ Ok r

-- what is read of a line is spelled by it
abbrev pub ReadsTheSpelled : Type 0
ReadsTheSpelled = (line : List ℕ) (r : Request (List ℕ)) → request_in line ≡ Ok r → SpellsRequest line r
