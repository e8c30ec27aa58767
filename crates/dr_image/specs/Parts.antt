-- What a contract sees of a dimension whose bytes are borrowed. No public contract cites this file.
use Rattle.std.specs.Prelude.{◌≡◌, ℕ, [], length, map, Result, Ok, Err}
use Rattle.dr_image.specs.declared.part.Part as borrowed
use Rattle.dr_image.specs.Words.{word}
use Rattle.dr_image.specs.Layout.{Part}

abbrev pub part_seen : borrowed.Part → Part
part_seen p = record { ends = map word p.ends.now; texts = p.texts.now; numbers = map word p.numbers.now; list_ends = map word p.list_ends.now; rows = map word p.rows.now }

-- as many numbers and listed rows as there are rows, and as many row lists as texts
pub record IsEven (n : ℕ) (p : borrowed.Part) : Type 0 where
  pub numbers : length p.numbers.now ≡ n
  pub rows : length p.rows.now ≡ n
  pub lists : length p.list_ends.now ≡ length p.ends.now

abbrev pub no_part : Part
no_part = record { ends = []; texts = []; numbers = []; list_ends = []; rows = [] }

-- whether there is an answer, or which refusal
abbrev pub outcome : {X E : Type 0} → Result X E → Result (Unit {0}) E
outcome (Ok x) = Ok tt
outcome (Err e) = Err e
