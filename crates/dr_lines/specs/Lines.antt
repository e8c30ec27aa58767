-- The lines of an input, and what reading one of them does to what is left to read.
use Rattle.std.specs.Prelude.{◌≡◌, ◌≢◌, ℕ, ◌<◌, ◌≤◌, Bool, List, [], ◌∷◌, ◌++◌, length, Option, None, Some, All, ◌==◌, if◌then◌else◌, ⊤, ◌⊎◌, min, ◌+◌, ◌-◌, ◌*◌, ◌^◌}
use Rattle.std.specs.List.{flat_map}
use Rattle.std.specs.Io.KnownBytes.{Consumes, IsAtEnd, prepend_known}
use Rattle.dr_lines.specs.declared.next_line.NextLine.{NextLine}
use Rattle.dr_lines.specs.declared.next_line.NextLine.TheVariants.{Line, TooLong, End, Failed}

-- the most bytes that a line may have, its newline not counted
abbrev pub longest_line : ℕ
longest_line = 1048576

-- how many reads there may be in all
abbrev pub most_reads : ℕ
most_reads = 2 ^ 32

-- b, before the first line
abbrev pub onto_first : ℕ → List (List ℕ) → List (List ℕ)
onto_first b [] = (b ∷ []) ∷ []
onto_first b (line ∷ lines) = (b ∷ line) ∷ lines

-- the lines of an input: each ends at a newline, the byte 10, or at the end of the input; a final newline starts no line
abbrev pub lines_of : List ℕ → List (List ℕ)
lines_of [] = []
lines_of (b ∷ bs) = if b == 10 then [] ∷ lines_of bs else onto_first b (lines_of bs)

-- no byte is a newline
abbrev pub IsInLine : List ℕ → Type 0
IsInLine bytes = All (λ b. b ≢ 10) bytes

-- a reader of lines as it stands between calls
pub record Reading : Type 0 where
  -- the line that was read last, or what was read of it
  pub line : List ℕ
  -- whether that line has more bytes than a line may have, and so isn't kept
  pub is_too_long : Bool
  -- the bytes that were read and belong to later lines
  pub ahead : List ℕ
  -- how many reads there were
  pub reads : ℕ

-- a bound on how many more lines there are: each read that is left gives at most 65536 bytes, and counts as one step more
abbrev pub steps_left : Reading → ℕ
steps_left reading = 65537 * (most_reads - reading.reads) + length reading.ahead

-- what is left to read of the lines, where the bytes that the reader has left are known
abbrev pub left_to_read : Reading → Option (List ℕ) → Option (List ℕ)
left_to_read reading known = prepend_known reading.ahead known

-- the input begins with that line, and the rest has the other lines
pub record IsFirstLine (input line rest : List ℕ) : Type 0 where
  pub lines : lines_of input ≡ line ∷ lines_of rest
  -- the rest comes after the newline; without one the line is all there is
  pub bytes : (input ≡ line ++ 10 ∷ rest) ⊎ ((input ≡ line) × (rest ≡ []))

-- of what was left to read, the first line is taken, and the rest is left
abbrev pub TakesLine : Option (List ℕ) → Option (List ℕ) → List ℕ → Type 0
TakesLine None new line = ⊤
TakesLine (Some xs) None line = ⊥
TakesLine (Some xs) (Some ys) line = IsFirstLine xs line ys

-- a line was found
abbrev pub FoundLine : NextLine → Type 0
FoundLine Line = Unit {0}
FoundLine TooLong = Unit {0}
FoundLine End = ⊥
FoundLine Failed = ⊥

-- what an answer says of what was left to read before and after it, and of the line that is kept
abbrev pub AnswersLine : NextLine → Option (List ℕ) → Option (List ℕ) → List ℕ → Type 0
AnswersLine Line old new line = TakesLine old new line × (length line ≤ longest_line)
AnswersLine TooLong old new line = (skipped : List ℕ) × (longest_line < length skipped) × TakesLine old new skipped
AnswersLine End old new line = IsAtEnd old × IsAtEnd new
AnswersLine Failed old new line = (part : List ℕ) × IsInLine part × Consumes old new part

-- as many reads as were made between two counts of them were counted by the stream, up to the greatest number of 64 bits; no more are made than there may be
abbrev pub CountsReads : (made new_made counted new_counted : ℕ) → Type 0
CountsReads made new_made counted new_counted =
    (made ≤ new_made) × (made ≤ most_reads → new_made ≤ most_reads) × (new_counted + made ≤ counted + new_made) × ((counted + new_made ≤ new_counted + made) ⊎ (2 ^ 64 - 1 ≤ new_counted))

-- ---- several lines

-- lines, each with its newline
abbrev pub whole_text : List (List ℕ) → List ℕ
whole_text lines = flat_map (λ line. line ++ 10 ∷ []) lines

-- the input begins with those lines, and the rest has the others
pub record AreFirstLines (input : List ℕ) (lines : List (List ℕ)) (rest : List ℕ) : Type 0 where
  pub split : lines_of input ≡ lines ++ lines_of rest
  -- the rest comes after the last newline; where the input's end ends the last line, nothing is left
  pub bytes : (input ≡ whole_text lines ++ rest) ⊎ ((input ++ 10 ∷ [] ≡ whole_text lines) × (rest ≡ []))

-- of what was left to read, those lines are taken, and the rest is left
abbrev pub TakesLines : Option (List ℕ) → Option (List ℕ) → List (List ℕ) → Type 0
TakesLines None new lines = ⊤
TakesLines (Some xs) None lines = ⊥
TakesLines (Some xs) (Some ys) lines = AreFirstLines xs lines ys

-- what was left to read has those lines
abbrev pub HasLines : Option (List ℕ) → List (List ℕ) → Type 0
HasLines None lines = ⊤
HasLines (Some xs) lines = lines_of xs ≡ lines

-- what was left to read begins with those lines
abbrev pub BeginsWith : Option (List ℕ) → List (List ℕ) → Type 0
BeginsWith None lines = ⊤
BeginsWith (Some xs) lines = (others : List (List ℕ)) × (lines_of xs ≡ lines ++ others)

-- what was left to read begins with a part of a line, and the rest is left
abbrev pub EndsInLine : Option (List ℕ) → Option (List ℕ) → Type 0
EndsInLine left rest = (part : List ℕ) × IsInLine part × Consumes left rest part

-- of what was left to read, those lines were read whole, and at most a part of the next one
abbrev pub ReadsWhole : Option (List ℕ) → Option (List ℕ) → List (List ℕ) → Type 0
ReadsWhole left rest lines = (behind : Option (List ℕ)) × TakesLines left behind lines × EndsInLine behind rest

-- ---- counts

-- the failures before and after an answer, and the reads that there were: a failed answer comes of a failed read or of the bound
abbrev pub CountsFailure : NextLine → ℕ → ℕ → ℕ → Type 0
CountsFailure Line old new reads = new ≡ old
CountsFailure TooLong old new reads = new ≡ old
CountsFailure End old new reads = new ≡ old
CountsFailure Failed old new reads = (new ≡ min (old + 1) (2 ^ 64 - 1)) ⊎ ((new ≡ old) × (reads ≡ most_reads))
