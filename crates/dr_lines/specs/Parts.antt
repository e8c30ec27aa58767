-- A line that comes in parts. No public contract cites this file.
use Rattle.std.specs.Prelude.{◌≡◌, ◌≢◌, ℕ, ◌+◌, ◌-◌, ◌<◌, ◌≤◌, get_or, Bool, not, ◌&&◌, ◌==◌, if◌then◌else◌, Result, MatchResult, List, [], ◌∷◌, ◌++◌, length, take, drop, MatchBool}
use Rattle.dr_lines.specs.Lines.{Reading, IsInLine, longest_line, CountsFailure}
use Rattle.dr_lines.specs.declared.next_line.NextLine.{NextLine}
use Rattle.dr_lines.specs.declared.next_line.NextLine.TheVariants.{Line, TooLong, End, Failed}

-- the first newline stands at that place
abbrev pub IsLineEnd : List ℕ → ℕ → Type 0
IsLineEnd bytes at = (at < length bytes) × IsInLine (take at bytes) × (bytes ≡ take at bytes ++ 10 ∷ drop (at + 1) bytes)

-- of the first bytes of a buffer, so many, those before that place are whole lines: a newline stands before it, if any, and none behind it
abbrev pub EndsLines : List ℕ → ℕ → ℕ → Type 0
EndsLines bytes count place =
    (place ≤ count) × (0 < place → get_or bytes (place - 1) 10 ≡ 10) × ((i : ℕ) → place ≤ i → i < count → get_or bytes i 10 ≢ 10)

-- the bytes of a line so far are kept, or are more than a line may have
abbrev pub Holds : Reading → List ℕ → Type 0
Holds reading bytes = MatchBool reading.is_too_long (longest_line < length bytes) (reading.line ≡ bytes)

-- the line grew by a part
abbrev pub Grows : Reading → Reading → List ℕ → Type 0
Grows old new part = (bytes : List ℕ) → Holds old bytes → Holds new (bytes ++ part)

-- the bytes that were read ahead go to the line, up to a newline among them
abbrev pub TakesPart : Bool → Reading → Reading → Type 0
TakesPart is_whole old new = MatchBool is_whole
    ((part : List ℕ) × IsInLine part × (old.ahead ≡ part ++ 10 ∷ new.ahead) × Grows old new part)
    (IsInLine old.ahead × (new.ahead ≡ []) × Grows old new old.ahead)

-- what is answered at a newline
abbrev pub whole_line : Reading → NextLine
whole_line reading = if reading.is_too_long then TooLong else Line

-- what is answered at the end of the input, where no byte may have been left
abbrev pub last_line : Reading → NextLine
last_line reading = if not reading.is_too_long && (length reading.line == 0) then End else whole_line reading

-- a read that fails is counted, and so the bound of reads is the other cause of a fault
abbrev pub CountsFault : {X E : Type 0} → Result X E → ℕ → ℕ → ℕ → Type 0
CountsFault result old new reads = MatchResult result (λ _. new ≡ old) (λ _. CountsFailure Failed old new reads)
