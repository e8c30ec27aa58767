-- What a line of a script asks for, as it is read from its first word on: words with one space between them, where a query or an event
-- is the rest of the line. Grammar.antt says which lines there are, and the laws of this crate that the two are the same.
use Rattle.std.specs.Prelude.{ℕ, ℤ, ◌^◌, nat_lt, nat_eq, ◌==◌, bytes_eq, List, [], ◌∷◌, length, Option, Some, None, Result, Ok, Err, codes, if◌then◌else◌}
use Rattle.std.specs.Str.{is_utf8}
use Rattle.dr_base.specs.Reading.{◌>>=◌}
use Rattle.dr_time.specs.declared.time_error.TimeError.{TimeError}
use Rattle.dr_time.specs.declared.time_error.TimeError.TheVariants.{BadInstant}
use Rattle.dr_time.specs.Instant.{instant_of}
use Rattle.dr_events.specs.WholeNumber.{digits_number}
use Rattle.dr_merge.specs.declared.purpose.Purpose.{Purpose}
use Rattle.dr_merge.specs.declared.purpose.Purpose.TheVariants.{Merge, Publish}
use Rattle.dr_requests.specs.declared.command_error.CommandError.{CommandError}
use Rattle.dr_requests.specs.declared.command_error.CommandError.TheVariants.{BadCommand}
use Rattle.dr_requests.specs.declared.request.Request.{Request}
use Rattle.dr_requests.specs.declared.request.Request.TheVariants.{Add, Seal, Join, Plan, Commit, Pin, Query, At, Audit, Image, Stats}

-- what there is, and else no command
abbrev pub or_bad_command : {A : Type 0} → Option A → Result A CommandError
or_bad_command (Some x) = Ok x
or_bad_command None = Err BadCommand

-- the first word, and what is behind the space that ends it
abbrev pub split_word : List ℕ → List ℕ × Option (List ℕ)
split_word [] = ([], None)
split_word (b ∷ bs) = if b == 32 then ([], Some bs) else (b ∷ (split_word bs).0, (split_word bs).1)

-- a word of a command has a byte
abbrev pub some_word : List ℕ → Result (List ℕ) CommandError
some_word word = if nat_eq (length word) 0 then Err BadCommand else Ok word

-- a word and what is behind the space that ends it
abbrev pub two_parts_of : List ℕ × Option (List ℕ) → Result (List ℕ × List ℕ) CommandError
two_parts_of (word, None) = Err BadCommand
two_parts_of (word, Some rest) = do
  w ← some_word word
  Ok (w, rest)

abbrev pub two_parts : List ℕ → Result (List ℕ × List ℕ) CommandError
two_parts text = two_parts_of (split_word text)

-- a word behind which nothing is
abbrev pub one_word_of : List ℕ × Option (List ℕ) → Result (List ℕ) CommandError
one_word_of (word, None) = some_word word
one_word_of (word, Some rest) = Err BadCommand

abbrev pub one_word : List ℕ → Result (List ℕ) CommandError
one_word text = one_word_of (split_word text)

-- a number within 64 bits
abbrev pub within_64_bits : ℕ → Option ℕ
within_64_bits n = if nat_lt n (2 ^ 64) then Some n else None

-- decimal digits
abbrev pub number_in : List ℕ → Result ℕ CommandError
number_in word = do
  n ← or_bad_command (digits_number word)
  or_bad_command (within_64_bits n)

-- an instant, as ISO 8601 spells it; bytes that aren't UTF-8 spell none
abbrev pub instant_in : List ℕ → Result ℤ TimeError
instant_in word = if is_utf8 word then instant_of word else Err BadInstant

-- `INSTANT LO HI`: sealed ranges of a chunk
abbrev pub places_in : List ℕ → Result (List ℕ × ℕ × ℕ) CommandError
places_in text = do
  p ← two_parts text
  q ← two_parts p.1
  lo ← number_in q.0
  hi ← number_in q.1
  Ok (p.0, lo, hi)

-- `seal INSTANT`
abbrev pub seal_in : List ℕ → Result (Request (List ℕ)) CommandError
seal_in text = do
  instant ← one_word text
  Ok (Seal instant)

-- `INSTANT LO HI` behind the word of a purpose
abbrev pub join_in : Purpose → List ℕ → Result (Request (List ℕ)) CommandError
join_in purpose text = do
  r ← places_in text
  Ok (Join purpose r.0 r.1 r.2)

-- the word of a purpose
abbrev pub purpose_in : List ℕ → Result Purpose CommandError
purpose_in word =
    if bytes_eq word (codes "merge") then Ok Merge
    else if bytes_eq word (codes "publish") then Ok Publish
    else Err BadCommand

-- `plan PURPOSE INSTANT LO HI`
abbrev pub plan_in : List ℕ → Result (Request (List ℕ)) CommandError
plan_in text = do
  p ← two_parts text
  purpose ← purpose_in p.0
  r ← places_in p.1
  Ok (Plan purpose r.0 r.1 r.2)

-- `commit N`
abbrev pub commit_in : List ℕ → Result (Request (List ℕ)) CommandError
commit_in text = do
  n ← number_in text
  Ok (Commit n)

-- `at N JSON`
abbrev pub at_in : List ℕ → Result (Request (List ℕ)) CommandError
at_in text = do
  p ← two_parts text
  n ← number_in p.0
  Ok (At n p.1)

-- `image INSTANT PLACE`
abbrev pub image_in : List ℕ → Result (Request (List ℕ)) CommandError
image_in text = do
  p ← two_parts text
  place ← number_in p.1
  Ok (Image p.0 place)

-- a line of one word: `pin`, `stats`, or `+`, which is an event of no bytes
abbrev pub request_alone : List ℕ → Result (Request (List ℕ)) CommandError
request_alone word =
    if bytes_eq word (codes "+") then Ok (Add [])
    else if bytes_eq word (codes "pin") then Ok Pin
    else if bytes_eq word (codes "stats") then Ok Stats
    else Err BadCommand

-- a line of a word and what is behind it
abbrev pub request_with : List ℕ → List ℕ → Result (Request (List ℕ)) CommandError
request_with word rest =
    if bytes_eq word (codes "+") then Ok (Add rest)
    else if bytes_eq word (codes "query") then Ok (Query rest)
    else if bytes_eq word (codes "audit") then Ok (Audit rest)
    else if bytes_eq word (codes "at") then at_in rest
    else if bytes_eq word (codes "seal") then seal_in rest
    else if bytes_eq word (codes "merge") then join_in Merge rest
    else if bytes_eq word (codes "publish") then join_in Publish rest
    else if bytes_eq word (codes "plan") then plan_in rest
    else if bytes_eq word (codes "commit") then commit_in rest
    else if bytes_eq word (codes "image") then image_in rest
    else Err BadCommand

abbrev pub request_of : List ℕ × Option (List ℕ) → Result (Request (List ℕ)) CommandError
request_of (word, None) = request_alone word
request_of (word, Some rest) = request_with word rest

-- a line, as what it asks for
abbrev pub request_in : List ℕ → Result (Request (List ℕ)) CommandError
request_in line = request_of (split_word line)
