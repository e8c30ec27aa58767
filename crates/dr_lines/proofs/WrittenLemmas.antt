-- Bytes that are handed to a writer in several calls.
use Rattle.std.proofs.Common.{◌≡◌, ℕ, List, [], ◌++◌, Option, Result, Ok, Err, refl, sym, ap, ◌∙◌, append_assoc, append-nil, take, drop, take-append-drop}
use Rattle.std.specs.Io.KnownBytes.{Appends}
use Rattle.std.proofs.KnownBytes.{Appends-nil, Appends-trans}
use Rattle.dr_lines.specs.Written.{Writes, Puts}

-- nothing was written
pub Writes-none : (contents : Option (List ℕ)) (bytes : List ℕ) → Writes contents contents bytes bytes
Writes-none contents bytes = ([], Appends-nil contents, refl)

-- all was written
pub Writes-all : (old new : Option (List ℕ)) (bytes : List ℕ) → Appends old new bytes → Writes old new bytes []
Writes-all old new bytes taken = (bytes, taken, sym (append-nil bytes))

-- the first ones were written
pub Writes-first : (old new : Option (List ℕ)) (count : ℕ) (bytes : List ℕ) → Appends old new (take count bytes) → Writes old new bytes (drop count bytes)
Writes-first old new count bytes taken = (take count bytes, taken, sym (take-append-drop count bytes))

-- more bytes came after a first call
pub Writes-trans : (old mid new : Option (List ℕ)) (bytes kept more rest : List ℕ) → Writes old mid bytes kept → Writes mid new (kept ++ more) rest → Writes old new (bytes ++ more) rest
Writes-trans old mid new bytes kept more rest first second = (
  first.0 ++ second.0,
  Appends-trans old mid new first.0 second.0 first.1 second.1,
  ap (λ l. l ++ more) first.2 ∙ append_assoc first.0 kept more ∙ ap (λ l. first.0 ++ l) second.2 ∙ sym (append_assoc first.0 second.0 rest),
)

-- the same, where the second call may have failed
pub Puts-trans : {X E : Type 0} → (old mid new : Option (List ℕ)) (bytes kept more rest : List ℕ) (result : Result X E) → Writes old mid bytes kept
    → Puts mid new (kept ++ more) rest result → Puts old new (bytes ++ more) rest result
Puts-trans old mid new bytes kept more rest (Ok x) first second = Writes-trans old mid new bytes kept more rest first second
Puts-trans old mid new bytes kept more rest (Err e) first second = (second.0, Writes-trans old mid new bytes kept more second.0 first second.1)

-- bytes that were never handed on are lost with the others
pub lost_with : (old new : Option (List ℕ)) (bytes lost more : List ℕ) → Writes old new bytes lost → Writes old new (bytes ++ more) (lost ++ more)
lost_with old new bytes lost more first = (first.0, first.1, ap (λ l. l ++ more) first.2 ∙ append_assoc first.0 lost more)

-- a line of two parts
two_parts : (bytes first second end : List ℕ) → (bytes ++ (first ++ second)) ++ end ≡ (bytes ++ first) ++ (second ++ end)
two_parts bytes first second end = simp append_assoc

pub lost_parts : (old new : Option (List ℕ)) (bytes first second end lost : List ℕ) → Writes old new (bytes ++ first) lost
    → Writes old new ((bytes ++ (first ++ second)) ++ end) (lost ++ (second ++ end))
lost_parts old new bytes first second end lost written = rw (two_parts bytes first second end) (lost_with old new (bytes ++ first) lost (second ++ end) written)

pub Puts-parts : {X E : Type 0} → (old mid new : Option (List ℕ)) (bytes first second end kept rest : List ℕ) (result : Result X E) → Writes old mid (bytes ++ first) kept
    → Puts mid new ((kept ++ second) ++ end) rest result → Puts old new ((bytes ++ (first ++ second)) ++ end) rest result
Puts-parts old mid new bytes first second end kept rest result written put =
    rw (two_parts bytes first second end) (Puts-trans old mid new (bytes ++ first) kept (second ++ end) rest result written (rw (← append_assoc kept second end) put))
