-- The steps by which a line is read.
use Rattle.std.proofs.Common.{◌≡◌, ◌≢◌, ◌⊎◌, ℕ, ◌+◌, ◌-◌, ◌^◌, ◌<◌, ◌≤◌, Bool, true, false, cond, eqb, List, [], ◌∷◌, ◌++◌, length, Option, None, Some, MatchBool, refl, ap, sym, inl, inr, ◌∙◌, subst, append_assoc, append-nil, arith, rules, tests}
use Rattle.std.proofs.lemmas.List.Elements.{All-append}
use Rattle.std.specs.Io.KnownBytes.{Keeps, Consumes, IsAtEnd, prepend_known}
use Rattle.std.proofs.KnownBytes.{Consumes-kept}
use Rattle.dr_lines.specs.declared.next_line.NextLine.TheVariants.{Line, TooLong}
use Rattle.dr_lines.specs.Lines.{lines_of, IsInLine, Reading, left_to_read, longest_line, TakesLine, AnswersLine, CountsReads}
use Rattle.dr_lines.specs.Parts.{Holds, TakesPart, whole_line, last_line}
use Rattle.dr_lines.proofs.LineLemmas.{lines_of-whole, lines_of-last}

-- of a line, these bytes are read, and the rest is left to read
pub record IsSoFar (whole : Option (List ℕ)) (left : Option (List ℕ)) (reading : Reading) : Type 0 where
  pub bytes : List ℕ
  pub in_line : IsInLine bytes
  pub read : Consumes whole left bytes
  pub held : Holds reading bytes

-- a line and its newline were read
takes_whole : (whole known : Option (List ℕ)) (bytes part rest ahead : List ℕ) → IsInLine bytes → IsInLine part → ahead ≡ part ++ 10 ∷ rest
    → Consumes whole (prepend_known ahead known) bytes → TakesLine whole (prepend_known rest known) (bytes ++ part)
takes_whole None known bytes part rest ahead b p is read = tt
takes_whole (Some xs) None bytes part rest ahead b p is read = absurd read
takes_whole (Some xs) (Some ys) bytes part rest ahead b p is read =
    let parts : bytes ++ (ahead ++ ys) ≡ (bytes ++ part) ++ 10 ∷ (rest ++ ys) = rw is (simp append_assoc) in
    record {
      lines = ap lines_of (read ∙ parts) ∙ lines_of-whole (bytes ++ part) (rest ++ ys) (All-append (λ x. x ≢ 10) bytes part b p);
      bytes = inl (read ∙ parts);
    }

-- the last line was read, which no newline ends
takes_last : (whole known : Option (List ℕ)) (bytes ahead : List ℕ) → IsInLine bytes → 0 < length bytes → ahead ≡ [] → IsAtEnd known
    → Consumes whole (prepend_known ahead known) bytes → TakesLine whole (prepend_known ahead known) bytes
takes_last None known bytes ahead b some none end read = tt
takes_last (Some xs) None bytes ahead b some none end read = absurd read
takes_last (Some xs) (Some ys) [] ahead b some none end read = absurd (omega arith)
takes_last (Some xs) (Some ys) (x ∷ bytes) ahead b some none end read =
    let rest : ahead ++ ys ≡ [] = rw (none, end) refl in
    let all : xs ≡ x ∷ bytes = read ∙ ap (λ l. (x ∷ bytes) ++ l) rest ∙ append-nil (x ∷ bytes) in
    record { lines = rw (all, rest) (lines_of-last x bytes b); bytes = inr (all, rest) }

-- no line is left
at_end : (whole known : Option (List ℕ)) (ahead : List ℕ) → ahead ≡ [] → IsAtEnd known
    → Consumes whole (prepend_known ahead known) [] → IsAtEnd whole × IsAtEnd (prepend_known ahead known)
at_end None None ahead none end read = (tt, tt)
at_end None (Some ys) ahead none end read = (tt, rw (none, end) refl)
at_end (Some xs) None ahead none end read = absurd read
at_end (Some xs) (Some ys) ahead none end read = let rest : ahead ++ ys ≡ [] = rw (none, end) refl in (read ∙ rest, rest)

-- a line of these bytes was found
answers : (is_too_long : Bool) (line bytes : List ℕ) (whole left : Option (List ℕ)) → MatchBool is_too_long (longest_line < length bytes) (line ≡ bytes)
    → length line ≤ longest_line → TakesLine whole left bytes → AnswersLine (cond is_too_long TooLong Line) whole left line
answers true line bytes whole left held bound takes = (bytes, held, takes)
answers false line bytes whole left held bound takes = (rw held takes, bound)

pub answers_whole : (whole known : Option (List ℕ)) (old new : Reading) → IsSoFar whole (left_to_read old known) old → TakesPart true old new
    → length new.line ≤ longest_line → AnswersLine (whole_line new) whole (left_to_read new known) new.line
answers_whole whole known old new so_far taken bound =
    answers new.is_too_long new.line (so_far.bytes ++ taken.0) whole (left_to_read new known) (taken.3 so_far.bytes so_far.held) bound
    (takes_whole whole known so_far.bytes taken.0 new.ahead old.ahead so_far.in_line taken.1 taken.2 so_far.read)

answers_end : (is_too_long : Bool) (line bytes ahead : List ℕ) (whole known : Option (List ℕ)) → MatchBool is_too_long (longest_line < length bytes) (line ≡ bytes)
    → length line ≤ longest_line → IsInLine bytes → ahead ≡ [] → IsAtEnd known → Consumes whole (prepend_known ahead known) bytes
    → AnswersLine (last_line (record { line = line; is_too_long = is_too_long; ahead = ahead; reads = 0 })) whole (prepend_known ahead known) line
answers_end true line bytes ahead whole known held bound b none end read =
    (bytes, held, takes_last whole known bytes ahead b (omega arith) none end read)
answers_end false [] bytes ahead whole known held bound b none end read =
    at_end whole known ahead none end (rw held read)
answers_end false (x ∷ line) bytes ahead whole known held bound b none end read =
    let kept : eqb (length (x ∷ line)) 0 ≡ false = search (rules, tests) in
    rw kept (takes_last whole known (x ∷ line) ahead (subst IsInLine (sym held) b) (omega arith) none end (rw held read), bound)

pub answers_last : (whole known : Option (List ℕ)) (now : Reading) → IsSoFar whole (left_to_read now known) now → now.ahead ≡ [] → IsAtEnd known
    → length now.line ≤ longest_line → AnswersLine (last_line now) whole (left_to_read now known) now.line
answers_last whole known now so_far none end bound =
    answers_end now.is_too_long now.line so_far.bytes now.ahead whole known so_far.held bound so_far.in_line none end so_far.read

-- a read changes neither what is left to read nor the line
pub after_fill : (whole left known : Option (List ℕ)) (old new : Reading) → IsSoFar whole left old → Keeps left (left_to_read new known)
    → new ≡ record old { ahead = new.ahead; reads = new.reads } → IsSoFar whole (left_to_read new known) new
after_fill whole left known old new so_far keeps same = record {
  bytes = so_far.bytes;
  in_line = so_far.in_line;
  read = Consumes-kept whole left (left_to_read new known) so_far.bytes so_far.read keeps;
  held = rw (ap (λ (r : Reading). r.is_too_long) same, ap (λ (r : Reading). r.line) same) so_far.held;
}

-- bytes that were read ahead are read
moved : (whole known : Option (List ℕ)) (bytes ahead rest : List ℕ) → rest ≡ []
    → Consumes whole (prepend_known ahead known) bytes → Consumes whole (prepend_known rest known) (bytes ++ ahead)
moved None known bytes ahead rest none read = tt
moved (Some xs) None bytes ahead rest none read = absurd read
moved (Some xs) (Some ys) bytes ahead rest none read = rw none (read ∙ sym (append_assoc bytes ahead ys))

-- a part went to the line
pub goes_on : (whole known : Option (List ℕ)) (old new : Reading) → IsSoFar whole (left_to_read old known) old → TakesPart false old new
    → IsSoFar whole (left_to_read new known) new
goes_on whole known old new so_far taken = record {
  bytes = so_far.bytes ++ old.ahead;
  in_line = All-append (λ x. x ≢ 10) so_far.bytes old.ahead so_far.in_line taken.0;
  read = moved whole known so_far.bytes old.ahead new.ahead taken.1 so_far.read;
  held = taken.2 so_far.bytes so_far.held;
}

-- ---- counts of reads

pub counts-none : (made counted : ℕ) → CountsReads made made counted counted
counts-none made counted = (omega arith, λ bound. bound, omega arith, inl (omega arith))

counted-more : (made mid_made new_made counted mid_counted new_counted : ℕ) → made ≤ mid_made → mid_made ≤ new_made
    → (counted + mid_made ≤ mid_counted + made) ⊎ (2 ^ 64 - 1 ≤ mid_counted) → (mid_counted + new_made ≤ new_counted + mid_made) ⊎ (2 ^ 64 - 1 ≤ new_counted)
    → (counted + new_made ≤ new_counted + made) ⊎ (2 ^ 64 - 1 ≤ new_counted)
counted-more made mid_made new_made counted mid_counted new_counted grows more (inl first) (inl second) = inl (omega arith)
counted-more made mid_made new_made counted mid_counted new_counted grows more (inr full) (inl second) = inr (omega arith)
counted-more made mid_made new_made counted mid_counted new_counted grows more first (inr full) = inr full

pub counts-more : (made mid_made new_made counted mid_counted new_counted : ℕ) → CountsReads made mid_made counted mid_counted → CountsReads mid_made new_made mid_counted new_counted
    → CountsReads made new_made counted new_counted
counts-more made mid_made new_made counted mid_counted new_counted first second = (
  omega (arith, first.0, second.0),
  λ bound. second.1 (first.1 bound),
  omega (arith, first.2, second.2),
  counted-more made mid_made new_made counted mid_counted new_counted first.0 second.0 first.3 second.3,
)
