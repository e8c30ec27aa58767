-- The first line of an input.
use Rattle.std.proofs.Common.{◌≡◌, ◌≢◌, ℕ, false, eqb, List, [], ◌∷◌, ◌++◌, refl, ap, ◌∙◌, rules, tests}
use Rattle.std.proofs.lemmas.List.Elements.{All-head, All-tail}
use Rattle.dr_lines.specs.Lines.{lines_of, onto_first, IsInLine}

is_no_newline : (b : ℕ) → b ≢ 10 → eqb b 10 ≡ false
is_no_newline b other = search (rules, tests)

-- a byte that is no newline belongs to the first line
lines_of-cons : (b : ℕ) (bs : List ℕ) → b ≢ 10 → lines_of (b ∷ bs) ≡ onto_first b (lines_of bs)
lines_of-cons b bs other = rw (is_no_newline b other) refl

-- a line that a newline ends
pub lines_of-whole : (line rest : List ℕ) → IsInLine line → lines_of (line ++ 10 ∷ rest) ≡ line ∷ lines_of rest
lines_of-whole [] rest in_line = refl
lines_of-whole (b ∷ bs) rest in_line =
    lines_of-cons b (bs ++ 10 ∷ rest) (All-head (λ x. x ≢ 10) b bs in_line)
    ∙ ap (onto_first b) (lines_of-whole bs rest (All-tail (λ x. x ≢ 10) b bs in_line))

-- a line that the end of the input ends
pub lines_of-last : (b : ℕ) (bs : List ℕ) → IsInLine (b ∷ bs) → lines_of (b ∷ bs) ≡ (b ∷ bs) ∷ []
lines_of-last b [] in_line = lines_of-cons b [] (All-head (λ x. x ≢ 10) b [] in_line)
lines_of-last b (x ∷ xs) in_line =
    lines_of-cons b (x ∷ xs) (All-head (λ y. y ≢ 10) b (x ∷ xs) in_line)
    ∙ ap (onto_first b) (lines_of-last x xs (All-tail (λ y. y ≢ 10) b (x ∷ xs) in_line))
