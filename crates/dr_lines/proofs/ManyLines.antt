-- Several lines of an input, read one after another.
use Rattle.std.proofs.Common.{◌≡◌, ◌⊎◌, ℕ, List, [], ◌∷◌, ◌++◌, Option, None, Some, refl, sym, ap, inl, inr, ◌∙◌, append_assoc, append-nil}
use Rattle.std.proofs.lemmas.Grind.{flat_map-append}
use Rattle.std.specs.Io.KnownBytes.{IsAtEnd}
use Rattle.dr_lines.specs.Lines.{lines_of, whole_text, IsFirstLine, AreFirstLines, TakesLine, TakesLines, HasLines, BeginsWith}

-- no line is taken
pub takes_none : (left : Option (List ℕ)) → TakesLines left left []
takes_none None = tt
takes_none (Some xs) = record { split = refl; bytes = inl refl }

whole_text-more : (lines : List (List ℕ)) (line : List ℕ) → whole_text (lines ++ line ∷ []) ≡ whole_text lines ++ (line ++ 10 ∷ [])
whole_text-more lines line = flat_map-append (λ l. l ++ 10 ∷ []) lines (line ∷ []) ∙ ap (λ l. whole_text lines ++ l) (append-nil (line ++ 10 ∷ []))

line_and_rest : (before line rest : List ℕ) → before ++ (line ++ 10 ∷ rest) ≡ (before ++ (line ++ 10 ∷ [])) ++ rest
line_and_rest before line rest = simp append_assoc

bytes_more : (input mid rest line : List ℕ) (lines : List (List ℕ)) → lines_of mid ≡ line ∷ lines_of rest
    → (input ≡ whole_text lines ++ mid) ⊎ ((input ++ 10 ∷ [] ≡ whole_text lines) × (mid ≡ []))
    → (mid ≡ line ++ 10 ∷ rest) ⊎ ((mid ≡ line) × (rest ≡ []))
    → (input ≡ whole_text (lines ++ line ∷ []) ++ rest) ⊎ ((input ++ 10 ∷ [] ≡ whole_text (lines ++ line ∷ [])) × (rest ≡ []))
bytes_more input mid rest line lines some (inl first) (inl next) =
    inl (first ∙ ap (λ l. whole_text lines ++ l) next ∙ line_and_rest (whole_text lines) line rest ∙ ap (λ l. l ++ rest) (sym (whole_text-more lines line)))
bytes_more input mid rest line lines some (inl first) (inr last) =
    inr (ap (λ l. l ++ 10 ∷ []) (first ∙ ap (λ l. whole_text lines ++ l) last.0) ∙ append_assoc (whole_text lines) line (10 ∷ []) ∙ sym (whole_text-more lines line), last.1)
bytes_more input mid rest line lines some (inr ended) next = let none : [] ≡ line ∷ lines_of rest = ap lines_of (sym ended.1) ∙ some in let bad : ⊥ = cc in absurd bad

more_lines : (input mid rest line : List ℕ) (lines : List (List ℕ)) → AreFirstLines input lines mid → IsFirstLine mid line rest → AreFirstLines input (lines ++ line ∷ []) rest
more_lines input mid rest line lines first next = record {
  split = first.split ∙ ap (λ l. lines ++ l) next.lines ∙ sym (append_assoc lines (line ∷ []) (lines_of rest));
  bytes = bytes_more input mid rest line lines next.lines first.bytes next.bytes;
}

-- one more line is taken
pub takes_more : (old mid new : Option (List ℕ)) (lines : List (List ℕ)) (line : List ℕ) → TakesLines old mid lines → TakesLine mid new line → TakesLines old new (lines ++ line ∷ [])
takes_more None mid new lines line first next = tt
takes_more (Some xs) None new lines line first next = absurd first
takes_more (Some xs) (Some ys) None lines line first next = absurd next
takes_more (Some xs) (Some ys) (Some zs) lines line first next = more_lines xs ys zs line lines first next

-- nothing is left behind those lines
pub takes_all : (old new : Option (List ℕ)) (lines : List (List ℕ)) → TakesLines old new lines → IsAtEnd new → HasLines old lines
takes_all None new lines taken end = tt
takes_all (Some xs) None lines taken end = absurd taken
takes_all (Some xs) (Some ys) lines taken end = taken.split ∙ ap (λ bytes. lines ++ lines_of bytes) end ∙ append-nil lines

-- more may be left behind them
pub takes_first : (old new : Option (List ℕ)) (lines : List (List ℕ)) → TakesLines old new lines → BeginsWith old lines
takes_first None new lines taken = tt
takes_first (Some xs) None lines taken = absurd taken
takes_first (Some xs) (Some ys) lines taken = (lines_of ys, taken.split)

pub begins_all : (left : Option (List ℕ)) (lines : List (List ℕ)) → HasLines left lines → BeginsWith left lines
begins_all None lines has = tt
begins_all (Some xs) lines has = ([], has ∙ sym (append-nil lines))

-- ---- a line before others

line_before : (line text rest : List ℕ) → line ++ 10 ∷ (text ++ rest) ≡ ((line ++ 10 ∷ []) ++ text) ++ rest
line_before line text rest = simp append_assoc

-- the end of the input ends the first line, so there are no others
last_before : (input mid rest line : List ℕ) (lines : List (List ℕ)) → lines_of mid ≡ lines ++ lines_of rest → input ≡ line → mid ≡ []
    → (mid ≡ whole_text lines ++ rest) ⊎ ((mid ++ 10 ∷ [] ≡ whole_text lines) × (rest ≡ []))
    → (input ++ 10 ∷ [] ≡ whole_text (line ∷ lines)) × (rest ≡ [])
last_before input mid rest line [] split is none (inl others) = (ap (λ l. l ++ 10 ∷ []) is ∙ sym (append-nil (line ++ 10 ∷ [])), sym others ∙ none)
last_before input mid rest line [] split is none (inr others) = let bad : ◌≡◌ {A = List ℕ} (10 ∷ []) [] = ap (λ l. l ++ 10 ∷ []) (sym none) ∙ others.0 in let no : ⊥ = cc in absurd no
last_before input mid rest line (l ∷ lines) split is none others = let bad : [] ≡ l ∷ (lines ++ lines_of rest) = ap lines_of (sym none) ∙ split in let no : ⊥ = cc in absurd no

bytes_before : (input mid rest line : List ℕ) (lines : List (List ℕ)) → lines_of mid ≡ lines ++ lines_of rest
    → (input ≡ line ++ 10 ∷ mid) ⊎ ((input ≡ line) × (mid ≡ []))
    → (mid ≡ whole_text lines ++ rest) ⊎ ((mid ++ 10 ∷ [] ≡ whole_text lines) × (rest ≡ []))
    → (input ≡ whole_text (line ∷ lines) ++ rest) ⊎ ((input ++ 10 ∷ [] ≡ whole_text (line ∷ lines)) × (rest ≡ []))
bytes_before input mid rest line lines split (inl first) (inl others) = inl (first ∙ ap (λ l. line ++ 10 ∷ l) others ∙ line_before line (whole_text lines) rest)
bytes_before input mid rest line lines split (inl first) (inr others) =
    inr (ap (λ l. l ++ 10 ∷ []) first ∙ append_assoc line (10 ∷ mid) (10 ∷ []) ∙ ap (λ l. line ++ 10 ∷ l) others.0 ∙ sym (append_assoc line (10 ∷ []) (whole_text lines)), others.1)
bytes_before input mid rest line lines split (inr last) others = inr (last_before input mid rest line lines split last.0 last.1 others)

lines_before : (input mid rest line : List ℕ) (lines : List (List ℕ)) → IsFirstLine input line mid → AreFirstLines mid lines rest → AreFirstLines input (line ∷ lines) rest
lines_before input mid rest line lines first others = record {
  split = first.lines ∙ ap (λ l. line ∷ l) others.split;
  bytes = bytes_before input mid rest line lines others.split first.bytes others.bytes;
}

-- a line is taken, and then the others
pub takes_before : (old mid new : Option (List ℕ)) (line : List ℕ) (lines : List (List ℕ)) → TakesLine old mid line → TakesLines mid new lines → TakesLines old new (line ∷ lines)
takes_before None mid new line lines first others = tt
takes_before (Some xs) None new line lines first others = absurd first
takes_before (Some xs) (Some ys) None line lines first others = absurd others
takes_before (Some xs) (Some ys) (Some zs) line lines first others = lines_before xs ys zs line lines first others

pub has_before : (old mid : Option (List ℕ)) (line : List ℕ) (lines : List (List ℕ)) → TakesLine old mid line → HasLines mid lines → HasLines old (line ∷ lines)
has_before None mid line lines first others = tt
has_before (Some xs) None line lines first others = absurd first
has_before (Some xs) (Some ys) line lines first others = first.lines ∙ ap (λ l. line ∷ l) others

pub begins_before : (old mid : Option (List ℕ)) (line : List ℕ) (lines : List (List ℕ)) → TakesLine old mid line → BeginsWith mid lines → BeginsWith old (line ∷ lines)
begins_before None mid line lines first others = tt
begins_before (Some xs) None line lines first others = absurd first
begins_before (Some xs) (Some ys) line lines first others = (others.0, first.lines ∙ ap (λ l. line ∷ l) others.1)

-- ---- the lines that there are

-- what was left to read has some lines
pub some_lines : (left : Option (List ℕ)) → (lines : List (List ℕ)) × HasLines left lines
some_lines None = ([], tt)
some_lines (Some xs) = (lines_of xs, refl)

-- and others behind the first
pub others_behind : (old new : Option (List ℕ)) (line : List ℕ) → TakesLine old new line → (others : List (List ℕ)) × HasLines old (line ∷ others)
others_behind None new line takes = ([], tt)
others_behind (Some xs) None line takes = absurd takes
others_behind (Some xs) (Some ys) line takes = (lines_of ys, takes.lines)

pub none_at_end : (left : Option (List ℕ)) → IsAtEnd left → HasLines left []
none_at_end None end = tt
none_at_end (Some xs) end = ap lines_of end
