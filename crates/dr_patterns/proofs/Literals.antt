-- Texts that stand for themselves in a pattern: which texts fit the patterns that they make.
use Rattle.std.proofs.Common.{◌≡◌, ◌∙◌, sym, refl, ap, ap₂, ℕ, ◌==◌, Bool, true, false, ◌||◌, ◌&&◌, List, [], ◌∷◌, ◌++◌, map, reverse, bytes_eq, append_assoc}
use Rattle.std.specs.List.{list_any}
use Rattle.std.specs.Str.{chars, IsUtf8}
use Rattle.std.specs.Cmp.Lexicographic.{bytes_decides, nat_list_eq_equiv}
use Rattle.std.proofs.lemmas.List.Folds.{list_any-append}
use Rattle.std.proofs.lemmas.List.{map-append, reverse-append, reverse-reverse}
use Rattle.std.proofs.lemmas.Str.{encodes-append, encodes-chars, encodes_same, cons_from_encodes, chars-append}
use lib.Utf8.{encode, encodes}
use Rattle.dr_base.proofs.Truths.{or_ends, or_regroups, or_swaps}
use Rattle.dr_dict.proofs.Texts.{list_any-map}
use Rattle.dr_like.specs.Letters.{Lacks}
use Rattle.dr_like.specs.Like.{letter_fits, behind_some_run, fits}
use Rattle.dr_like.proofs.Patterns.{one_letter}
use Rattle.dr_like.proofs.Ways.{run_before, found_behind}
use Rattle.dr_patterns.specs.Begun.{begins, begins_some}
use Rattle.dr_patterns.specs.Fitting.{fits_some, FitSame}
use Rattle.dr_patterns.specs.Literals.{IsLiteral, AreLiteral, starting, ending, holding, patterns_of, MadeOfLiterals}
use Rattle.dr_patterns.specs.Sides.{seen, some_at, some_within}
use Rattle.dr_patterns.specs.declared.side.Side.TheVariants.{Start, End}
use Rattle.dr_patterns.proofs.Begun.{begins-front, front-begins}

-- two truth values, each of which leads to the other
each_way : (a b : Bool) → (a ≡ true → b ≡ true) → (b ≡ true → a ≡ true) → a ≡ b
each_way true b f g = sym (f refl)
each_way false true f g = g refl
each_way false false f g = refl

-- ---- characters of a pattern that stand for themselves

any_end : (cs : List ℕ) → behind_some_run (fits []) cs ≡ true
unfolding fits
any_end [] = refl
any_end (c ∷ cs) = any_end cs

run_fits : (cs : List ℕ) → fits (37 ∷ []) cs ≡ true
unfolding fits
run_fits cs = any_end cs

itself : (c d : ℕ) (rest : Bool) → (c == 95) ≡ false → letter_fits c d && rest ≡ (c == d) && rest
itself c d rest is = ap (λ b. (b || (c == d)) && rest) is

letters_start : (l cs : List ℕ) → Lacks 37 l → Lacks 95 l → fits (l ++ 37 ∷ []) cs ≡ begins l cs
letters_start [] cs runs gaps = run_fits cs
letters_start (c ∷ l) [] runs gaps = one_letter c (l ++ 37 ∷ []) runs.0 []
letters_start (c ∷ l) (d ∷ ds) runs gaps =
    one_letter c (l ++ 37 ∷ []) runs.0 (d ∷ ds) ∙ itself c d (fits (l ++ 37 ∷ []) ds) gaps.0 ∙ ap (λ b. (c == d) && b) (letters_start l ds runs.1 gaps.1)

letters_whole : (l cs : List ℕ) → Lacks 37 l → Lacks 95 l → fits l cs ≡ bytes_eq l cs
unfolding fits
letters_whole [] [] runs gaps = refl
letters_whole [] (d ∷ ds) runs gaps = refl
letters_whole (c ∷ l) [] runs gaps = one_letter c l runs.0 []
letters_whole (c ∷ l) (d ∷ ds) runs gaps = one_letter c l runs.0 (d ∷ ds) ∙ itself c d (fits l ds) gaps.0 ∙ ap (λ b. (c == d) && b) (letters_whole l ds runs.1 gaps.1)

-- ---- by characters and by bytes

front-encodes : (l cs r : List ℕ) → encodes cs ≡ encodes l ++ r → (s : List ℕ) × (cs ≡ l ++ s)
front-encodes [] cs r is = (cs, refl)
front-encodes (c ∷ l) cs r is =
    let first = cons_from_encodes cs (encodes l ++ r) c (is ∙ append_assoc (encode c) (encodes l) r) in
    let rest = front-encodes l first.0 r first.2 in
    (rest.0, first.1 ∙ ap (λ x. c ∷ x) rest.1)

begins-encodes : (l cs : List ℕ) → begins l cs ≡ begins (encodes l) (encodes cs)
begins-encodes l cs = each_way (begins l cs) (begins (encodes l) (encodes cs))
    (λ is. let front = front-begins l cs is in ap (λ x. begins (encodes l) (encodes x)) front.1 ∙ ap (begins (encodes l)) (encodes-append l front.0) ∙ begins-front (encodes l) (encodes front.0))
    (λ is. let front = front-begins (encodes l) (encodes cs) is in let same = front-encodes l cs front.0 front.1 in ap (begins l) same.1 ∙ begins-front l same.0)

whole-encodes : (l cs : List ℕ) → bytes_eq l cs ≡ bytes_eq (encodes cs) (encodes l)
whole-encodes l cs = each_way (bytes_eq l cs) (bytes_eq (encodes cs) (encodes l))
    (λ is. let same : l ≡ cs = (bytes_decides l cs).0 is in ap (λ x. bytes_eq (encodes cs) (encodes x)) same ∙ nat_list_eq_equiv.refl (encodes cs))
    (λ is. let same : cs ≡ l = encodes_same cs l ((bytes_decides (encodes cs) (encodes l)).0 is) in ap (bytes_eq l) same ∙ nat_list_eq_equiv.refl l)

-- ---- one pattern

module _ (x : List ℕ) (is : IsLiteral x) (cs : List ℕ) where
  word-fits : fits (chars x) cs ≡ bytes_eq (encodes cs) x
  word-fits = letters_whole (chars x) cs is.runs is.gaps ∙ whole-encodes (chars x) cs ∙ ap (bytes_eq (encodes cs)) (encodes-chars x is.utf8)

  start-letters : fits (chars x ++ 37 ∷ []) cs ≡ begins x (encodes cs)
  start-letters = letters_start (chars x) cs is.runs is.gaps ∙ begins-encodes (chars x) cs ∙ ap (λ b. begins b (encodes cs)) (encodes-chars x is.utf8)

run_utf8 : IsUtf8 (37 ∷ [])
unfolding encode
run_utf8 = (37 ∷ [], (refl, refl))

run_chars : chars (37 ∷ []) ≡ 37 ∷ []
unfolding chars
run_chars = refl

chars-starting : (x : List ℕ) → IsUtf8 x → chars (starting x) ≡ chars x ++ 37 ∷ []
chars-starting x utf8 = chars-append x (37 ∷ []) utf8 ∙ ap (λ l. chars x ++ l) run_chars

chars-behind : (x : List ℕ) → chars (37 ∷ x) ≡ 37 ∷ chars x
chars-behind x = chars-append (37 ∷ []) x run_utf8 ∙ ap (λ l. l ++ chars x) run_chars

pub start-fits : (x : List ℕ) → IsLiteral x → (cs : List ℕ) → fits (chars (starting x)) cs ≡ begins x (encodes cs)
start-fits x is cs = ap (λ p. fits p cs) (chars-starting x is.utf8) ∙ start-letters x is cs

behind-run : (p cs : List ℕ) → fits (37 ∷ p) cs ≡ behind_some_run (fits p) cs
unfolding fits
behind-run p cs = refl

behind-alike : (f g : List ℕ → Bool) → ((ds : List ℕ) → f ds ≡ g ds) → (cs : List ℕ) → behind_some_run f cs ≡ behind_some_run g cs
behind-alike f g same [] = same []
behind-alike f g same (c ∷ cs) = ap₂ (λ a b. a || b) (same (c ∷ cs)) (behind-alike f g same cs)

-- the letters stand at the end
letters_end : (l cs : List ℕ) → Lacks 37 l → Lacks 95 l → behind_some_run (fits l) cs ≡ begins (reverse l) (reverse cs)
letters_end l cs runs gaps = each_way (behind_some_run (fits l) cs) (begins (reverse l) (reverse cs))
    (λ is.
    let found = run_before (fits l) cs is in
    let same : l ≡ found.1 = (bytes_decides l found.1).0 (sym (letters_whole l found.1 runs gaps) ∙ found.3) in
    let parts : cs ≡ found.0 ++ l = found.2 ∙ ap (λ x. found.0 ++ x) (sym same) in
    ap (λ x. begins (reverse l) (reverse x)) parts ∙ ap (begins (reverse l)) (reverse-append found.0 l) ∙ begins-front (reverse l) (reverse found.0))
    (λ is.
    let front = front-begins (reverse l) (reverse cs) is in
    let parts : cs ≡ reverse front.0 ++ l = sym (reverse-reverse cs) ∙ ap reverse front.1 ∙ reverse-append (reverse l) front.0 ∙ ap (λ x. reverse front.0 ++ x) (reverse-reverse l) in
    ap (behind_some_run (fits l)) parts ∙ found_behind (fits l) (reverse front.0) l (letters_whole l l runs gaps ∙ nat_list_eq_equiv.refl l))

pub end-fits : (x : List ℕ) → IsLiteral x → (cs : List ℕ) → fits (chars (ending x)) cs ≡ begins (seen End x) (reverse cs)
end-fits x is cs = ap (λ p. fits p cs) (chars-behind x) ∙ behind-run (chars x) cs ∙ letters_end (chars x) cs is.runs is.gaps

pub part-fits : (x : List ℕ) → IsLiteral x → (cs : List ℕ) → fits (chars (holding x)) cs ≡ behind_some_run (λ ds. begins x (encodes ds)) cs
part-fits x is cs =
    ap (λ p. fits p cs) (chars-behind (starting x)) ∙ behind-run (chars (starting x)) cs
    ∙ behind-alike (fits (chars (starting x))) (λ ds. begins x (encodes ds)) (start-fits x is) cs

-- ---- patterns of one kind

any-alike : (f g : List ℕ → Bool) → ((x : List ℕ) → IsLiteral x → f x ≡ g x) → (xs : List (List ℕ)) → AreLiteral xs → list_any f xs ≡ list_any g xs
any-alike f g same [] are = refl
any-alike f g same (x ∷ xs) are = ap₂ (λ a b. a || b) (same x are.0) (any-alike f g same xs are.1)

four : (a b c d : Bool) → (a || b) || (c || d) ≡ (a || c) || (b || d)
four true b c d = refl
four false true true d = refl
four false true false d = refl
four false false c d = refl

-- one behind some run is the same as behind some run one
behind_either : (f g : List ℕ → Bool) (cs : List ℕ) → behind_some_run f cs || behind_some_run g cs ≡ behind_some_run (λ ds. f ds || g ds) cs
behind_either f g [] = refl
behind_either f g (c ∷ cs) = four (f (c ∷ cs)) (behind_some_run f cs) (g (c ∷ cs)) (behind_some_run g cs) ∙ ap (λ b. (f (c ∷ cs) || g (c ∷ cs)) || b) (behind_either f g cs)

behind_never : (cs : List ℕ) → false ≡ behind_some_run (λ ds. false) cs
behind_never [] = refl
behind_never (c ∷ cs) = behind_never cs

any-behind : (f : List ℕ → List ℕ → Bool) (cs : List ℕ) (xs : List (List ℕ)) → list_any (λ x. behind_some_run (f x) cs) xs ≡ behind_some_run (λ ds. list_any (λ x. f x ds) xs) cs
any-behind f cs [] = behind_never cs
any-behind f cs (x ∷ xs) = ap (λ b. behind_some_run (f x) cs || b) (any-behind f cs xs) ∙ behind_either (f x) (λ ds. list_any (λ y. f y ds) xs) cs

module _ (cs : List ℕ) (xs : List (List ℕ)) (are : AreLiteral xs) where
  pub words-fit : list_any (λ p. fits (chars p) cs) xs ≡ list_any (bytes_eq (encodes cs)) xs
  words-fit = any-alike (λ p. fits (chars p) cs) (bytes_eq (encodes cs)) (λ x is. word-fits x is cs) xs are

  pub starts-fit : list_any (λ p. fits (chars p) cs) (map starting xs) ≡ begins_some (seen Start) xs (encodes cs)
  starts-fit = sym (list_any-map starting (λ p. fits (chars p) cs) xs) ∙ any-alike (λ x. fits (chars (starting x)) cs) (λ x. begins x (encodes cs)) (λ x is. start-fits x is cs) xs are

  pub ends-fit : list_any (λ p. fits (chars p) cs) (map ending xs) ≡ begins_some (seen End) xs (reverse cs)
  ends-fit = sym (list_any-map ending (λ p. fits (chars p) cs) xs) ∙ any-alike (λ x. fits (chars (ending x)) cs) (λ x. begins (seen End x) (reverse cs)) (λ x is. end-fits x is cs) xs are

  pub parts-fit : list_any (λ p. fits (chars p) cs) (map holding xs) ≡ behind_some_run (λ ds. begins_some (seen Start) xs (encodes ds)) cs
  parts-fit =
      sym (list_any-map holding (λ p. fits (chars p) cs) xs)
      ∙ any-alike (λ x. fits (chars (holding x)) cs) (λ x. behind_some_run (λ ds. begins x (encodes ds)) cs) (λ x is. part-fits x is cs) xs are
      ∙ any-behind (λ x ds. begins x (encodes ds)) cs xs

-- ---- patterns of all kinds

pub fits-parts : (words starts ends parts others : List (List ℕ)) (text : List ℕ) → fits_some (patterns_of words starts ends parts others) text
    ≡ fits_some words text || (fits_some (map starting starts) text || (fits_some (map ending ends) text || (fits_some (map holding parts) text || fits_some others text)))
fits-parts words starts ends parts others text =
    let f : List ℕ → Bool = λ p. fits (chars p) (chars text) in
    list_any-append f words (map starting starts ++ (map ending ends ++ (map holding parts ++ others)))
    ∙ ap (λ b. list_any f words || b) (list_any-append f (map starting starts) (map ending ends ++ (map holding parts ++ others))
    ∙ ap (λ b. list_any f (map starting starts) || b) (list_any-append f (map ending ends) (map holding parts ++ others)
    ∙ ap (λ b. list_any f (map ending ends) || b) (list_any-append f (map holding parts) others)))

-- ---- one pattern more

module _ (f : List ℕ → Bool) (b : Bool) where
  more-before : (xs ys rest : List (List ℕ)) → list_any f ys ≡ list_any f xs || b → list_any f (ys ++ rest) ≡ list_any f (xs ++ rest) || b
  more-before xs ys rest more =
      list_any-append f ys rest ∙ ap (λ a. a || list_any f rest) more ∙ or_swaps (list_any f xs) b (list_any f rest) ∙ ap (λ a. a || b) (sym (list_any-append f xs rest))

  more-behind : (before xs ys : List (List ℕ)) → list_any f ys ≡ list_any f xs || b → list_any f (before ++ ys) ≡ list_any f (before ++ xs) || b
  more-behind before xs ys more =
      list_any-append f before ys ∙ ap (λ a. list_any f before || a) more ∙ or_regroups (list_any f before) (list_any f xs) b ∙ ap (λ a. a || b) (sym (list_any-append f before xs))

one-more : (f : List ℕ → Bool) (xs : List (List ℕ)) (x : List ℕ) → list_any f (xs ++ x ∷ []) ≡ list_any f xs || f x
one-more f xs x = list_any-append f xs (x ∷ []) ∙ or_ends (list_any f xs) (f x)

pub more-words : (words more rest : List (List ℕ)) (x text : List ℕ) → ((test : List ℕ → Bool) → list_any test more ≡ list_any test words || test x) → fits_some (more ++ rest) text ≡ fits_some (words ++ rest) text || fits (chars x) (chars text)
more-words words more rest x text any = more-before (λ p. fits (chars p) (chars text)) (fits (chars x) (chars text)) words more rest (any (λ p. fits (chars p) (chars text)))

module _ (words starts ends parts others : List (List ℕ)) (x text : List ℕ) where
  abbrev f : List ℕ → Bool
  f = λ p. fits (chars p) (chars text)

  pub more-parts : fits_some (patterns_of words starts ends (parts ++ x ∷ []) others) text ≡ fits_some (patterns_of words starts ends parts others) text || fits (chars (holding x)) (chars text)
  more-parts =
      let more : list_any f (map holding (parts ++ x ∷ [])) ≡ list_any f (map holding parts) || f (holding x) = ap (list_any f) (map-append holding parts (x ∷ [])) ∙ one-more f (map holding parts) (holding x) in
      more-behind f (f (holding x)) words (map starting starts ++ (map ending ends ++ (map holding parts ++ others))) (map starting starts ++ (map ending ends ++ (map holding (parts ++ x ∷ []) ++ others)))
      (more-behind f (f (holding x)) (map starting starts) (map ending ends ++ (map holding parts ++ others)) (map ending ends ++ (map holding (parts ++ x ∷ []) ++ others))
      (more-behind f (f (holding x)) (map ending ends) (map holding parts ++ others) (map holding (parts ++ x ∷ []) ++ others) (more-before f (f (holding x)) (map holding parts) (map holding (parts ++ x ∷ [])) others more)))

  pub more-others : fits_some (patterns_of words starts ends parts (others ++ x ∷ [])) text ≡ fits_some (patterns_of words starts ends parts others) text || fits (chars x) (chars text)
  more-others =
      more-behind f (f x) words (map starting starts ++ (map ending ends ++ (map holding parts ++ others))) (map starting starts ++ (map ending ends ++ (map holding parts ++ (others ++ x ∷ []))))
      (more-behind f (f x) (map starting starts) (map ending ends ++ (map holding parts ++ others)) (map ending ends ++ (map holding parts ++ (others ++ x ∷ [])))
      (more-behind f (f x) (map ending ends) (map holding parts ++ others) (map holding parts ++ (others ++ x ∷ [])) (more-behind f (f x) (map holding parts) others (others ++ x ∷ []) (one-more f others x))))

-- ---- all patterns together

-- with others at the end that tell the same
end-alike : (before ends others : List (List ℕ)) (text : List ℕ) → fits_some ends text ≡ fits_some others text → fits_some (before ++ ends) text ≡ fits_some (before ++ others) text
end-alike before ends others text same =
    let f : List ℕ → Bool = λ p. fits (chars p) (chars text) in
    list_any-append f before ends ∙ ap (λ b. list_any f before || b) same ∙ sym (list_any-append f before others)

pub rest-alike : (words starts ends parts other_parts others more : List (List ℕ)) → FitSame (map holding other_parts ++ more) (map holding parts ++ others) → FitSame (patterns_of words starts ends other_parts more) (patterns_of words starts ends parts others)
rest-alike words starts ends parts other_parts others more same text =
    let a : List (List ℕ) = map holding other_parts ++ more in
    let b : List (List ℕ) = map holding parts ++ others in
    end-alike words (map starting starts ++ (map ending ends ++ a)) (map starting starts ++ (map ending ends ++ b)) text
    (end-alike (map starting starts) (map ending ends ++ a) (map ending ends ++ b) text (end-alike (map ending ends) a b text (same text)))

-- with other edges that tell the same
module _ (words starts ends parts others : List (List ℕ)) where
  pub fit-alike : (other_starts other_ends other_parts : List (List ℕ)) → AreLiteral starts → AreLiteral other_starts → AreLiteral ends → AreLiteral other_ends → AreLiteral parts → AreLiteral other_parts
      → ((text : List ℕ) → begins_some (seen Start) other_starts text ≡ begins_some (seen Start) starts text)
      → ((text : List ℕ) → begins_some (seen End) other_ends text ≡ begins_some (seen End) ends text)
      → ((text : List ℕ) → begins_some (seen Start) other_parts text ≡ begins_some (seen Start) parts text)
      → FitSame (patterns_of words other_starts other_ends other_parts others) (patterns_of words starts ends parts others)
  fit-alike other_starts other_ends other_parts a b c d e f same_starts same_ends same_parts text =
      let cs : List ℕ = chars text in
      let by_starts = starts-fit cs other_starts b ∙ same_starts (encodes cs) ∙ sym (starts-fit cs starts a) in
      let by_ends = ends-fit cs other_ends d ∙ same_ends (reverse cs) ∙ sym (ends-fit cs ends c) in
      let by_parts = parts-fit cs other_parts f ∙ behind-alike (λ ds. begins_some (seen Start) other_parts (encodes ds)) (λ ds. begins_some (seen Start) parts (encodes ds)) (λ ds. same_parts (encodes ds)) cs ∙ sym (parts-fit cs parts e) in
      fits-parts words other_starts other_ends other_parts others text
      ∙ (λ i. fits_some words text || (by_starts i || (by_ends i || (by_parts i || fits_some others text))))
      ∙ sym (fits-parts words starts ends parts others text)

  -- what is asked of each kind
  pub asked : MadeOfLiterals words starts ends parts → (text : List ℕ) → IsUtf8 text → fits_some (patterns_of words starts ends parts others) text
      ≡ list_any (bytes_eq text) words || (some_at Start starts text || (some_at End ends text || (some_within Start parts text || fits_some others text)))
  asked made text utf8 =
      let cs : List ℕ = chars text in
      let by_words = words-fit cs words made.are_words ∙ ap (λ t. list_any (bytes_eq t) words) (encodes-chars text utf8) in
      let by_starts = starts-fit cs starts made.are_starts ∙ ap (begins_some (seen Start) starts) (encodes-chars text utf8) in
      let by_ends = ends-fit cs ends made.are_ends in
      let by_parts = parts-fit cs parts made.are_parts in
      fits-parts words starts ends parts others text
      ∙ (λ i. by_words i || (by_starts i || (by_ends i || (by_parts i || fits_some others text))))
