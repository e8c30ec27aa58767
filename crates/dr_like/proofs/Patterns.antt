-- How far a pattern fits a text, character by character.
use Rattle.std.proofs.Common.{◌≡◌, ◌∙◌, sym, refl, ap, ap₂, ℕ, ◌<◌, ◌==◌, Bool, true, false, ◌||◌, ◌&&◌, List, [], ◌∷◌, ◌++◌, length, arith, true≢false}
use Rattle.std.proofs.lemmas.Bool.{and_parts, and_right, eq-eqb, eqb-true}
use Rattle.dr_like.specs.Letters.{Lacks}
use Rattle.dr_like.specs.Like.{letter_fits, first_and_rest, behind_some_run, is_empty, fits}
use Rattle.dr_like.specs.Left.{IsBehind}

module _ (f : List ℕ → Bool) where
  pub behind_none : (t : List ℕ) → f t ≡ true → behind_some_run f t ≡ true
  behind_none [] h = h
  behind_none (c ∷ cs) h = ap (λ b. b || behind_some_run f cs) h

  pub behind_one_more : (c : ℕ) (cs : List ℕ) → behind_some_run f cs ≡ true → behind_some_run f (c ∷ cs) ≡ true
  behind_one_more c cs h = at (f (c ∷ cs))
    where
      at : (b : Bool) → b || behind_some_run f cs ≡ true
      at true = refl
      at false = h

  -- a run behind a run is a run
  pub behind_two_runs : (t : List ℕ) → behind_some_run (behind_some_run f) t ≡ true → behind_some_run f t ≡ true
  behind_two_runs [] h = h
  behind_two_runs (c ∷ cs) h = at (behind_some_run f (c ∷ cs)) refl (behind_two_runs cs) h
    where
      at : (b : Bool) → behind_some_run f (c ∷ cs) ≡ b → (behind_some_run (behind_some_run f) cs ≡ true → behind_some_run f cs ≡ true) → b || behind_some_run (behind_some_run f) cs ≡ true → behind_some_run f (c ∷ cs) ≡ true
      at true is rest g = is
      at false is rest g = behind_one_more c cs (rest g)

  -- what doesn't fit here is searched for later
  pub later-more : (c : ℕ) (cs : List ℕ) → f (c ∷ cs) ≡ false → behind_some_run f (c ∷ cs) ≡ behind_some_run f cs
  later-more c cs fails = ap (λ b. b || behind_some_run f cs) fails

module _ (p : ℕ) (ps : List ℕ) (itself : (p == 37) ≡ false) where
  pub one_letter : (t : List ℕ) → fits (p ∷ ps) t ≡ first_and_rest (letter_fits p) (fits ps) t
  unfolding fits
  one_letter t = rw itself refl

  rest_here : (c : ℕ) (cs : List ℕ) → fits (p ∷ ps) (c ∷ cs) ≡ true → behind_some_run (fits ps) cs ≡ true
  rest_here c cs is = behind_none (fits ps) cs (and_parts (letter_fits p c) (fits ps cs) (sym (one_letter (c ∷ cs)) ∙ is)).1

  by_first : (c : ℕ) (cs : List ℕ) (b : Bool) → fits (p ∷ ps) (c ∷ cs) ≡ b → (behind_some_run (fits (p ∷ ps)) cs ≡ true → behind_some_run (fits ps) cs ≡ true) → b || behind_some_run (fits (p ∷ ps)) cs ≡ true → behind_some_run (fits ps) cs ≡ true
  by_first c cs true is later h = rest_here c cs is
  by_first c cs false is later h = later h

  not_empty : fits (p ∷ ps) [] ≡ true → behind_some_run (fits ps) [] ≡ true
  not_empty h = let none : false ≡ true = sym (one_letter []) ∙ h in absurd (cc)

  -- where the pattern fits behind some run, so does its rest behind the next character
  rest_behind : (c : ℕ) (cs : List ℕ) → behind_some_run (fits (p ∷ ps)) (c ∷ cs) ≡ true → behind_some_run (fits ps) cs ≡ true
  rest_behind c [] h = by_first c [] (fits (p ∷ ps) (c ∷ [])) refl not_empty h
  rest_behind c (d ∷ ds) h = by_first c (d ∷ ds) (fits (p ∷ ps) (c ∷ d ∷ ds)) refl (λ g. behind_one_more (fits ps) d ds (rest_behind d ds g)) h

-- ---- what is left of a pattern and a text

pub behind-start : (pattern text : List ℕ) → IsBehind pattern text pattern text
behind-start pattern text = record { same = refl; later = λ h. h }

pub behind-then : (pattern text p t q s : List ℕ) → IsBehind pattern text p t → IsBehind p t q s → IsBehind pattern text q s
behind-then pattern text p t q s so_far more = record { same = so_far.same ∙ more.same; later = λ h. more.later (so_far.later h) }

module _ (pattern text : List ℕ) where
  pub behind-more : (c d : ℕ) (ps ts : List ℕ) → IsBehind pattern text (c ∷ ps) (d ∷ ts) → (c == 37) ≡ false → letter_fits c d ≡ true → IsBehind pattern text ps ts
  behind-more c d ps ts so_far itself one = record {
    same = so_far.same ∙ one_letter c ps itself (d ∷ ts) ∙ ap (λ b. b && fits ps ts) one;
    later = λ h. rest_behind c ps itself d ts (so_far.later h);
  }

  pub behind-differs : (c d : ℕ) (ps ts : List ℕ) → IsBehind pattern text (c ∷ ps) (d ∷ ts) → (c == 37) ≡ false → letter_fits c d ≡ false → fits pattern text ≡ false
  behind-differs c d ps ts so_far itself one = so_far.same ∙ one_letter c ps itself (d ∷ ts) ∙ ap (λ b. b && fits ps ts) one

  -- no later place is better
  pub behind-still : (q s : List ℕ) → IsBehind pattern text (37 ∷ q) s → behind_some_run (fits pattern) text ≡ behind_some_run (fits q) s
  unfolding fits
  behind-still q s left = at (behind_some_run (fits q) s) (behind_some_run (fits pattern) text) refl refl
    where
      at : (b x : Bool) → behind_some_run (fits q) s ≡ b → behind_some_run (fits pattern) text ≡ x → behind_some_run (fits pattern) text ≡ behind_some_run (fits q) s
      at true x b_is x_is = behind_none (fits pattern) text (left.same ∙ b_is) ∙ sym b_is
      at false false b_is x_is = x_is ∙ sym b_is
      at false true b_is x_is = absurd (true≢false (sym (behind_two_runs (fits q) s (left.later x_is)) ∙ b_is))

-- ---- letters without a run

pub lacks-left : (c : ℕ) (p q : List ℕ) → Lacks c (p ++ q) → Lacks c p
lacks-left c [] q h = tt
lacks-left c (d ∷ ds) q h = (h.0, lacks-left c ds q h.1)

pub lacks-right : (c : ℕ) (p q : List ℕ) → Lacks c (p ++ q) → Lacks c q
lacks-right c [] q h = h
lacks-right c (d ∷ ds) q h = lacks-right c ds q h.1

-- a text with fewer characters
pub too_short : (p more t : List ℕ) → Lacks 37 p → length t < length p → fits (p ++ more) t ≡ false
too_short [] more t lacks less = absurd (omega (arith, less))
too_short (c ∷ cs) more [] lacks less = one_letter c (cs ++ more) lacks.0 []
too_short (c ∷ cs) more (d ∷ ds) lacks less = one_letter c (cs ++ more) lacks.0 (d ∷ ds) ∙ and_right (letter_fits c d) _ (too_short cs more ds lacks.1 (omega (arith, less)))

pub too_short-later : (p more t : List ℕ) → Lacks 37 p → length t < length p → behind_some_run (fits (p ++ more)) t ≡ false
too_short-later p more [] lacks less = too_short p more [] lacks less
too_short-later p more (d ∷ ds) lacks less = later-more (fits (p ++ more)) d ds (too_short p more (d ∷ ds) lacks less) ∙ too_short-later p more ds lacks (omega (arith, less))

-- ---- `_` at the start

pub gap-none : (ps : List ℕ) → behind_some_run (fits (95 ∷ ps)) [] ≡ false
gap-none ps = one_letter 95 ps refl []

pub gap-one : (ps : List ℕ) (d : ℕ) (ds : List ℕ) → behind_some_run (fits (95 ∷ ps)) (d ∷ ds) ≡ behind_some_run (fits ps) ds
gap-one ps d [] = ap (λ b. b || behind_some_run (fits (95 ∷ ps)) []) (one_letter 95 ps refl (d ∷ [])) ∙ ap (λ b. fits ps [] || b) (gap-none ps) ∙ at (fits ps [])
  where
    at : (b : Bool) → b || false ≡ b
    at true = refl
    at false = refl
gap-one ps d (e ∷ es) = ap (λ b. b || behind_some_run (fits (95 ∷ ps)) (e ∷ es)) (one_letter 95 ps refl (d ∷ e ∷ es)) ∙ ap (λ b. fits ps (e ∷ es) || b) (gap-one ps e es)

-- ---- literal characters

pub same_letter : (c : ℕ) → letter_fits c c ≡ true
same_letter c = at (c == 95) (c == c) (eq-eqb c c refl)
  where
    at : (a b : Bool) → b ≡ true → a || b ≡ true
    at true b is = refl
    at false b is = is

-- a text that begins with them is left without them
pub literal-past : (pattern text l others more s : List ℕ) → Lacks 37 l → IsBehind pattern text ((l ++ others) ++ more) (l ++ s) → IsBehind pattern text (others ++ more) s
literal-past pattern text [] others more s lacks so_far = so_far
literal-past pattern text (c ∷ cs) others more s lacks so_far = literal-past pattern text cs others more s lacks.1 (behind-more pattern text c c ((cs ++ others) ++ more) (cs ++ s) so_far lacks.0 (same_letter c))

-- a text that fits begins with them
pub literal-first : (l more t : List ℕ) → Lacks 37 l → Lacks 95 l → fits (l ++ more) t ≡ true → (s : List ℕ) × (t ≡ l ++ s)
literal-first [] more t runs gaps is = (t, refl)
literal-first (c ∷ cs) more [] runs gaps is = let none : false ≡ true = sym (one_letter c (cs ++ more) runs.0 []) ∙ is in absurd (cc)
literal-first (c ∷ cs) more (d ∷ ds) runs gaps is =
    let both = and_parts (letter_fits c d) (fits (cs ++ more) ds) (sym (one_letter c (cs ++ more) runs.0 (d ∷ ds)) ∙ is) in
    let rest = literal-first cs more ds runs.1 gaps.1 both.1 in
    let same : c ≡ d = eqb-true c d (sym (ap (λ b. b || (c == d)) gaps.0) ∙ both.0) in
    (rest.0, ap (λ l. d ∷ l) rest.1 ∙ ap (λ x. x ∷ (cs ++ rest.0)) (sym same))

-- ---- the end of a text

no_text : (p : List ℕ) (c : ℕ) → Lacks 37 (p ++ c ∷ []) → fits (p ++ c ∷ []) [] ≡ false
no_text [] c lacks = one_letter c [] lacks.0 []
no_text (x ∷ xs) c lacks = one_letter x (xs ++ c ∷ []) lacks.0 []

not_empty_behind : (t : List ℕ) (d : ℕ) → is_empty (t ++ d ∷ []) ≡ false
not_empty_behind [] d = refl
not_empty_behind (e ∷ es) d = refl

swap : (a b c : Bool) → a && (b && c) ≡ b && (a && c)
swap true b c = refl
swap false true c = refl
swap false false c = refl

and_of_or : (a b c : Bool) → (a && b) || (a && c) ≡ a && (b || c)
and_of_or true b c = refl
and_of_or false b c = refl

or_false : (b : Bool) → b || false ≡ b
or_false true = refl
or_false false = refl

last_letter : (p t : List ℕ) (c d : ℕ) → Lacks 37 (p ++ c ∷ []) → fits (p ++ c ∷ []) (t ++ d ∷ []) ≡ letter_fits c d && fits p t
unfolding fits
last_letter [] [] c d lacks = one_letter c [] lacks.0 (d ∷ [])
last_letter [] (e ∷ es) c d lacks = one_letter c [] lacks.0 (e ∷ (es ++ d ∷ [])) ∙ and_right (letter_fits c e) _ (not_empty_behind es d) ∙ sym (and_right (letter_fits c d) false refl)
last_letter (x ∷ xs) [] c d lacks =
    one_letter x (xs ++ c ∷ []) lacks.0 (d ∷ []) ∙ and_right (letter_fits x d) _ (no_text xs c lacks.1) ∙ sym (and_right (letter_fits c d) _ (one_letter x xs lacks.0 []))
last_letter (x ∷ xs) (e ∷ es) c d lacks =
    one_letter x (xs ++ c ∷ []) lacks.0 (e ∷ (es ++ d ∷ [])) ∙ ap (λ b. letter_fits x e && b) (last_letter xs es c d lacks.1) ∙ swap (letter_fits x e) (letter_fits c d) (fits xs es)
    ∙ ap (λ b. letter_fits c d && b) (sym (one_letter x xs lacks.0 (e ∷ es)))

pub last-some : (p t : List ℕ) (c d : ℕ) → Lacks 37 (p ++ c ∷ []) → behind_some_run (fits (p ++ c ∷ [])) (t ++ d ∷ []) ≡ letter_fits c d && behind_some_run (fits p) t
last-some p [] c d lacks = ap₂ (λ a b. a || b) (last_letter p [] c d lacks) (no_text p c lacks) ∙ or_false _
last-some p (e ∷ es) c d lacks = ap₂ (λ a b. a || b) (last_letter p (e ∷ es) c d lacks) (last-some p es c d lacks) ∙ and_of_or (letter_fits c d) (fits p (e ∷ es)) (behind_some_run (fits p) es)

pub last-none : (p : List ℕ) (c : ℕ) → Lacks 37 (p ++ c ∷ []) → behind_some_run (fits (p ++ c ∷ [])) [] ≡ false
last-none = no_text

-- nothing more to fit
pub end-fits : (t : List ℕ) → behind_some_run (fits []) t ≡ true
unfolding fits
end-fits [] = refl
end-fits (c ∷ cs) = end-fits cs
