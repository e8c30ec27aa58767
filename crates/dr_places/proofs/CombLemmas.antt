-- The letters of a piece that stand so far apart, and all of them together.
use Rattle.std.proofs.Common.{inl, inr, ◌≡◌, ◌∙◌, sym, refl, ap, subst, ℕ, zero, suc, ◌+◌, ◌<◌, ◌≤◌, ◌&&◌, Bool, true, false, true≢false, List, [], ◌∷◌, length, get_or, drop, drop-drop, arith}
use Rattle.std.proofs.lemmas.Bool.{cases_eq, and_parts}
use Rattle.dr_like.specs.Like.{letter_fits}
use Rattle.dr_places.specs.Places.{begins, fits_comb}

and_true : (b : Bool) → (b && true) ≡ b
and_true true = refl
and_true false = refl

-- ---- one comb

-- the letters before the first one are left out
pub comb-skipped : (space left : ℕ) (ps t : List ℕ) → fits_comb space left ps t ≡ fits_comb space 0 (drop left ps) (drop left t)
comb-skipped space zero ps t = refl
comb-skipped space (suc left) [] t = refl
comb-skipped space (suc left) (p ∷ ps) t =
    let next : 1 + left ≡ suc left = omega arith in
    comb-skipped space left ps (drop 1 t) ∙ ap (fits_comb space 0 (drop left ps)) (drop-drop left 1 t ∙ ap (λ n. drop n t) next)

-- a comb that begins behind the piece
pub comb-behind : (space left : ℕ) (ps t : List ℕ) → length ps ≤ left → fits_comb space left ps t ≡ true
comb-behind space left [] t le = refl
comb-behind space zero (p ∷ ps) t le = absurd (omega (arith, le))
comb-behind space (suc left) (p ∷ ps) t le = comb-behind space left ps (drop 1 t) (omega (arith, le))

-- one letter of a comb, and those behind it
letter-here : (space j x : ℕ) (ps t : List ℕ) → j < length ps → x < length t
    → fits_comb space 0 (drop j ps) (drop x t) ≡ (letter_fits (get_or ps j 0) (get_or t x 0) && fits_comb space space (drop (suc j) ps) (drop (suc x) t))
letter-here space j x [] t lt within = absurd (omega (arith, lt))
letter-here space j x (p ∷ ps) [] lt within = absurd (omega (arith, within))
letter-here space zero zero (p ∷ ps) (c ∷ cs) lt within = refl
letter-here space (suc j) zero (p ∷ ps) (c ∷ cs) lt within = letter-here space j zero ps (c ∷ cs) (omega (arith, lt)) (omega arith)
letter-here space j (suc x) (p ∷ ps) (c ∷ cs) lt within = letter-here space j x (p ∷ ps) cs lt (omega (arith, within))

pub letter-behind : (space j x : ℕ) (ps t : List ℕ) → j < length ps → x < length t
    → fits_comb space 0 (drop j ps) (drop x t) ≡ (letter_fits (get_or ps j 0) (get_or t x 0) && fits_comb space 0 (drop (j + 1 + space) ps) (drop (x + 1 + space) t))
letter-behind space j x ps t lt within =
    let next : suc j + space ≡ j + 1 + space = omega arith in
    let after : suc x + space ≡ x + 1 + space = omega arith in
    letter-here space j x ps t lt within
    ∙ ap (λ b. letter_fits (get_or ps j 0) (get_or t x 0) && b) (comb-skipped space space (drop (suc j) ps) (drop (suc x) t)
    ∙ ap (λ l. fits_comb space 0 l (drop space (drop (suc x) t))) (drop-drop space (suc j) ps ∙ ap (λ n. drop n ps) next)
    ∙ ap (λ l. fits_comb space 0 (drop (j + 1 + space) ps) l) (drop-drop space (suc x) t ∙ ap (λ n. drop n t) after))

-- ---- all combs

abbrev pub all_combs : (space count : ℕ) → List ℕ → List ℕ → Bool
all_combs space zero ps t = true
all_combs space (suc left) ps t = all_combs space left ps t && fits_comb space left ps t

all-none : (space count : ℕ) (t : List ℕ) → all_combs space count [] t ≡ true
all-none space zero t = refl
all-none space (suc left) t = ap (λ b. b && true) (all-none space left t)

all-shifted : (space count p : ℕ) (ps t : List ℕ) → all_combs space (suc count) (p ∷ ps) t ≡ (fits_comb space 0 (p ∷ ps) t && all_combs space count ps (drop 1 t))
all-shifted space zero p ps t = turned (fits_comb space 0 (p ∷ ps) t)
  where
    turned : (b : Bool) → (true && b) ≡ (b && true)
    turned true = refl
    turned false = refl
all-shifted space (suc left) p ps t =
    ap (λ b. b && fits_comb space left ps (drop 1 t)) (all-shifted space left p ps t)
    ∙ regrouped (fits_comb space 0 (p ∷ ps) t) (all_combs space left ps (drop 1 t)) (fits_comb space left ps (drop 1 t))
  where
    regrouped : (a b c : Bool) → ((a && b) && c) ≡ (a && (b && c))
    regrouped true b c = refl
    regrouped false b c = refl

-- all letters fit where those of each comb do
pub all-begins : (space : ℕ) (ps t : List ℕ) → all_combs space (suc space) ps t ≡ begins ps t
all-begins space [] t = all-none space (suc space) t
all-begins space (p ∷ ps) [] = all-shifted space space p ps []
all-begins space (p ∷ ps) (c ∷ cs) =
    all-shifted space space p ps (c ∷ cs)
    ∙ regrouped (letter_fits p c) (fits_comb space space ps cs) (all_combs space space ps cs)
    ∙ ap (λ b. letter_fits p c && b) (all-begins space ps cs)
  where
    regrouped : (a b c : Bool) → ((a && b) && c) ≡ (a && (c && b))
    regrouped true true true = refl
    regrouped true true false = refl
    regrouped true false true = refl
    regrouped true false false = refl
    regrouped false b c = refl

all-fewer : (space some all : ℕ) (ps t : List ℕ) → some ≤ all → all_combs space all ps t ≡ true → all_combs space some ps t ≡ true
all-fewer space zero all ps t le is = refl
all-fewer space (suc some) zero ps t le is = absurd (omega (arith, le))
all-fewer space (suc some) (suc all) ps t le is = elim (cases_eq some all) [
  | inl same ↦ subst (λ n. all_combs space (suc n) ps t ≡ true) (sym same) is
  | inr differs ↦ all-fewer space (suc some) all ps t (omega (arith, le, differs)) (and_parts (all_combs space all ps t) (fits_comb space all ps t) is).0
]

all-rest : (space some all : ℕ) (ps t : List ℕ) → some ≤ all → length ps ≤ some → all_combs space all ps t ≡ all_combs space some ps t
all-rest space zero zero ps t le long = refl
all-rest space (suc some) zero ps t le long = absurd (omega (arith, le))
all-rest space some (suc all) ps t le long = elim (cases_eq some (suc all)) [
  | inl same ↦ ap (λ n. all_combs space n ps t) (sym same)
  | inr differs ↦ (ap (λ b. all_combs space all ps t && b) (comb-behind space all ps t (omega (arith, le, long, differs))) ∙ and_true (all_combs space all ps t)
      ∙ all-rest space some all ps t (omega (arith, le, differs)) long)
]

-- where each comb that there is fits, the piece stands
pub each-comb : (count : ℕ) (ps t : List ℕ) → count ≤ 64 → (count < 64 → length ps ≤ count) → all_combs 63 count ps t ≡ begins ps t
each-comb count ps t le long = elim (cases_eq count 64) [
  | inl same ↦ ap (λ n. all_combs 63 n ps t) same ∙ all-begins 63 ps t
  | inr differs ↦ (sym (all-rest 63 count 64 ps t le (long (omega (arith, le, differs)))) ∙ all-begins 63 ps t)
]

-- where one doesn't fit, the piece doesn't stand
pub some-comb : (count : ℕ) (ps t : List ℕ) → count ≤ 64 → all_combs 63 count ps t ≡ false → begins ps t ≡ false
some-comb count ps t le misses = by (begins ps t) refl
  where
    by : (b : Bool) → begins ps t ≡ b → begins ps t ≡ false
    by false is = is
    by true is = absurd (true≢false (sym (all-fewer 63 count 64 ps t le (all-begins 63 ps t ∙ is)) ∙ misses))
