-- A text fits a pattern exactly where there is a way that it fits.
use Rattle.std.proofs.Common.{◌≡◌, ◌≢◌, ◌∙◌, sym, refl, ap, ap₂, subst, ℕ, ◌==◌, Bool, true, false, ◌||◌, ◌&&◌, List, [], ◌∷◌, ◌++◌, true≢false, if◌then◌else◌}
use Rattle.std.proofs.lemmas.Bool.{and_parts, eqb-true, eq-eqb}
use Rattle.dr_like.specs.Like.{letter_fits, first_and_rest, behind_some_run, fits}
use Rattle.dr_like.specs.Fits.{IsItself, Fits, the_end, letter, any_letter, any_run}
use Rattle.dr_like.proofs.Patterns.{behind_none, behind_one_more, one_letter, same_letter}

-- ---- what fits is found

other_than_run : (c : ℕ) → IsItself c → (c == 37) ≡ false
other_than_run c is = at (c == 37) refl
  where
    at : (b : Bool) → (c == 37) ≡ b → b ≡ false
    at true here = absurd (is.0 (ap (λ x. x ∷ []) (eqb-true c 37 here)))
    at false here = refl

-- behind any run of characters, what fits there is found
pub found_behind : (f : List ℕ → Bool) (run text : List ℕ) → f text ≡ true → behind_some_run f (run ++ text) ≡ true
found_behind f [] text is = behind_none f text is
found_behind f (c ∷ cs) text is = behind_one_more f c (cs ++ text) (found_behind f cs text is)

pub found_of_fits : (pattern text : List ℕ) → Fits pattern text → fits pattern text ≡ true
unfolding fits
found_of_fits pattern text the_end = refl
found_of_fits pattern text (letter c ps ts is rest) =
    one_letter c ps (other_than_run c is) (c ∷ ts) ∙ ap₂ (λ a b. a && b) (same_letter c) (found_of_fits ps ts rest)
found_of_fits pattern text (any_letter c ps ts rest) = one_letter 95 ps refl (c ∷ ts) ∙ found_of_fits ps ts rest
found_of_fits pattern text (any_run run ps ts rest) = found_behind (fits ps) run ts (found_of_fits ps ts rest)

-- ---- what is found fits

-- where something is found behind some run, there is a run that it stands behind
pub run_before : (f : List ℕ → Bool) (text : List ℕ) → behind_some_run f text ≡ true → (run : List ℕ) × (rest : List ℕ) × (text ≡ run ++ rest) × (f rest ≡ true)
run_before f [] is = ([], [], refl, is)
run_before f (c ∷ cs) is = at (f (c ∷ cs)) refl (run_before f cs) is
  where
    at : (b : Bool) → f (c ∷ cs) ≡ b → (behind_some_run f cs ≡ true → (run : List ℕ) × (rest : List ℕ) × (cs ≡ run ++ rest) × (f rest ≡ true)) → b || behind_some_run f cs ≡ true
        → (run : List ℕ) × (rest : List ℕ) × (c ∷ cs ≡ run ++ rest) × (f rest ≡ true)
    at true here later h = ([], c ∷ cs, refl, here)
    at false here later h = let found = later h in (c ∷ found.0, found.1, ap (λ l. c ∷ l) found.2, found.3)

-- a character that isn't this one
differs : (c d : ℕ) → (c == d) ≡ false → c ∷ [] ≢ d ∷ []
differs c d other same = let here : c ≡ d = cc in absurd (true≢false (sym (eq-eqb c d here) ∙ other))

-- a way for a pattern whose first character is no `%`
way_by_letter : (p c : ℕ) (ps cs : List ℕ) → (p == 37) ≡ false → letter_fits p c ≡ true → Fits ps cs → Fits (p ∷ ps) (c ∷ cs)
way_by_letter p c ps cs no_run one rest = at (p == 95) refl one
  where
    at : (b : Bool) → (p == 95) ≡ b → b || (p == c) ≡ true → Fits (p ∷ ps) (c ∷ cs)
    at true here h = subst (λ x. Fits (x ∷ ps) (c ∷ cs)) (sym (eqb-true p 95 here)) (any_letter c ps cs rest)
    at false here h = subst (λ x. Fits (p ∷ ps) (x ∷ cs)) (eqb-true p c h) (letter p ps cs (differs p 37 no_run, differs p 95 here) rest)

way_by_first : (p : ℕ) (ps text : List ℕ) → (p == 37) ≡ false → ((rest : List ℕ) → fits ps rest ≡ true → Fits ps rest) → first_and_rest (letter_fits p) (fits ps) text ≡ true → Fits (p ∷ ps) text
way_by_first p ps [] no_run way is = absurd (true≢false (sym is))
way_by_first p ps (c ∷ cs) no_run way is = let both = and_parts (letter_fits p c) (fits ps cs) is in way_by_letter p c ps cs no_run both.0 (way cs both.1)

-- a way for a pattern whose first character is `%`
way_by_run : (p : ℕ) (ps text : List ℕ) → (p == 37) ≡ true → ((rest : List ℕ) → fits ps rest ≡ true → Fits ps rest) → behind_some_run (fits ps) text ≡ true → Fits (p ∷ ps) text
way_by_run p ps text run way is =
    let found = run_before (fits ps) text is in
    let here : Fits (37 ∷ ps) text = subst (λ l. Fits (37 ∷ ps) l) (sym found.2) (any_run found.0 ps found.1 (way found.1 found.3)) in
    subst (λ x. Fits (x ∷ ps) text) (sym (eqb-true p 37 run)) here

pub fits_of_found : (pattern text : List ℕ) → fits pattern text ≡ true → Fits pattern text
unfolding fits
fits_of_found [] [] is = the_end
fits_of_found [] (c ∷ cs) is = absurd (true≢false (sym is))
fits_of_found (p ∷ ps) text is = at (p == 37) refl (fits_of_found ps) is
  where
    at : (b : Bool) → (p == 37) ≡ b → ((rest : List ℕ) → fits ps rest ≡ true → Fits ps rest)
        → if b then behind_some_run (fits ps) text else first_and_rest (letter_fits p) (fits ps) text ≡ true → Fits (p ∷ ps) text
    at true run way h = way_by_run p ps text run way h
    at false no_run way h = way_by_first p ps text no_run way h
