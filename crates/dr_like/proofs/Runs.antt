-- A run behind a run is one run, whatever stands before them.
use Rattle.std.proofs.Common.{◌≡◌, ◌∙◌, sym, refl, ap, ap₂, ℕ, ◌==◌, ◌&&◌, ◌||◌, if◌then◌else◌, Bool, true, false, List, [], ◌∷◌, ◌++◌}
use Rattle.dr_like.specs.Like.{fits, letter_fits, first_and_rest, behind_some_run}

module _ (f g : List ℕ → Bool) (same : (cs : List ℕ) → f cs ≡ g cs) where
  run_alike : (cs : List ℕ) → behind_some_run f cs ≡ behind_some_run g cs
  run_alike [] = same []
  run_alike (c ∷ cs) = ap₂ (λ a b. a || b) (same (c ∷ cs)) (run_alike cs)

  letter_alike : (first : ℕ → Bool) (cs : List ℕ) → first_and_rest first f cs ≡ first_and_rest first g cs
  letter_alike first [] = refl
  letter_alike first (c ∷ cs) = ap (λ b. first c && b) (same cs)

-- patterns that fit the same texts do so behind the same start
pub same_behind : (start some others : List ℕ) → ((cs : List ℕ) → fits some cs ≡ fits others cs) → (cs : List ℕ) → fits (start ++ some) cs ≡ fits (start ++ others) cs
unfolding fits
same_behind [] some others same cs = same cs
same_behind (p ∷ start) some others same cs = at (same_behind start some others same) (p == 37)
  where
    at : ((ds : List ℕ) → fits (start ++ some) ds ≡ fits (start ++ others) ds) → (b : Bool) → (if b then behind_some_run (fits (start ++ some)) cs else first_and_rest (letter_fits p) (fits (start ++ some)) cs) ≡ (if b then behind_some_run (fits (start ++ others)) cs else first_and_rest (letter_fits p) (fits (start ++ others)) cs)
    at alike true = run_alike (fits (start ++ some)) (fits (start ++ others)) alike cs
    at alike false = letter_alike (fits (start ++ some)) (fits (start ++ others)) alike (letter_fits p) cs

-- a run behind a run is one run
run_twice : (f : List ℕ → Bool) (cs : List ℕ) → behind_some_run (behind_some_run f) cs ≡ behind_some_run f cs
run_twice f [] = refl
run_twice f (c ∷ cs) = ap (λ b. (f (c ∷ cs) || behind_some_run f cs) || b) (run_twice f cs) ∙ once (f (c ∷ cs)) (behind_some_run f cs)
  where
    once : (a b : Bool) → ((a || b) || b) ≡ (a || b)
    once true b = refl
    once false true = refl
    once false false = refl

pub two_runs : (pattern cs : List ℕ) → fits (37 ∷ pattern) cs ≡ fits (37 ∷ 37 ∷ pattern) cs
unfolding fits
two_runs pattern cs = sym (run_twice (fits pattern) cs)
