-- Patterns whose runs are put together, letter by letter.
use Rattle.std.proofs.Common.{◌≡◌, sym, refl, subst, ℕ, ◌==◌, ◌&&◌, not, Bool, true, false, List, [], ◌∷◌, ◌++◌, arith}
use Rattle.std.proofs.lemmas.Bool.Decides.{nat_tests}
use Rattle.dr_like.specs.Like.{fits}
use Rattle.dr_like.proofs.Runs.{same_behind, two_runs}
use Rattle.dr_patterns.specs.Runs.{runs_are_apart}

abbrev pub ends_with_run : (pattern : List ℕ) → Bool
ends_with_run [] = false
ends_with_run (c ∷ []) = c == 37
ends_with_run (c ∷ d ∷ ds) = ends_with_run (d ∷ ds)

pub ends-push : (front : List ℕ) (c : ℕ) → ends_with_run (front ++ c ∷ []) ≡ (c == 37)
ends-push [] c = refl
ends-push (a ∷ []) c = refl
ends-push (a ∷ b ∷ front) c = ends-push (b ∷ front) c

pub apart-push : (front : List ℕ) (c : ℕ) → (c == 37 && ends_with_run front) ≡ false → runs_are_apart front ≡ true → runs_are_apart (front ++ c ∷ []) ≡ true
apart-push [] c fails apart = alone (c == 37)
  where
    alone : (b : Bool) → (not (b && false) && true) ≡ true
    alone true = refl
    alone false = refl
apart-push (a ∷ []) c fails apart = two (a == 37) (c == 37) fails
  where
    two : (b d : Bool) → (d && b) ≡ false → (not (b && d) && (not (d && false) && true)) ≡ true
    two true true fails = sym fails
    two true false fails = refl
    two false true fails = refl
    two false false fails = refl
apart-push (a ∷ b ∷ front) c fails apart = both (a == 37 && b == 37) (apart-push (b ∷ front) c fails) apart
  where
    both : (d : Bool) → (runs_are_apart (b ∷ front) ≡ true → runs_are_apart (b ∷ front ++ c ∷ []) ≡ true) → (not d && runs_are_apart (b ∷ front)) ≡ true → (not d && runs_are_apart (b ∷ front ++ c ∷ [])) ≡ true
    both true then apart = apart
    both false then apart = then apart

-- a run behind one that a pattern ends with changes nothing
pub run-again : (front more : List ℕ) → ends_with_run front ≡ true → (cs : List ℕ) → fits (front ++ more) cs ≡ fits (front ++ 37 ∷ more) cs
run-again [] more ends cs = absurd (cc ends)
run-again (a ∷ []) more ends cs =
    let is : 37 ≡ a = grind (arith, nat_tests, ends) in
    subst (λ p. fits (p ∷ more) cs ≡ fits (p ∷ 37 ∷ more) cs) is (two_runs more cs)
run-again (a ∷ b ∷ front) more ends cs = same_behind (a ∷ []) (b ∷ front ++ more) (b ∷ front ++ 37 ∷ more) (run-again (b ∷ front) more ends) cs
