-- A window moves on row by row.
use Rattle.std.proofs.Common.{◌≡◌, ◌∙◌, sym, refl, ap, ℕ, zero, suc, ◌-◌, ◌+◌, Bool, true, false, List, [], ◌∷◌, drop, take, Option, Some, None, cond, arith}
use Rattle.std.specs.Prelude.{nat_lt}
use Rattle.std.proofs.lemmas.Bool.{lt-ltb}
use Rattle.dr_base.specs.declared.row.Row.{Row}
use Rattle.dr_answers.specs.Given.{limited}
use Rattle.dr_scan.specs.declared.window.Window.{Window}
use Rattle.dr_scan.specs.Entries.{less}
use Rattle.dr_scan.specs.Window.{given, after, has_left, takes, moved}

abbrev window : ℕ → Option ℕ → Window
window skip left = record { skip = skip; left = left }

some : (k : ℕ) → nat_lt 0 (suc k) ≡ true
some k = lt-ltb 0 (suc k) (omega arith)

one_less : (k : ℕ) → suc k - 1 ≡ k
one_less k = omega arith

skips : (k : ℕ) (left : Option ℕ) → takes (window (suc k) left) ≡ false
skips k left = ap (λ (b : Bool). cond b false (has_left left)) (some k)

skipped : (k : ℕ) (left : Option ℕ) → moved (window (suc k) left) ≡ window k left
skipped k left = ap (λ (b : Bool). cond b (window (suc k - 1) left) (window (suc k) (less left 1))) (some k) ∙ ap (λ j. window j left) (one_less k)

-- of one more row in front
pub given-more : (w : Window) (r : Row) (rs : List Row) → given w (r ∷ rs) ≡ cond (takes w) (r ∷ given (moved w) rs) (given (moved w) rs)
given-more w r rs = by_skip w.skip w.left
  where
    by_left : (left : Option ℕ) → limited left (r ∷ rs) ≡ cond (has_left left) (r ∷ limited (less left 1) rs) (limited (less left 1) rs)
    by_left None = refl
    by_left (Some zero) = refl
    by_left (Some (suc n)) = ap (λ k. r ∷ take k rs) (sym (one_less n)) ∙ ap (λ (b : Bool). cond b (r ∷ take (suc n - 1) rs) (take (suc n - 1) rs)) (sym (some n))

    by_skip : (skip : ℕ) (left : Option ℕ) → given (window skip left) (r ∷ rs) ≡ cond (takes (window skip left)) (r ∷ given (moved (window skip left)) rs) (given (moved (window skip left)) rs)
    by_skip zero left = by_left left
    by_skip (suc k) left =
        ap (λ (v : Window). given v rs) (sym (skipped k left))
        ∙ ap (λ (b : Bool). cond b (r ∷ given (moved (window (suc k) left)) rs) (given (moved (window (suc k) left)) rs)) (sym (skips k left))

less-less : (left : Option ℕ) (a b : ℕ) → less (less left a) b ≡ less left (a + b)
less-less None a b = refl
less-less (Some n) a b = ap Some (omega arith)

-- behind one more row
pub after-more : (w : Window) (n : ℕ) → after (moved w) n ≡ after w (n + 1)
after-more w n = by_skip w.skip w.left
  where
    same : (a b : ℕ) (c d : Option ℕ) → a ≡ b → c ≡ d → window a c ≡ window b d
    same a b c d e f = λ i. record { skip = e i; left = f i }

    by_skip : (skip : ℕ) (left : Option ℕ) → after (moved (window skip left)) n ≡ after (window skip left) (n + 1)
    by_skip zero left = same (zero - n) (zero - (n + 1)) (less (less left 1) (n - zero)) (less left (n + 1 - zero)) (omega arith) (less-less left 1 (n - zero) ∙ ap (less left) (omega arith))
    by_skip (suc k) left =
        ap (λ (v : Window). after v n) (skipped k left)
        ∙ same (k - n) (suc k - (n + 1)) (less left (n - k)) (less left (n + 1 - suc k)) (omega arith) (ap (less left) (omega arith))

-- of no row
abbrev none_of : List Row
none_of = []

drop-none : (n : ℕ) → drop n (none_of) ≡ none_of
drop-none zero = refl
drop-none (suc n) = refl

pub limited-none : (limit : Option ℕ) → limited limit none_of ≡ none_of
limited-none None = refl
limited-none (Some zero) = refl
limited-none (Some (suc n)) = refl

pub given-none : (w : Window) → given w [] ≡ []
given-none w = ap (limited w.left) (drop-none w.skip) ∙ limited-none w.left
