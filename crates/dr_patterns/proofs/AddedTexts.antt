-- A text that was added to a set: what passes a test then.
use Rattle.std.proofs.Common.{◌≡◌, ◌∙◌, sym, refl, ap, Bool, true, false, not, ◌||◌, ℕ, ◌<◌, ◌≤◌, arith, List, [], ◌∷◌, ◌++◌, length, bytes_eq, true≢false}
use Rattle.std.specs.List.{list_any, AllByRecursion}
use Rattle.std.specs.Cmp.Lexicographic.{bytes_decides}
use Rattle.std.proofs.lemmas.List.Folds.{list_any-append}
use Rattle.dr_base.proofs.Truths.{or_ends}

-- a text that is there passes with the others
passes_there : (test : List ℕ → Bool) (texts : List (List ℕ)) (text : List ℕ) → list_any (bytes_eq text) texts ≡ true → list_any test texts ≡ (list_any test texts || test text)
passes_there test [] text there = absurd (true≢false (sym there))
passes_there test (t ∷ ts) text there = at (bytes_eq text t) refl there (passes_there test ts text)
  where
    twice : (a b : Bool) → (a || b) ≡ ((a || b) || a)
    twice true b = refl
    twice false true = refl
    twice false false = refl

    more : (a b c : Bool) → b ≡ (b || c) → (a || b) ≡ ((a || b) || c)
    more true b c same = refl
    more false b c same = same

    at : (b : Bool) → bytes_eq text t ≡ b → (b || list_any (bytes_eq text) ts) ≡ true → (list_any (bytes_eq text) ts ≡ true → list_any test ts ≡ (list_any test ts || test text))
        → list_any test (t ∷ ts) ≡ (list_any test (t ∷ ts) || test text)
    at true is h rest = let same : text ≡ t = (bytes_decides text t).0 is in twice (test t) (list_any test ts) ∙ ap (λ x. list_any test (t ∷ ts) || test x) (sym same)
    at false is h rest = more (test t) (list_any test ts) (test text) (rest h)

pub added-any : (old new : List (List ℕ)) (text : List ℕ) (is_new : Bool) → is_new ≡ not (list_any (bytes_eq text) old) → (is_new ≡ true → new ≡ old ++ text ∷ []) → (is_new ≡ false → new ≡ old)
    → (test : List ℕ → Bool) → list_any test new ≡ (list_any test old || test text)
added-any old new text true is added same test = ap (list_any test) (added refl) ∙ list_any-append test old (text ∷ []) ∙ or_ends (list_any test old) (test text)
added-any old new text false is added same test = ap (list_any test) (same refl) ∙ passes_there test old text (there (list_any (bytes_eq text) old) is)
  where
    there : (b : Bool) → false ≡ not b → b ≡ true
    there true h = refl
    there false h = h

-- a text as long as the bound isn't among those that are below it
pub none_as_long : (bound : ℕ) (texts : List (List ℕ)) (text : List ℕ) → AllByRecursion (λ t. length t < bound) texts → bound ≤ length text → list_any (bytes_eq text) texts ≡ false
none_as_long bound [] text all long = refl
none_as_long bound (t ∷ ts) text all long = at (bytes_eq text t) refl (none_as_long bound ts text all.1 long)
  where
    at : (b : Bool) → bytes_eq text t ≡ b → list_any (bytes_eq text) ts ≡ false → (b || list_any (bytes_eq text) ts) ≡ false
    at true is rest = let same = ap length ((bytes_decides text t).0 is) in let short = all.0 in absurd (omega (arith, same, short, long))
    at false is rest = rest
