-- Patterns that ask for no more than others do.
use Rattle.std.proofs.Common.{◌≡◌, ◌∙◌, sym, refl, ap, Bool, true, false, not, ◌&&◌, ◌||◌, ℕ, ◌<◌, List, [], ◌∷◌, ◌++◌, length, get_or, append_assoc, reverse, true≢false, arith}
use Rattle.std.specs.List.{list_any, list_all}
use Rattle.std.specs.List.Sorted.{IsPermutation}
use Rattle.std.specs.Str.{chars, encode_utf8_all}
use Rattle.std.proofs.lemmas.List.Folds.{list_all_at}
use Rattle.std.proofs.lemmas.List.Sorted.{list_any-IsPermutation}
use Rattle.dr_like.specs.Like.{behind_some_run}
use Rattle.dr_patterns.specs.Begun.{begins}
use Rattle.dr_patterns.specs.Each.{fits_all}
use Rattle.dr_patterns.specs.Fitting.{fits_text}
use Rattle.dr_patterns.specs.Literals.{IsLiteral, starting, ending, holding}
use Rattle.dr_patterns.specs.Sides.{seen}
use Rattle.dr_patterns.specs.declared.side.Side.TheVariants.{Start, End}
use Rattle.dr_patterns.proofs.Begun.{begins-front, front-begins}
use Rattle.dr_patterns.proofs.Literals.{start-fits, end-fits, part-fits}

-- what begins with a text begins with each that this one begins with
begins-far : (x y t : List ℕ) → begins x y ≡ true → begins y t ≡ true → begins x t ≡ true
begins-far x y t near far =
    let front = front-begins x y near in
    let rest = front-begins y t far in
    ap (begins x) (rest.1 ∙ ap (λ l. l ++ rest.0) front.1 ∙ append_assoc x front.0 rest.0) ∙ begins-front x (front.0 ++ rest.0)

-- ---- one pattern implies another

pub start-implied : (x y text : List ℕ) → IsLiteral x → IsLiteral y → begins (seen Start x) (seen Start y) ≡ true → fits_text (starting y) text ≡ true → fits_text (starting x) text ≡ true
start-implied x y text short long near fit =
    start-fits x short (chars text) ∙ begins-far x y (encode_utf8_all (chars text)) near (sym (start-fits y long (chars text)) ∙ fit)

pub end-implied : (x y text : List ℕ) → IsLiteral x → IsLiteral y → begins (seen End x) (seen End y) ≡ true → fits_text (ending y) text ≡ true → fits_text (ending x) text ≡ true
end-implied x y text short long near fit =
    end-fits x short (chars text) ∙ begins-far (seen End x) (seen End y) (reverse (chars text)) near (sym (end-fits y long (chars text)) ∙ fit)

-- what is found behind some run is, where that implies another thing
either_side : (a b c d : Bool) → (a ≡ true → c ≡ true) → (b ≡ true → d ≡ true) → (a || b) ≡ true → (c || d) ≡ true
either_side true b c d left right h = ap (λ z. z || d) (left refl)
either_side false b true d left right h = refl
either_side false b false d left right h = right h

behind_implied : (f g : List ℕ → Bool) → ((ds : List ℕ) → f ds ≡ true → g ds ≡ true) → (cs : List ℕ) → behind_some_run f cs ≡ true → behind_some_run g cs ≡ true
behind_implied f g more [] h = more [] h
behind_implied f g more (c ∷ cs) h = either_side (f (c ∷ cs)) (behind_some_run f cs) (g (c ∷ cs)) (behind_some_run g cs) (more (c ∷ cs)) (behind_implied f g more cs) h

pub part-implied : (x y text : List ℕ) → IsLiteral x → IsLiteral y → begins (seen Start x) (seen Start y) ≡ true → fits_text (holding y) text ≡ true → fits_text (holding x) text ≡ true
part-implied x y text short long near fit =
    part-fits x short (chars text)
    ∙ behind_implied (λ ds. begins y (encode_utf8_all ds)) (λ ds. begins x (encode_utf8_all ds)) (λ ds. begins-far x y (encode_utf8_all ds) near) (chars text) (sym (part-fits y long (chars text)) ∙ fit)

-- ---- each of some patterns

all-any : (f : List ℕ → Bool) (xs : List (List ℕ)) → list_all f xs ≡ not (list_any (λ x. not (f x)) xs)
all-any f [] = refl
all-any f (x ∷ xs) = ap (λ b. f x && b) (all-any f xs) ∙ at (f x) (list_any (λ y. not (f y)) xs)
  where
    at : (a b : Bool) → (a && not b) ≡ not (not a || b)
    at true b = refl
    at false b = refl

pub all-moved : (xs ys : List (List ℕ)) (text : List ℕ) → IsPermutation xs ys → fits_all ys text ≡ fits_all xs text
all-moved xs ys text moved =
    all-any (λ p. fits_text p text) ys ∙ ap not (sym (list_any-IsPermutation (λ p. not (fits_text p text)) xs ys moved)) ∙ sym (all-any (λ p. fits_text p text) xs)

-- a text that fits each fits the one at a place
pub fits-there : (xs : List (List ℕ)) (i : ℕ) (d text : List ℕ) → i < length xs → fits_all xs text ≡ true → fits_text (get_or xs i d) text ≡ true
fits-there xs i d text lt h = at (fits_text (get_or xs i d) text) refl
  where
    at : (b : Bool) → fits_text (get_or xs i d) text ≡ b → fits_text (get_or xs i d) text ≡ true
    at true e = e
    at false e = absurd (true≢false (sym h ∙ list_all_at (λ p. fits_text p text) xs i d lt e))

-- what is implied may be left out
pub implied-all : (a b : Bool) → (a ≡ true → b ≡ true) → a ≡ (a && b)
implied-all true b h = sym (h refl)
implied-all false b h = refl

-- a list of no members
pub nothing_left : (xs : List (List ℕ)) → length xs ≡ 0 → xs ≡ []
nothing_left [] h = refl
nothing_left (x ∷ xs) h = absurd (omega (arith, h))
