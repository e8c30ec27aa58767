-- Pieces of a pattern that stand at a place of a text.
use Rattle.std.proofs.Common.{inl, inr, ◌≡◌, ◌≢◌, ◌∙◌, sym, refl, ap, subst, ℕ, zero, suc, ◌+◌, ◌-◌, ◌<◌, ◌≤◌, ◌==◌, ◌&&◌, ◌||◌, Bool, true, false, true≢false, List, [], ◌∷◌, ◌++◌, length, get_or, drop, drop-drop, append-nil, arith}
use Rattle.std.proofs.lemmas.Bool.{and_parts, and_right, cases_lt}
use Rattle.std.proofs.lemmas.Bool.Decides.{nat_tests}
use Rattle.std.proofs.lemmas.List.{length-drop}
use Rattle.dr_like.specs.Letters.{Lacks}
use Rattle.dr_like.specs.Like.{fits, letter_fits, behind_some_run}
use Rattle.dr_like.specs.Left.{IsBehind}
use Rattle.dr_like.specs.Pieces.{IsNowhere, IsBehindFirst}
use Rattle.dr_like.proofs.Patterns.{one_letter, later-more, behind-start, behind-more, behind-still, too_short-later}
use Rattle.dr_places.specs.Places.{begins}

-- ---- one place

-- a text of fewer characters
pub begins-short : (p t : List ℕ) → length t < length p → begins p t ≡ false
begins-short [] t less = absurd (omega (arith, less))
begins-short (c ∷ cs) [] less = refl
begins-short (c ∷ cs) (d ∷ ds) less = and_right (letter_fits c d) _ (begins-short cs ds (omega (arith, less)))

pub begins-empty : (p t : List ℕ) → length p ≡ 0 → begins p t ≡ true
begins-empty [] t none = refl
begins-empty (c ∷ cs) t none = absurd (omega (arith, none))

pub any_letter : (letter c : ℕ) → letter ≡ 95 → letter_fits letter c ≡ true
any_letter letter c any = grind (arith, nat_tests, any)

pub one_fits : (letter c : ℕ) → letter ≢ 95 → letter_fits letter c ≡ (c == letter)
one_fits letter c one = grind (arith, nat_tests, one)

module _ (pattern text : List ℕ) where
  behind-all : (p more t : List ℕ) → Lacks 37 p → begins p t ≡ true → IsBehind pattern text (p ++ more) t → IsBehind pattern text more (drop (length p) t)
  behind-all [] more t lacks is so_far = so_far
  behind-all (c ∷ cs) more [] lacks is so_far = absurd (cc is)
  behind-all (c ∷ cs) more (d ∷ ds) lacks is so_far =
      let both = and_parts (letter_fits c d) (begins cs ds) is in
      behind-all cs more ds lacks.1 both.1 (behind-more pattern text c d (cs ++ more) ds so_far lacks.0 both.0)

pub begun : (p more t : List ℕ) → Lacks 37 p → begins p t ≡ true → IsBehind (p ++ more) t more (drop (length p) t)
begun p more t lacks is = behind-all (p ++ more) t p more t lacks is (behind-start (p ++ more) t)

pub not-begun : (p more t : List ℕ) → Lacks 37 p → begins p t ≡ false → fits (p ++ more) t ≡ false
not-begun [] more t lacks is = absurd (cc is)
not-begun (c ∷ cs) more [] lacks is = one_letter c (cs ++ more) lacks.0 []
not-begun (c ∷ cs) more (d ∷ ds) lacks is = one_letter c (cs ++ more) lacks.0 (d ∷ ds) ∙ at (letter_fits c d) refl (λ misses. not-begun cs more ds lacks.1 misses)
  where
    at : (b : Bool) → letter_fits c d ≡ b → (begins cs ds ≡ false → fits (cs ++ more) ds ≡ false) → (b && fits (cs ++ more) ds) ≡ false
    at false miss rest = refl
    at true fit rest = rest (sym (ap (λ b. b && begins cs ds) fit) ∙ is)

-- ---- places one after another

module _ (f : List ℕ → Bool) where
  -- places where nothing passes are left out
  pub places-skipped : (d : ℕ) (t : List ℕ) → d ≤ length t → ((j : ℕ) → j < d → f (drop j t) ≡ false) → behind_some_run f t ≡ behind_some_run f (drop d t)
  places-skipped zero t le fails = refl
  places-skipped (suc d) [] le fails = absurd (omega (arith, le))
  places-skipped (suc d) (c ∷ cs) le fails = later-more f c cs (fails 0 (omega arith)) ∙ places-skipped d cs (omega (arith, le)) (λ j lt. fails (suc j) (omega (arith, lt)))

  pub nowhere : (t : List ℕ) → ((j : ℕ) → f (drop j t) ≡ false) → behind_some_run f t ≡ false
  nowhere [] fails = fails 0
  nowhere (c ∷ cs) fails = later-more f c cs (fails 0) ∙ nowhere cs (λ j. fails (suc j))

-- a piece that a run follows, looked for from a place on
module _ (p text : List ℕ) (lacks : Lacks 37 p) (from : ℕ) where
  pub stands-nowhere : ((o : ℕ) → from ≤ o → begins p (drop o text) ≡ false) → IsNowhere p (drop from text)
  stands-nowhere fails q = nowhere (fits (p ++ 37 ∷ q)) (drop from text) (λ j.
      not-begun p (37 ∷ q) (drop j (drop from text)) lacks (ap (begins p) (drop-drop j from text) ∙ fails (from + j) (omega arith)))

  pub stands-first : (o : ℕ) → from ≤ o → o + length p ≤ length text → begins p (drop o text) ≡ true → ((k : ℕ) → from ≤ k → k < o → begins p (drop k text) ≡ false)
      → IsBehindFirst p (drop from text) (drop (o + length p) text)
  stands-first o le within is before q =
      let far : from + (o - from) ≡ o = omega (arith, le) in
      places-skipped (fits (p ++ 37 ∷ q)) (o - from) (drop from text) (omega (arith, within, length-drop from text))
      (λ j lt. not-begun p (37 ∷ q) (drop j (drop from text)) lacks (ap (begins p) (drop-drop j from text) ∙ before (from + j) (omega arith) (omega (arith, lt))))
      ∙ ap (behind_some_run (fits (p ++ 37 ∷ q))) (drop-drop (o - from) from text ∙ ap (λ n. drop n text) far)
      ∙ behind-still (p ++ 37 ∷ q) (drop o text) q (drop (length p) (drop o text)) (begun p (37 ∷ q) (drop o text) lacks is)
      ∙ ap (behind_some_run (fits q)) (drop-drop (length p) o text)

-- ---- the start and the end of a text

pub start-fits : (p more t : List ℕ) → Lacks 37 p → begins p t ≡ true → fits (p ++ 37 ∷ more) t ≡ behind_some_run (fits more) (drop (length p) t)
unfolding fits
start-fits p more t lacks is = (begun p (37 ∷ more) t lacks is).same

too_long : (p t : List ℕ) → Lacks 37 p → length p < length t → fits p t ≡ false
unfolding fits
too_long [] [] lacks less = absurd (omega (arith, less))
too_long [] (d ∷ ds) lacks less = refl
too_long (c ∷ cs) [] lacks less = absurd (omega (arith, less))
too_long (c ∷ cs) (d ∷ ds) lacks less = one_letter c cs lacks.0 (d ∷ ds) ∙ and_right (letter_fits c d) _ (too_long cs ds lacks.1 (omega (arith, less)))

as_long : (p t : List ℕ) → Lacks 37 p → length t ≡ length p → fits p t ≡ begins p t
unfolding fits
as_long [] [] lacks same = refl
as_long [] (d ∷ ds) lacks same = absurd (omega (arith, same))
as_long (c ∷ cs) [] lacks same = absurd (omega (arith, same))
as_long (c ∷ cs) (d ∷ ds) lacks same = one_letter c cs lacks.0 (d ∷ ds) ∙ ap (λ b. letter_fits c d && b) (as_long cs ds lacks.1 (omega (arith, same)))

-- a pattern without a run fits a text of as many characters where it stands at its start, and no other
pub whole-stands : (p t : List ℕ) → Lacks 37 p → length t ≡ length p → begins p t ≡ fits p t
whole-stands p t lacks same = sym (as_long p t lacks same)

pub whole-misses : (p t : List ℕ) → Lacks 37 p → length t ≢ length p → false ≡ fits p t
whole-misses p t lacks other = elim (cases_lt (length p) (length t)) [
  | inl less ↦ sym (too_long p t lacks less)
  | inr more ↦ sym (subst (λ l. fits l t ≡ false) (append-nil p) (not-begun p [] t lacks (begins-short p t (omega (arith, more, other)))))
]

at_end : (p t : List ℕ) → Lacks 37 p → length t ≡ length p → behind_some_run (fits p) t ≡ begins p t
at_end p [] lacks same = as_long p [] lacks same
at_end p (d ∷ ds) lacks same =
    ap (λ b. fits p (d ∷ ds) || b) (ap (λ l. behind_some_run (fits l) ds) (sym (append-nil p)) ∙ too_short-later p [] ds lacks (omega (arith, same)))
    ∙ alone (fits p (d ∷ ds)) ∙ as_long p (d ∷ ds) lacks same
  where
    alone : (b : Bool) → (b || false) ≡ b
    alone true = refl
    alone false = refl

-- a pattern without a run fits some end of a text where it stands at its last place
pub end-stands : (p text : List ℕ) (from : ℕ) → Lacks 37 p → from + length p ≤ length text → begins p (drop (length text - length p) text) ≡ behind_some_run (fits p) (drop from text)
end-stands p text from lacks within =
    let d = length text - length p - from in
    let place : from + d ≡ length text - length p = omega (arith, within) in
    let at : drop d (drop from text) ≡ drop (length text - length p) text = drop-drop d from text ∙ ap (λ n. drop n text) place in
    sym (places-skipped (fits p) d (drop from text) (omega (arith, within, length-drop from text))
    (λ j lt. too_long p (drop j (drop from text)) lacks (omega (arith, lt, within, length-drop from text, length-drop j (drop from text))))
    ∙ ap (behind_some_run (fits p)) at
    ∙ at_end p (drop (length text - length p) text) lacks (omega (arith, within, length-drop (length text - length p) text)))

pub end-short : (p text : List ℕ) (from : ℕ) → Lacks 37 p → length text - from < length p → false ≡ behind_some_run (fits p) (drop from text)
end-short p text from lacks less =
    sym (ap (λ l. behind_some_run (fits l) (drop from text)) (sym (append-nil p)) ∙ too_short-later p [] (drop from text) lacks (omega (arith, less, length-drop from text)))

-- ---- the letters of a piece, one after another

-- the letter at a place, and those behind it
pub begins-next : (i j : ℕ) (p t : List ℕ) → i < length p → j < length t
    → begins (drop i p) (drop j t) ≡ (letter_fits (get_or p i 0) (get_or t j 0) && begins (drop (suc i) p) (drop (suc j) t))
begins-next i j [] t lt within = absurd (omega (arith, lt))
begins-next i j (c ∷ cs) [] lt within = absurd (omega (arith, within))
begins-next zero zero (c ∷ cs) (d ∷ ds) lt within = refl
begins-next (suc i) zero (c ∷ cs) (d ∷ ds) lt within = begins-next i zero cs (d ∷ ds) (omega (arith, lt)) (omega arith)
begins-next zero (suc j) (c ∷ cs) (d ∷ ds) lt within = begins-next zero j (c ∷ cs) ds lt (omega (arith, within))
begins-next (suc i) (suc j) (c ∷ cs) (d ∷ ds) lt within = begins-next (suc i) j (c ∷ cs) ds lt (omega (arith, within))

-- a letter that fits tells nothing of the piece, and one that doesn't all
pub begins-more : (k place : ℕ) (p t : List ℕ) → k < length p → place + k < length t → letter_fits (get_or p k 0) (get_or t (place + k) 0) ≡ true
    → begins p (drop place t) ≡ begins (drop k p) (drop (place + k) t) → begins p (drop place t) ≡ begins (drop (k + 1) p) (drop (place + (k + 1)) t)
begins-more k place p t lt within fit was =
    let next : suc k ≡ k + 1 = omega arith in
    let after : suc (place + k) ≡ place + (k + 1) = omega arith in
    was ∙ begins-next k (place + k) p t lt within ∙ ap (λ b. b && begins (drop (suc k) p) (drop (suc (place + k)) t)) fit
    ∙ ap (λ n. begins (drop n p) (drop (suc (place + k)) t)) next ∙ ap (λ n. begins (drop (k + 1) p) (drop n t)) after

pub equal-fits : (letter c : ℕ) → c ≡ letter → letter_fits letter c ≡ true
equal-fits letter c same = grind (arith, nat_tests, same)

-- ---- the first letters of a piece, neither of which is an `_`

both-off : (a b c : Bool) → (a && b) ≡ false → (a && (b && c)) ≡ false
both-off false b c off = refl
both-off true false c off = refl
both-off true true c off = absurd (true≢false off)

pub first-misses : (first k : ℕ) (p t : List ℕ) → 0 < length p → k < length t → first ≢ 95 → first ≡ get_or p 0 0 → (get_or t k 0 == first) ≡ false → begins p (drop k t) ≡ false
first-misses first k p t some lt one is misses =
    begins-next 0 k p t some lt ∙ ap (λ b. b && begins (drop 1 p) (drop (suc k) t)) (ap (λ n. letter_fits n (get_or t k 0)) (sym is) ∙ one_fits first (get_or t k 0) one ∙ misses)

pub second-misses : (first second k : ℕ) (p t : List ℕ) → 1 < length p → k + 1 < length t → first ≢ 95 → second ≢ 95 → first ≡ get_or p 0 0 → second ≡ get_or p 1 0
    → ((get_or t k 0 == first) && (get_or t (k + 1) 0 == second)) ≡ false → begins p (drop k t) ≡ false
second-misses first second k p t more lt one two is are misses =
    let next : k + 1 ≡ suc k = omega arith in
    let a = ap (λ n. letter_fits n (get_or t k 0)) (sym is) ∙ one_fits first (get_or t k 0) one in
    let b = ap (λ n. letter_fits n (get_or t (suc k) 0)) (sym are) ∙ one_fits second (get_or t (suc k) 0) two in
    begins-next 0 k p t (omega (arith, more)) (omega (arith, lt))
    ∙ ap (λ x. letter_fits (get_or p 0 0) (get_or t k 0) && x) (begins-next 1 (suc k) p t more (omega (arith, lt)))
    ∙ both-off (letter_fits (get_or p 0 0) (get_or t k 0)) (letter_fits (get_or p 1 0) (get_or t (suc k) 0)) (begins (drop 2 p) (drop (suc (suc k)) t))
    (ap (λ x. x && letter_fits (get_or p 1 0) (get_or t (suc k) 0)) a ∙ ap (λ x. (get_or t k 0 == first) && x) b
    ∙ ap (λ n. (get_or t k 0 == first) && (get_or t n 0 == second)) (sym next) ∙ misses)
