-- A piece of a pattern, as its literal characters at the start and what follows them, at a place of a text.
use Rattle.std.proofs.Common.{◌≡◌, ◌∙◌, sym, ap, refl, subst, arith, ℕ, ◌<◌, ◌==◌, ◌||◌, ◌&&◌, false, List, [], ◌∷◌, ◌++◌, length, append-nil, ◌⊎◌, inl, inr}
use Rattle.std.proofs.lemmas.Bool.Decides.{nat_tests}
use Rattle.std.proofs.lemmas.List.{length-append}
use Rattle.dr_like.specs.Letters.{Lacks}
use Rattle.dr_like.specs.Like.{behind_some_run, is_empty, fits}
use Rattle.dr_like.specs.Left.{IsBehind, IsWalked}
use Rattle.dr_like.specs.declared.over.Over.{Over}
use Rattle.dr_like.specs.declared.walked.Walked.{Walked}
use Rattle.dr_like.specs.declared.walked.Walked.TheVariants.{Behind, Differs, TextEnds}
use Rattle.dr_like.specs.Pieces.{IsNowhere, IsBehindFirst, IsSameSearch}
use Rattle.dr_like.proofs.Patterns.{one_letter, behind-start, behind-then, behind-still, later-more, literal-past, too_short, too_short-later, gap-none, gap-one}

-- `_` at the start
pub gap-nowhere : (piece text p t : List ℕ) (c : ℕ) (ps : List ℕ) → IsSameSearch piece text p t → p ≡ c ∷ ps → c ≡ 95 → t ≡ [] → IsNowhere piece text
gap-nowhere piece text p t c ps search p_is gap t_is =
    λ q. search q ∙ (λ i. behind_some_run (fits (p_is i ++ 37 ∷ q)) (t_is i)) ∙ ap (λ x. behind_some_run (fits (x ∷ (ps ++ 37 ∷ q))) []) gap ∙ gap-none (ps ++ 37 ∷ q)

pub gap-more : (piece text p t : List ℕ) (c d : ℕ) (ps ts : List ℕ) → IsSameSearch piece text p t → p ≡ c ∷ ps → c ≡ 95 → t ≡ d ∷ ts → IsSameSearch piece text ps ts
gap-more piece text p t c d ps ts search p_is gap t_is =
    λ q. search q ∙ (λ i. behind_some_run (fits (p_is i ++ 37 ∷ q)) (t_is i)) ∙ ap (λ x. behind_some_run (fits (x ∷ (ps ++ 37 ∷ q))) (d ∷ ts)) gap ∙ gap-one (ps ++ 37 ∷ q) d ts

module _ (literal others here behind : List ℕ) (stands : here ≡ literal ++ behind) where
  past : (more : List ℕ) → Lacks 37 literal → IsBehind ((literal ++ others) ++ more) here (others ++ more) behind
  past more lacks = literal-past _ here literal others more behind lacks (subst (IsBehind _ here _) stands (behind-start _ here))

  pub parts-fit : (end : List ℕ) → Lacks 37 literal → ((more : List ℕ) → IsBehind (others ++ more) behind more end) → IsBehindFirst (literal ++ others) here end
  parts-fit end lacks walked = λ q. behind-still _ here q end (behind-then _ here _ behind _ end (past (37 ∷ q) lacks) (walked (37 ∷ q)))

  pub parts-short : Lacks 37 (literal ++ others) → length behind < length others → IsNowhere (literal ++ others) here
  parts-short lacks less =
      λ q. too_short-later (literal ++ others) (37 ∷ q) here lacks (omega (arith, less, ap length stands, length-append literal behind, length-append literal others))

  parts_differ : (more : List ℕ) → Lacks 37 literal → ((more : List ℕ) → fits (others ++ more) behind ≡ false) → fits ((literal ++ others) ++ more) here ≡ false
  parts_differ more lacks differs = (past more lacks).same ∙ differs more

  pub parts-later : (d : ℕ) (ds : List ℕ) → Lacks 37 literal → ((more : List ℕ) → fits (others ++ more) behind ≡ false) → here ≡ d ∷ ds → IsSameSearch (literal ++ others) here (literal ++ others) ds
  parts-later d ds lacks differs some =
      λ q. ap (behind_some_run (fits ((literal ++ others) ++ 37 ∷ q))) some ∙ later-more (fits ((literal ++ others) ++ 37 ∷ q)) d ds (sym (ap (fits ((literal ++ others) ++ 37 ∷ q)) some) ∙ parts_differ (37 ∷ q) lacks differs)

-- ---- the first letter of a piece, which is no `_`

module _ (letter : ℕ) (others : List ℕ) (runs : Lacks 37 (letter ∷ others)) (gap : (letter == 95) ≡ false) where
  other_letter : (q : List ℕ) (d : ℕ) (ds : List ℕ) → (d == letter) ≡ false → fits ((letter ∷ others) ++ 37 ∷ q) (d ∷ ds) ≡ false
  other_letter q d ds other =
      let differs : (letter == d) ≡ false = grind (arith, nat_tests) in
      one_letter letter (others ++ 37 ∷ q) runs.0 (d ∷ ds) ∙ ap (λ b. (b || (letter == d)) && fits (others ++ 37 ∷ q) ds) gap ∙ ap (λ b. b && fits (others ++ 37 ∷ q) ds) differs

  -- the piece isn't found where the letter doesn't stand
  pub letter-skips : (front here : List ℕ) → Lacks letter front → IsSameSearch (letter ∷ others) (front ++ here) (letter ∷ others) here
  letter-skips [] here lacks = λ q. refl
  letter-skips (d ∷ ds) here lacks = λ q. later-more (fits ((letter ∷ others) ++ 37 ∷ q)) d (ds ++ here) (other_letter q d (ds ++ here) lacks.0) ∙ letter-skips ds here lacks.1 q

  pub letter-nowhere : (text : List ℕ) → Lacks letter text → IsNowhere (letter ∷ others) text
  letter-nowhere [] lacks = λ q. one_letter letter (others ++ 37 ∷ q) runs.0 []
  letter-nowhere (d ∷ ds) lacks = λ q. later-more (fits ((letter ∷ others) ++ 37 ∷ q)) d ds (other_letter q d ds lacks.0) ∙ letter-nowhere ds lacks.1 q

-- a piece of no letters
pub none-fits : (text : List ℕ) → IsBehindFirst [] text text
none-fits text = λ q. behind-still (37 ∷ q) text q text (behind-start (37 ∷ q) text)

-- ---- a pattern up to its first run

-- where the piece doesn't fit, no pattern that begins with it does
pub walked-false : (piece text : List ℕ) (w : Walked) → Lacks 37 piece → IsWalked piece text w → ((o : Over) × (w ≡ Differs o)) ⊎ (w ≡ TextEnds) → (more : List ℕ) → fits (piece ++ more) text ≡ false
walked-false piece text (Behind s) lacks walked (inl is) = absurd (cc)
walked-false piece text (Behind s) lacks walked (inr is) = absurd (cc)
walked-false piece text (Differs o) lacks walked other = walked.0
walked-false piece text TextEnds lacks walked other = λ more. too_short piece more text lacks walked

pub walked-end : (piece text s : List ℕ) → ((more : List ℕ) → IsBehind (piece ++ more) text more s) → fits piece text ≡ is_empty s
unfolding fits
walked-end piece text s walked = ap (λ p. fits p text) (sym (append-nil piece)) ∙ (walked []).same

pub walked-run : (piece text s more : List ℕ) → ((more : List ℕ) → IsBehind (piece ++ more) text more s) → fits (piece ++ 37 ∷ more) text ≡ behind_some_run (fits more) s
unfolding fits
walked-run piece text s more walked = (walked (37 ∷ more)).same
