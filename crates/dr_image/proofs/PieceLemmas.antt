-- Lists that lie one behind the other.
use Rattle.std.proofs.Common.{◌≡◌, ◌∙◌, sym, refl, ap, ℕ, zero, suc, ◌+◌, ◌-◌, ◌<◌, ◌≤◌, true, false, List, [], ◌∷◌, length, take, drop, get_or, map, arith}
use Rattle.std.specs.Prelude.{nat_le, ◌==◌, ◌&&◌}
use Rattle.std.proofs.lemmas.Bool.{and_parts, and_left, leb-true, eqb-true, le-leb, lt-leb}
use Rattle.std.proofs.lemmas.List.{drop_more, drop_all, get_or-map}
use Rattle.dr_image.specs.Words.{word}
use Rattle.dr_image.specs.Pieces.{pieces, ends_fit}

-- ends that fit lie within what they divide, and don't fall
pub record IsWithin (start : ℕ) (ends : List ℕ) (last i : ℕ) : Type 0 where
  pub rises : get_or (start ∷ ends) i 0 ≤ get_or ends i 0
  pub ends_in : get_or ends i 0 ≤ last

pub start_within : (start : ℕ) (ends : List ℕ) (last : ℕ) → ends_fit start ends last ≡ true → start ≤ last
unfolding ends_fit
start_within start [] last fit = let e = eqb-true start last fit in omega arith
start_within start (end ∷ ends) last fit =
    let p = and_parts _ _ fit in
    let l = leb-true start end p.0 in
    let r = start_within end ends last p.1 in
    omega arith

pub within : (start : ℕ) (ends : List ℕ) (last i : ℕ) → ends_fit start ends last ≡ true → i < length ends → IsWithin start ends last i
unfolding ends_fit
within start [] last i fit lt = absurd (omega arith)
within start (end ∷ ends) last zero fit lt =
    let p = and_parts _ _ fit in
    record { rises = leb-true start end p.0; ends_in = start_within end ends last p.1 }
within start (end ∷ ends) last (suc i) fit lt =
    let p = and_parts _ _ fit in
    let r = within end ends last i p.1 (omega arith) in
    record { rises = r.rises; ends_in = r.ends_in }

-- a piece, by its ends
pub get_or-pieces : {A : Type 0} (start : ℕ) (ends : List ℕ) (all : List A) (i : ℕ) → i < length ends
    → get_or (pieces start ends all) i [] ≡ take (get_or ends i 0 - get_or (start ∷ ends) i 0) (drop (get_or (start ∷ ends) i 0) all)
unfolding pieces
get_or-pieces start [] all i lt = absurd (omega arith)
get_or-pieces start (end ∷ ends) all zero lt = refl
get_or-pieces start (end ∷ ends) all (suc i) lt = get_or-pieces end ends all i (omega arith)

pub length-pieces : {A : Type 0} (start : ℕ) (ends : List ℕ) (all : List A) → length (pieces start ends all) ≡ length ends
unfolding pieces
length-pieces start [] all = refl
length-pieces start (end ∷ ends) all = ap suc (length-pieces end ends all)

-- ---- a loop over the ends

ends_fit-step : (cells : List (List ℕ)) (i start last : ℕ) → i < length cells
    → ends_fit start (map word (drop i cells)) last ≡ (nat_le start (word (get_or cells i [])) && ends_fit (word (get_or cells i [])) (map word (drop (i + 1) cells)) last)
unfolding ends_fit
ends_fit-step cells i start last lt = rw (drop_more cells i [] lt) refl

pub ends_fit-falls : (cells : List (List ℕ)) (i start end last : ℕ) → i < length cells → end ≡ word (get_or cells i []) → end < start
    → ends_fit start (map word (drop i cells)) last ≡ false
ends_fit-falls cells i start end last lt is falls =
    ends_fit-step cells i start last lt ∙ and_left _ _ (lt-leb start (word (get_or cells i [])) (omega arith))

pub ends_fit-goes_on : (cells : List (List ℕ)) (i start end last : ℕ) → i < length cells → end ≡ word (get_or cells i []) → start ≤ end
    → ends_fit start (map word (drop i cells)) last ≡ ends_fit end (map word (drop (i + 1) cells)) last
ends_fit-goes_on cells i start end last lt is rises =
    ends_fit-step cells i start last lt
    ∙ ap (λ b. b && ends_fit (word (get_or cells i [])) (map word (drop (i + 1) cells)) last) (le-leb start (word (get_or cells i [])) (omega arith))
    ∙ ap (λ e. ends_fit e (map word (drop (i + 1) cells)) last) (sym is)

pub ends_fit-ends : (cells : List (List ℕ)) (i start last : ℕ) → length cells ≤ i → ends_fit start (map word (drop i cells)) last ≡ (start == last)
unfolding ends_fit
ends_fit-ends cells i start last le = rw (drop_all i cells le) refl

-- ---- one of the ends

pub word_in : (cells : List (List ℕ)) (i : ℕ) → i < length cells → get_or (map word cells) i 0 ≡ word (get_or cells i [])
word_in cells i lt = get_or-map word cells i [] 0 lt

pub word_before : (cells : List (List ℕ)) (i : ℕ) → i < length cells → (i ≡ 0 → ⊥) → get_or (0 ∷ map word cells) i 0 ≡ word (get_or cells (i - 1) [])
word_before cells zero lt some = absurd (some refl)
word_before cells (suc i) lt some =
    word_in cells i (omega arith) ∙ ap (λ k. word (get_or cells k [])) (omega arith)
