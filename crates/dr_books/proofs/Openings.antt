-- The shares of two books, one behind the other.
use Rattle.std.proofs.Common.{◌≡◌, ap, subst, ℕ, ◌+◌, Bool, List, [], ◌∷◌, ◌++◌, length, map, arith, length-append, add-zero}
use Rattle.std.proofs.lemmas.List.{length-map}
use Rattle.dr_books.specs.declared.side.Side.{Side}
use Rattle.dr_books.specs.Opened.{AreOpened, AreOpenedFrom}
use Rattle.dr_books.specs.Sides.{match_side, first, second}

module _ {A B : Type 0} (seats : ℕ) (place mine floor : A → ℕ) (whole : A → Bool) (place' mine' floor' : B → ℕ) (whole' : B → Bool) where
  abbrev Joined : ℕ → List (Side A B) → Type 0
  Joined from sides = AreOpenedFrom (λ s. match_side place (λ b. seats + place' b) s) (λ s. match_side mine mine' s) (λ s. match_side floor floor' s) (λ s. match_side whole whole' s) from sides

  firsts : (from : ℕ) (xs : List A) (rest : List (Side A B)) → AreOpenedFrom place mine floor whole from xs → Joined (from + length xs) rest → Joined from (map first xs ++ rest)
  firsts from [] rest h k = let P : ℕ → Type 0 = λ n. Joined n rest in subst P (add-zero from) k
  firsts from (a ∷ xs) rest h k =
      let P : ℕ → Type 0 = λ n. Joined n rest in
      let e : from + length (a ∷ xs) ≡ (from + 1) + length xs = omega arith in
      (h.0, h.1, h.2, h.3, firsts (from + 1) xs rest h.4 (subst P e k))

  seconds : (from : ℕ) (ys : List B) → AreOpenedFrom place' mine' floor' whole' from ys → Joined (seats + from) (map second ys)
  seconds from [] h = tt
  seconds from (b ∷ ys) h =
      let P : ℕ → Type 0 = λ n. Joined n (map second ys) in
      let e : seats + (from + 1) ≡ (seats + from) + 1 = omega arith in
      (ap (λ n. seats + n) h.0, h.1, h.2, h.3, subst P e (seconds (from + 1) ys h.4))

  pub both_opened : (n : ℕ) (xs : List A) (ys : List B) (sides : List (Side A B))
      → AreOpened place mine floor whole seats xs → AreOpened place' mine' floor' whole' n ys → sides ≡ map first xs ++ map second ys
      → AreOpened (λ s. match_side place (λ b. seats + place' b) s) (λ s. match_side mine mine' s) (λ s. match_side floor floor' s) (λ s. match_side whole whole' s) (seats + n) sides
  both_opened n xs ys sides h k e =
      let P : ℕ → Type 0 = λ m. Joined m (map second ys) in
      let behind : seats + 0 ≡ 0 + length xs = let l = h.all in omega arith in
      record {
        all = rw e (let l = h.all in let m = k.all in omega (arith, length-append (map first xs) (map second ys), length-map xs (first {A = A} {B = B}), length-map ys (second {A = A} {B = B})));
        each = rw e (firsts 0 xs (map second ys) h.each (subst P behind (seconds 0 ys k.each)));
      }
