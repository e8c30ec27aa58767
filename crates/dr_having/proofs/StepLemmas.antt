-- The numbers of a set, from cut to cut.
use Rattle.std.proofs.Common.{◌≡◌, ◌∙◌, sym, refl, ap, ℤ, ◌≤ℤ◌, int_le, int_lt, not, ◌&&◌, ◌||◌, Bool, true, false, if◌then◌else◌, Option, Some, None, List, [], ◌∷◌, arith}
use Rattle.std.proofs.lemmas.Int.{ints}
use Rattle.dr_rowindex.specs.Orders.{reached, lies_between}
use Rattle.dr_having.specs.Steps.{turned_by, Rise}
use Rattle.dr_having.proofs.Turning.{before}

-- no cut that is left lies before the last
abbrev pub IsBelow : Option ℤ → List ℤ → Type 0
IsBelow None cuts = Rise cuts
IsBelow (Some from) cuts = Rise (from ∷ cuts)

-- what lies before the next cut
not-yet : (within : Bool) (n c : ℤ) (cuts : List ℤ) → int_lt n c ≡ true → Rise (c ∷ cuts) → turned_by within (c ∷ cuts) n ≡ within
not-yet within n c cuts lt rise =
    let no : int_le c n ≡ false = grind (arith, ints) in
    ap (λ b. turned_by (if b then not within else within) cuts n) no ∙ before c n no within cuts rise.0

turned : (within : Bool) (n c : ℤ) (cuts : List ℤ) → int_lt n c ≡ false → turned_by within (c ∷ cuts) n ≡ turned_by (not within) cuts n
turned within n c cuts ge =
    let yes : int_le c n ≡ true = grind (arith, ints) in
    ap (λ b. turned_by (if b then not within else within) cuts n) yes

-- the cuts that are left, behind one that a number reached
pub next-below : (from : Option ℤ) (c : ℤ) (cuts : List ℤ) → IsBelow from (c ∷ cuts) → IsBelow (Some c) cuts
next-below None c cuts below = below
next-below (Some f) c cuts below = below.1

reached-from : (from : Option ℤ) (c n : ℤ) (cuts : List ℤ) → IsBelow from (c ∷ cuts) → int_lt n c ≡ false → reached from n ≡ true
reached-from None c n cuts below ge = refl
reached-from (Some f) c n cuts below ge = at f c n below.0.0 ge
  where
    at : (f c n : ℤ) → f ≤ℤ c → int_lt n c ≡ false → int_le f n ≡ true
    at f c n le ge = grind (arith, ints)

module _ (from : Option ℤ) (within : Bool) (c : ℤ) (cuts : List ℤ) (among : ℤ → Bool) (below : IsBelow from (c ∷ cuts))
    (is : (n : ℤ) → reached from n ≡ true → turned_by within (c ∷ cuts) n ≡ among n) where
  pub next-turned : (n : ℤ) → reached (Some c) n ≡ true → turned_by (not within) cuts n ≡ among n
  next-turned n h =
      let ge : int_lt n c ≡ false = grind (arith, ints) in
      sym (turned within n c cuts ge) ∙ is n (reached-from from c n cuts below ge)

  pub next-added : (n : ℤ) → (not (reached (Some c) n) && among n) ≡ ((not (reached from n) && among n) || (within && lies_between from (Some c) n))
  next-added n = at (int_lt n c) refl
    where
      at : (b : Bool) → int_lt n c ≡ b → (not (reached (Some c) n) && among n) ≡ ((not (reached from n) && among n) || (within && (reached from n && int_lt n c)))
      at false ge =
          let yes : int_le c n ≡ true = grind (arith, ints) in
          let old = reached-from from c n cuts below ge in
          ap (λ b. not b && among n) yes
          ∙ sym (ap (λ b. (not b && among n) || (within && (b && int_lt n c))) old ∙ ap (λ b. within && b) ge ∙ never within)
        where
          never : (b : Bool) → (b && false) ≡ false
          never true = refl
          never false = refl
      at true lt =
          let no : int_le c n ≡ false = grind (arith, ints) in
          ap (λ b. not b && among n) no ∙ sym (ap (λ b. (not (reached from n) && among n) || (within && (reached from n && b))) lt ∙ from_here (reached from n) refl)
        where
          same : (a w : Bool) → a ≡ w → (w && true) ≡ a
          same true true e = refl
          same true false e = absurd (cc e)
          same false true e = absurd (cc e)
          same false false e = refl

          none : (a w : Bool) → (a || (w && false)) ≡ a
          none true w = refl
          none false true = refl
          none false false = refl

          from_here : (r : Bool) → reached from n ≡ r → ((not r && among n) || (within && (r && true))) ≡ among n
          from_here true h = same (among n) within (sym (is n h) ∙ not-yet within n c cuts lt (next-below from c cuts below))
          from_here false h = none (among n) within

-- no cut is left
pub last-added : (from : Option ℤ) (within : Bool) (among : ℤ → Bool) → ((n : ℤ) → reached from n ≡ true → turned_by within [] n ≡ among n)
    → (n : ℤ) → among n ≡ ((not (reached from n) && among n) || (within && lies_between from None n))
last-added from within among is n = at (reached from n) refl
  where
    at : (r : Bool) → reached from n ≡ r → among n ≡ ((not r && among n) || (within && (r && true)))
    at true h = sym (is n h) ∙ same within
      where
        same : (w : Bool) → w ≡ (w && true)
        same true = refl
        same false = refl
    at false h = none (among n) within
      where
        none : (a w : Bool) → a ≡ (a || (w && false))
        none true w = refl
        none false true = refl
        none false false = refl

pub first-none : (among : ℤ → Bool) (n : ℤ) → (not (reached None n) && among n) ≡ false
first-none among n = refl
