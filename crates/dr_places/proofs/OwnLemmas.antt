-- Texts whose characters are known, one after another.
use Rattle.std.proofs.Common.{inl, inr, ◌≡◌, ◌∙◌, sym, refl, ap, subst, ℕ, ◌+◌, ◌<◌, List, [], ◌∷◌, ◌++◌, length, get_or, length-append, Option, None, IfSome, Vec, Global, arith}
use Rattle.std.specs.Str.{chars}
use Rattle.std.proofs.Math.ListN.{get_or-append}
use Rattle.std.proofs.Math.Seq.{get_or-append_seam}
use Rattle.std.proofs.lemmas.Bool.{cases_lt}
use Rattle.dr_places.specs.Texts.{AreKnown, AreSpelled}

abbrev pub IsKnown : (text : List ℕ) → Option (List ℕ) → Type 0
IsKnown text own = IfSome own (λ characters. characters ≡ chars text)

-- of so many of the texts
pub record AreKnownTo (k : ℕ) (texts : List (List ℕ)) (known : List (Option (List ℕ))) : Type 0 where
  pub count : length known ≡ k
  pub each : (i : ℕ) → i < k → IsKnown (get_or texts i []) (get_or known i None)

pub known-none : (texts : List (List ℕ)) → AreKnownTo 0 texts []
known-none texts = record { count = refl; each = λ i lt. absurd (omega (arith, lt)) }

pub known-more : (k : ℕ) (texts : List (List ℕ)) (known known' : List (Option (List ℕ))) (own : Option (List ℕ)) → known' ≡ known ++ own ∷ [] → IsKnown (get_or texts k []) own
    → AreKnownTo k texts known → AreKnownTo (k + 1) texts known'
known-more k texts known known' own is here was = record {
  count = ap length is ∙ length-append known (own ∷ []) ∙ ap (λ n. n + 1) was.count;
  each = λ i lt. elim (cases_lt i k) [
    | inl less ↦ subst (IsKnown (get_or texts i [])) (sym (ap (λ l. get_or l i None) is ∙ get_or-append known (own ∷ []) None i (omega (arith, less, was.count)))) (was.each i less)
    | inr more ↦ (let same : i ≡ length known = omega (arith, lt, more, was.count) in
        let last : i ≡ k = omega (arith, lt, more) in
        subst (IsKnown (get_or texts i [])) (sym (ap (λ l. get_or l i None) is ∙ ap (λ n. get_or (known ++ own ∷ []) n None) same ∙ get_or-append_seam known own [] None))
        (subst (λ n. IsKnown (get_or texts n []) own) (sym last) here))
  ];
}

pub known-all : (k : ℕ) (texts : List (List ℕ)) (known : List (Option (List ℕ))) → k ≡ length texts → AreKnownTo k texts known → AreKnown texts known
known-all k texts known all was = record { count = was.count ∙ all; each = λ i lt. was.each i (omega (arith, lt, all)) }

-- ---- texts with their characters

-- of so many of the texts
pub record AreSpelledTo (k : ℕ) (texts : List (List ℕ)) (letters : List (Vec ℕ Global)) : Type 0 where
  pub count : length letters ≡ k
  pub each : (i : ℕ) (other : Vec ℕ Global) → i < k → (get_or letters i other).items ≡ chars (get_or texts i [])

pub spelled-none : (texts : List (List ℕ)) → AreSpelledTo 0 texts []
spelled-none texts = record { count = refl; each = λ i other lt. absurd (omega (arith, lt)) }

pub spelled-more : (k : ℕ) (texts : List (List ℕ)) (letters letters' : List (Vec ℕ Global)) (own : Vec ℕ Global) → letters' ≡ letters ++ own ∷ [] → own.items ≡ chars (get_or texts k [])
    → AreSpelledTo k texts letters → AreSpelledTo (k + 1) texts letters'
spelled-more k texts letters letters' own is here was = record {
  count = ap length is ∙ length-append letters (own ∷ []) ∙ ap (λ n. n + 1) was.count;
  each = λ i other lt. elim (cases_lt i k) [
    | inl less ↦ ap (λ v. v.items) (ap (λ l. get_or l i other) is ∙ get_or-append letters (own ∷ []) other i (omega (arith, less, was.count))) ∙ was.each i other less
    | inr more ↦ (let same : i ≡ length letters = omega (arith, lt, more, was.count) in
        let last : i ≡ k = omega (arith, lt, more) in
        ap (λ v. v.items) (ap (λ l. get_or l i other) is ∙ ap (λ n. get_or (letters ++ own ∷ []) n other) same ∙ get_or-append_seam letters own [] other)
        ∙ here ∙ ap (λ n. chars (get_or texts n [])) (sym last))
  ];
}

pub spelled-all : (k : ℕ) (texts : List (List ℕ)) (letters : List (Vec ℕ Global)) → k ≡ length texts → AreSpelledTo k texts letters → AreSpelled texts letters
spelled-all k texts letters all was = record { count = was.count ∙ all; each = λ i other lt. was.each i other (omega (arith, lt, all)) }
