-- Texts of a list, and whether one stands there.
use Rattle.std.proofs.Common.{inl, inr, ◌≡◌, ◌∙◌, sym, ap, refl, subst, ℕ, zero, suc, Bool, true, false, true≢false, ◌||◌, Some, is_some, unwrap_or, List, [], ◌∷◌, ◌++◌, length, take, slice_get, bytes_eq}
use Rattle.std.specs.Prelude.{◌⊎◌}
use Rattle.std.specs.List.{list_any}
use Rattle.std.specs.Cmp.Lexicographic.{bytes_decides, nat_list_eq_equiv}
use Rattle.dr_dict.specs.TextPlaces.{IsFoundAt, AreFound}
use Rattle.dr_dict.specs.declared.text_places.TextPlaces.{TextPlaces}

-- a text that stands at a place is among them
pub there-any : (texts : List (List ℕ)) (text : List ℕ) (i : ℕ) → slice_get texts i ≡ Some text → list_any (bytes_eq text) texts ≡ true
there-any [] text i at = absurd (true≢false (sym (ap is_some at)))
there-any (t ∷ texts) text zero at = ap (λ b. b || list_any (bytes_eq text) texts) (ap (bytes_eq text) (ap (λ o. unwrap_or o text) at) ∙ nat_list_eq_equiv.refl text)
there-any (t ∷ texts) text (suc i) at = ap (λ b. bytes_eq text t || b) (there-any texts text i at) ∙ either (bytes_eq text t)
  where
    either : (b : Bool) → (b || true) ≡ true
    either true = refl
    either false = refl

-- one that stands nowhere isn't
pub none-any : (texts : List (List ℕ)) (text : List ℕ) → ((i : ℕ) → slice_get texts i ≡ Some text → ⊥) → list_any (bytes_eq text) texts ≡ false
none-any [] text nowhere = refl
none-any (t ∷ texts) text nowhere = ap (λ b. b || list_any (bytes_eq text) texts) (other (bytes_eq text t) refl) ∙ none-any texts text (λ i at. nowhere (suc i) at)
  where
    other : (b : Bool) → bytes_eq text t ≡ b → b ≡ false
    other true is = absurd (nowhere zero (ap Some (sym ((bytes_decides text t).0 is))))
    other false is = refl

-- a text behind others
with-last : (texts : List (List ℕ)) (last text : List ℕ) (i : ℕ) → slice_get (texts ++ last ∷ []) i ≡ Some text → (slice_get texts i ≡ Some text) ⊎ ((i ≡ length texts) × (last ≡ text))
with-last [] last text zero at = inr (refl, ap (λ o. unwrap_or o last) at)
with-last [] last text (suc i) at = absurd (true≢false (sym (ap is_some at)))
with-last (t ∷ texts) last text zero at = inl at
with-last (t ∷ texts) last text (suc i) at = by (with-last texts last text i at)
  where
    by : (slice_get texts i ≡ Some text) ⊎ ((i ≡ length texts) × (last ≡ text)) → (slice_get texts i ≡ Some text) ⊎ ((suc i ≡ suc (length texts)) × (last ≡ text))
    by (inl before) = inl before
    by (inr here) = inr (ap suc here.0, here.1)

-- the first texts stand where they stood
pub in-front : (n : ℕ) (texts : List (List ℕ)) (text : List ℕ) (i : ℕ) → slice_get (take n texts) i ≡ Some text → slice_get texts i ≡ Some text
in-front zero texts text i at = absurd (true≢false (sym (ap is_some at)))
in-front (suc n) [] text i at = absurd (true≢false (sym (ap is_some at)))
in-front (suc n) (t ∷ texts) text zero at = at
in-front (suc n) (t ∷ texts) text (suc i) at = in-front n texts text i at

-- what is found stays, where the place of a new text is added
pub found-still : (old new : TextPlaces) (texts : List (List ℕ)) (text : List ℕ) → ((other : List ℕ) (at : ℕ) → (other ≡ text → ⊥) → IsFoundAt old other at → IsFoundAt new other at) → list_any (bytes_eq text) texts ≡ false → AreFound old texts
    → AreFound new texts
found-still old new texts text kept none found = λ i t at. kept t i (λ same. true≢false (sym (there-any texts text i (at ∙ ap Some same)) ∙ none)) (found i t at)

-- and the new one is found behind them
pub found-more : (new : TextPlaces) (texts : List (List ℕ)) (text : List ℕ) → AreFound new texts → IsFoundAt new text (length texts) → AreFound new (texts ++ text ∷ [])
found-more new texts text found last = λ i t at. by i t (with-last texts text t i at)
  where
    by : (i : ℕ) (t : List ℕ) → (slice_get texts i ≡ Some t) ⊎ ((i ≡ length texts) × (text ≡ t)) → IsFoundAt new t i
    by i t (inl before) = found i t before
    by i t (inr here) = subst (λ u. IsFoundAt new u i) here.1 (subst (IsFoundAt new text) (sym here.0) last)
