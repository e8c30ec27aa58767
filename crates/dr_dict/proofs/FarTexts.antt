-- Texts that stand in an ordered map.
use Rattle.std.proofs.Common.{◌≡◌, ◌∙◌, sym, ap, refl, ℕ, Bool, false, cond, Some, None, List, [], ◌∷◌}
use Rattle.std.specs.Map.{lookup}
use Rattle.std.specs.BTreeMap.{is_at, insert_entry}
use Rattle.std.specs.Ordering.{nat_cmp, is_eq, match_ordering}
use Rattle.std.specs.declared.cmp.Ordering.{Ordering}
use Rattle.std.specs.declared.cmp.Ordering.TheVariants.{Less, Equal, Greater}
use Rattle.std.specs.Cmp.Lexicographic.{slice_cmp, nat_list_cmp_total}
use Rattle.std.specs.FinMap.{nat_cmp-IsAntisymmetric, slice_cmp-IsAntisymmetric}
use Rattle.std.proofs.lemmas.Cmp.{tied_itself}

module _ {K : Type 0} (bytes : K → List ℕ) where
  abbrev order : K → K → Ordering
  order a b = slice_cmp nat_cmp (bytes a) (bytes b)

  abbrev has : List ℕ → K → Bool
  has text = is_at (λ k. slice_cmp nat_cmp text (bytes k))

  other_than : (text : List ℕ) (k : K) → (text ≡ bytes k → ⊥) → has text k ≡ false
  other_than text k other = at (slice_cmp nat_cmp text (bytes k)) refl
    where
      at : (o : Ordering) → slice_cmp nat_cmp text (bytes k) ≡ o → is_eq (slice_cmp nat_cmp text (bytes k)) ≡ false
      at Less is = ap is_eq is
      at Equal is = absurd (other (slice_cmp-IsAntisymmetric nat_cmp-IsAntisymmetric text (bytes k) is))
      at Greater is = ap is_eq is

  -- a text that is put is found
  pub put-found : (es : List (K × ℕ)) (k : K) (place : ℕ) → lookup (has (bytes k)) (insert_entry order es k place) ≡ Some place
  put-found [] k place = ap (λ o. cond (is_eq o) (Some place) None) (tied_itself nat_list_cmp_total (bytes k))
  put-found (e ∷ es) k place = at (order k e.0) refl (put-found es k place)
    where
      at : (o : Ordering) → order k e.0 ≡ o → lookup (has (bytes k)) (insert_entry order es k place) ≡ Some place → lookup (has (bytes k)) (match_ordering o ((k, place) ∷ e ∷ es) ((e.0, place) ∷ es) (e ∷ insert_entry order es k place)) ≡ Some place
      at Less is rest = ap (λ o. cond (is_eq o) (Some place) (lookup (has (bytes k)) (e ∷ es))) (tied_itself nat_list_cmp_total (bytes k))
      at Equal is rest = ap (λ o. cond (is_eq o) (Some place) (lookup (has (bytes k)) es)) is
      at Greater is rest = ap (λ o. cond (is_eq o) (Some e.1) (lookup (has (bytes k)) (insert_entry order es k place))) is ∙ rest

  -- other texts are found as before
  pub others-found : (es : List (K × ℕ)) (k : K) (place : ℕ) (other : List ℕ) → (other ≡ bytes k → ⊥) → lookup (has other) (insert_entry order es k place) ≡ lookup (has other) es
  others-found [] k place other apart = ap (λ b. cond b (Some place) None) (other_than other k apart)
  others-found (e ∷ es) k place other apart = at (order k e.0) refl (others-found es k place other apart)
    where
      at : (o : Ordering) → order k e.0 ≡ o → lookup (has other) (insert_entry order es k place) ≡ lookup (has other) es → lookup (has other) (match_ordering o ((k, place) ∷ e ∷ es) ((e.0, place) ∷ es) (e ∷ insert_entry order es k place)) ≡ lookup (has other) (e ∷ es)
      at Less is rest = ap (λ b. cond b (Some place) (lookup (has other) (e ∷ es))) (other_than other k apart)
      at Equal is rest =
          let same : bytes k ≡ bytes e.0 = slice_cmp-IsAntisymmetric nat_cmp-IsAntisymmetric (bytes k) (bytes e.0) is in
          let no = other_than other e.0 (λ h. apart (h ∙ sym same)) in
          ap (λ b. cond b (Some place) (lookup (has other) es)) no ∙ sym (ap (λ b. cond b (Some e.1) (lookup (has other) es)) no)
      at Greater is rest = ap (λ l. cond (has other e.0) (Some e.1) l) rest
