-- Where names stand first, and what a map of them finds.
use Rattle.std.proofs.Common.{◌≡◌, refl, sym, ap, ◌∙◌, ℕ, ◌+◌, ◌≤◌, arith, Bool, true, false, true≢false, cond, List, ◌∷◌, Option, Some, drop, length, get_or, bytes_eq}
use Rattle.std.proofs.lemmas.Iterator.Adapters.{position_from-zero}
use Rattle.std.proofs.lemmas.List.{drop_more}
use Rattle.std.specs.Cmp.Lexicographic.{bytes_decides, slice_cmp}
use Rattle.std.specs.Ordering.{nat_cmp}
use Rattle.std.specs.List.{position, position_from}
use Rattle.std.specs.Map.{lookup}
use Rattle.std.specs.BTreeMap.{is_at, insert_entry}
use Rattle.dr_dict.proofs.FarTexts.{put-found, others-found}

-- what is told of a key by its order
abbrev pub told : {K : Type 0} → (K → List ℕ) → List ℕ → K → Bool
told seen name = is_at (λ key. slice_cmp nat_cmp name (seen key))

module _ {K : Type 0} (seen : K → List ℕ) (k : K) (place : ℕ) (name : List ℕ) where
  -- a name that is put in is found at its place, and each other as before
  found-put_in : (es : List (K × ℕ))
      → lookup (told seen name) (insert_entry (λ a b. slice_cmp nat_cmp (seen a) (seen b)) es k place) ≡ cond (bytes_eq name (seen k)) (Some place) (lookup (told seen name) es)
  found-put_in es =
      elim (bytes_eq name (seen k)) as (λ b. bytes_eq name (seen k) ≡ b → lookup (told seen name) (insert_entry (λ a b. slice_cmp nat_cmp (seen a) (seen b)) es k place) ≡ cond b (Some place) (lookup (told seen name) es)) [
        | true ↦ λ same. ap (λ n. lookup (told seen n) (insert_entry (λ a b. slice_cmp nat_cmp (seen a) (seen b)) es k place)) ((bytes_decides name (seen k)).0 same) ∙ put-found seen es k place
        | false ↦ λ other. others-found seen es k place name (λ same. true≢false (sym ((bytes_decides name (seen k)).1 same) ∙ other))
      ]
      refl

  -- with the name before those that are in already, all from there on are found where they stand first
  pub found-from : (es more : List (K × ℕ)) (names : List (List ℕ)) (behind : ℕ) (d : List ℕ) → behind ≡ place + 1 → behind ≤ length names → seen k ≡ get_or names place d
      → more ≡ insert_entry (λ a b. slice_cmp nat_cmp (seen a) (seen b)) es k place
      → lookup (told seen name) es ≡ position_from (bytes_eq name) behind (drop behind names)
      → lookup (told seen name) more ≡ position_from (bytes_eq name) place (drop place names)
  found-from es more names behind d next within is grown was =
      ap (lookup (told seen name)) grown ∙ found-put_in es
      ∙ ap (cond (bytes_eq name (seen k)) (Some place)) (was ∙ ap (λ p. position_from (bytes_eq name) p (drop p names)) next)
      ∙ sym (ap (position_from (bytes_eq name) place) (drop_more names place d (omega (arith, next, within)) ∙ ap (λ n. n ∷ drop (place + 1) names) (sym is)))

-- all names are found where they stand first
pub found-first : (names : List (List ℕ)) (behind : ℕ) (name : List ℕ) (found : Option ℕ) → behind ≤ 0
    → found ≡ position_from (bytes_eq name) behind (drop behind names) → found ≡ position (bytes_eq name) names
found-first names behind name found none is =
    let zero : behind ≡ 0 = omega (arith, none) in
    is ∙ ap (λ p. position_from (bytes_eq name) p (drop p names)) zero ∙ sym (position_from-zero (bytes_eq name) names)
