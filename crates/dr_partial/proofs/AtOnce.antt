-- Rows of which a filter is asked many at once.
use Rattle.std.proofs.Common.{◌≡◌, ◌∙◌, sym, refl, ap, ℕ, ◌-◌, ◌<◌, ◌≤◌, Bool, false, List, [], ◌∷◌, map, length, get_or, slice_get, slice_range, Some, arith}
use Rattle.std.proofs.Math.ListN.{get_or-map}
use Rattle.std.proofs.lemmas.List.{length-map, get_or_default}
use Rattle.dr_base.specs.declared.key.Key.{Key}
use Rattle.dr_rollup.specs.declared.key_of.KeyOf.{KeyOf}
use Rattle.dr_filter.specs.Condition.{Condition, matches}
use Rattle.dr_answers.specs.Selection.{passes}
use Rattle.dr_select.specs.Rows.{meets, key_seen}
use Rattle.dr_partial.proofs.Runs.{in_range}

fused : {X : Type 0} (g : Key → Bool) (f : X → Key) (xs : List X) → map g (map f xs) ≡ map (λ x. g (f x)) xs
fused g f [] = refl
fused g f (x ∷ xs) = ap (λ l. g (f x) ∷ l) (fused g f xs)

-- what is told of keys is told of what has these keys
pub told-of : {X : Type 0} (c : Condition) (f : X → Key) (keys : List KeyOf) (xs : List X) (told : List Bool) → told ≡ map (meets c) keys → map key_seen keys ≡ map f xs → told ≡ map (λ x. passes (Some c) (f x)) xs
told-of c f keys xs told is same =
    is ∙ sym (fused (λ k. matches k.time k.dims c) key_seen keys) ∙ ap (map (λ k. matches k.time k.dims c)) same ∙ fused (λ k. matches k.time k.dims c) f xs

pub told-at : {X : Type 0} (p : X → Bool) (xs : List X) (i : ℕ) (x : X) (told : List Bool) → told ≡ map p xs → i < length xs → x ≡ get_or xs i x → get_or told i false ≡ p x
told-at p xs i x told is lt here =
    ap (λ l. get_or l i false) is ∙ get_or_default (map p xs) i false (p x) (omega (arith, lt, length-map xs p)) ∙ get_or-map p xs i x ∙ ap p (sym here)

pub told-in : {X : Type 0} (p : X → Bool) (xs : List X) (from to i : ℕ) (x : X) (told : List Bool) → told ≡ map p (slice_range xs from to) → from ≤ i → i < to → to ≤ length xs → slice_get xs i ≡ Some x → get_or told (i - from) false ≡ p x
told-in p xs from to i x told is le lt within at =
    let there = in_range xs from to i x le lt within at in
    told-at p (slice_range xs from to) (i - from) x told is there.0 there.1
