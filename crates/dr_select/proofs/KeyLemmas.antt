-- Rows by their keys.
use Rattle.std.proofs.Common.{◌≡◌, ◌∙◌, sym, refl, ap, ℕ, ◌+◌, ◌<◌, ◌≤◌, ◌++◌, ◌∷◌, [], Bool, List, length, get_or, map, take, drop, slice_get, slice_range, Some, ◌-◌, arith}
use Rattle.std.proofs.lemmas.Option.{get_or_from_slice_get}
use Rattle.std.proofs.lemmas.List.{take_more, length-drop, get_or-drop}
use Rattle.dr_base.specs.declared.key.Key.{Key}
use Rattle.dr_base.specs.declared.row.Row.{Row}
use Rattle.dr_rollup.specs.declared.key_of.KeyOf.{KeyOf}
use Rattle.dr_filter.specs.Condition.{Condition, matches}
use Rattle.dr_select.specs.Rows.{meets, key_seen}

fused : {X : Type 0} (g : Key → Bool) (f : X → Key) (xs : List X) → map g (map f xs) ≡ map (λ x. g (f x)) xs
fused g f [] = refl
fused g f (x ∷ xs) = ap (λ l. g (f x) ∷ l) (fused g f xs)

pub through-keys : (c : Condition) (keys : List KeyOf) (rows : List Row) → map key_seen keys ≡ map (λ r. r.key) rows → map (meets c) keys ≡ map (λ r. matches r.key.time r.key.dims c) rows
through-keys c keys rows same =
    sym (fused (λ k. matches k.time k.dims c) key_seen keys) ∙ ap (map (λ k. matches k.time k.dims c)) same ∙ fused (λ k. matches k.time k.dims c) (λ (r : Row). r.key) rows

-- ---- rows from a place on, up to another

pub one-last : {X : Type 0} (xs : List X) (from to : ℕ) (x : X) → from ≤ to → to < length xs → slice_get xs to ≡ Some x → slice_range xs from (to + 1) ≡ slice_range xs from to ++ x ∷ []
one-last xs from to x le lt at =
    let n : to + 1 - from ≡ (to - from) + 1 = omega (arith, le) in
    let same : from + (to - from) ≡ to = omega (arith, le) in
    ap (λ k. take k (drop from xs)) n
    ∙ take_more (drop from xs) (to - from) x (omega (arith, le, lt, length-drop from xs))
    ∙ ap (λ y. slice_range xs from to ++ y ∷ []) (get_or-drop from xs (to - from) x ∙ ap (λ k. get_or xs k x) same ∙ get_or_from_slice_get xs to x x at)
