-- What is told of groups many at once.
use Rattle.std.proofs.Common.{◌≡◌, ◌∙◌, sym, refl, ap, ℕ, ◌+◌, ◌-◌, ◌<◌, ◌≤◌, slice_range, Bool, false, List, [], ◌∷◌, ◌++◌, map, length, get_or, take, arith}
use Rattle.std.proofs.Math.ListN.{get_or-map}
use Rattle.std.proofs.Math.Seq.{take-add}
use Rattle.std.proofs.lemmas.List.{length-map, map-append, get_or_default, take_more}

pub told-at : {X : Type 0} (p : X → Bool) (xs : List X) (i : ℕ) (x : X) (told : List Bool) → told ≡ map p xs → i < length xs → x ≡ get_or xs i x → get_or told i false ≡ p x
told-at p xs i x told is lt here =
    ap (λ l. get_or l i false) is ∙ get_or_default (map p xs) i false (p x) (omega (arith, lt, length-map xs p)) ∙ get_or-map p xs i x ∙ ap p (sym here)

pub one-told : {X : Type 0} (p : X → Bool) (xs : List X) (i : ℕ) (x : X) (b : Bool) (before told more : List Bool) → i < length xs → x ≡ get_or xs i x → b ≡ p x
    → more ≡ told ++ b ∷ [] → told ≡ before ++ map p (take i xs) → more ≡ before ++ map p (take (i + 1) xs)
one-told p xs i x b before told more lt is same pushed was =
    pushed ∙ ap (λ l. l ++ b ∷ []) was ∙ ap (λ c. (before ++ map p (take i xs)) ++ c ∷ []) (same ∙ ap p is) ∙ regroups before (map p (take i xs)) (p (get_or xs i x) ∷ [])
    ∙ ap (λ l. before ++ l) (sym (ap (map p) (take_more xs i x lt) ∙ map-append p (take i xs) (get_or xs i x ∷ [])))
  where
    regroups : (a b c : List Bool) → (a ++ b) ++ c ≡ a ++ (b ++ c)
    regroups [] b c = refl
    regroups (x ∷ a) b c = ap (λ l. x ∷ l) (regroups a b c)

pub lot-told : {X : Type 0} (p : X → Bool) (xs : List X) (from to : ℕ) (told more : List Bool) → from ≤ to → more ≡ told ++ map p (slice_range xs from to) → told ≡ map p (take from xs) → more ≡ map p (take to xs)
lot-told p xs from to told more le added was =
    let same : from + (to - from) ≡ to = omega (arith, le) in
    added ∙ ap (λ l. l ++ map p (slice_range xs from to)) was ∙ sym (map-append p (take from xs) (slice_range xs from to))
    ∙ ap (map p) (sym (take-add from (to - from) xs) ∙ ap (λ k. take k xs) same)
