-- Slots that are taken, and what is found in them.
use Rattle.std.proofs.Common.{inl, inr, None, ◌≡◌, ◌∙◌, sym, ap, refl, subst, ℕ, zero, suc, ◌+◌, ◌<◌, Some, is_some, unwrap_or, true≢false, List, [], ◌∷◌, length, slice_get, slice_set, arith}
use Rattle.std.specs.Prelude.{◌⊎◌}
use Rattle.dr_slots.specs.declared.slot.Slot.{Slot}
use Rattle.dr_slots.specs.Table.{FindsFrom, AreTaken}

the : (s t : Slot) → Some s ≡ Some t → s ≡ t
the s t is = ap (λ o. unwrap_or o s) is

get-same : (slots : List Slot) (a : ℕ) (old new : Slot) → slice_get slots a ≡ Some old → slice_get (slice_set slots a new) a ≡ Some new
get-same [] a old new at = absurd (true≢false (sym (ap is_some at)))
get-same (s ∷ slots) zero old new at = refl
get-same (s ∷ slots) (suc a) old new at = get-same slots a old new at

get-other : (slots : List Slot) (a b : ℕ) (new : Slot) → (a ≡ b → ⊥) → slice_get (slice_set slots a new) b ≡ slice_get slots b
get-other [] a b new other = refl
get-other (s ∷ slots) zero zero new other = absurd (other refl)
get-other (s ∷ slots) zero (suc b) new other = refl
get-other (s ∷ slots) (suc a) zero new other = refl
get-other (s ∷ slots) (suc a) (suc b) new other = get-other slots a b new (λ is. other (ap suc is))

-- one more behind those that are taken
taken-behind : (slots : List Slot) (n at : ℕ) (s : Slot) → AreTaken slots n at → slice_get slots (at + n) ≡ Some s → 0 < s.end → AreTaken slots (suc n) at
unfolding AreTaken
taken-behind slots zero at s taken there some = ((s, ap (slice_get slots) (omega arith) ∙ there, some), tt)
taken-behind slots (suc n) at s taken there some = (taken.0, taken-behind slots n (suc at) s taken.1 (ap (slice_get slots) (omega arith) ∙ there) some)

pub taken-further : (slots : List Slot) (n at : ℕ) (s : Slot) → AreTaken slots n at → slice_get slots (at + n) ≡ Some s → 0 < s.end → AreTaken slots (n + 1) at
taken-further slots n at s taken there some = subst (λ m. AreTaken slots m at) (omega arith) (taken-behind slots n at s taken there some)

-- what is found is found where an empty slot is taken
pub still-found : (slots : List Slot) (a : ℕ) (old new : Slot) → slice_get slots a ≡ Some old → old.end ≡ 0 → (looks at hash place : ℕ) → FindsFrom slots looks at hash place → FindsFrom (slice_set slots a new) looks at hash place
unfolding FindsFrom
still-found slots a old new there empty zero at hash place found = found
still-found slots a old new there empty (suc looks) at hash place (s, is, inl both) =
    let ends = both.1 in
    let other : a ≡ at → ⊥ = λ same. (let here = ap (λ t. t.end) (the old s (sym there ∙ ap (slice_get slots) same ∙ is)) in omega (arith, here, empty, ends)) in
    (s, get-other slots a at new other ∙ is, inl both)
still-found slots a old new there empty (suc looks) at hash place (s, is, inr more) =
    let some = more.0 in
    let other : a ≡ at → ⊥ = λ same. (let here = ap (λ t. t.end) (the old s (sym there ∙ ap (slice_get slots) same ∙ is)) in omega (arith, here, empty, some)) in
    (s, get-other slots a at new other ∙ is, inr (some, still-found slots a old new there empty looks (suc at) hash place more.1))

-- what is put into the first empty slot is found
pub now-found : (slots : List Slot) (n at : ℕ) (old new : Slot) (place looks : ℕ) → AreTaken slots n at → slice_get slots (at + n) ≡ Some old → n < looks → new.end ≡ suc place → FindsFrom (slice_set slots (at + n) new) looks at new.hash place
unfolding FindsFrom AreTaken
now-found slots n at old new place zero taken there less ends = absurd (omega (arith, less))
now-found slots zero at old new place (suc looks) taken there less ends =
    let here : at + zero ≡ at = omega arith in
    (new, ap (slice_get (slice_set slots (at + zero) new)) (sym here) ∙ get-same slots (at + zero) old new there, inl (refl, ends))
now-found slots (suc n) at old new place (suc looks) taken there less ends =
    let next : at + suc n ≡ suc at + n = omega arith in
    let other : at + suc n ≡ at → ⊥ = λ same. omega (arith, same) in
    let rest : FindsFrom (slice_set slots (suc at + n) new) looks (suc at) new.hash place = now-found slots n (suc at) old new place looks taken.1 (ap (slice_get slots) (sym next) ∙ there) (omega (arith, less)) ends in
    (taken.0.0, get-other slots (at + suc n) at new other ∙ taken.0.1, inr (taken.0.2, subst (λ a. FindsFrom (slice_set slots a new) looks (suc at) new.hash place) (sym next) rest))

-- what is found stands in a slot
pub in-a-slot : (slots : List Slot) (looks at hash place : ℕ) → FindsFrom slots looks at hash place → (b : ℕ) × (s : Slot) × (slice_get slots b ≡ Some s) × (s.hash ≡ hash) × (s.end ≡ suc place)
unfolding FindsFrom
in-a-slot slots zero at hash place found = absurd found
in-a-slot slots (suc looks) at hash place (s, is, inl both) = (at, s, is, both.0, both.1)
in-a-slot slots (suc looks) at hash place (s, is, inr more) = in-a-slot slots looks (suc at) hash place more.1

pub there-within : (slots : List Slot) (b : ℕ) (s : Slot) → slice_get slots b ≡ Some s → b < length slots
there-within [] b s at = absurd (true≢false (sym (ap is_some at)))
there-within (x ∷ slots) zero s at = omega arith
there-within (x ∷ slots) (suc b) s at = let less = there-within slots b s at in omega (arith, less)

-- ---- one slot further

pub step : (slots : List Slot) (looks fewer at hash place : ℕ) (s : Slot) → looks ≡ suc fewer → slice_get slots at ≡ Some s → FindsFrom slots looks at hash place
    → ((s.hash ≡ hash) × (s.end ≡ suc place)) ⊎ ((0 < s.end) × FindsFrom slots fewer (at + 1) hash place)
unfolding FindsFrom
step slots looks fewer at hash place s one here found = by (subst (λ n. FindsFrom slots n at hash place) one found)
  where
    by : FindsFrom slots (suc fewer) at hash place → ((s.hash ≡ hash) × (s.end ≡ suc place)) ⊎ ((0 < s.end) × FindsFrom slots fewer (at + 1) hash place)
    by (t, is, inl both) = subst (λ x. ((x.hash ≡ hash) × (x.end ≡ suc place)) ⊎ ((0 < x.end) × FindsFrom slots fewer (at + 1) hash place)) (the t s (sym is ∙ here)) (inl both)
    by (t, is, inr more) = subst (λ x. ((x.hash ≡ hash) × (x.end ≡ suc place)) ⊎ ((0 < x.end) × FindsFrom slots fewer (at + 1) hash place)) (the t s (sym is ∙ here)) (inr (more.0, subst (λ a. FindsFrom slots fewer a hash place) (omega arith) more.1))

pub no-slot : (slots : List Slot) (looks at hash place : ℕ) → slice_get slots at ≡ None → FindsFrom slots looks at hash place → ⊥
unfolding FindsFrom
no-slot slots zero at hash place none found = found
no-slot slots (suc looks) at hash place none (s, is, rest) = true≢false (sym (ap is_some is) ∙ ap is_some none)

pub empty-slot : (slots : List Slot) (looks at hash place : ℕ) (s : Slot) → slice_get slots at ≡ Some s → s.end ≡ 0 → FindsFrom slots looks at hash place → ⊥
unfolding FindsFrom
empty-slot slots zero at hash place s there empty found = found
empty-slot slots (suc looks) at hash place s there empty found = by (step slots (suc looks) looks at hash place s refl there found)
  where
    by : ((s.hash ≡ hash) × (s.end ≡ suc place)) ⊎ ((0 < s.end) × FindsFrom slots looks (at + 1) hash place) → ⊥
    by (inl both) = (let ends = both.1 in omega (arith, ends, empty))
    by (inr more) = (let some = more.0 in omega (arith, some, empty))

pub no-looks : (slots : List Slot) (looks at hash place : ℕ) → looks ≡ 0 → FindsFrom slots looks at hash place → ⊥
unfolding FindsFrom
no-looks slots zero at hash place none found = found
no-looks slots (suc looks) at hash place none found = omega (arith, none)
