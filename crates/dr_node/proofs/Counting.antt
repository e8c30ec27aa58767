-- How many events of a stream have the mark of each seat.
use Rattle.std.proofs.Common.{◌≡◌, ◌∙◌, sym, ap, refl, ℕ, zero, suc, ◌+◌, ◌<◌, List, [], ◌∷◌, length, map, take, get_or, true, false, Bool, cond, arith, All, sum, zero-add, ◌≤◌, ◌⊎◌, inl, inr}
use Rattle.std.specs.Prelude.{nat_lt, nat_eq}
use Rattle.std.specs.List.{filter, range_with_len}
use Rattle.std.proofs.lemmas.Bool.Decides.{nat_tests}
use Rattle.std.proofs.lemmas.List.Elements.{All-head, All-tail}
use Rattle.std.proofs.lemmas.Bool.{cases_eq}
use Rattle.std.proofs.lemmas.Grind.{same_number_lists}
use Rattle.std.proofs.lemmas.List.{length-set, length-take, get_or-set_same, get_or-set_other, take_all}
use Rattle.std.proofs.lemmas.List.Filters.{length-filter_more}
use Rattle.std.proofs.lemmas.List.FromFn.{sum_by-map-range_with_len_more, length-map-range_with_len, get_or-map-range_with_len}
use Rattle.std.proofs.Math.ListN.{set}
use Rattle.dr_base.specs.declared.event.Event.{Event}
use Rattle.dr_timeline.proofs.Keeping.{length-filter}
use Rattle.dr_node.specs.Seats.{marked}

-- the events with a mark below a number
below : ℕ → List Event → List Event
below n es = filter (λ (e : Event). nat_lt e.seat n) es

-- one more where it is kept
length-cond : (b : Bool) (e : Event) (es : List Event) → length (cond b (e ∷ es) es) ≡ cond b 1 0 + length es
length-cond true e es = omega arith
length-cond false e es = omega arith

split : (a n : ℕ) → cond (nat_lt a (n + 1)) 1 0 ≡ cond (nat_lt a n) 1 0 + cond (nat_eq a n) 1 0
split a n = grind (arith, nat_tests)

below-more : (n : ℕ) (es : List Event) → length (below (n + 1) es) ≡ length (below n es) + length (marked n es)
unfolding below
below-more n [] = refl
below-more n (e ∷ es) =
    let rest = below-more n es in
    omega (arith, split e.seat n, length-cond (nat_lt e.seat (n + 1)) e (below (n + 1) es), length-cond (nat_lt e.seat n) e (below n es), length-cond (nat_eq e.seat n) e (marked n es))

below-none : (es : List Event) → length (below 0 es) ≡ 0
unfolding below
below-none [] = refl
below-none (e ∷ es) = let no : nat_lt e.seat 0 ≡ false = grind (arith, nat_tests) in rw no (below-none es)

below-all : (n : ℕ) (es : List Event) → All (λ (e : Event). e.seat < n) es → length (below n es) ≡ length es
unfolding below
below-all n [] h = refl
below-all n (e ∷ es) h =
    let P : Event → Type 0 = λ e. e.seat < n in
    let first : e.seat < n = All-head P e es h in
    let kept : nat_lt e.seat n ≡ true = grind (arith, nat_tests) in
    rw kept (ap suc (below-all n es (All-tail P e es h)))

-- how many events each of so many marks has
abbrev pub counts_of : ℕ → List Event → List ℕ
counts_of n es = map (λ k. length (marked k es)) (range_with_len 0 n)

sum-below : (n : ℕ) (es : List Event) → sum (counts_of n es) ≡ length (below n es)
sum-below zero es = sym (below-none es)
sum-below (suc n) es =
    let more = sum_by-map-range_with_len_more (λ (m : ℕ). m) (λ k. length (marked k es)) 0 n n (omega arith) in
    let rest = sum-below n es in
    let one = below-more n es in
    grind (arith, more, rest, one)

-- where each event has a mark below a number, the counts of these marks add up to the number of events
pub sum-counts : (n : ℕ) (es : List Event) → All (λ (e : Event). e.seat < n) es → sum (counts_of n es) ≡ length es
sum-counts n es h = sum-below n es ∙ below-all n es h

-- ---- counted event by event

-- as many of each mark as are among the first events
pub record IsCounted (n : ℕ) (es : List Event) (i : ℕ) (xs : List ℕ) : Type 0 where
  pub long : length xs ≡ n
  pub each : (k : ℕ) → k < n → get_or xs k 0 ≡ length (marked k (take i es))

-- one more event with a mark
more : (es : List Event) (i : ℕ) (e : Event) (k : ℕ) → i < length es → get_or es i e ≡ e → length (marked k (take (i + 1) es)) ≡ length (marked k (take i es)) + cond (nat_eq e.seat k) 1 0
more es i e k lt is = length-filter_more (λ (x : Event). nat_eq x.seat k) es i e lt ∙ ap (λ (x : Event). length (marked k (take i es)) + cond (nat_eq x.seat k) 1 0) is

pub counted-none : (n : ℕ) (es : List Event) (xs : List ℕ) → length xs ≡ n → ((k : ℕ) → k < n → get_or xs k 0 ≡ 0) → IsCounted n es 0 xs
counted-none n es xs long zeros = record { long = long; each = λ k lt. zeros k lt }

pub counted-more : (n : ℕ) (es : List Event) (i x : ℕ) (e : Event) (xs : List ℕ) → IsCounted n es i xs → i < length es → get_or es i e ≡ e → e.seat < n → x ≡ get_or xs e.seat 0 + 1 → IsCounted n es (i + 1) (set xs e.seat x)
counted-more n es i x e xs so_far lt is below adds = record {
  long = length-set xs e.seat x ∙ so_far.long;
  each = λ k lk. at k lk (cases_eq k e.seat);
}
  where
    inside : e.seat < length xs
    inside = let long = so_far.long in omega arith

    at : (k : ℕ) → k < n → (k ≡ e.seat) ⊎ (k ≡ e.seat → ⊥) → get_or (set xs e.seat x) k 0 ≡ length (marked k (take (i + 1) es))
    at k lk (inl same) =
        let before = so_far.each k lk in
        let kept : nat_eq e.seat k ≡ true = grind (arith, nat_tests) in
        let next : length (marked k (take (i + 1) es)) ≡ length (marked k (take i es)) + 1 = more es i e k lt is ∙ ap (λ (b : Bool). length (marked k (take i es)) + cond b 1 0) kept in
        ap (λ j. get_or (set xs e.seat x) j 0) same ∙ get_or-set_same xs e.seat x 0 inside ∙ adds ∙ ap (λ j. get_or xs j 0 + 1) (sym same) ∙ omega arith
    at k lk (inr other) =
        let before = so_far.each k lk in
        let left : nat_eq e.seat k ≡ false = grind (arith, nat_tests) in
        let next : length (marked k (take (i + 1) es)) ≡ length (marked k (take i es)) + 0 = more es i e k lt is ∙ ap (λ (b : Bool). length (marked k (take i es)) + cond b 1 0) left in
        get_or-set_other xs e.seat k x 0 other ∙ omega arith

-- no more of a mark than events
pub counted-few : (n : ℕ) (es : List Event) (i : ℕ) (xs : List ℕ) (k : ℕ) → IsCounted n es i xs → k < n → get_or xs k 0 ≤ i
counted-few n es i xs k so_far lt =
    let each = so_far.each k lt in
    let few = length-filter (λ (x : Event). nat_eq x.seat k) (take i es) in
    let short = length-take i es in
    grind (arith, each, few, short)

pub counted-all : (n : ℕ) (es : List Event) (i : ℕ) (xs : List ℕ) → length es ≤ i → IsCounted n es i xs → xs ≡ counts_of n es
counted-all n es i xs past so_far =
    let f = λ (k : ℕ). length (marked k es) in
    same_number_lists xs (counts_of n es) (so_far.long ∙ sym (length-map-range_with_len f 0 n))
    (λ k lt. let long = so_far.long in let within : k < n = omega arith in so_far.each k within ∙ ap (λ l. length (marked k l)) (take_all i es past) ∙ sym (get_or-map-range_with_len f 0 n k k 0 within (zero-add k)))
