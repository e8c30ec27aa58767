-- The events of a stream, each compared with the next one of its seat.
use Rattle.std.proofs.Common.{◌≡◌, ◌∙◌, sym, ap, refl, ℕ, zero, suc, ◌+◌, ◌<◌, ◌≤◌, List, [], ◌∷◌, ◌++◌, length, take, get_or, Some, Bool, true, false, cond, arith, subst, append-nil, ◌⊎◌, inl, inr}
use Rattle.std.specs.Prelude.{nat_eq, slice_get, ◌==◌}
use Rattle.std.proofs.lemmas.Bool.{cases_eq}
use Rattle.std.proofs.lemmas.Bool.Decides.{nat_tests}
use Rattle.std.proofs.lemmas.List.{get_or_default, get_or_append_left, get_or_push, length-append, get_or-set_same, get_or-set_other, take_all, take_more}
use Rattle.std.proofs.lemmas.List.Elements.{filter_more}
use Rattle.std.proofs.lemmas.List.Sums.{sum_by-cons}
use Rattle.std.proofs.lemmas.Option.{get_or_from_slice_get, slice_get_within}
use Rattle.std.proofs.Math.ListN.{set}
use Rattle.std.proofs.Math.Nat.{eq-or-lt_of_le}
use Rattle.dr_base.specs.declared.event.Event.{Event}
use Rattle.dr_node.specs.Places.{IsPlace, ArePlaces}
use Rattle.dr_node.specs.Seats.{SeatView, marked, new_seat}
use Rattle.dr_node.proofs.Counting.{IsCounted, counted-none, counted-more}
use Rattle.dr_node.proofs.Seatings.{times}

-- the events of the seat whose place is the one of a number
abbrev pub own_of : List SeatView → List ℕ → ℕ → List Event
own_of seats places k = (get_or seats (get_or places k 0) (new_seat k)).own

-- as many events of each mark are among the first i events as were counted, and they are the first ones of the seat
pub record AreCompared (n : ℕ) (seats : List SeatView) (places : List ℕ) (es : List Event) (i : ℕ) (counts : List ℕ) : Type 0 where
  pub counted : IsCounted n es i counts
  pub same : (k : ℕ) → k < n → marked k (take i es) ≡ take (get_or counts k 0) (own_of seats places k)

pub compared-none : (n : ℕ) (seats : List SeatView) (places : List ℕ) (es : List Event) (counts : List ℕ) → length counts ≡ n → ((k : ℕ) → k < n → get_or counts k 0 ≡ 0) → AreCompared n seats places es 0 counts
compared-none n seats places es counts long zeros = record {
  counted = counted-none n es counts long zeros;
  same = λ k lt. sym (ap (λ c. take c (own_of seats places k)) (zeros k lt));
}

module _ (n : ℕ) (seats : List SeatView) (places : List ℕ) (es : List Event) (i x : ℕ) (e : Event) (xs : List ℕ) where
  pub compared-more : AreCompared n seats places es i xs → i < length es → get_or es i e ≡ e → e.seat < n → slice_get (own_of seats places e.seat) (get_or xs e.seat 0) ≡ Some e → x ≡ get_or xs e.seat 0 + 1
      → AreCompared n seats places es (i + 1) (set xs e.seat x)
  compared-more so_far lt is below there adds = record {
    counted = counted-more n es i x e xs so_far.counted lt is below adds;
    same = λ k lk. at k lk (cases_eq k e.seat);
  }
    where
      inside : e.seat < length xs
      inside = let long = so_far.counted.long in omega arith

      one_more : (k : ℕ) → marked k (take (i + 1) es) ≡ marked k (take i es) ++ cond (nat_eq e.seat k) (e ∷ []) []
      one_more k = filter_more (λ (y : Event). nat_eq y.seat k) es i e lt ∙ ap (λ (y : Event). marked k (take i es) ++ cond (nat_eq y.seat k) (y ∷ []) []) is

      at : (k : ℕ) → k < n → (k ≡ e.seat) ⊎ (k ≡ e.seat → ⊥) → marked k (take (i + 1) es) ≡ take (get_or (set xs e.seat x) k 0) (own_of seats places k)
      at k lk (inl here) =
          let kept : nat_eq e.seat k ≡ true = grind (arith, nat_tests) in
          let own = own_of seats places k in
          let c = get_or xs k 0 in
          let next : slice_get own c ≡ Some e = ap (λ j. slice_get (own_of seats places j) (get_or xs j 0)) here ∙ there in
          let within : c < length own = slice_get_within own c e next in
          let read : get_or own c e ≡ e = get_or_from_slice_get own c e e next in
          let count : get_or (set xs e.seat x) k 0 ≡ c + 1 = ap (λ j. get_or (set xs e.seat x) j 0) here ∙ get_or-set_same xs e.seat x 0 inside ∙ adds ∙ ap (λ j. get_or xs j 0 + 1) (sym here) in
          one_more k ∙ ap (λ (b : Bool). marked k (take i es) ++ cond b (e ∷ []) []) kept ∙ ap (λ l. l ++ e ∷ []) (so_far.same k lk)
          ∙ sym (take_more own c e within ∙ ap (λ (y : Event). take c own ++ y ∷ []) read) ∙ ap (λ m. take m own) (sym count)
      at k lk (inr other) =
          let left : nat_eq e.seat k ≡ false = grind (arith, nat_tests) in
          one_more k ∙ ap (λ (b : Bool). marked k (take i es) ++ cond b (e ∷ []) []) left ∙ append-nil (marked k (take i es)) ∙ so_far.same k lk
          ∙ ap (λ m. take m (own_of seats places k)) (sym (get_or-set_other xs e.seat k x 0 other))

-- the next event of the seat with a mark, as it is read
pub own-next : (seats : List SeatView) (places xs : List ℕ) (k m c : ℕ) (s : SeatView) (e : Event) → IsPlace seats k (get_or places k 0) → k < length xs → m ≡ k → s ≡ get_or seats (get_or places m 0) s → c ≡ get_or xs m c → slice_get s.own c ≡ Some e
    → slice_get (own_of seats places k) (get_or xs k 0) ≡ Some e
own-next seats places xs k m c s e at inside m_is s_is c_is found =
    let p = get_or places k 0 in
    let seat : get_or seats p (new_seat k) ≡ s = get_or_default seats p (new_seat k) s at.0 ∙ ap (λ j. get_or seats (get_or places j 0) s) (sym m_is) ∙ sym s_is in
    let count : get_or xs k 0 ≡ c = get_or_default xs k 0 c inside ∙ ap (λ j. get_or xs j c) (sym m_is) ∙ sym c_is in
    (λ t. slice_get (seat t).own (count t)) ∙ found

-- ---- the place of a seat

one : (k : ℕ) (s : SeatView) (seats : List SeatView) → times k (s ∷ seats) ≡ cond (s.number == k) 1 0 + times k seats
one k s seats = sum_by-cons (λ (x : SeatView). cond (x.number == k) 1 0) s seats

some : (k : ℕ) (seats : List SeatView) (j : ℕ) (d : SeatView) → j < length seats → (get_or seats j d).number ≡ k → 0 < times k seats
some k [] j d lt is = absurd (omega (arith, lt))
some k (s ∷ seats) zero d lt is = let same : (s.number == k) ≡ true = grind (arith, nat_tests) in omega (arith, one k s seats ∙ ap (λ (b : Bool). cond b 1 0 + times k seats) same)
some k (s ∷ seats) (suc j) d lt is = let more = some k seats j d (omega (arith, lt)) is in omega (arith, one k s seats, more)

-- where the seat of a number is there once, it stands at one place
pub one_place : (k : ℕ) (seats : List SeatView) (i j : ℕ) (d : SeatView) → times k seats ≡ 1 → i < length seats → j < length seats → (get_or seats i d).number ≡ k → (get_or seats j d).number ≡ k → i ≡ j
one_place k [] i j d once li lj is also = absurd (omega (arith, li))
one_place k (s ∷ seats) zero zero d once li lj is also = refl
one_place k (s ∷ seats) zero (suc j) d once li lj is also =
    let same : (s.number == k) ≡ true = grind (arith, nat_tests) in
    let more = some k seats j d (omega (arith, lj)) also in
    absurd (omega (arith, once, more, one k s seats ∙ ap (λ (b : Bool). cond b 1 0 + times k seats) same))
one_place k (s ∷ seats) (suc i) zero d once li lj is also =
    let same : (s.number == k) ≡ true = grind (arith, nat_tests) in
    let more = some k seats i d (omega (arith, li)) is in
    absurd (omega (arith, once, more, one k s seats ∙ ap (λ (b : Bool). cond b 1 0 + times k seats) same))
one_place k (s ∷ seats) (suc i) (suc j) d once li lj is also =
    let more = some k seats i d (omega (arith, li)) is in
    let left : times k seats ≡ 1 = omega (arith, once, more, one k s seats) in
    ap suc (one_place k seats i j d left (omega (arith, li)) (omega (arith, lj)) is also)

-- the places below a number, and that of the number
pub places-more : (seats : List SeatView) (ps new : List ℕ) (n p : ℕ) → length ps ≡ n → ((k : ℕ) → k < n → IsPlace seats k (get_or ps k 0)) → IsPlace seats n p → new ≡ ps ++ p ∷ [] → (length new ≡ n + 1) × ((k : ℕ) → k < n + 1 → IsPlace seats k (get_or new k 0))
places-more seats ps new n p long each here is = (ap length is ∙ length-append ps (p ∷ []) ∙ omega (arith, long), λ k lt. subst (IsPlace seats k) (sym (ap (λ l. get_or l k 0) is)) (at k (eq-or-lt_of_le (omega arith))))
  where
    at : (k : ℕ) → (k ≡ n) ⊎ (k < n) → IsPlace seats k (get_or (ps ++ p ∷ []) k 0)
    at k (inl same) = subst (λ j. IsPlace seats j (get_or (ps ++ p ∷ []) j 0)) (long ∙ sym same) (subst (λ q. IsPlace seats (length ps) q) (sym (get_or_push ps p 0 (length ps) refl)) (subst (λ j. IsPlace seats j p) (sym long) here))
    at k (inr below) = subst (IsPlace seats k) (sym (get_or_append_left ps (p ∷ []) 0 k (omega (arith, below, long)))) (each k below)

-- ---- what the comparison shows of each seat

-- the seat has accepted as many events as were counted at its number
pub own_shown : (n : ℕ) (seats : List SeatView) (places : List ℕ) (es : List Event) (i : ℕ) (counts : List ℕ) (j : ℕ) (d : SeatView) → ArePlaces n seats places → AreCompared n seats places es i counts → length es ≤ i
    → ((k : ℕ) → k < n → times k seats ≡ 1) → j < length seats → (get_or seats j d).number < n → get_or counts (get_or seats j d).number 0 ≡ length (get_or seats j d).own → marked (get_or seats j d).number es ≡ (get_or seats j d).own
own_shown n seats places es i counts j d at so_far past once lj below count =
    let s = get_or seats j d in
    let k = s.number in
    let there = at.each k below in
    let same : get_or places k 0 ≡ j = one_place k seats (get_or places k 0) j d (once k below) there.0 lj (there.1 d) refl in
    let mine : own_of seats places k ≡ s.own = ap (λ p. (get_or seats p (new_seat k)).own) same ∙ ap (λ (x : SeatView). x.own) (get_or_default seats j (new_seat k) d lj) in
    sym (ap (marked k) (take_all i es past)) ∙ so_far.same k below ∙ (λ t. take (count t) (mine t)) ∙ take_all (length s.own) s.own (omega arith)
