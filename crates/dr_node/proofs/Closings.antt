-- What closing shows, from what was tested.
use Rattle.std.proofs.Common.{◌≡◌, ◌∙◌, sym, ap, ℕ, ◌<◌, List, length, Some, All, zero-add, get_or, sum}
use Rattle.std.specs.Prelude.{slice_get}
use Rattle.std.proofs.lemmas.Option.{slice_get-get_or}
use Rattle.std.proofs.lemmas.List.FromFn.{length-map-range_with_len, get_or-map-range_with_len}
use Rattle.dr_base.specs.declared.event.Event.{Event}
use Rattle.dr_node.specs.Seats.{SeatView, marked}
use Rattle.dr_node.specs.Closing.{AreAllSeats, IsClosed}
use Rattle.dr_node.proofs.Counting.{counts_of, sum-counts}

count-at : (n k : ℕ) (es : List Event) → k < n → slice_get (counts_of n es) k ≡ Some (length (marked k es))
count-at n k es lt =
    let f = λ (j : ℕ). length (marked j es) in
    let long : k < length (counts_of n es) = rw (length-map-range_with_len f 0 n) lt in
    slice_get-get_or (counts_of n es) k 0 long ∙ ap Some (get_or-map-range_with_len f 0 n k k 0 lt (zero-add k))

pub shows-closed : (n : ℕ) (given : List SeatView) (stream : List Event) (mine : List ℕ) → AreAllSeats n given
    → All (λ (s : SeatView). marked s.number stream ≡ s.own) given → All (λ (s : SeatView). (s.mine ≡ length s.own) × (s.number < n)) given
    → All (λ (e : Event). e.seat < n) stream → mine ≡ counts_of n stream → IsClosed n given stream mine
shows-closed n given stream mine all own kept marks is = record {
  all = all;
  own = own;
  counts = λ k d lt.
      let kept-there = kept k d lt in
      let seat = get_or given k d in
      ap (λ xs. slice_get xs seat.number) is ∙ count-at n seat.number stream kept-there.1 ∙ ap Some (ap length (own k d lt) ∙ sym kept-there.0);
  total = ap sum is ∙ sum-counts n stream marks;
}
