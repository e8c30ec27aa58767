-- Parts of a buffer.
use Rattle.std.proofs.Common.{◌≡◌, ℕ, ◌+◌, ◌-◌, ◌≤◌, List, length, take, drop, slice_range, sym, ap, ◌∙◌, arith, drop-drop, length-take}
use Rattle.std.proofs.lemmas.List.{drop-take}

-- a range without its first bytes
pub drop-slice_range : (xs : List ℕ) (start end count : ℕ) → count ≤ length (slice_range xs start end)
    → slice_range xs (start + count) end ≡ drop count (slice_range xs start end)
drop-slice_range xs start end count within =
    let room : count + (end - (start + count)) ≡ end - start = omega (arith, length-take (end - start) (drop start xs)) in
    ap (take (end - (start + count))) (sym (drop-drop count start xs))
    ∙ sym (drop-take count (end - (start + count)) (drop start xs))
    ∙ ap (λ n. drop count (take n (drop start xs))) room
