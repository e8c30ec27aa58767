use Rattle.std.proofs.Common.{◌≡◌, ℕ, ◌+◌, ◌-◌, ◌<◌, ◌≤◌, List, length, get_or, drop, slice_range, true, false, Contains, IsTrue, ◌↔◌, refl, ap, ◌∙◌, sym, subst, arith, length-drop, length-take-le}
use Rattle.std.specs.Prelude.{nat_lt}
use Rattle.std.proofs.lemmas.List.{get_or-take, get_or-drop}
use borrow.Author.Tests.{ltb-true, ltb-false}
use Rattle.dr_lines.specs.Lines.{Reading}
use Rattle.dr_lines.specs.Parts.{EndsLines}
use Rattle.dr_lines.proofs.line_reader.LineReader.has_line.Goals as goal

at_range : (xs : List ℕ) (start end i : ℕ) → i < end - start → get_or (slice_range xs start end) i 10 ≡ get_or xs (start + i) 10
at_range xs start end i less = get_or-take (end - start) (drop start xs) i 10 less ∙ get_or-drop start xs i 10

range_length : (xs : List ℕ) (start end : ℕ) → end ≤ length xs → length (slice_range xs start end) ≡ end - start
range_length xs start end within = length-take-le (end - start) (drop start xs) (omega (arith, length-drop start xs))

-- a newline is ahead where one stands behind the first byte that is ahead
ahead : (xs : List ℕ) (start end whole : ℕ) → end ≤ length xs → EndsLines xs end whole → start < whole → Contains (slice_range xs start end) 10
ahead xs start end whole within ends less =
    let place : start + (whole - 1 - start) ≡ whole - 1 = omega arith in
    let inside : whole - 1 - start < end - start = omega (arith, ends.0) in (
      whole - 1 - start,
      subst (λ n. whole - 1 - start < n) (sym (range_length xs start end within)) inside,
      at_range xs start end (whole - 1 - start) inside ∙ ap (λ k. get_or xs k 10) place ∙ ends.1 (omega arith),
    )

behind : (xs : List ℕ) (start end whole : ℕ) → end ≤ length xs → EndsLines xs end whole → Contains (slice_range xs start end) 10 → IsTrue (nat_lt start whole)
behind xs start end whole within ends found =
    let inside : found.0 < end - start = subst (λ n. found.0 < n) (range_length xs start end within) found.1 in
    elim (nat_lt start whole) as (λ t. nat_lt start whole ≡ t → IsTrue t) [
      | true ↦ λ e. refl
      | false ↦ λ e.
          let from = ltb-false start whole e in
          absurd (ends.2 (start + found.0) (omega (arith, from)) (omega (arith, inside)) (sym (at_range xs start end found.0 inside) ∙ found.2))
    ]
    refl

pub returns : goal.returns
returns c =
    let i = c.self.inside in
    let kept = c.self.invariant in
    let within : i.end ≤ length i.buffer.items = omega (arith, kept.1, i.buffer.ok) in
    let ends = kept.6 in
    subst (λ (r : Reading). IsTrue (nat_lt i.start i.whole) ↔ Contains r.ahead 10) c.self.view_is (
      (λ less. ahead i.buffer.items i.start i.end i.whole within ends (ltb-true i.start i.whole less)),
      (λ found. behind i.buffer.items i.start i.end i.whole within ends found),
    )
