use Rattle.std.proofs.Common.{◌≡◌, ◌≤◌, ap, length, map, take, arith, Bor, List, ℕ}
use Rattle.std.proofs.lemmas.List.{length-map, take_all}
use Rattle.dr_image.specs.Image.{joined}
use Rattle.dr_segment.specs.Tables.{column_seen}
use Rattle.dr_segment.proofs.WritingLemmas.{length-column, known}
use Rattle.dr_segment.proofs.size.dimension_size.Goals as goal

pub returns : goal.returns
returns c =
    let d = c.args.dimension.now in
    let i = c.loop-text.text-index in
    let e = c.deref-text-items.ensures.value in
    let le : length d.dictionary.items ≤ i = omega (arith, ap length e, c.loop-text-test.false) in
    let all : length (joined (map (λ (t : Bor (List ℕ)). t.now) (take i d.dictionary.items))) ≡ length (joined (column_seen d).dictionary) = ap (λ (xs : List (Bor (List ℕ))). length (joined (map (λ (t : Bor (List ℕ)). t.now) xs))) (take_all i d.dictionary.items le) in
    omega (arith, all, c.loop-text.invariant, length-column (column_seen d).dictionary d.numbers.items (known d), length-map d.dictionary.items (λ (t : Bor (List ℕ)). t.now))
