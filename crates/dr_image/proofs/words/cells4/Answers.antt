use Rattle.std.proofs.Common.{◌≡◌, ◌∙◌, ap, ◌+◌, ◌*◌, ◌-◌, ◌/◌, length, take, drop, ℕ, List, arith}
use Rattle.std.specs.Simd.{first_chunks}
use Rattle.std.proofs.lemmas.List.{length-take, length-drop}
use Rattle.dr_image.proofs.WordLemmas.{fours_of_take}
use Rattle.dr_image.proofs.words.cells4.Goals as goal

pub returns-clause-value : goal.returns-clause-value
returns-clause-value c =
    let bytes : List ℕ = c.args.bytes.now in
    let at : ℕ = c.args.at in
    let count : ℕ = c.args.count in
    let s : List ℕ = take (at + 4 * count - at) (drop at bytes) in
    let n : length s / 4 ≡ count = omega (arith, length-take (at + 4 * count - at) (drop at bytes), length-drop at bytes) in
    c.as_chunks.ensures.front ∙ ap (λ k. first_chunks 4 k s) n ∙ fours_of_take count (at + 4 * count - at) (drop at bytes) (omega arith)
