use Rattle.std.proofs.Common.{◌≡◌, ◌∙◌, ap, ◌+◌, ◌*◌, ◌-◌, ◌/◌, length, take, drop, ℕ, List, arith}
use Rattle.std.specs.Simd.{first_chunks}
use Rattle.std.proofs.lemmas.List.{length-take, length-drop}
use Rattle.dr_image.proofs.WordLemmas.{eights_of_take}
use Rattle.dr_image.proofs.words.cells8.Goals as goal

pub returns-clause-value : goal.returns-clause-value
returns-clause-value c =
    let bytes : List ℕ = c.args.bytes.now in
    let at : ℕ = c.args.at in
    let count : ℕ = c.args.count in
    let s : List ℕ = take (at + 8 * count - at) (drop at bytes) in
    let n : length s / 8 ≡ count = omega (arith, length-take (at + 8 * count - at) (drop at bytes), length-drop at bytes) in
    c.as_chunks.ensures.front ∙ ap (λ k. first_chunks 8 k s) n ∙ eights_of_take count (at + 8 * count - at) (drop at bytes) (omega arith)
