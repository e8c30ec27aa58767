use Rattle.std.proofs.Common.{◌≡◌, ◌∙◌, sym, ap, arith, map, List, ℕ, get_or, [], ◌+◌, ◌-◌, drop}
use Rattle.std.proofs.lemmas.List.{length-map}
use Rattle.dr_image.specs.Words.{word}
use Rattle.dr_image.specs.Pieces.{pieces}
use Rattle.dr_image.specs.Sealed.{each_next}
use Rattle.dr_image.specs.Opening.{is_below}
use Rattle.dr_image.proofs.PieceLemmas.{length-pieces}
use Rattle.dr_image.proofs.ContentLemmas.{next_stops, next_goes_on, next_ends}
use Rattle.dr_image.proofs.contents.do_ascend.Goals as goal

pub returns-then-not-comes_before : goal.returns-then-not-comes_before
returns-then-not-comes_before c =
    let all : List (List ℕ) = pieces 0 (map word c.args.ends.now) c.args.texts.now in
    let i : ℕ = c.loop-v.v - 1 in
    let next : i + 1 ≡ c.loop-v.v = omega arith in
    let test : is_below (get_or all i []) (get_or all (i + 1) []) ≡ c.comes_before.result = (λ k. is_below (sym c.text_piece.ensures k) ((ap (λ (j : ℕ). get_or all j []) next ∙ sym c.text_piece-in-loop-v.ensures) k)) ∙ sym c.comes_before.ensures in
    sym (sym c.loop-v.invariant ∙ next_stops is_below all i [] (omega (arith, length-map c.args.ends.now word, length-pieces 0 (map word c.args.ends.now) c.args.texts.now)) (test ∙ c.if-not-comes_before.true))

pub loop-v-preserved : goal.loop-v-preserved
loop-v-preserved c =
    let all : List (List ℕ) = pieces 0 (map word c.args.ends.now) c.args.texts.now in
    let i : ℕ = c.loop-v.v - 1 in
    let next : i + 1 ≡ c.loop-v.v = omega arith in
    let test : is_below (get_or all i []) (get_or all (i + 1) []) ≡ c.comes_before.result = (λ k. is_below (sym c.text_piece.ensures k) ((ap (λ (j : ℕ). get_or all j []) next ∙ sym c.text_piece-in-loop-v.ensures) k)) ∙ sym c.comes_before.ensures in
    ap (λ (k : ℕ). each_next is_below (drop k all)) (omega arith) ∙ sym (next_goes_on is_below all i [] (omega (arith, length-map c.args.ends.now word, length-pieces 0 (map word c.args.ends.now) c.args.texts.now)) (test ∙ c.if-not-comes_before.false)) ∙ c.loop-v.invariant

pub returns : goal.returns
returns c =
    let all : List (List ℕ) = pieces 0 (map word c.args.ends.now) c.args.texts.now in
    sym (next_ends is_below all (c.loop-v.v - 1) (omega (arith, length-map c.args.ends.now word, length-pieces 0 (map word c.args.ends.now) c.args.texts.now, c.loop-v-test.false))) ∙ c.loop-v.invariant
