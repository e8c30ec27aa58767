use Rattle.std.proofs.Common.{◌≡◌, ◌∙◌, sym, ap, arith, map, List, ℕ, get_or, []}
use Rattle.std.proofs.lemmas.List.{length-map}
use Rattle.dr_image.specs.Words.{word}
use Rattle.dr_image.specs.Pieces.{pieces}
use Rattle.dr_image.specs.Opening.{is_row_list}
use Rattle.dr_image.proofs.PieceLemmas.{length-pieces}
use Rattle.dr_image.proofs.ContentLemmas.{list_stops, list_goes_on, lists_end, piece_of_words}
use Rattle.dr_image.proofs.contents.do_row_lists_fit.Goals as goal

pub returns-then-not-is_list_of : goal.returns-then-not-is_list_of
returns-then-not-is_list_of c =
    let ends : List ℕ = map word c.args.ends.now in
    let lists : List (List ℕ) = pieces 0 ends (map word c.args.rows.now) in
    let e : get_or lists c.loop-v.v [] ≡ map word c.list_piece.result.now = piece_of_words ends c.args.rows.now c.loop-v.v (omega (arith, length-map c.args.ends.now word)) ∙ ap (map word) (sym c.list_piece.ensures) in
    sym (sym c.loop-v.invariant ∙ list_stops lists (map word c.args.numbers.now) c.loop-v.v (omega (arith, length-map c.args.ends.now word, length-pieces 0 ends (map word c.args.rows.now))) (ap (is_row_list c.loop-v.v (map word c.args.numbers.now)) e ∙ sym c.is_list_of.ensures ∙ c.if-not-is_list_of.true))

pub loop-v-preserved : goal.loop-v-preserved
loop-v-preserved c =
    let ends : List ℕ = map word c.args.ends.now in
    let lists : List (List ℕ) = pieces 0 ends (map word c.args.rows.now) in
    let e : get_or lists c.loop-v.v [] ≡ map word c.list_piece.result.now = piece_of_words ends c.args.rows.now c.loop-v.v (omega (arith, length-map c.args.ends.now word)) ∙ ap (map word) (sym c.list_piece.ensures) in
    sym (list_goes_on lists (map word c.args.numbers.now) c.loop-v.v (omega (arith, length-map c.args.ends.now word, length-pieces 0 ends (map word c.args.rows.now))) (ap (is_row_list c.loop-v.v (map word c.args.numbers.now)) e ∙ sym c.is_list_of.ensures ∙ c.if-not-is_list_of.false)) ∙ c.loop-v.invariant

pub returns : goal.returns
returns c =
    let ends : List ℕ = map word c.args.ends.now in
    let lists : List (List ℕ) = pieces 0 ends (map word c.args.rows.now) in
    sym (lists_end lists (map word c.args.numbers.now) c.loop-v.v (omega (arith, length-map c.args.ends.now word, length-pieces 0 ends (map word c.args.rows.now), c.loop-v-test.false))) ∙ c.loop-v.invariant
