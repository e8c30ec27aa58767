use Rattle.std.proofs.Common.{◌∙◌, sym, ap, arith, map, List, ℕ, []}
use Rattle.std.specs.Str.{is_utf8}
use Rattle.std.proofs.lemmas.List.{length-map}
use Rattle.dr_image.specs.Words.{word}
use Rattle.dr_image.specs.Pieces.{pieces}
use Rattle.dr_image.proofs.PieceLemmas.{length-pieces}
use Rattle.dr_image.proofs.ContentLemmas.{all_stops, all_goes_on, all_ends}
use Rattle.dr_image.proofs.contents.are_utf8.Goals as goal

pub returns-then-not-is_text : goal.returns-then-not-is_text
returns-then-not-is_text c =
    let all : List (List ℕ) = pieces 0 (map word c.args.ends.now) c.args.texts.now in
    sym (sym c.loop-v.invariant ∙ all_stops is_utf8 all c.loop-v.v [] (omega (arith, length-map c.args.ends.now word, length-pieces 0 (map word c.args.ends.now) c.args.texts.now)) (ap is_utf8 (sym c.text_piece.ensures) ∙ sym c.is_text.ensures ∙ c.if-not-is_text.true))

pub loop-v-preserved : goal.loop-v-preserved
loop-v-preserved c =
    let all : List (List ℕ) = pieces 0 (map word c.args.ends.now) c.args.texts.now in
    sym (all_goes_on is_utf8 all c.loop-v.v [] (omega (arith, length-map c.args.ends.now word, length-pieces 0 (map word c.args.ends.now) c.args.texts.now)) (ap is_utf8 (sym c.text_piece.ensures) ∙ sym c.is_text.ensures ∙ c.if-not-is_text.false)) ∙ c.loop-v.invariant

pub returns : goal.returns
returns c =
    let all : List (List ℕ) = pieces 0 (map word c.args.ends.now) c.args.texts.now in
    sym (all_ends is_utf8 all c.loop-v.v (omega (arith, length-map c.args.ends.now word, length-pieces 0 (map word c.args.ends.now) c.args.texts.now, c.loop-v-test.false))) ∙ c.loop-v.invariant
