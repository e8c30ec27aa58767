use Rattle.std.proofs.Common.{◌≡◌, ◌∙◌, sym, ap, arith, map, get_or, ◌∷◌, ℕ, List}
use Rattle.std.proofs.lemmas.List.{length-map}
use Rattle.dr_image.specs.Words.{word}
use Rattle.dr_image.proofs.PieceLemmas.{IsWithin, within, word_before, word_in}
use Rattle.dr_image.proofs.pieces.span.Goals as goal

pub returns-then-place-eq0 : goal.returns-then-place-eq0
returns-then-place-eq0 c =
    let cells : List (List ℕ) = c.args.ends.now in
    let it : IsWithin 0 (map word cells) c.args.last c.args.place = within 0 (map word cells) c.args.last c.args.place c.requires.fit (omega (arith, length-map cells word)) in
    let end : c.number-end.result ≡ get_or (map word cells) c.args.place 0 = c.number-end.ensures ∙ sym (word_in cells c.args.place c.requires.within) in
    let inside = it.ends_in in
    record {
      start = sym (ap (λ k. get_or (0 ∷ map word cells) k 0) c.if-place-eq0.true);
      end = end;
      rises = omega arith;
      inside = omega arith;
    }

pub returns-else-place-eq0 : goal.returns-else-place-eq0
returns-else-place-eq0 c =
    let cells : List (List ℕ) = c.args.ends.now in
    let it : IsWithin 0 (map word cells) c.args.last c.args.place = within 0 (map word cells) c.args.last c.args.place c.requires.fit (omega (arith, length-map cells word)) in
    let end : c.number-end.result ≡ get_or (map word cells) c.args.place 0 = c.number-end.ensures ∙ sym (word_in cells c.args.place c.requires.within) in
    let start : c.number.result ≡ get_or (0 ∷ map word cells) c.args.place 0 = c.number.ensures ∙ sym (word_before cells c.args.place c.requires.within c.if-place-eq0.false) in
    let inside = it.ends_in in
    let rises = it.rises in
    record {
      start = start;
      end = end;
      rises = omega arith;
      inside = omega arith;
    }
