use Rattle.std.proofs.Common.{sym, arith, subst, List, ℕ}
use Rattle.std.specs.Str.{IsUtf8}
use Rattle.std.proofs.lemmas.List.{length-map}
use Rattle.dr_image.specs.Words.{word}
use Rattle.dr_image.specs.Parts.{part_seen}
use Rattle.dr_image.proofs.ReadingLemmas.{text_is_utf8}
use Rattle.dr_image.proofs.reading.text_of.Goals as goal

pub from_utf8_unchecked-requires : goal.from_utf8_unchecked-requires
from_utf8_unchecked-requires c =
    subst (λ (t : List ℕ). IsUtf8 t) (sym c.text_piece-text.ensures) (text_is_utf8 (part_seen c.args.part) c.args.v c.requires.fit (omega (arith, length-map c.args.part.ends.now word)))
