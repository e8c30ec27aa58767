use Rattle.std.proofs.Common.{◌≡◌, ◌-◌, map, drop}
use Rattle.dr_image.specs.Words.{word}
use Rattle.dr_image.specs.Pieces.{pieces}
use Rattle.dr_image.specs.Sealed.{each_next}
use Rattle.dr_image.specs.Opening.{is_below}
use Rattle.dr_image.proofs.contents.do_ascend.Given as goal

abbrev pub invariant-loop-v : goal.invariant-loop-v
invariant-loop-v l = each_next is_below (drop (l.v - 1) (pieces 0 (map word l.ends) l.texts)) ≡ each_next is_below (pieces 0 (map word l.ends) l.texts)
