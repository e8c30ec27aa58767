use Rattle.std.proofs.Common.{◌≡◌, map, drop}
use Rattle.std.specs.List.{list_all}
use Rattle.std.specs.Str.{is_utf8}
use Rattle.dr_image.specs.Words.{word}
use Rattle.dr_image.specs.Pieces.{pieces}
use Rattle.dr_image.proofs.contents.are_utf8.Given as goal

abbrev pub invariant-loop-v : goal.invariant-loop-v
invariant-loop-v l = list_all is_utf8 (drop l.v (pieces 0 (map word l.ends) l.texts)) ≡ list_all is_utf8 (pieces 0 (map word l.ends) l.texts)
