use Rattle.std.proofs.Common.{◌≡◌, map, drop}
use Rattle.dr_image.specs.Words.{word}
use Rattle.dr_image.specs.Pieces.{ends_fit}
use Rattle.dr_image.proofs.pieces.do_ends_fit.Given as goal

-- the ends that are left decide
abbrev pub invariant-loop-end : goal.invariant-loop-end
invariant-loop-end l = ends_fit l.start (map word (drop l.end-index l.ends)) l.last ≡ ends_fit 0 (map word l.ends) l.last
