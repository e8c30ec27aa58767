use Rattle.std.proofs.Common.{◌∙◌, ap, ◌∷◌, ◌++◌}
use Rattle.std.specs.Str.{chars}
use Rattle.dr_like.specs.Like.{behind_some_run, fits}
use Rattle.dr_like.proofs.PieceParts.{none-fits}
use Rattle.dr_like.proofs.pieces.behind_piece.Goals as goal

pub returns-in_default-split_first : goal.returns-in_default-split_first
returns-in_default-split_first c = λ q.
    c.in-Some.ensures.search q ∙ ap (λ p. behind_some_run (fits (p ++ 37 ∷ q)) (chars c.in-Some.from.now)) c.in_default-split_first.ensures.parts ∙ none-fits (chars c.in-Some.from.now) q
