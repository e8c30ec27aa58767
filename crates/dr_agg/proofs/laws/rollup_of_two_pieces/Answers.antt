use Rattle.std.proofs.Common.{◌∙◌, sym, ap, ◌++◌}
use Rattle.std.proofs.lemmas.List.{append-nil}
use Rattle.dr_agg.specs.Rollup.{rollup}
use Rattle.dr_agg.proofs.RollupLaws.{rollup-append}
use Rattle.dr_agg.proofs.laws.rollup_of_two_pieces.Goals as goal

pub returns : goal.returns
returns c = λ combines kinds a b.
    rollup-append combines kinds a b ∙ ap (λ l. rollup combines kinds (rollup combines kinds a ++ l)) (sym (append-nil (rollup combines kinds b)))
