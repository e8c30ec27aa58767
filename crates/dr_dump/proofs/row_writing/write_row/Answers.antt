use Rattle.std.proofs.Common.{◌≡◌, ◌∙◌, ◌∷◌, [], ◌++◌, rules, FitsSigned}
use Rattle.std.specs.Int.{w64}
use Rattle.std.specs.Fmt.{signed_decimal}
use Rattle.std.proofs.lemmas.Int.{to_z-of_z}
use Rattle.std.proofs.lemmas.Result.{on_ok_weaker}
use Rattle.json.specs.Token.{number}
use Rattle.dr_dump.proofs.RowLemmas.{row_written}
use Rattle.dr_dump.proofs.row_writing.write_row.Goals as goal

pub returns : goal.returns
returns c =
    let fits : FitsSigned w64 c.time.result = search rules in
    let time : c.i64.new.self.tokens ≡ c.begin_array.new.self.tokens ++ number (signed_decimal c.time.result) ∷ [] = simp to_z-of_z at c.in_ok-i64.ensures.ok in
    let before = c.end_array.ensures.room.0 ∙ c.in_ok-write_metrics.ensures.0 ∙ c.in_ok-write_dimensions.ensures.0 ∙ c.i64.ensures.room.0 ∙ c.begin_array.ensures.room.0 in
    on_ok_weaker c.end_array.result
    (λ e. (before, row_written _ _ _ _ _ _ c.args.view.now c.args.i c.time.result c.time.ensures c.in_ok-begin_array.ensures.ok time c.in_ok-write_dimensions.ensures.1 c.in_ok-write_metrics.ensures.1 e))
    c.end_array.ensures.ok
