use Rattle.std.proofs.Common.{rules, FitsSigned, w64}
use Rattle.std.proofs.lemmas.Int.{to_z-of_z}
use Rattle.dr_columns.specs.Rows.{key_at}
use Rattle.dr_columns.proofs.RunLemmas.{time-bounds}
use Rattle.dr_columns.proofs.selection.is_within.Goals as goal

pub returns : goal.returns
returns c =
    let t = c.args.view.now in
    let low : FitsSigned w64 c.min_time.result = search rules in
    let high : FitsSigned w64 c.max_time.result = search rules in
    let all = simp to_z-of_z at c.holds_all.ensures.all in
    λ yes i lt.
    let b = time-bounds t i c.min_time.result c.max_time.result lt c.min_time.ensures.least c.max_time.ensures.greatest in
    all yes (key_at t i).time b.0 b.1
