use Rattle.std.proofs.Common.{◌≡◌, ◌∙◌, ◌&&◌, sym, subst, true, false, OnOk, rules, FitsSigned, w64}
use Rattle.std.proofs.lemmas.Int.{to_z-of_z}
use Rattle.dr_base.specs.declared.row.Row.{Row}
use Rattle.dr_ask.specs.Asked.{dimensions_by}
use Rattle.dr_ask.specs.Once.{asked_once}
use Rattle.dr_answers.specs.Groups.{grouped_values}
use Rattle.dr_answers.specs.Selection.{passes, selects}
use Rattle.dr_partial.specs.Grouped.{folds_alone, Adds}
use Rattle.dr_partial.specs.Partial.{kinds_in}
use Rattle.dr_partial.proofs.Pieces.{passed-over, added}
use Rattle.dr_partial.proofs.rows.add_held.Goals as goal

pub returns-then-not-passes : goal.returns-then-not-passes
returns-then-not-passes c =
    let q = asked_once c.args.query.now in
    let r : Row = record { key = record { time = c.args.key.now.time; dims = c.args.key.now.dims.now }; metrics = c.args.metrics.now } in
    let fits : FitsSigned w64 r.key.time = search rules in
    let tested = rw (to_z-of_z w64 r.key.time fits) at c.passes.ensures in
    let stopped : passes q.filter r.key ≡ false = sym tested ∙ search rules in
    let left_out : selects q r.key ≡ false = λ i. c.requires.held.0 i && stopped i in
    passed-over q c.args.groups.now r left_out c.requires.sound

pub returns : goal.returns
returns c =
    let q = asked_once c.args.query.now in
    let r : Row = record { key = record { time = c.args.key.now.time; dims = c.args.key.now.dims.now }; metrics = c.args.metrics.now } in
    let before = c.args.groups.now in
    let after = c.add_passed.new.groups in
    let fits : FitsSigned w64 r.key.time = search rules in
    let f : FitsSigned w64 c.args.bucket = search rules in
    let tested = rw (to_z-of_z w64 r.key.time fits) at c.passes.ensures in
    let passed : passes q.filter r.key ≡ true = sym tested ∙ search rules in
    let taken : selects q r.key ≡ true = λ i. c.requires.held.0 i && passed i in
    let adds = rw (to_z-of_z w64 c.args.bucket f) at c.add_passed.ensures in
    added q before after r taken c.add_passed.result
    (subst (λ t. OnOk c.add_passed.result (Adds (kinds_in q.aggregations) before (record { key = record { time = t; dims = grouped_values (dimensions_by q.shape) r.key.dims }; metrics = folds_alone q.aggregations r.metrics }) after)) (sym c.requires.held.1) adds)
