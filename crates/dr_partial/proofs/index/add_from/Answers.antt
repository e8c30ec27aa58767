use Rattle.std.proofs.Common.{◌≡◌, ◌∙◌, ◌+◌, ◌&&◌, ◌∷◌, [], sym, ap, subst, false, slice_range, arith, rules, FitsSigned, w64}
use Rattle.std.proofs.lemmas.Int.{to_z-of_z}
use Rattle.std.specs.List.{AllByRecursion}
use Rattle.dr_base.specs.declared.row.Row.{Row}
use Rattle.dr_time.specs.Instant.{IsInstant}
use Rattle.dr_time.specs.Union.{union_holds}
use Rattle.dr_ask.specs.Once.{asked_once}
use Rattle.dr_answers.specs.Selection.{passes, selects}
use Rattle.dr_partial.specs.Grouped.{AddsAll}
use Rattle.dr_partial.specs.Runs.{IsWithin, LiesIn}
use Rattle.dr_partial.proofs.Pieces.{passed-over}
use Rattle.dr_partial.proofs.Runs.{none, one-first, member, turned}
use Rattle.dr_partial.proofs.index.add_from.Goals as goal

pub returns-then-not-contains-clause-adds : goal.returns-then-not-contains-clause-adds
returns-then-not-contains-clause-adds c =
    let q = asked_once c.args.query.now in
    let before = c.args.groups.now in
    let rows = c.args.rows.now in
    let from = c.args.from in
    let r : Row = record { key = record { time = c.row-time.result.0; dims = c.row-time.result.1.now }; metrics = c.row-time.result.2.now } in
    let fits : FitsSigned w64 r.key.time = search rules in
    let tested = rw (to_z-of_z w64 r.key.time fits) at c.contains.ensures in
    let apart : union_holds q.intervals r.key.time ≡ false = sym tested ∙ search rules in
    let left_out : selects q r.key ≡ false = ap (λ b. b && passes q.filter r.key) apart in
    let one : slice_range rows from (from + 1) ≡ r ∷ [] = one-first rows from (from + 1) r (omega arith) (omega (arith, c.requires.from)) c.row-time.ensures ∙ ap (λ l. r ∷ l) (none rows (from + 1)) in
    subst (λ l. AddsAll q before l before) (sym one) (passed-over q before r left_out c.requires.sound)

pub around-window-requires-clause-instant : goal.around-window-requires-clause-instant
around-window-requires-clause-instant c =
    let r : Row = record { key = record { time = c.row-time.result.0; dims = c.row-time.result.1.now }; metrics = c.row-time.result.2.now } in
    let fits : FitsSigned w64 r.key.time = search rules in
    rw (to_z-of_z w64 r.key.time fits) (member (λ (x : Row). IsInstant x.key.time) c.args.rows.now c.args.from r c.row-time.ensures c.requires.instants)

pub add_run-requires-clause-same : goal.add_run-requires-clause-same
add_run-requires-clause-same c =
    let q = asked_once c.args.query.now in
    let rows = c.args.rows.now in
    let from = c.args.from in
    let to = c.run_end-to.result in
    let w = c.around-window.result in
    let r : Row = record { key = record { time = c.row-time.result.0; dims = c.row-time.result.1.now }; metrics = c.row-time.result.2.now } in
    let fits : FitsSigned w64 r.key.time = search rules in
    let f : FitsSigned w64 w.bucket = search rules in
    let own = rw (to_z-of_z w64 r.key.time fits) at c.around-window.ensures.own in
    let same = c.around-window.ensures.same in
    let lies : (x : Row) → IsWithin w x → LiesIn q w.bucket x.key.time = λ x within. same x.key.time within.0 within.1 in
    rw (to_z-of_z w64 w.bucket f)
    (subst (AllByRecursion (λ x. LiesIn q w.bucket x.key.time)) (sym (one-first rows from to r (omega (arith, c.run_end-to.ensures.more)) c.run_end-to.ensures.within c.row-time.ensures))
    (lies r own, turned (IsWithin w) (λ x. LiesIn q w.bucket x.key.time) (slice_range rows (from + 1) to) lies c.run_end-to.ensures.inside))
