use Rattle.std.proofs.Common.{◌∙◌, ◌++◌, ap, sym, ℕ, List, length, arith}
use Rattle.dr_answers.specs.Selection.{selected}
use Rattle.dr_ask.specs.Asked.{asked}
use Rattle.dr_base.specs.declared.row.Row.{Row}
use Rattle.dr_scan.specs.Window.{after, given}
use Rattle.dr_scan.specs.Written.{segment_tokens}
use Rattle.dr_scan.proofs.AskedTogether.{each-at, each-long}
use Rattle.dr_scan.proofs.InTurn.{as-many, goes-away, goes-next, goes-once, rows-of, turned}
use Rattle.dr_scan.proofs.lot_writing.write_told.Goals as goal

pub returns-then-is_over : goal.returns-then-is_over
returns-then-is_over c =
    goes-away (asked c.args.query.now) c.args.scan.now c.args.columns.now c.args.out.now c.loop-i.out c.args.window.now c.loop-i.window c.args.segments.now c.loop-i.i
    (turned _ (sym c.is_over.ensures ∙ c.if-is_over.true)) c.loop-i.invariant

pub bounds-told-i : goal.bounds-told-i
bounds-told-i c = omega (arith, c.loop-i-test.true, each-long (asked c.args.query.now) c.args.told.now c.args.rows.now c.requires.told, as-many c.args.segments.now c.args.rows.now c.requires.rows)

pub write_given-requires : goal.write_given-requires
write_given-requires c =
    each-at (asked c.args.query.now) c.args.told.now c.args.rows.now c.loop-i.i c.index-told-i.result c.index-rows-i.result c.requires.told
    (omega (arith, c.loop-i-test.true, as-many c.args.segments.now c.args.rows.now c.requires.rows)) c.index-told-i.is c.index-rows-i.is

pub loop-i-preserved : goal.loop-i-preserved
loop-i-preserved c =
    let q = asked c.args.query.now in
    let s = c.args.scan.now in
    let columns = c.args.columns.now in
    let before = c.loop-i.out in
    let w = c.loop-i.window in
    let g = c.index-segments-i.result in
    let rows = c.index-rows-i.result in
    let same = rows-of c.args.segments.now c.args.rows.now c.loop-i.i g rows c.requires.rows c.loop-i-test.true c.index-segments-i.is c.index-rows-i.is in
    let written = c.in_ok-write_given.ensures.tokens.1
    ∙ ap (λ (id : List ℕ). before.tokens ++ segment_tokens s columns id 0 (given w (selected q rows))) c.identifier-identifier.ensures
    ∙ ap (λ (rs : List Row). before.tokens ++ segment_tokens s columns g.identifier 0 (given w (selected q rs))) same in
    let moved = c.in_ok-write_given.ensures.window ∙ ap (λ (rs : List Row). after w (length (selected q rs))) same in
    goes-next q s columns c.args.out.now before c.write_given.new.out c.args.window.now w c.write_given.new.window c.args.segments.now c.loop-i.i g c.loop-i-test.true c.index-segments-i.is c.loop-i.invariant
    (goes-once q s columns before c.write_given.new.out w c.write_given.new.window g c.in_ok-write_given.ensures.tokens.0 written moved)
