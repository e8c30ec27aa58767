use Rattle.std.proofs.Common.{rules, ◌∙◌, sym, arith, length, drop, ◌-◌}
use Rattle.std.proofs.lemmas.Bool.{eq-eqb, ne_eqb}
use Rattle.dr_image.proofs.StartLemmas.{fills_not, begun_more, begun_all, begun_none, part_size_some}
use Rattle.dr_image.proofs.framing.starts_of.Goals as goal

pub loop-d-init : goal.loop-d-init
loop-d-init c = begun_none c.args.bytes.now c.args.at c.args.rows c.args.dims _ c.requires.within (search rules)

pub loop-d-preserved : goal.loop-d-preserved
loop-d-preserved c =
    let room = c.loop-d.invariant.room in
    let some = c.size_of_part-size.ensures.some in
    begun_more c.args.bytes.now c.args.at c.args.rows c.args.dims c.loop-d.d c.loop-d.place c.size_of_part-size.result c.loop-d.starts c.loop-d.invariant c.loop-d-test.true c.requires.few
    c.size_of_part-size.ensures.value some (omega arith)

pub returns-then-end-place-lt8-clause-fills : goal.returns-then-end-place-lt8-clause-fills
returns-then-end-place-lt8-clause-fills c =
    let room = c.loop-d.invariant.room in
    let some = part_size_some c.args.rows (drop c.loop-d.place c.args.bytes.now) in
    fills_not c.args.bytes.now c.args.at c.args.rows c.args.dims c.loop-d.d c.loop-d.place c.loop-d.starts c.loop-d.invariant c.loop-d-test.true (omega arith)

pub returns-then-end-place-clause-fills : goal.returns-then-end-place-clause-fills
returns-then-end-place-clause-fills c =
    let room = c.loop-d.invariant.room in
    let size = c.size_of_part-size.ensures.value in
    fills_not c.args.bytes.now c.args.at c.args.rows c.args.dims c.loop-d.d c.loop-d.place c.loop-d.starts c.loop-d.invariant c.loop-d-test.true (omega arith)

pub returns-then-place-end-clause-fills : goal.returns-then-place-end-clause-fills
returns-then-place-end-clause-fills c =
    let room = c.loop-d.invariant.room in
    sym (eq-eqb (length c.args.bytes.now - c.loop-d.place) 32 (omega arith)) ∙ begun_all c.args.bytes.now c.args.at c.args.rows c.args.dims c.loop-d.d c.loop-d.place c.loop-d.starts c.loop-d.invariant c.loop-d-test.false

pub returns-clause-fills : goal.returns-clause-fills
returns-clause-fills c =
    let room = c.loop-d.invariant.room in
    sym (ne_eqb (length c.args.bytes.now - c.loop-d.place) 32 (λ e. c.if-place-end.false (omega arith))) ∙ begun_all c.args.bytes.now c.args.at c.args.rows c.args.dims c.loop-d.d c.loop-d.place c.loop-d.starts c.loop-d.invariant c.loop-d-test.false
