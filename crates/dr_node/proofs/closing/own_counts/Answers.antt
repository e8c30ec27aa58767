use Rattle.std.proofs.Common.{◌≡◌, ◌∙◌, sym, ap, subst, ◌+◌, ◌<◌, ◌≤◌, length, get_or, arith, Some}
use Rattle.std.specs.Prelude.{slice_get}
use Rattle.std.proofs.Math.ListN.{set}
use Rattle.std.proofs.lemmas.Grind.{get_or_default_zero}
use Rattle.std.proofs.lemmas.Option.{get_or_from_slice_get}
use Rattle.dr_base.specs.declared.event.Event.{Event}
use Rattle.dr_node.proofs.Counting.{counted-few, counted-all}
use Rattle.dr_node.proofs.Compared.{AreCompared, own_of, compared-more, own-next, own_shown}
use Rattle.dr_node.proofs.closing.own_counts.Goals as goal

pub overflow_add-index_mut : goal.overflow_add-index_mut
overflow_add-index_mut g c =
    let es = c.args.snapshot.now.stream in
    let i = c.loop-number.number in
    let e = c.event_at-event.result.now in
    let xs = c.loop-number.counts.items in
    let lt : i < length es = omega (arith, c.loop-number-test.true, c.event_count-number-end.ensures) in
    let is : get_or es i e ≡ e = get_or_from_slice_get es i e e c.event_at-event.ensures in
    let below : e.seat < g.B.Books.seats = subst (λ (x : Event). x.seat < g.B.Books.seats) is (c.requires.marks i e lt) in
    let mark : c.from-mark.result < g.B.Books.seats = omega (arith, below, c.from-mark.ensures) in
    let inside : c.from-mark.result < length xs = omega (arith, mark, c.loop-number.invariant.counted.long) in
    let held = c.index_mut.ensures.value ∙ get_or_default_zero xs c.from-mark.result c.index_mut.result.now inside in
    let few = counted-few g.B.Books.seats es i xs c.from-mark.result c.loop-number.invariant.counted mark in
    omega (arith, held, few, c.loop-number-test.true, c.event_count-number-end.type_inv)

pub loop-number-preserved : goal.loop-number-preserved
loop-number-preserved g c =
    let es = c.args.snapshot.now.stream in
    let i = c.loop-number.number in
    let e = c.event_at-event.result.now in
    let xs = c.loop-number.counts.items in
    let lt : i < length es = omega (arith, c.loop-number-test.true, c.event_count-number-end.ensures) in
    let is : get_or es i e ≡ e = get_or_from_slice_get es i e e c.event_at-event.ensures in
    let below : e.seat < g.B.Books.seats = subst (λ (x : Event). x.seat < g.B.Books.seats) is (c.requires.marks i e lt) in
    let inside : c.from-mark.result < length xs = omega (arith, below, c.from-mark.ensures, c.loop-number.invariant.counted.long) in
    let held = c.index_mut.ensures.value ∙ get_or_default_zero xs c.from-mark.result c.index_mut.result.now inside ∙ ap (λ m. get_or xs m 0) c.from-mark.ensures in
    let found = c.has_at.ensures.0 c.if-not-has_at.false in
    let there : slice_get (own_of c.args.seats.now c.args.places.now e.seat) (get_or xs e.seat 0) ≡ Some e =
    own-next c.args.seats.now c.args.places.now xs e.seat c.from-mark.result c.index.result.now c.index-seats-places.result e (c.requires.places.each e.seat below) (omega (arith, below, c.loop-number.invariant.counted.long)) c.from-mark.ensures c.index-seats-places.is c.index.ensures found in
    subst (λ m. AreCompared g.B.Books.seats c.args.seats.now c.args.places.now es (i + 1) (set xs m (c.index_mut.result.now + 1))) (sym c.from-mark.ensures)
    (compared-more g.B.Books.seats c.args.seats.now c.args.places.now es i (c.index_mut.result.now + 1) e xs c.loop-number.invariant lt is below there (ap (λ k. k + 1) held))

pub returns-clause-counts : goal.returns-clause-counts
returns-clause-counts g c =
    let past : length c.args.snapshot.now.stream ≤ c.loop-number.number = omega (arith, c.loop-number-test.false, c.event_count-number-end.ensures) in
    counted-all g.B.Books.seats c.args.snapshot.now.stream c.loop-number.number c.loop-number.counts.items past c.loop-number.invariant.counted

pub returns-clause-own : goal.returns-clause-own
returns-clause-own g c =
    let past : length c.args.snapshot.now.stream ≤ c.loop-number.number = omega (arith, c.loop-number-test.false, c.event_count-number-end.ensures) in
    λ j d lt. own_shown g.B.Books.seats c.args.seats.now c.args.places.now c.args.snapshot.now.stream c.loop-number.number c.loop-number.counts.items j d c.requires.places c.loop-number.invariant past c.requires.all.once lt (c.have_no_more.ensures.seats c.if-not-have_no_more.false j d lt).1
    (ap (λ l. get_or l (get_or c.args.seats.now j d).number 0) (sym c.as_slice.ensures.value) ∙ c.have_no_more.ensures.counts c.if-not-have_no_more.false j d lt)
