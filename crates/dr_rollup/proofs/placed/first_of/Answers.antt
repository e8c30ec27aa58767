use Rattle.std.proofs.Common.{inl, inr, ◌<◌, length, subst, arith, rules}
use Rattle.dr_base.specs.declared.key.Key.{Key}
use Rattle.dr_rollup.specs.Placed.{StandsAt}
use Rattle.dr_rollup.proofs.Standing.{is-there, isn't-there, stands-within, below-or-at}
use Rattle.dr_rollup.proofs.placed.first_of.Goals as goal

pub returns-then-has_key-clause-found : goal.returns-then-has_key-clause-found
returns-then-has_key-clause-found g c =
    let keys = g.R.Keyed.keys c.args.rows.now in
    let k : Key = record { time = c.args.key.now.time; dims = c.args.key.now.dims.now } in
    let less : c.loop-place.place < length keys = search rules in
    is-there keys k c.loop-place.place c.has_key.result less c.has_key.ensures c.if-has_key.true

pub loop-place-preserved : goal.loop-place-preserved
loop-place-preserved g c = λ p less at.
    let keys = g.R.Keyed.keys c.args.rows.now in
    let k : Key = record { time = c.args.key.now.time; dims = c.args.key.now.dims.now } in
    elim (below-or-at p c.loop-place.place less) [
      | inl before ↦ c.loop-place.invariant p before at
      | inr here ↦ isn't-there keys k c.loop-place.place c.has_key.result c.has_key.ensures c.if-has_key.false (subst (λ q. StandsAt keys k q) here at)
    ]

pub returns-clause-none : goal.returns-clause-none
returns-clause-none g c = λ so place at.
    let keys = g.R.Keyed.keys c.args.rows.now in
    let k : Key = record { time = c.args.key.now.time; dims = c.args.key.now.dims.now } in
    let less = stands-within keys k place at in
    let all = c.count-place-end.ensures in
    let past = c.loop-place-test.false in
    c.loop-place.invariant place (omega (arith, less, all, past)) at
