use Rattle.std.proofs.Common.{◌<◌, length, arith, rules}
use Rattle.dr_base.specs.declared.key.Key.{Key}
use Rattle.dr_rollup.proofs.Standing.{is-there, isn't-there, stands-within}
use Rattle.dr_rollup.proofs.placed.stands_at.Goals as goal

pub returns-then-place-count-clause-yes : goal.returns-then-place-count-clause-yes
returns-then-place-count-clause-yes g c = λ is.
    let keys = g.R.Keyed.keys c.args.rows.now in
    let k : Key = record { time = c.args.key.now.time; dims = c.args.key.now.dims.now } in
    let less : c.args.place < length keys = search rules in
    is-there keys k c.args.place c.has_key.result less c.has_key.ensures is

pub returns-then-place-count-clause-no : goal.returns-then-place-count-clause-no
returns-then-place-count-clause-no g c = λ is.
    let k : Key = record { time = c.args.key.now.time; dims = c.args.key.now.dims.now } in
    isn't-there (g.R.Keyed.keys c.args.rows.now) k c.args.place c.has_key.result c.has_key.ensures is

pub returns-else-place-count-clause-no : goal.returns-else-place-count-clause-no
returns-else-place-count-clause-no g c = λ is at.
    let keys = g.R.Keyed.keys c.args.rows.now in
    let k : Key = record { time = c.args.key.now.time; dims = c.args.key.now.dims.now } in
    let less = stands-within keys k c.args.place at in
    let all = c.count.ensures in
    let past = c.if-place-count.false in
    omega (arith, less, all, past)
