use Rattle.std.proofs.Common.{inr, rules}
use Rattle.dr_base.specs.declared.key.Key.{Key}
use Rattle.dr_rollup.proofs.Standing.{found-kept, found-longer, found-behind}
use Rattle.dr_rollup.proofs.placed.Placed.put.Goals as goal

pub returns-clause-kept : goal.returns-clause-kept
returns-clause-kept c = λ keys fresh found.
    let k : Key = record { time = c.args.key.now.time; dims = c.args.key.now.dims.now } in
    let old = c.args.self.now in
    let kept = found-kept keys old.table c.put.new.self old.far c.put.ensures.kept found in
    found-behind keys k c.put.new.self old.far c.insert.new.self c.args.place (search rules) fresh kept

pub returns-clause-put : goal.returns-clause-put
returns-clause-put c = λ keys fresh here found.
    let k : Key = record { time = c.args.key.now.time; dims = c.args.key.now.dims.now } in
    let old = c.args.self.now in
    let kept = found-kept keys old.table c.put.new.self old.far c.put.ensures.kept found in
    let behind = found-behind keys k c.put.new.self old.far c.insert.new.self c.args.place (search rules) fresh kept in
    found-longer keys k c.put.new.self c.insert.new.self (inr (search (here, rules))) behind
