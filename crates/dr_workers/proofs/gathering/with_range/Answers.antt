use Rattle.std.proofs.Common.{◌++◌}
use Rattle.dr_workers.proofs.Selected.{more-wait, together-added}
use Rattle.dr_workers.proofs.gathering.with_range.Goals as goal

pub with_waiting-requires : goal.with_waiting-requires
with_waiting-requires c = record {
  own = (
    c.requires.own.0 ++ c.args.fragment.now.rows,
    more-wait c.args.query.now c.requires.own.0 c.args.groups c.args.waiting.now.items c.args.fragment.now.rows c.put_rows.new.waiting.items c.requires.instants c.in_ok-put_rows.ensures c.requires.own.1,
  );
}

pub returns : goal.returns
returns c =
    together-added c.args.query.now c.with_waiting.result c.args.groups c.args.waiting.now.items c.args.fragment.now.rows c.put_rows.new.waiting.items c.with_waiting.new.waiting.items
    c.requires.instants c.in_ok-put_rows.ensures c.with_waiting.ensures.value c.with_waiting.ensures.none
