use Rattle.dr_workers.proofs.Selected.{alone-added}
use Rattle.dr_workers.proofs.gathering.with_large_range.Goals as goal

pub returns : goal.returns
returns c =
    alone-added c.args.query.now c.add_fragment.result c.args.groups c.args.waiting.now.items c.in_ok-groups.groups c.args.fragment.now.rows c.with_waiting.new.waiting.items
    c.in_ok-groups.ensures.value c.in_ok-groups.ensures.none c.add_fragment.ensures.value c.add_fragment.ensures.printable
