use Rattle.tests_workers.proofs.adding.with_more.Goals as goal

pub add_rows-requires-clause-own : goal.add_rows-requires-clause-own
add_rows-requires-clause-own c = (_, c.in_ok-groups.ensures.value)
