use Rattle.dr_dict.proofs.growing_dict.GrowingDict.len.Goals as goal

pub returns-clause-distinct : goal.returns-clause-distinct
returns-clause-distinct c = rw (← c.self.view_is) c.self.invariant.2
