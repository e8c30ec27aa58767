use Rattle.dr_having.specs.OutputMeets.{output_meets}
use Rattle.dr_having.proofs.Gathering.{outputs-more}
use Rattle.dr_having.proofs.conjunction.Conjunction.add_output.Goals as goal

pub returns : goal.returns
returns c = outputs-more c.args.self.now c.add.new.self (λ dims values. output_meets dims values c.args.output) c.add.result c.add.ensures
