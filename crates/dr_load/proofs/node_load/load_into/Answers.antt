use Rattle.dr_load.proofs.Tellings.{tells-raw}
use Rattle.dr_load.proofs.node_load.load_into.Goals as goal

pub returns : goal.returns
returns g c = tells-raw (λ text. text.items) _ _ _ _ _ _ _ c.in_ok-closed.ensures.schema c.answered-text.ensures
