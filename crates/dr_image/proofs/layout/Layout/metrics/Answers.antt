use Rattle.dr_image.proofs.LayoutLemmas.{length-metrics_in}
use Rattle.dr_image.proofs.layout.Layout.metrics.Goals as goal

pub returns : goal.returns
returns c = length-metrics_in c.args.self.now.bytes.now c.args.self.now.header c.args.self.now.head
