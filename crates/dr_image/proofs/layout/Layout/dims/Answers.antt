use Rattle.dr_image.proofs.LayoutLemmas.{length-parts_in}
use Rattle.dr_image.proofs.layout.Layout.dims.Goals as goal

pub returns : goal.returns
returns c = length-parts_in c.args.self.now.bytes.now c.args.self.now.header c.args.self.now.head
