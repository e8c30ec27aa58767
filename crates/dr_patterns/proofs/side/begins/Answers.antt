use Rattle.std.proofs.Common.{◌∙◌, ap₂, nat_eq}
use Rattle.std.specs.List.{starts_with}
use Rattle.dr_patterns.proofs.Begun.{begins-starts_with}
use Rattle.dr_patterns.proofs.side.begins.Goals as goal

pub returns : goal.returns
returns c = c.starts_with.ensures.value ∙ ap₂ (starts_with nat_eq) c.as_bytes.ensures.value c.as_bytes-2.ensures.value ∙ begins-starts_with c.args.start.now c.args.text.now
