use Rattle.std.proofs.Common.{rules, ◌∙◌}
use Rattle.clap.proofs.WalkLemmas.{byte_read}
use Rattle.dr_usage.proofs.named.byte_or_zero.Goals as goal

pub returns : goal.returns
returns c = c.unwrap_or.ensures ∙ byte_read c.args.text.now c.parse.result (search rules)
