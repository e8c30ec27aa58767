use Rattle.clap.specs.Words.{found_of, rows_of}
use Rattle.clap.specs.declared.parser.matches.ArgMatches.TheViews.{out-ArgMatches}
use Rattle.dr_usage.proofs.UsageLemmas.{entry_by}
use Rattle.dr_usage.proofs.usage.entered.Goals as goal

pub returns : goal.returns
returns c =
    entry_by (λ entry. entry.0.now) (λ entry. rows_of (found_of entry.1.now)) c.subcommand.result (out-ArgMatches c.args.matches.now).subcommand c.subcommand.ensures.name c.subcommand.ensures.rows
