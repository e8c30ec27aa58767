use Rattle.std.proofs.Common.{◌≡◌, ◌∙◌, ap, ap₂, codes, true, rules}
use Rattle.std.proofs.lemmas.Result.{IfOk-weaker}
use Rattle.clap.specs.Words.{App, app_of, new_app, with_subcommand}
use Rattle.clap.specs.Simple.{on_top}
use Rattle.dr_usage.specs.Usage.{load_usage, run_usage, usage}
use Rattle.dr_usage.proofs.usage.usage.Goals as goal

abbrev top : App
top = on_top (λ s. record s { no_binary_name = true; disable_help_flag = true; disable_help_subcommand = true; subcommand_required = true }) (new_app (codes "druid-node"))

pub returns : goal.returns
unfolding usage
returns c =
    let top_is : app_of c.subcommand_required.result ≡ top = search rules in
    let one : app_of c.in_ok-subcommand.field-0 ≡ with_subcommand top run_usage.top =
    c.in_ok-subcommand.ensures.shape c.in_ok-run.ensures.globals ∙ ap₂ with_subcommand top_is (ap (λ (a : App). a.top) c.in_ok-run.ensures.app) in
    let two : app_of c.in_ok-subcommand-2.field-0 ≡ with_subcommand (with_subcommand top run_usage.top) load_usage.top =
    c.in_ok-subcommand-2.ensures.shape c.in_ok-load.ensures.globals ∙ ap₂ with_subcommand one (ap (λ (a : App). a.top) c.in_ok-load.ensures.app) in
    IfOk-weaker c.subcommand-3.result _ _
    (λ command h. h.shape c.in_ok-dump.ensures.globals ∙ ap₂ with_subcommand two (ap (λ (a : App). a.top) c.in_ok-dump.ensures.app))
    c.subcommand-3.ensures
