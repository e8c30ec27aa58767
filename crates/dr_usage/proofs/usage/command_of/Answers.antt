use Rattle.std.proofs.Common.{map, sym, subst, ◌∙◌}
use Rattle.clap.specs.Words.{app_of}
use Rattle.dr_usage.specs.Refusal.{Gives}
use Rattle.dr_usage.specs.Usage.{seen}
use Rattle.dr_usage.proofs.UsageLemmas.{command_by, command_none, found_is, gives_refusal, no_faults, some_fault}
use Rattle.dr_usage.proofs.usage.command_of.Goals as goal

pub returns-in-Some-clause-command : goal.returns-in-Some-clause-command
returns-in-Some-clause-command c =
    let app = app_of c.in_ok-usage.field-0 in
    let words = map (λ word. word.now) c.args.words.now in
    let none = no_faults app c.in_ok-usage.ensures words c.in-Ok.matches c.in-Ok.ensures.kinds in
    let entry = found_is app c.in_ok-usage.ensures words c.in-Ok.matches c.in-Ok.ensures.matches in
    subst (λ r. Gives seen c.named.result r) (sym (command_by words _ none (entry ∙ sym c.in-Some.ensures))) c.named.ensures.value

pub returns-in-Ok-clause-command : goal.returns-in-Ok-clause-command
returns-in-Ok-clause-command c =
    let app = app_of c.in_ok-usage.field-0 in
    let words = map (λ word. word.now) c.args.words.now in
    let none = no_faults app c.in_ok-usage.ensures words c.in-Ok.matches c.in-Ok.ensures.kinds in
    let entry = found_is app c.in_ok-usage.ensures words c.in-Ok.matches c.in-Ok.ensures.matches in
    λ _. command_none words none (entry ∙ sym c.in-None.ensures)

pub returns-clause-command : goal.returns-clause-command
returns-clause-command c =
    let app = app_of c.in_ok-usage.field-0 in
    let words = map (λ word. word.now) c.args.words.now in
    let fault = some_fault app c.in_ok-usage.ensures words c.in-Err.error c.in-Err.ensures.kinds in
    gives_refusal words c.kind.result c.refusal.result c.refusal.ensures (rw c.kind.ensures fault)
