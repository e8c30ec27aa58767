use Rattle.std.proofs.Common.{◌≡◌, Err, Ok, [], refl}
use Rattle.std.proofs.lemmas.Result.{err_from_is_err_and}
use Rattle.dr_lines.specs.Failures.{seen_by, failures_of}
use Rattle.dr_lines.specs.Lines.{CountsFailure}
use Rattle.dr_lines.specs.declared.next_line.NextLine.TheVariants.{Failed}
use Rattle.dr_script.specs.Runs.{ReadingFails, ReadingHolds, WhereOpen}
use Rattle.dr_script.specs.Script.{Script}
use Rattle.dr_script.proofs.ScriptSteps.{began, flushed, flushed_lost, runs_implied}
use Rattle.dr_script.proofs.script.run_all.Goals as goal

pub returns-in_err-refuses-in-Ok-clause-script : goal.returns-in_err-refuses-in-Ok-clause-script
returns-in_err-refuses-in-Ok-clause-script g c =
    let p = err_from_is_err_and c.from_residual.result c.from_residual.ensures.1 in
    let reader = seen_by g.R.Read.remaining c.args.reader.now in
    let after = seen_by g.R.Read.remaining c.run.new.reader in
    let holds = failures_of c.run.new.reader ≡ failures_of c.args.reader.now in
    let fails = CountsFailure Failed (failures_of c.args.reader.now) (failures_of c.run.new.reader) c.run.new.lines.reads in
    rw p.1
    (began holds fails reader after c.in-Ok.lines.ahead c.in-Ok.output _ _ c.in-Ok.lines.reads c.run.new.lines.reads [] (Err p.0) c.in-Ok.ensures (λ same. same) (λ failed. failed) c.in_err-refuses-in-Ok.ensures.reads
    c.in_err-refuses-in-Ok.ensures.script)

pub returns-in_err-flush-in-Ok-clause-script : goal.returns-in_err-flush-in-Ok-clause-script
returns-in_err-flush-in-Ok-clause-script g c =
    let p = err_from_is_err_and c.from_residual-in_err-flush-in-Ok.result c.from_residual-in_err-flush-in-Ok.ensures.1 in
    let reader = seen_by g.R.Read.remaining c.args.reader.now in
    let after = seen_by g.R.Read.remaining c.run.new.reader in
    let holds = failures_of c.run.new.reader ≡ failures_of c.args.reader.now in
    let fails = CountsFailure Failed (failures_of c.args.reader.now) (failures_of c.run.new.reader) c.run.new.lines.reads in
    let refuses = c.in_ok-refuses-in-Ok.refuses in
    let ran = began holds fails reader after c.in-Ok.lines.ahead c.in-Ok.output _ _ c.in-Ok.lines.reads c.run.new.lines.reads c.run.new.output (Ok refuses) c.in-Ok.ensures (λ same. same) (λ failed. failed) c.in_ok-refuses-in-Ok.ensures.reads
    c.in_ok-refuses-in-Ok.ensures.script in
    let lost = c.in_err-flush-in-Ok.ensures.bytes in
    rw p.1 (flushed_lost Script (WhereOpen Script) (ReadingHolds reader after) (ReadingFails reader after) reader.bytes after.bytes _ _ _ [] c.run.new.output refuses ran lost.0 [] p.0 lost.1)

pub returns-in_ok-flush-in-Ok-clause-script : goal.returns-in_ok-flush-in-Ok-clause-script
returns-in_ok-flush-in-Ok-clause-script g c =
    let reader = seen_by g.R.Read.remaining c.args.reader.now in
    let after = seen_by g.R.Read.remaining c.run.new.reader in
    let holds = failures_of c.run.new.reader ≡ failures_of c.args.reader.now in
    let fails = CountsFailure Failed (failures_of c.args.reader.now) (failures_of c.run.new.reader) c.run.new.lines.reads in
    let refuses = c.in_ok-refuses-in-Ok.refuses in
    let ran = began holds fails reader after c.in-Ok.lines.ahead c.in-Ok.output _ _ c.in-Ok.lines.reads c.run.new.lines.reads c.run.new.output (Ok refuses) c.in-Ok.ensures (λ same. same) (λ failed. failed) c.in_ok-refuses-in-Ok.ensures.reads
    c.in_ok-refuses-in-Ok.ensures.script in
    flushed Script (WhereOpen Script) (ReadingHolds reader after) (ReadingFails reader after) reader.bytes after.bytes _ _ _ [] c.run.new.output refuses ran c.in_ok-flush-in-Ok.ensures.bytes

pub returns-in-Err-clause-script : goal.returns-in-Err-clause-script
returns-in-Err-clause-script g c =
    let reader = seen_by g.R.Read.remaining c.args.reader.now in
    runs_implied Script (WhereOpen Script) (Unit {0}) ⊥ (ReadingHolds reader reader) (ReadingFails reader reader) (λ _. refl) (λ none. absurd none) reader.bytes reader.bytes _ _ [] [] c.refuse_all.result
    (c.refuse_all.ensures.script reader.bytes reader.bytes)
