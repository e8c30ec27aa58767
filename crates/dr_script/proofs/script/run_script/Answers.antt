use Rattle.std.proofs.Common.{◌≡◌, ◌∙◌, Bool, true, false, cond, refl}
use mir.Val.{bool_byte}
use Rattle.dr_lines.specs.Failures.{seen_by}
use Rattle.dr_script.specs.Headline.{RawScript}
use Rattle.dr_script.specs.Script.{Script}
use Rattle.dr_script.proofs.RawScripts.{raw_script}
use Rattle.dr_script.proofs.ScriptSteps.{ran, ran_lost, runs_also}
use Rattle.dr_script.proofs.script.run_script.Goals as goal

status_byte : (is_refused : Bool) → bool_byte is_refused ≡ cond is_refused 1 0
status_byte true = refl
status_byte false = refl

pub returns-in-Ok-clause-script : goal.returns-in-Ok-clause-script
returns-in-Ok-clause-script g c =
    let refused = c.in-Ok.is_refused in
    let after = c.run_all.new in
    ran Script (seen_by g.R.Read.remaining c.args.reader.now) (seen_by g.R.Read.remaining after.reader) (seen_by g.W.Write.contents c.args.writer.now) (seen_by g.W.Write.contents after.writer)
    refused _ (c.from-in-Ok.ensures ∙ status_byte refused) c.in-Ok.ensures.failures c.in-Ok.ensures.script

pub returns-in-Ok-clause-raw_where_matching : goal.returns-in-Ok-clause-raw_where_matching
returns-in-Ok-clause-raw_where_matching g c =
    let refused = c.in-Ok.is_refused in
    let reader = seen_by g.R.Read.remaining c.args.reader.now in
    let reader_after = seen_by g.R.Read.remaining c.run_all.new.reader in
    let writer = seen_by g.W.Write.contents c.args.writer.now in
    let writer_after = seen_by g.W.Write.contents c.run_all.new.writer in
    runs_also Script RawScript reader reader_after writer writer_after _ raw_script
    (ran Script reader reader_after writer writer_after refused _ (c.from-in-Ok.ensures ∙ status_byte refused) c.in-Ok.ensures.failures c.in-Ok.ensures.script)

pub returns-in-Err-clause-raw_where_matching : goal.returns-in-Err-clause-raw_where_matching
returns-in-Err-clause-raw_where_matching g c =
    let reader = seen_by g.R.Read.remaining c.args.reader.now in
    let reader_after = seen_by g.R.Read.remaining c.run_all.new.reader in
    let writer = seen_by g.W.Write.contents c.args.writer.now in
    let writer_after = seen_by g.W.Write.contents c.run_all.new.writer in
    runs_also Script RawScript reader reader_after writer writer_after 1 raw_script
    (ran_lost Script reader reader_after writer writer_after c.in-Err.field-0 1 refl c.in-Err.ensures.failures c.in-Err.ensures.script)
