use Rattle.std.proofs.Common.{rules, subst, sym, w64, FitsSigned}
use Rattle.std.proofs.lemmas.Int.{to_z-of_z}
use Rattle.dr_answers.specs.declared.result_row.ResultRow.{ResultRow}
use Rattle.dr_time.specs.Printed.{IsPrintable}
use Rattle.dr_writer.proofs.TokensLaws.{time-printable}
use Rattle.dr_writer.proofs.writing.write_groups.Goals as goal

pub of-requires-then-group-stamp : goal.of-requires-then-group-stamp
of-requires-then-group-stamp c =
    let x = c.group-item.result in
    let fits : FitsSigned w64 x.time = search rules in
    rw (to_z-of_z w64 x.time fits) (subst (λ (g : ResultRow). IsPrintable g.time) (sym c.group-item.is) (time-printable c.args.groups.now c.loop-group.group-index x c.requires c.loop-group-test.true))
