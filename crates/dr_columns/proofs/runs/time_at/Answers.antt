use Rattle.std.proofs.Common.{◌∙◌, sym, subst, pos, rules, FitsSigned, w64}
use Rattle.std.proofs.lemmas.Int.{to_z-of_z}
use Rattle.std.proofs.lemmas.Option.{get_or_from_slice_get}
use Rattle.dr_time.specs.Instant.{IsInstant}
use Rattle.dr_columns.proofs.ValueLemmas.{key-time}
use Rattle.dr_columns.proofs.RunLemmas.{instant-at}
use Rattle.dr_columns.proofs.runs.time_at.Goals as goal

pub returns-clause-value : goal.returns-clause-value
returns-clause-value c =
    let t = c.args.view.now in
    let fits : FitsSigned w64 c.time.result = search rules in
    to_z-of_z w64 c.time.result fits ∙ sym (get_or_from_slice_get t.times c.args.i c.time.result (pos 0) c.time.ensures) ∙ sym (key-time t c.args.i)

pub returns-clause-instant : goal.returns-clause-instant
returns-clause-instant c =
    let t = c.args.view.now in
    let fits : FitsSigned w64 c.time.result = search rules in
    subst IsInstant (key-time t c.args.i ∙ get_or_from_slice_get t.times c.args.i c.time.result (pos 0) c.time.ensures ∙ sym (to_z-of_z w64 c.time.result fits)) (instant-at t _ c.args.i c.as_bytes.ensures.image c.requires)
