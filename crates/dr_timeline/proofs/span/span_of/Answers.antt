use Rattle.std.proofs.Common.{◌∙◌, sym, ap, subst, rules, w64, FitsSigned, Some}
use Rattle.std.proofs.lemmas.Int.{to_z-of_z}
use Rattle.dr_timeline.proofs.Times.{EndsAtInstants}
use Rattle.dr_timeline.proofs.Spans.{ends-times, span-times, span_truncated}
use Rattle.dr_timeline.proofs.span.span_of.Goals as goal

pub row_time-requires : goal.row_time-requires
row_time-requires c =
    let ends : EndsAtInstants (Some (c.in-Some.least, c.in-Some.greatest)) = subst EndsAtInstants (sym c.times.ensures ∙ c.in-Some.is) (ends-times c.args.schema.now c.args.events.now.items c.requires) in
    let fits : FitsSigned w64 c.in-Some.least = search rules in
    rw (to_z-of_z w64 c.in-Some.least fits) ends.0

pub row_time-requires-in-Some : goal.row_time-requires-in-Some
row_time-requires-in-Some c =
    let ends : EndsAtInstants (Some (c.in-Some.least, c.in-Some.greatest)) = subst EndsAtInstants (sym c.times.ensures ∙ c.in-Some.is) (ends-times c.args.schema.now c.args.events.now.items c.requires) in
    let fits : FitsSigned w64 c.in-Some.greatest = search rules in
    rw (to_z-of_z w64 c.in-Some.greatest fits) ends.1

pub returns-in-None : goal.returns-in-None
returns-in-None c = sym (span-times c.args.schema.now c.args.events.now.items c.requires ∙ ap (span_truncated c.args.schema.now.query_granularity) (sym c.times.ensures ∙ c.in-None.is))

pub returns-in-Some : goal.returns-in-Some
returns-in-Some c =
    let least : FitsSigned w64 c.in-Some.least = search rules in
    let greatest : FitsSigned w64 c.in-Some.greatest = search rules in
    let first : FitsSigned w64 c.row_time.result = search rules in
    let second : FitsSigned w64 c.row_time-in-Some.result = search rules in
    let from = rw (to_z-of_z w64 c.in-Some.least least) at c.row_time.ensures in
    let to = rw (to_z-of_z w64 c.in-Some.greatest greatest) at c.row_time-in-Some.ensures in
    rw (to_z-of_z w64 c.row_time.result first, to_z-of_z w64 c.row_time-in-Some.result second)
    ((λ i. Some (from i, to i)) ∙ sym (span-times c.args.schema.now c.args.events.now.items c.requires ∙ ap (span_truncated c.args.schema.now.query_granularity) (sym c.times.ensures ∙ c.in-Some.is)))
