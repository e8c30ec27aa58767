use Rattle.std.proofs.Common.{sym, subst}
use Rattle.dr_time.specs.Printed.{IsPrintable}
use Rattle.dr_base.specs.declared.key.Key.{Key}
use Rattle.dr_ask.specs.Once.{asked_once}
use Rattle.dr_partial.specs.Partial.{kinds_in, IsPartial}
use Rattle.dr_partial.proofs.Merged.{fit-partial, sound-partial, merged-value, merged-turned, merged-all}
use Rattle.dr_partial.proofs.partial.Partial.merge.Goals as goal

pub joined-requires-clause-sound : goal.joined-requires-clause-sound
joined-requires-clause-sound c = sound-partial (asked_once c.args.query.now) c.other.inside.groups c.len.ensures.apart (subst (IsPartial (asked_once c.args.query.now)) (sym c.other.view_is) c.requires.other)

pub joined-requires-clause-fit : goal.joined-requires-clause-fit
joined-requires-clause-fit c = fit-partial (asked_once c.args.query.now) c.self.inside.groups (subst (IsPartial (asked_once c.args.query.now)) (sym c.self.view_is) c.requires.own)

pub joined-requires-2-clause-sound : goal.joined-requires-2-clause-sound
joined-requires-2-clause-sound c = sound-partial (asked_once c.args.query.now) c.self.inside.groups c.len-own.ensures.apart (subst (IsPartial (asked_once c.args.query.now)) (sym c.self.view_is) c.requires.own)

pub joined-requires-2-clause-fit : goal.joined-requires-2-clause-fit
joined-requires-2-clause-fit c = fit-partial (asked_once c.args.query.now) c.other.inside.groups (subst (IsPartial (asked_once c.args.query.now)) (sym c.other.view_is) c.requires.other)

pub returns-then-own-len-clause-value : goal.returns-then-own-len-clause-value
returns-then-own-len-clause-value c =
    merged-turned (asked_once c.args.query.now) c.self.inside.groups c.other.inside.groups c.args.self c.args.other c.joined.result
    c.len-own.ensures.apart c.len.ensures.apart c.self.view_is c.other.view_is c.joined.ensures

pub returns-then-own-len-clause-printable : goal.returns-then-own-len-clause-printable
returns-then-own-len-clause-printable c = λ own other.
    merged-all (λ (k : Key). IsPrintable k.time) (kinds_in (asked_once c.args.query.now).aggregations) c.other.inside.groups c.self.inside.groups c.args.other c.args.self c.joined.result
    c.other.view_is c.self.view_is c.joined.ensures other own

pub returns-clause-value : goal.returns-clause-value
returns-clause-value c =
    merged-value (asked_once c.args.query.now) c.self.inside.groups c.other.inside.groups c.args.self c.args.other c.joined-2.result
    c.len-own.ensures.apart c.len.ensures.apart c.self.view_is c.other.view_is c.joined-2.ensures

pub returns-clause-printable : goal.returns-clause-printable
returns-clause-printable c = λ own other.
    merged-all (λ (k : Key). IsPrintable k.time) (kinds_in (asked_once c.args.query.now).aggregations) c.self.inside.groups c.other.inside.groups c.args.self c.args.other c.joined-2.result
    c.self.view_is c.other.view_is c.joined-2.ensures own other
