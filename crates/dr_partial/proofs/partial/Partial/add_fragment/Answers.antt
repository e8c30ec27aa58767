use Rattle.std.proofs.Common.{sym, subst}
use Rattle.dr_ask.specs.Once.{asked_once}
use Rattle.dr_partial.specs.Partial.{IsPartial}
use Rattle.dr_partial.proofs.Made.{printable-added}
use Rattle.dr_partial.proofs.Merged.{sound-partial}
use Rattle.dr_partial.proofs.Pieces.{added-behind}
use Rattle.dr_partial.proofs.partial.Partial.add_fragment.Goals as goal

pub add_range-requires-clause-sound : goal.add_range-requires-clause-sound
add_range-requires-clause-sound c = sound-partial (asked_once c.args.query.now) c.self.inside.groups c.len.ensures.apart (subst (IsPartial (asked_once c.args.query.now)) (sym c.self.view_is) c.requires.own)

pub returns-clause-value : goal.returns-clause-value
returns-clause-value c = λ a is.
    added-behind (asked_once c.args.query.now) c.self.inside.groups c.add_range.new.groups c.args.self a c.args.fragment.now.rows c.self.view_is is c.in_ok-add_range.ensures

pub returns-clause-printable : goal.returns-clause-printable
returns-clause-printable c = λ starts all.
    printable-added (asked_once c.args.query.now) starts c.self.inside.groups c.add_range.new.groups c.args.self c.args.fragment.now.rows c.self.view_is all c.requires.instants c.in_ok-add_range.ensures
