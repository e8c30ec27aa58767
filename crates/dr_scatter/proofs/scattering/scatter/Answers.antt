use Rattle.std.proofs.Common.{rules, subst}
use Rattle.dr_workers.specs.Shared.{IsFoldOf}
use Rattle.dr_scatter.specs.Folds.{AreFolds}
use Rattle.dr_scatter.proofs.scattering.scatter.Goals as goal

pub merged-requires : goal.merged-requires
merged-requires g c =
    let parts = c.in_ok-parts.ensures in
    let folds : AreFolds c.args.query.now c.in_ok-parts.parts.items = (parts.0, parts.2) in
    search rules

pub returns-clause-value : goal.returns-clause-value
returns-clause-value g c =
    let parts = c.in_ok-parts.ensures in
    (subst (λ rows. IsFoldOf c.args.query.now rows c.in_ok-merged.field-0) parts.1 (c.in_ok-merged.ensures parts.0 parts.2)).0

pub returns-clause-printable : goal.returns-clause-printable
returns-clause-printable g c =
    let parts = c.in_ok-parts.ensures in
    (subst (λ rows. IsFoldOf c.args.query.now rows c.in_ok-merged.field-0) parts.1 (c.in_ok-merged.ensures parts.0 parts.2)).1
