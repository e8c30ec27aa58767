use Rattle.std.proofs.Common.{◌≡◌, ◌∙◌, sym, subst, true, bytes_eq, string_bytes}
use Rattle.std.specs.List.{IsDistinct}
use Rattle.std.specs.Cmp.Lexicographic.{bytes_decides}
use Rattle.dr_events.proofs.FoundNames.{name-at}
use Rattle.dr_events.proofs.names.Names.is_at.Goals as goal

pub returns-in-Some-clause-at : goal.returns-in-Some-clause-at
returns-in-Some-clause-at c = λ h.
    let equal : bytes_eq c.as_str.result.now c.args.name.now ≡ true = sym c.eq.ensures ∙ h in
    let same = (bytes_decides c.as_str.result.now c.args.name.now).0 equal in
    rw (← c.self.view_is) (name-at string_bytes c.self.inside.0.keys c.args.place c.in-Some.known.now c.args.name.now c.in-Some.ensures.key (sym c.as_str.ensures.value ∙ same))

pub returns-in-Some-clause-distinct : goal.returns-in-Some-clause-distinct
returns-in-Some-clause-distinct c = subst (IsDistinct bytes_eq) c.self.view_is c.self.invariant

pub returns-in-None-clause-distinct : goal.returns-in-None-clause-distinct
returns-in-None-clause-distinct c = subst (IsDistinct bytes_eq) c.self.view_is c.self.invariant
