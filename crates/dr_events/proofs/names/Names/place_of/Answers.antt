use Rattle.std.proofs.Common.{◌∙◌, subst, map, bytes_eq, string_bytes}
use Rattle.std.specs.List.{IsDistinct}
use Rattle.dr_dict.proofs.Texts.{position-map}
use Rattle.dr_events.proofs.FoundNames.{place-found, place-none}
use Rattle.dr_events.proofs.names.Names.place_of.Goals as goal

pub returns-clause-some : goal.returns-clause-some
returns-clause-some c =
    let keys = c.self.inside.0.keys in
    rw (← c.self.view_is) (place-found (map string_bytes keys) c.args.name.now c.get_index_of.result (c.get_index_of.ensures.index ∙ position-map string_bytes (bytes_eq c.args.name.now) keys))

pub returns-clause-none : goal.returns-clause-none
returns-clause-none c =
    let keys = c.self.inside.0.keys in
    rw (← c.self.view_is) (place-none (map string_bytes keys) c.args.name.now c.get_index_of.result (c.get_index_of.ensures.index ∙ position-map string_bytes (bytes_eq c.args.name.now) keys))

pub returns-clause-distinct : goal.returns-clause-distinct
returns-clause-distinct c = subst (IsDistinct bytes_eq) c.self.view_is c.self.invariant
