-- From when to when events last.
use Rattle.std.specs.Prelude.{ℤ, List, Option, Some, None, map}
use Rattle.std.specs.List.{fold}
use Rattle.dr_base.specs.declared.event.Event.{Event}
use Rattle.dr_answers.specs.Span.{wider}

-- from the least to the greatest time of events, both included, as they came and not truncated; none where there is no event
abbrev pub times : List Event → Option (ℤ × ℤ)
times es = fold wider None (map (λ e. Some (e.time, e.time)) es)
