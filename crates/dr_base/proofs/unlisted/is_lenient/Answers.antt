use Rattle.std.proofs.Common.{◌∙◌, ap}
use Rattle.std.specs.Prelude.{length, ◌==◌}
use Rattle.serde_json.proofs.Views.{view-Array, view-Object}
use Rattle.dr_base.proofs.UnlistedKeys.{is_empty_list-items_view, is_empty_object-members_view}
use Rattle.dr_base.proofs.unlisted.is_lenient.Goals as goal

pub returns-in-Array : goal.returns-in-Array
returns-in-Array c = rw (c.in-Array.is, view-Array c.in-Array.items) (c.is_empty.ensures ∙ ap (λ s. length s == 0) c.as_slice.ensures.value ∙ is_empty_list-items_view c.in-Array.items.items)

pub returns-in-Object : goal.returns-in-Object
returns-in-Object c = rw (c.in-Object.is, view-Object c.in-Object.members) (is_empty_object-members_view c.is_empty-in-Object.result c.in-Object.members.entries c.is_empty-in-Object.ensures)
