use Rattle.serde_json.proofs.Views.{view-Object}
use Rattle.dr_base.proofs.UnlistedKeys.{is_empty_object-members_view}
use Rattle.dr_spec.proofs.reading.is_empty_object.Goals as goal

pub returns-in-Object : goal.returns-in-Object
returns-in-Object c = rw (c.in-Object.is, view-Object c.in-Object.members) (is_empty_object-members_view c.is_empty.result c.in-Object.members.entries c.is_empty.ensures)
