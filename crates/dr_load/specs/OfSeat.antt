-- Events that a seat may accept. No public contract cites this file.
use Rattle.std.specs.Prelude.{◌≡◌, ℕ, List}
use Rattle.std.specs.List.{AllByRecursion}
use Rattle.dr_base.specs.declared.event.Event.{Event}
use Rattle.dr_schema.specs.Fits.{FitsSchema}
use Rattle.dr_schema.specs.declared.schema_fields.SchemaFields.{SchemaFields}

-- each fits the schema, and has the mark of the seat
abbrev pub AreOfSeat : SchemaFields → ℕ → List Event → Type 0
AreOfSeat schema seat es = AllByRecursion (λ e. FitsSchema schema e × (e.seat ≡ seat)) es
