use Rattle.dr_spec.proofs.WellFormedSchemas.{IsWellFormed-spec_of}
use Rattle.dr_spec.proofs.ingest_spec.IngestSpec.parse.Goals as goal

pub new-requires : goal.new-requires
new-requires c = IsWellFormed-spec_of c.args.bytes.now c.in_ok-fields.fields c.in_ok-fields.ensures
