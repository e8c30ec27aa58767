use Rattle.std.proofs.Common.{rules}
use denote.Param.Send.{sendable, param_send}
use Rattle.dr_load.proofs.loading.ingest_all.Goals as goal

-- each type that the scope's closure takes along may cross, as its bound says
pub scoped-requires : goal.scoped-requires
scoped-requires g c =
    let bounds = c.type_bounds in
    (record {
      at = λ a. (
        (c.requires.spec, c.requires.query),
        (
          search (rules, param_send),
          search (rules, param_send),
          search (rules, param_send),
          search (rules, param_send),
          search (sendable, bounds.sync-T),
          search (sendable, bounds.sync-W),
        ),
      );
    })
