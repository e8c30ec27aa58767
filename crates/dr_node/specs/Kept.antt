-- What holds of a node whenever its lock is got.
use Rattle.std.specs.Prelude.{◌≡◌, ℕ, ◌+◌, ◌==◌, ◌<◌, ◌≤◌, List, [], ◌∷◌, Some, length, slice_get, All}
use Rattle.std.specs.List.{AllByRecursion, count_by}
use Rattle.dr_schema.specs.declared.schema_fields.SchemaFields.{SchemaFields}
use Rattle.dr_cuts.specs.State.{State, Cut, AreCuts}
use Rattle.dr_timeline.specs.Order.{HaveFewRows}
use Rattle.dr_timeline.specs.Steps.{HasVersions}
use Rattle.dr_node.specs.Seats.{marked}

-- a timeline, and for each seat how many events it accepted and how many of the stream it has seen
pub record Held : Type 0 where
  pub timeline : State
  pub mine : List ℕ
  pub floor : List ℕ

-- how many sealed ranges have a serial
abbrev pub with_serial : ℕ → List Cut → ℕ
with_serial n [] = 0
with_serial n (c ∷ cs) = count_by (λ r. r.serial == n) c.sealed + with_serial n cs

-- no two sealed ranges have one serial, and none has one that is still to be given
pub record SerialsDiffer (cuts : List Cut) (next : ℕ) : Type 0 where
  pub once : (n : ℕ) → with_serial n cuts ≤ 1
  pub given : (n : ℕ) → next ≤ n → with_serial n cuts ≡ 0

-- the timeline is of the schema; its ranges tile the list of each chunk, open ranges have fewer rows than are held in memory,
-- serials differ, and versions are within the publications; each event has the mark of a seat; each seat is told of, accepted as
-- many events as have its mark, and has seen no more events than there are
pub record IsKept (schema : SchemaFields) (seats : ℕ) (held : Held) : Type 0 where
  pub schema_is : held.timeline.schema ≡ schema
  pub cuts : AreCuts held.timeline.schema held.timeline.stream held.timeline.cuts
  pub few : HaveFewRows held.timeline.schema held.timeline.stream held.timeline.cuts
  pub serials : SerialsDiffer held.timeline.cuts held.timeline.serials
  pub versions : AllByRecursion HasVersions held.timeline.cuts
  pub marks : All (λ e. e.seat < seats) held.timeline.stream
  pub all_mine : length held.mine ≡ seats
  pub all_floor : length held.floor ≡ seats
  pub mine : (k n : ℕ) → slice_get held.mine k ≡ Some n → length (marked k held.timeline.stream) ≡ n
  pub floor : (k n : ℕ) → slice_get held.floor k ≡ Some n → n ≤ length held.timeline.stream
