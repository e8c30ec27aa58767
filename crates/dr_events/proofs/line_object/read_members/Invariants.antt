use Rattle.std.proofs.Common.{◌≡◌, ℕ, List, ◌≤◌, length}
use Rattle.json.specs.Json.{value, members}
use Rattle.serde_json.specs.Data.{Members, no_members}
use Rattle.serde_json.specs.Read.{of_members, converted}
use Rattle.dr_events.specs.Passed.{members_at}
use Rattle.dr_events.specs.Scalars.{AreFirst, AreSeen}
use Rattle.dr_events.proofs.line_object.read_members.Given as goal

abbrev pub invariant-members : goal.invariant-members
invariant-members l =
    (n : ℕ) × (ms : Members) × (length l.reader ≤ n)
    × (members_at l.initial.reader ≡ converted (λ js. of_members js ms) (members (value 126) n l.reader))
    × ((firsts : List (List ℕ)) → AreFirst firsts l.initial.names → AreSeen firsts l.initial.found no_members → AreSeen firsts l.found ms)
    × AreFirst l.initial.names l.names
    × (length l.reader ≤ length l.initial.reader)

abbrev pub decreases-members : goal.decreases-members
decreases-members l = length l.reader
