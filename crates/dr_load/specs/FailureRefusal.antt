-- The numbers and names of what a load is refused for once its spec and query are taken.
use Rattle.std.specs.Prelude.{◌≡◌, ◌⊎◌, ℕ, List, Bool, true, false, codes}
use Rattle.dr_answers.specs.AnswerRefusal as answer
use Rattle.dr_node.specs.declared.node_error.NodeError.{NodeError}
use Rattle.dr_node.specs.declared.node_error.NodeError.TheVariants as node
use Rattle.dr_timeline.specs.AskRefusal as ask
use Rattle.dr_timeline.specs.declared.ask_error.AskError.{AskError}
use Rattle.dr_timeline.specs.declared.ask_error.AskError.TheVariants as no_answer
use Rattle.dr_timeline.specs.declared.timeline_error.TimelineError.TheVariants as timeline
use Rattle.dr_load.specs.declared.failure.Failure.{Failure}
use Rattle.dr_load.specs.declared.failure.Failure.TheVariants.{NoMemory, WorkerNotStarted, StreamFull, HistoryMismatch, ReadFault, Answer}

abbrev pub number_of : Failure → ℕ
number_of NoMemory = 0
number_of WorkerNotStarted = 80
number_of StreamFull = 90
number_of HistoryMismatch = 94
number_of ReadFault = 99
number_of (Answer e) = ask.number_of e

abbrev pub name_of : Failure → List ℕ
name_of NoMemory = codes "NoMemory"
name_of WorkerNotStarted = codes "WorkerNotStarted"
name_of StreamFull = codes "StreamFull"
name_of HistoryMismatch = codes "HistoryMismatch"
name_of ReadFault = codes "ReadFault"
name_of (Answer e) = ask.name_of e

abbrev pub is_memory_of_answer : AskError → Bool
is_memory_of_answer (no_answer.Answer e) = answer.is_memory e
is_memory_of_answer no_answer.WorkerNotStarted = false

-- memory ran out
abbrev pub is_memory : Failure → Bool
is_memory NoMemory = true
is_memory WorkerNotStarted = false
is_memory StreamFull = false
is_memory HistoryMismatch = false
is_memory ReadFault = false
is_memory (Answer e) = is_memory_of_answer e

-- memory ran out, or a thread was refused
abbrev pub is_lack : Failure → Bool
is_lack NoMemory = true
is_lack WorkerNotStarted = true
is_lack StreamFull = false
is_lack HistoryMismatch = false
is_lack ReadFault = false
is_lack (Answer e) = ask.is_lack e

-- what a node refuses where it accepts an event or is closed
abbrev pub IsOfNode : NodeError → Type 0
IsOfNode e = (e ≡ node.Timeline timeline.NoMemory) ⊎ (e ≡ node.Timeline timeline.StreamFull) ⊎ (e ≡ node.HistoryMismatch)
