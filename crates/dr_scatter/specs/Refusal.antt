-- The numbers and names of the refusals of workers.
use Rattle.std.specs.Prelude.{ℕ, List, codes}
use Rattle.dr_scatter.specs.declared.scatter_error.ScatterError.{ScatterError}
use Rattle.dr_scatter.specs.declared.scatter_error.ScatterError.TheVariants.{NoMemory, WorkerNotStarted}

abbrev pub number_of : ScatterError → ℕ
number_of NoMemory = 0
number_of WorkerNotStarted = 80

abbrev pub name_of : ScatterError → List ℕ
name_of NoMemory = codes "NoMemory"
name_of WorkerNotStarted = codes "WorkerNotStarted"
