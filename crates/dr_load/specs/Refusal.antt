-- The numbers, names and arguments of the refusals of a load.
use Rattle.std.specs.Prelude.{ℕ, List, Bool, true, false, Option, None, codes}
use Rattle.dr_base.specs.declared.fault.Arg.{Arg}
use Rattle.dr_spec.specs.Refusal as spec
use Rattle.dr_ask.specs.Refusal as query
use Rattle.dr_load.specs.FailureRefusal as failure
use Rattle.dr_load.specs.declared.load_error.LoadError.{LoadError}
use Rattle.dr_load.specs.declared.load_error.LoadError.TheVariants.{NoMemory, Spec, Query, NotMatching, Failed}

abbrev pub number_of : LoadError → ℕ
number_of NoMemory = 0
number_of (Spec e) = spec.number_of e
number_of (Query e) = query.number_of e
number_of NotMatching = 97
number_of (Failed e) = failure.number_of e

abbrev pub name_of : LoadError → List ℕ
name_of NoMemory = codes "NoMemory"
name_of (Spec e) = spec.name_of e
name_of (Query e) = query.name_of e
name_of NotMatching = codes "NotMatching"
name_of (Failed e) = failure.name_of e

abbrev pub arg_of : LoadError → Option Arg
arg_of NoMemory = None
arg_of (Spec e) = spec.arg_of e
arg_of (Query e) = query.arg_of e
arg_of NotMatching = None
arg_of (Failed e) = None

-- memory ran out
abbrev pub is_memory : LoadError → Bool
is_memory NoMemory = true
is_memory (Spec e) = spec.is_memory e
is_memory (Query e) = query.is_memory e
is_memory NotMatching = false
is_memory (Failed e) = failure.is_memory e

-- the files weren't loaded, or memory ran out: nothing is told of the spec or of the query
abbrev pub is_of_files : LoadError → Bool
is_of_files NoMemory = true
is_of_files (Spec e) = spec.is_memory e
is_of_files (Query e) = query.is_memory e
is_of_files NotMatching = false
is_of_files (Failed e) = true
