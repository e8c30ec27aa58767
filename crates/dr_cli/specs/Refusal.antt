-- The numbers, names and arguments of the refusals of the program.
use Rattle.std.specs.Prelude.{ℕ, List, Option, Some, None, codes}
use Rattle.dr_base.specs.declared.fault.Arg.{Arg}
use Rattle.dr_base.specs.declared.fault.Arg.TheVariants.{Name}
use Rattle.dr_dump.specs.Refusal as dump
use Rattle.dr_load.specs.Refusal as load
use Rattle.dr_usage.specs.Refusal as usage
use Rattle.dr_cli.specs.declared.cli_error.CliError.{CliError}
use Rattle.dr_cli.specs.declared.cli_error.CliError.TheVariants.{NoMemory, Usage, Dump, Load, FileFault}

abbrev pub number_of : CliError → ℕ
number_of NoMemory = 0
number_of (Usage e) = usage.number_of e
number_of (Dump e) = dump.number_of e
number_of (Load e) = load.number_of e
number_of (FileFault path) = 96

abbrev pub name_of : CliError → List ℕ
name_of NoMemory = codes "NoMemory"
name_of (Usage e) = usage.name_of e
name_of (Dump e) = dump.name_of e
name_of (Load e) = load.name_of e
name_of (FileFault path) = codes "FileFault"

-- the path of a file, or what a load was refused for
abbrev pub arg_of : CliError → Option Arg
arg_of NoMemory = None
arg_of (Usage e) = None
arg_of (Dump e) = None
arg_of (Load e) = load.arg_of e
arg_of (FileFault path) = Some (Name path)
