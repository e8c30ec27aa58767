-- The numbers and names of the refusals of this crate.
use Rattle.std.specs.Prelude.{ℕ, List, codes}
use Rattle.dr_lines.specs.declared.line_error.LineError.{LineError}
use Rattle.dr_lines.specs.declared.line_error.LineError.TheVariants.{LineTooLong, ReadFault, WriteFault}

abbrev pub number_of : LineError → ℕ
number_of LineTooLong = 98
number_of ReadFault = 99
number_of WriteFault = 100

abbrev pub name_of : LineError → List ℕ
name_of LineTooLong = codes "LineTooLong"
name_of ReadFault = codes "ReadFault"
name_of WriteFault = codes "WriteFault"
