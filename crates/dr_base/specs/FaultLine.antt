-- The line that a refusal prints.
use Rattle.std.specs.Prelude.{ℕ, List, [], ◌++◌, Option, Some, None, codes, decimal}
use Rattle.serde_json.specs.Data.{string}
use Rattle.serde_json.specs.Written.{compact_text}
use Rattle.dr_base.specs.declared.fault.Arg.{Arg}
use Rattle.dr_base.specs.declared.fault.Arg.TheVariants.{Name, Index}

-- a name as JSON text (RFC 8259), an index in decimal
abbrev pub arg_text : Arg → List ℕ
arg_text (Name name) = compact_text (string name)
arg_text (Index index) = decimal index

-- nothing, or a space and the argument
abbrev pub arg_part : Option Arg → List ℕ
arg_part None = []
arg_part (Some arg) = codes " " ++ arg_text arg

-- `refused NUMBER NAME`, and the argument where there is one
abbrev pub fault_line : ℕ → List ℕ → Option Arg → List ℕ
fault_line number name arg = codes "refused " ++ decimal number ++ codes " " ++ name ++ arg_part arg
