-- The numbers and names of the refusals of a dictionary.
use Rattle.std.specs.Prelude.{ℕ, List, codes}
use Rattle.dr_dict.specs.declared.dict_error.DictError.{DictError}
use Rattle.dr_dict.specs.declared.dict_error.DictError.TheVariants.{NoMemory, DictFull}

abbrev pub number_of : DictError → ℕ
number_of NoMemory = 0
number_of DictFull = 40

abbrev pub name_of : DictError → List ℕ
name_of NoMemory = codes "NoMemory"
name_of DictFull = codes "DictFull"
