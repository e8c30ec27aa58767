-- The tokens of JSON that are written for a row. No public contract cites this file.
use Rattle.std.specs.Prelude.{◌≡◌, List, ◌++◌, Result, OnOk}
use Rattle.std.specs.List.{flat_map}
use Rattle.json.specs.Token.{Token}
use Rattle.json.specs.Tree.{json_tokens}
use Rattle.json.specs.Written.{Written}
use Rattle.serde_json.specs.Data.{Data}
use Rattle.serde_json.specs.Written.{outline}

-- these tokens come behind those that were written before
abbrev pub Adds : {E : Type 0} → Result (Unit {0}) E → Written → Written → List Token → Type 0
Adds result old new tokens = OnOk result ((new.before ≡ old.before) × (new.tokens ≡ old.tokens ++ tokens))

abbrev pub data_tokens : Data → List Token
data_tokens d = json_tokens (outline d)

-- the tokens of values, one behind the other
abbrev pub all_tokens : List Data → List Token
all_tokens ds = flat_map data_tokens ds
