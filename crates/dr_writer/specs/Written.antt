-- The tokens of JSON that are written for a group.
use Rattle.std.specs.Prelude.{◌≡◌, ℕ, ℤ, List, [], ◌∷◌, ◌++◌, map, codes, Option, Some, None, Result, OnOk}
use Rattle.json.specs.Token.{Token, key}
use Rattle.json.specs.Tree.{json_tokens}
use Rattle.json.specs.Written.{Written}
use Rattle.serde_json.specs.Data.{Data, string, object, Members, no_members, member}
use Rattle.serde_json.specs.Written.{outline}
use Rattle.dr_time.specs.Printed.{instant_text}
use Rattle.dr_ask.specs.Asked.{AskedShape, timeseries, group_by, scan}
use Rattle.dr_answers.specs.declared.result_row.ResultRow.{ResultRow}
use Rattle.dr_writer.specs.declared.output.Output.{Output}
use Rattle.dr_writer.specs.Outputs.{members_at}

-- these tokens come behind those that were written before
abbrev pub Adds : {E : Type 0} → Result (Unit {0}) E → Written → Written → List Token → Type 0
Adds result old new tokens = OnOk result ((new.before ≡ old.before) × (new.tokens ≡ old.tokens ++ tokens))

abbrev pub data_tokens : Data → List Token
data_tokens d = json_tokens (outline d)

-- a member where there is a value
abbrev pub member_tokens : List ℕ → Option Data → List Token
member_tokens name None = []
member_tokens name (Some d) = key name ∷ data_tokens d

abbrev pub result_object : Members → ℤ → Data
result_object members time = object (
    member (codes "result") (object members)
    (member (codes "timestamp") (string (instant_text time)) no_members))

abbrev pub event_object : Members → ℤ → Data
event_object members time = object (
    member (codes "event") (object members)
    (member (codes "timestamp") (string (instant_text time))
    (member (codes "version") (string (codes "v1")) no_members)))

-- a group with these members, by the type of the query
abbrev pub group_data : AskedShape → Members → ℤ → Data
group_data (timeseries t) members time = result_object members time
group_data (group_by asked) members time = event_object members time
group_data (scan s) members time = result_object members time

-- the groups with their members in the order of the outputs
abbrev pub groups_data : AskedShape → List Output → List ResultRow → List Data
groups_data shape outputs groups = map (λ g. group_data shape (members_at g outputs) g.time) groups
