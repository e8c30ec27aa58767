-- The tokens of a group, put together, and the text of all groups.
use Rattle.std.proofs.Common.{◌≡◌, ◌∙◌, refl, ap, ap₂, ℕ, zero, suc, ◌<◌, List, [], ◌∷◌, ◌++◌, map, length, get_or, append_assoc, arith}
use Rattle.std.specs.List.{AllByRecursion}
use Rattle.json.specs.Token.{Token, begin_object, end_object}
use Rattle.json.specs.Print.{print}
use Rattle.serde_json.specs.Data.{array, no_members}
use Rattle.serde_json.specs.View.{items_of}
use Rattle.serde_json.specs.Written.{compact_text}
use Rattle.serde_json.proofs.Texts.{print-outline}
use Rattle.dr_ask.specs.declared.aggregation.Aggregation.{Aggregation}
use Rattle.dr_ask.specs.Asked.{Asked, AskedShape, timeseries, group_by, scan, dimensions_by}
use Rattle.dr_answers.specs.declared.result_row.ResultRow.{ResultRow}
use Rattle.dr_answers.specs.Answer.{result_data, text_of, with_dims, with_values}
use Rattle.dr_time.specs.Printed.{IsPrintable}
use Rattle.dr_writer.specs.declared.output.Output.{Output}
use Rattle.dr_writer.specs.Outputs.{members_at, members_of}
use Rattle.dr_writer.specs.Written.{data_tokens, group_data, groups_data}

pub result-tokens : (t0 t1 t2 t3 t4 t5 members time : List Token) (name : Token) → t1 ≡ t0 ++ begin_object ∷ [] → t2 ≡ t1 ++ name ∷ [] → t3 ≡ t2 ++ members → t4 ≡ t3 ++ time → t5 ≡ t4 ++ end_object ∷ []
    → t5 ≡ t0 ++ begin_object ∷ name ∷ (members ++ (time ++ end_object ∷ []))
result-tokens t0 t1 t2 t3 t4 t5 members time name e1 e2 e3 e4 e5 =
    e5 ∙ ap (λ t. t ++ end_object ∷ []) (e4 ∙ ap (λ t. t ++ time) (e3 ∙ ap (λ t. t ++ members) (e2 ∙ ap (λ t. t ++ name ∷ []) e1))) ∙ simp append_assoc

pub event-tokens : (t0 t1 t2 t3 t4 t5 t6 members time version : List Token) (name : Token) → t1 ≡ t0 ++ begin_object ∷ [] → t2 ≡ t1 ++ name ∷ [] → t3 ≡ t2 ++ members → t4 ≡ t3 ++ time → t5 ≡ t4 ++ version → t6 ≡ t5 ++ end_object ∷ []
    → t6 ≡ t0 ++ begin_object ∷ name ∷ (members ++ (time ++ (version ++ end_object ∷ [])))
event-tokens t0 t1 t2 t3 t4 t5 t6 members time version name e1 e2 e3 e4 e5 e6 =
    e6 ∙ ap (λ t. t ++ end_object ∷ []) (e5 ∙ ap (λ t. t ++ version) (e4 ∙ ap (λ t. t ++ time) (e3 ∙ ap (λ t. t ++ members) (e2 ∙ ap (λ t. t ++ name ∷ []) e1)))) ∙ simp append_assoc

-- ---- the members of the definition give its text

group-data : (shape : AskedShape) (aggregations : List Aggregation) (g : ResultRow) → group_data shape (with_values (with_dims no_members (dimensions_by shape) g.dims) aggregations g.values) g.time ≡ result_data shape aggregations g
group-data (timeseries t) aggregations g = refl
group-data (group_by asked) aggregations g = refl
group-data (scan s) aggregations g = refl

groups-data : (q : Asked) (os : List Output) → ((g : ResultRow) → members_at g os ≡ members_of q g) → (groups : List ResultRow) → groups_data q.shape os groups ≡ map (result_data q.shape q.aggregations) groups
groups-data q os same [] = refl
groups-data q os same (g ∷ gs) =
    ap₂ ◌∷◌ (ap (λ ms. group_data q.shape ms g.time) (same g) ∙ group-data q.shape q.aggregations g) (groups-data q os same gs)

-- what is printed is the text of the answer
pub printed : (q : Asked) (os : List Output) (groups : List ResultRow) (before text : List ℕ) (tokens : List Token) → ((g : ResultRow) → members_at g os ≡ members_of q g) → before ≡ [] → tokens ≡ data_tokens (array (items_of (groups_data q.shape os groups)))
    → text ≡ before ++ print tokens → text ≡ text_of q groups
printed q os groups before text tokens same none is whole =
    whole ∙ ap (λ b. b ++ print tokens) none ∙ ap print is ∙ print-outline (array (items_of (groups_data q.shape os groups)))
    ∙ ap (λ ds. compact_text (array (items_of ds))) (groups-data q os same groups)

pub time-printable : (groups : List ResultRow) (i : ℕ) (d : ResultRow) → AllByRecursion (λ g. IsPrintable g.time) groups → i < length groups → IsPrintable (get_or groups i d).time
time-printable [] i d all less = absurd (omega arith)
time-printable (g ∷ gs) zero d all less = all.0
time-printable (g ∷ gs) (suc i) d all less = time-printable gs i d all.1 (omega arith)
