-- The outputs of a query that is read have names that differ.
use Rattle.std.proofs.Common.{◌≡◌, ℕ, List, [], ◌∷◌, ◌++◌, Bool, true, false, if◌then◌else◌, bytes_eq, codes, Ok, Err, Option, refl, sym, subst, ◌∙◌, append_assoc, append-nil}
use Rattle.std.specs.Cmp.Lexicographic.{nat_list_eq_equiv}
use Rattle.std.specs.List.{AllByRecursion, IsDistinct, list_any}
use Rattle.std.proofs.lemmas.Bool.{or_parts}
use Rattle.serde_json.specs.Data.{Data, Members}
use Rattle.dr_base.specs.Fields.{field}
use Rattle.dr_base.specs.Reading.{passed}
use Rattle.dr_order.specs.LimitSpecOf.{limit_spec_of}
use Rattle.dr_schema.specs.declared.schema.Schema.{Schema}
use Rattle.dr_ask.specs.declared.aggregation.Aggregation.{Aggregation}
use Rattle.dr_ask.specs.declared.query_error.QueryError.TheVariants.{DuplicateOutput, Order}
use Rattle.dr_ask.specs.declared.query_type.QueryType.{QueryType}
use Rattle.dr_ask.specs.declared.query_type.QueryType.TheVariants as type
use Rattle.dr_ask.specs.declared.timeseries.Timeseries.{Timeseries}
use Rattle.dr_ask.specs.Asked.{AskedGroups, AskedShape, timeseries, group_by, scan, dimensions_by}
use Rattle.dr_ask.specs.ContextOf.{context_of}
use Rattle.dr_ask.specs.DimensionsOf.{dimensions_of}
use Rattle.dr_ask.specs.Fields.{no_unlisted}
use Rattle.dr_ask.specs.Outputs.{aggregation_names, dimension_names, distinct_from, distinct_outputs}
use Rattle.dr_ask.specs.QueryOf.{aggregations_by}
use Rattle.dr_ask.specs.ScanOf.{scan_of}
use Rattle.dr_ask.specs.ShapeOf.{timeseries_of, having_or_none, group_by_keys, group_by_of, shape_by}
use Rattle.dr_ask.proofs.ReadSteps.{through}

abbrev Differ : List (List ℕ) → Type 0
Differ names = IsDistinct bytes_eq names

-- ---- names that are looked up among those before them

-- a name that is equal to none of some, and then to none of these and another
others : (y n : List ℕ) (ys : List (List ℕ)) → AllByRecursion (λ z. bytes_eq y z ≡ false) ys → bytes_eq n y ≡ false → AllByRecursion (λ z. bytes_eq y z ≡ false) (ys ++ n ∷ [])
others y n [] h new = (nat_list_eq_equiv.symm y n ∙ new, tt)
others y n (z ∷ ys) h new = (h.0, others y n ys h.1 new)

IsDistinct-push : (seen : List (List ℕ)) (n : List ℕ) → Differ seen → list_any (bytes_eq n) seen ≡ false → Differ (seen ++ n ∷ [])
unfolding IsDistinct
IsDistinct-push [] n h new = (tt, tt)
IsDistinct-push (y ∷ ys) n h new =
    let parts = or_parts (bytes_eq n y) (list_any (bytes_eq n) ys) new in
    (others y n ys h.0 parts.0, IsDistinct-push ys n h.1 parts.1)

-- names that are read behind some that differ
Differ-read : (names seen : List (List ℕ)) (u : Unit {0}) → Differ seen → distinct_from seen names ≡ Ok u → Differ (seen ++ names)
unfolding distinct_from
Differ-read [] seen u h e = subst Differ (sym (append-nil seen)) h
Differ-read (n ∷ names) seen u h e = at (list_any (bytes_eq n) seen) refl e (λ differ next. Differ-read names (seen ++ n ∷ []) u differ next)
  where
    at : (b : Bool) → list_any (bytes_eq n) seen ≡ b → (if b then Err (DuplicateOutput n) else distinct_from (seen ++ n ∷ []) names) ≡ Ok u
        → (Differ (seen ++ n ∷ []) → distinct_from (seen ++ n ∷ []) names ≡ Ok u → Differ ((seen ++ n ∷ []) ++ names)) → Differ (seen ++ n ∷ names)
    at true stood e later = absurd (cc)
    at false stood e later = subst Differ (append_assoc seen (n ∷ []) names) (later (IsDistinct-push seen n h stood) e)

none_differ : Differ []
unfolding IsDistinct
none_differ = tt

distinct_outputs-differ : (dimensions aggregations : List (List ℕ)) (u : Unit {0}) → distinct_outputs dimensions aggregations ≡ Ok u → Differ (dimensions ++ aggregations)
unfolding distinct_outputs
distinct_outputs-differ dimensions aggregations u e =
    through (distinct_from [] dimensions) _ u e (λ grouped first behind.
    Differ-read aggregations dimensions u (Differ-read dimensions [] grouped none_differ first) behind)

-- ---- the outputs of a query by its type

abbrev OutputsDiffer : List Aggregation → AskedShape → Type 0
OutputsDiffer aggregations shape = Differ (dimension_names (dimensions_by shape) ++ aggregation_names aggregations)

of_timeseries : (aggregations : List Aggregation) (d : Data) (ms : Members) (t : Timeseries) → timeseries_of aggregations d ms ≡ Ok t → Differ (aggregation_names aggregations)
unfolding timeseries_of
of_timeseries aggregations d ms t e =
    through (distinct_from [] (aggregation_names aggregations)) _ t e (λ outputs read e.
    Differ-read (aggregation_names aggregations) [] outputs none_differ read)

of_group_by : (schema : Schema) (aggregations : List Aggregation) (d : Data) (ms : Members) (g : AskedGroups) → group_by_of schema aggregations d ms ≡ Ok g
    → OutputsDiffer aggregations (group_by g)
unfolding group_by_of
of_group_by schema aggregations d ms g e =
    through (dimensions_of schema (field (codes "dimensions") d)) _ g e (λ dimensions _ e.
    through (distinct_outputs (dimension_names dimensions) (aggregation_names aggregations)) _ g e (λ outputs differ e.
    through (having_or_none (dimension_names dimensions) (aggregation_names aggregations) (field (codes "having") d)) _ g e (λ having _ e.
    through (passed Order (limit_spec_of (dimension_names dimensions) (aggregation_names aggregations) (field (codes "limitSpec") d))) _ g e (λ limit_spec _ e.
    through (context_of (field (codes "context") d)) _ g e (λ context _ e.
    through (no_unlisted group_by_keys ms) _ g e (λ unlisted _ e.
    let made : AskedGroups = record { dimensions = dimensions; having = having; limit_spec = limit_spec } in
    let same : made ≡ g = cc in
    subst (λ g. OutputsDiffer aggregations (group_by g)) same
    (distinct_outputs-differ (dimension_names dimensions) (aggregation_names aggregations) outputs differ)))))))

pub outputs-differ : (kind : QueryType) (schema : Schema) (asked : Option Data) (aggregations : List Aggregation) (d : Data) (ms : Members) (shape : AskedShape)
    → aggregations_by kind schema asked ≡ Ok aggregations → shape_by kind schema aggregations d ms ≡ Ok shape → OutputsDiffer aggregations shape
outputs-differ type.Timeseries schema asked aggregations d ms shape read e =
    through (timeseries_of aggregations d ms) _ shape e (λ t read e.
    let same : timeseries t ≡ shape = cc in subst (OutputsDiffer aggregations) same (of_timeseries aggregations d ms t read))
outputs-differ type.GroupBy schema asked aggregations d ms shape read e =
    through (group_by_of schema aggregations d ms) _ shape e (λ g read e.
    let same : group_by g ≡ shape = cc in subst (OutputsDiffer aggregations) same (of_group_by schema aggregations d ms g read))
outputs-differ type.Scan schema asked aggregations d ms shape read e =
    let none : [] ≡ aggregations = cc in
    through (scan_of schema d ms) _ shape e (λ s read e.
    let same : scan s ≡ shape = cc in subst (OutputsDiffer aggregations) same (subst (λ (a : List Aggregation). Differ (aggregation_names a)) none none_differ))
