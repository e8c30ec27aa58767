-- What is read is well formed.
use Rattle.std.proofs.Common.{◌≡◌, ◌≢◌, ℕ, ◌<◌, ◌≤◌, List, [], ◌∷◌, ◌++◌, length, get_or, append_assoc, append-nil, Bool, true, false, ◌||◌, cond, bytes_eq, codes, not, nat_lt, nat_le, ◌==◌, ◌&&◌, ℤ, pos, negsuc, Result, Ok, Err, Option, Some, None, is_none, refl, sym, subst, arith}
use Rattle.std.specs.List.{All, list_any}
use Rattle.std.specs.Cmp.Lexicographic.{bytes_decides}
use Rattle.std.proofs.lemmas.List.Folds.{list_any_at}
use Rattle.std.proofs.lemmas.List.Elements.{All-nil, All-push}
use Rattle.std.proofs.lemmas.List.Quantifiers.{all_pairs_push}
use Rattle.std.proofs.lemmas.Bool.Decides.{nat_tests}
use Rattle.serde_json.specs.Data.{Data, Items, no_items, item}
use Rattle.dr_base.specs.Reading.{passed}
use Rattle.dr_base.specs.declared.base_error.BaseError.TheVariants.{WrongKind}
use Rattle.dr_base.specs.Fields.{field, as_list, as_int, as_object, text_field}
use Rattle.dr_base.specs.Json.{json_of}
use Rattle.dr_spec.specs.declared.spec_error.SpecError.{SpecError}
use Rattle.dr_spec.specs.declared.spec_error.SpecError.TheVariants.{Base, Granularity, NotNested, DuplicateName, NoDimensions, TooManyColumns}
use Rattle.dr_schema.specs.declared.limits.Limits.{Limits}
use Rattle.dr_schema.specs.declared.metric.Metric.{Metric}
use Rattle.dr_schema.specs.declared.schema.Schema.{Schema}
use Rattle.dr_agg.specs.declared.kind.Kind.{Kind}
use Rattle.dr_agg.specs.declared.kind.Kind.TheVariants.{Count, LongSum, LongMin, LongMax}
use Rattle.dr_spec.specs.Sections.{section, field_in, items_of_field, not_empty, text_or, bool_or}
use Rattle.dr_spec.specs.Leniency.{only_listed}
use Rattle.dr_spec.specs.TimestampSpec.{timestamp_of}
use Rattle.dr_gran.specs.declared.gran.Gran.{Gran}
use Rattle.dr_gran.specs.declared.gran.Gran.TheVariants.{AllTime, Millisecond, Second, Minute, FiveMinute, TenMinute, FifteenMinute, ThirtyMinute, Hour, SixHour, EightHour, Day, Week, Month, Quarter, Year}
use Rattle.dr_gran.specs.Step.{is_all}
use Rattle.dr_gran.specs.Nesting.{nests}
use Rattle.dr_gran.specs.Reading.{gran_of}
use Rattle.dr_spec.specs.declared.granularity_spec.GranularitySpec.{GranularitySpec}
use Rattle.dr_spec.specs.GranularitySpec.{if_supported, segment_granularity_of, query_granularity_of, uniform, granularity_of, nested}
use Rattle.dr_base.specs.Each.{each, each_from}
use Rattle.dr_spec.specs.DimensionsSpec.{dimension_of, one_at_least, listed_names, dimensions_of}
use Rattle.dr_spec.specs.MetricsSpec.{kind_of, metric_keys, some_text, input_of, metric_of, metrics_of}
use Rattle.dr_schema.specs.Columns.{column_names}
use Rattle.dr_spec.specs.Columns.{is_taken, distinct_after, distinct_names, few_columns}
use Rattle.dr_spec.specs.TuningConfig.{in_range, limit, limit_in, limits_of}
use Rattle.dr_spec.specs.SpecOf.{spec_of, inner_of, data_schema_of, source_of, no_transform, only_listed_keys}
use Rattle.dr_schema.specs.WellFormed.{AreDistinct, HasItsField, AreInRange, IsWellFormed, is_count, is_chunk_length}
use Rattle.dr_spec.proofs.Steps.{through, Ok-passed}

-- a test that refuses did not
not_refused : {A E : Type 0} (test : Bool) (f : E) (rest : Result A E) (x : A) → cond test (Err f) rest ≡ Ok x → (test ≡ false) × (rest ≡ Ok x)
not_refused true f rest x e = cc
not_refused false f rest x e = (refl, e)

-- ---- the names

-- a name that isn't taken differs from each before it
differs : (name : List ℕ) (before : List (List ℕ)) → list_any (bytes_eq name) before ≡ false → (k : ℕ) (d : List ℕ) → k < length before → get_or before k d ≢ name
differs name before none k d lt same =
    let found : list_any (bytes_eq name) before ≡ true = list_any_at (bytes_eq name) before k d lt ((bytes_decides name (get_or before k d)).1 (sym same)) in
    cc

-- one more name
AreDistinct-push : (names : List (List ℕ)) (name : List ℕ) (t u : Bool) → bytes_eq name (codes "__time") ≡ t → list_any (bytes_eq name) names ≡ u → (t || u) ≡ false → AreDistinct names → AreDistinct (names ++ name ∷ [])
AreDistinct-push names name true u e f n h = cc
AreDistinct-push names name false true e f n h = cc
AreDistinct-push names name false false e f n h = record {
  apart = all_pairs_push (λ a b. a ≢ b) names name h.apart (differs name names f);
  not_time = All-push (λ x. x ≢ codes "__time") names name h.not_time (λ same. let yes : bytes_eq name (codes "__time") ≡ true = (bytes_decides name (codes "__time")).1 same in cc);
}

-- names in turn, after those before them
AreDistinct-distinct_after : (before names : List (List ℕ)) (u : Unit {0}) → AreDistinct before → distinct_after before names ≡ Ok u → AreDistinct (before ++ names)
unfolding distinct_after
AreDistinct-distinct_after before [] u h e = rw (append-nil before) h
AreDistinct-distinct_after before (name ∷ names) u h e =
    let p = not_refused (is_taken name before) (DuplicateName name) (distinct_after (before ++ name ∷ []) names) u e in
    let rest = AreDistinct-distinct_after (before ++ name ∷ []) names u (AreDistinct-push before name _ _ refl refl p.0 h) p.1 in
    subst AreDistinct (append_assoc before (name ∷ []) names) rest

AreDistinct-distinct_names : (names : List (List ℕ)) (u : Unit {0}) → distinct_names names ≡ Ok u → AreDistinct names
AreDistinct-distinct_names names u e =
    AreDistinct-distinct_after [] names u (record { apart = λ i j d lt none. absurd (omega arith); not_time = All-nil (λ name. name ≢ codes "__time") }) e

-- ---- the columns

some_listed : (names dimensions : List (List ℕ)) → one_at_least names ≡ Ok dimensions → 1 ≤ length dimensions
some_listed [] dimensions e = cc
some_listed (name ∷ names) dimensions e =
    let p = not_refused (length (name ∷ names) == 0) NoDimensions (Ok (name ∷ names)) dimensions e in
    let same : name ∷ names ≡ dimensions = cc in
    subst (λ ns. 1 ≤ length ns) same (omega arith)

some_in : (d : Option Data) (dimensions : List (List ℕ)) → listed_names d ≡ Ok dimensions → 1 ≤ length dimensions
some_in None dimensions e = cc
some_in (Some d) dimensions e =
    through _ (passed Base (as_list (codes "dimensions") d)) _ dimensions e (λ ds _ e.
    through _ (each dimension_of ds) _ dimensions e (λ names _ e. some_listed names dimensions e))

some_dimension : (d : Data) (dimensions : List (List ℕ)) → dimensions_of d ≡ Ok dimensions → 1 ≤ length dimensions
unfolding dimensions_of
some_dimension d dimensions e =
    through _ (passed Base (section (codes "dimensionsSpec") d)) _ dimensions e (λ s _ e. some_in (field_in (codes "dimensions") s) dimensions e)

at_most : (dimensions : List (List ℕ)) (metrics : List Metric) (u : Unit {0}) → few_columns dimensions metrics ≡ Ok u → (length dimensions ≤ 64) × (length metrics ≤ 64)
at_most dimensions metrics u e =
    let p = not_refused (nat_lt 64 (length dimensions) || nat_lt 64 (length metrics)) TooManyColumns (Ok tt) u e in
    both (nat_lt 64 (length dimensions)) (nat_lt 64 (length metrics)) refl refl p.0
  where
    both : (a b : Bool) → nat_lt 64 (length dimensions) ≡ a → nat_lt 64 (length metrics) ≡ b → (a || b) ≡ false → (length dimensions ≤ 64) × (length metrics ≤ 64)
    both true b f g h = cc
    both false true f g h = cc
    both false false f g h = (grind (arith, nat_tests), grind (arith, nat_tests))

-- ---- the metrics

-- what holds of each value that is read of an item holds of all
All-each_from : {A : Type 0} (P : A → Type 0) (reading : Data → Result A SpecError) → ((d : Data) (x : A) → reading d ≡ Ok x → P x)
    → (values : List A) (ds : Items) (whole : List A) → All P values → each_from reading values ds ≡ Ok whole → All P whole
unfolding each_from
All-each_from P reading holds values no_items whole h e = let same : values ≡ whole = cc in subst (All P) same h
All-each_from P reading holds values (item d ds) whole h e =
    through _ (reading d) _ whole e (λ x read e. All-each_from P reading holds (values ++ x ∷ []) ds whole (All-push P values x h (holds d x read)) e)

reads_some : (reading : Result (List ℕ) SpecError) (input : Option (List ℕ)) → some_text reading ≡ Ok input → is_none input ≡ false
reads_some (Ok text) input e = let same : Some text ≡ input = cc in subst (λ o. is_none o ≡ false) same refl
reads_some (Err f) input e = cc

reads_its_field : (kind : Kind) (d : Data) (input : Option (List ℕ)) → input_of kind d ≡ Ok input → is_none input ≡ is_count kind
reads_its_field Count d input e = let same : None ≡ input = cc in subst (λ o. is_none o ≡ true) same refl
reads_its_field LongSum d input e = reads_some _ input e
reads_its_field LongMin d input e = reads_some _ input e
reads_its_field LongMax d input e = reads_some _ input e

HasItsField-metric_of : (d : Data) (metric : Metric) → metric_of d ≡ Ok metric → HasItsField metric
unfolding metric_of
HasItsField-metric_of d metric e =
    through _ (passed Base (as_object (codes "metricsSpec") d)) _ metric e (λ members _ e.
    through _ (passed Base (text_field (codes "type") d)) _ metric e (λ type _ e.
    through _ (kind_of type) _ metric e (λ kind _ e.
    through _ (passed Base (text_field (codes "name") d)) _ metric e (λ text _ e.
    through _ (passed Base (not_empty (codes "name") text)) _ metric e (λ name _ e.
    through _ (input_of kind d) _ metric e (λ input read e.
    through _ (only_listed metric_keys d) _ metric e (λ listed _ e.
    let made : Metric = record { name = name; kind = kind; field = input } in
    let same : made ≡ metric = cc in
    subst HasItsField same (reads_its_field kind d input read))))))))

HasItsField-metrics_of : (d : Data) (metrics : List Metric) → metrics_of d ≡ Ok metrics → All HasItsField metrics
unfolding metrics_of
HasItsField-metrics_of d metrics e =
    through _ (passed Base (items_of_field (codes "metricsSpec") d)) _ metrics e (λ ds _ e.
    All-each_from HasItsField metric_of HasItsField-metric_of [] ds metrics (All-nil HasItsField) e)

-- ---- the limits

abbrev Within : ℕ → ℕ → Type 0
Within greatest n = (1 ≤ n) × (n ≤ greatest)

Within-in_range : (name : List ℕ) (greatest : ℕ) (z : ℤ) (n : ℕ) → in_range name greatest z ≡ Ok n → Within greatest n
Within-in_range name greatest (pos m) n e = at (nat_le 1 m) (nat_le m greatest) refl refl e
  where
    at : (a b : Bool) → nat_le 1 m ≡ a → nat_le m greatest ≡ b → cond (a && b) (Ok m) (Err (WrongKind name)) ≡ Ok n → Within greatest n
    at true true f g e = let same : m ≡ n = cc in (grind (arith, nat_tests), grind (arith, nat_tests))
    at true false f g e = cc
    at false b f g e = cc
Within-in_range name greatest (negsuc m) n e = cc

Within-limit_in : (name : List ℕ) (default greatest : ℕ) (d : Option Data) (n : ℕ) → Within greatest default → limit_in name default greatest d ≡ Ok n → Within greatest n
Within-limit_in name default greatest None n h e = let same : default ≡ n = cc in subst (Within greatest) same h
Within-limit_in name default greatest (Some d) n h e = through _ (as_int name d) _ n e (λ z _ e. Within-in_range name greatest z n e)

Within-limit : (name : List ℕ) (default greatest : ℕ) (s : Option Data) (n : ℕ) → Within greatest default → limit name default greatest s ≡ Ok n → Within greatest n
unfolding limit
Within-limit name default greatest s n h e = Within-limit_in name default greatest (field_in name s) n h e

AreInRange-limits_of : (d : Data) (limits : Limits) → limits_of d ≡ Ok limits → AreInRange limits
unfolding limits_of
AreInRange-limits_of d limits e =
    through _ (section (codes "tuningConfig") d) _ limits e (λ s _ e.
    through _ (limit (codes "maxRowsInMemory") 1000 1048576 s) _ limits e (λ rows rows_read e.
    through _ (limit (codes "maxRetained") 1048576 1048576 s) _ limits e (λ retained retained_read e.
    through _ (limit (codes "maxCommits") 4294967295 4294967295 s) _ limits e (λ commits commits_read e.
    through _ (limit (codes "maxImageBytes") 1073741824 1073741824 s) _ limits e (λ bytes bytes_read e.
    let made : Limits = record { max_rows_in_memory = rows; max_retained = retained; max_commits = commits; max_image_bytes = bytes } in
    let same : made ≡ limits = cc in
    let r = Within-limit (codes "maxRowsInMemory") 1000 1048576 s rows (omega arith, omega arith) rows_read in
    let t = Within-limit (codes "maxRetained") 1048576 1048576 s retained (omega arith, omega arith) retained_read in
    let c = Within-limit (codes "maxCommits") 4294967295 4294967295 s commits (omega arith, omega arith) commits_read in
    let b = Within-limit (codes "maxImageBytes") 1073741824 1073741824 s bytes (omega arith, omega arith) bytes_read in
    subst AreInRange same (record {
      some_rows = r.0;
      few_rows = r.1;
      some_retained = t.0;
      few_retained = t.1;
      some_commits = c.0;
      few_commits = c.1;
      some_bytes = b.0;
      few_bytes = b.1;
    }))))))

-- ---- the granularities

chunk_length_is_not_all : (g : Gran) → is_chunk_length g ≡ true → is_all g ≡ false
chunk_length_is_not_all AllTime e = cc
chunk_length_is_not_all Millisecond e = refl
chunk_length_is_not_all Second e = refl
chunk_length_is_not_all Minute e = refl
chunk_length_is_not_all FiveMinute e = refl
chunk_length_is_not_all TenMinute e = refl
chunk_length_is_not_all FifteenMinute e = refl
chunk_length_is_not_all ThirtyMinute e = refl
chunk_length_is_not_all Hour e = refl
chunk_length_is_not_all SixHour e = refl
chunk_length_is_not_all EightHour e = refl
chunk_length_is_not_all Day e = refl
chunk_length_is_not_all Week e = refl
chunk_length_is_not_all Month e = refl
chunk_length_is_not_all Quarter e = refl
chunk_length_is_not_all Year e = refl

-- a granularity that is given is supported where it stands
is_supported : (supported : Bool) (given : Gran) (d : Data) (g : Gran) → if_supported supported given d ≡ Ok g → (supported ≡ true) × (given ≡ g)
is_supported true given d g e = (refl, cc)
is_supported false given d g e = cc

some_chunk_length : (d : Option Data) (g : Gran) → segment_granularity_of d ≡ Ok g → is_chunk_length g ≡ true
unfolding segment_granularity_of
some_chunk_length None g e = let same : Day ≡ g = cc in subst (λ g. is_chunk_length g ≡ true) same refl
some_chunk_length (Some d) g e =
    through _ (passed Granularity (gran_of d)) _ g e (λ given _ e.
    let p = is_supported (is_chunk_length given) given d g e in
    subst (λ g. is_chunk_length g ≡ true) p.1 p.0)

not_true : (b : Bool) → not b ≡ true → b ≡ false
not_true true e = cc
not_true false e = refl

some_query_kind : (d : Option Data) (g : Gran) → query_granularity_of d ≡ Ok g → is_all g ≡ false
unfolding query_granularity_of
some_query_kind None g e = let same : Millisecond ≡ g = cc in subst (λ g. is_all g ≡ false) same refl
some_query_kind (Some d) g e =
    through _ (passed Granularity (gran_of d)) _ g e (λ given _ e.
    let p = is_supported (not (is_all given)) given d g e in
    subst (λ g. is_all g ≡ false) p.1 (not_true (is_all given) p.0))

some_kinds : (d : Data) (g : GranularitySpec) → granularity_of d ≡ Ok g → (is_chunk_length g.segment ≡ true) × (is_all g.query ≡ false)
unfolding granularity_of
some_kinds d g e =
    through _ (passed Base (section (codes "granularitySpec") d)) _ g e (λ s _ e.
    through _ (passed Base (text_or (codes "type") (codes "uniform") s)) _ g e (λ type _ e.
    through _ (uniform type) _ g e (λ supported _ e.
    through _ (segment_granularity_of (field_in (codes "segmentGranularity") s)) _ g e (λ segment segment_read e.
    through _ (query_granularity_of (field_in (codes "queryGranularity") s)) _ g e (λ query query_read e.
    through _ (passed Base (bool_or (codes "rollup") true s)) _ g e (λ rollup _ e.
    let made : GranularitySpec = record { segment = segment; query = query; rollup = rollup } in
    let same : made ≡ g = cc in
    subst (λ g. (is_chunk_length g.segment ≡ true) × (is_all g.query ≡ false)) same (some_chunk_length _ segment segment_read, some_query_kind _ query query_read)))))))

nests_in : (g : GranularitySpec) (u : Unit {0}) → nested g ≡ Ok u → nests g.query g.segment ≡ true
nests_in g u e = at (nests g.query g.segment) refl e
  where
    at : (b : Bool) → nests g.query g.segment ≡ b → cond b (Ok tt) (Err NotNested) ≡ Ok u → nests g.query g.segment ≡ true
    at true f e = f
    at false f e = cc

-- ---- the whole

pub IsWellFormed-spec_of : (bytes : List ℕ) (s : Schema) → spec_of bytes ≡ Ok s → IsWellFormed s
unfolding spec_of
IsWellFormed-spec_of bytes s e =
    through _ (passed Base (json_of bytes)) _ s e (λ text _ e.
    through _ (inner_of text) _ s e (λ spec _ e.
    through _ (data_schema_of spec) _ s e (λ d _ e.
    through _ (source_of d) _ s e (λ source _ e.
    through _ (timestamp_of d) _ s e (λ timestamp _ e.
    through _ (dimensions_of d) _ s e (λ dimensions dimensions_read e.
    through _ (metrics_of d) _ s e (λ metrics metrics_read e.
    through _ (granularity_of d) _ s e (λ granularity granularity_read e.
    through _ (nested granularity) _ s e (λ nesting nesting_read e.
    through _ (no_transform (field (codes "transformSpec") d)) _ s e (λ transform _ e.
    through _ (distinct_names (column_names dimensions metrics)) _ s e (λ distinct distinct_read e.
    through _ (few_columns dimensions metrics) _ s e (λ few few_read e.
    through _ (only_listed_keys d) _ s e (λ listed _ e.
    through _ (passed Base (limits_of spec)) _ s e (λ limits limits_read e.
    let made : Schema = record { data_source = source; time_column = timestamp.column; time_format = timestamp.format; dimensions = dimensions; metrics = metrics; segment_granularity = granularity.segment; query_granularity = granularity.query; rollup = granularity.rollup; limits = limits } in
    let same : made ≡ s = cc in
    let counts = at_most dimensions metrics few few_read in
    let kinds = some_kinds d granularity granularity_read in
    subst IsWellFormed same (record {
      distinct = AreDistinct-distinct_names (column_names dimensions metrics) distinct distinct_read;
      some_dimension = some_dimension d dimensions dimensions_read;
      few_dimensions = counts.0;
      few_metrics = counts.1;
      fields = HasItsField-metrics_of d metrics metrics_read;
      segment_kind = chunk_length_is_not_all granularity.segment kinds.0;
      query_kind = kinds.1;
      chunk_length = kinds.0;
      nests_in = nests_in granularity nesting nesting_read;
      limits = AreInRange-limits_of spec limits (Ok-passed (λ f. Base f) (limits_of spec) limits limits_read);
    })))))))))))))))
