-- Columns read the same of a field and of what they see in it.
use Rattle.std.proofs.Common.{◌≡◌, ◌∙◌, sym, refl, ap, subst, ℕ, zero, suc, false, true≢false, List, [], ◌∷◌, ◌++◌, length, take, drop, append-nil, Option, Some, None, Ok, Err, bytes_eq, arith}
use Rattle.std.specs.Prelude.{ℤ, Float, option_and_then, slice_get, slice_set}
use Rattle.std.specs.List.{list_any, AllByRecursion, AllZip, IsDistinct}
use Rattle.std.specs.Cmp.Lexicographic.{bytes_decides}
use Rattle.std.proofs.lemmas.Bool.{or_parts}
use Rattle.std.proofs.lemmas.List.{drop_all, take_all}
use Rattle.std.proofs.lemmas.Slice.Zip.{AllZip-long}
use Rattle.serde_json.specs.Data.{unsigned, negative, float, Data, null, boolean, number, string, array, object, Items, no_items, Members, no_members, put}
use Rattle.serde_json.specs.Find.{get, get_member}
use Rattle.serde_json.proofs.Views.{get_member-put, get_member-put_other}
use Rattle.dr_base.specs.Reading.{◌>>=◌}
use Rattle.dr_base.specs.Fields.{present, field}
use Rattle.dr_agg.specs.declared.kind.Kind.{Kind}
use Rattle.dr_agg.specs.declared.kind.Kind.TheVariants.{Count, LongSum, LongMin, LongMax}
use Rattle.dr_schema.specs.declared.metric.Metric.{Metric}
use Rattle.dr_schema.specs.declared.schema.Schema.{Schema}
use Rattle.dr_schema.specs.declared.time_format.TimeFormat.{TimeFormat}
use Rattle.dr_schema.specs.declared.time_format.TimeFormat.TheVariants.{Iso, Millis, Posix, Auto}
use Rattle.dr_events.specs.declared.input.Input.{Input}
use Rattle.dr_events.specs.declared.places.Places.{Places}
use Rattle.dr_events.specs.declared.scalar.Scalar.{Scalar}
use Rattle.dr_events.specs.declared.scalar.Scalar.TheVariants.{Null}
use Rattle.dr_events.specs.declared.unparseable.Unparseable.{Unparseable}
use Rattle.dr_events.specs.declared.unparseable.Unparseable.TheVariants.{BadTimestamp, BadDimension, BadMetric}
use Rattle.dr_events.proofs.MoreNames.{zip_implied}
use Rattle.dr_events.specs.Columns.{or_refused, each_from}
use Rattle.dr_events.specs.EventTime.{in_years, time_of, event_time}
use Rattle.dr_events.specs.DimensionValue.{dimension_value}
use Rattle.dr_events.specs.MetricInput.{number_input, input_field, input_by, metric_input}
use Rattle.dr_events.specs.EventOf.{object_of, dims_of, inputs_of, event_in, event_of}
use Rattle.dr_events.specs.Scalars.{data_of, plain, seen, AreFirst, AreSeen, AreNamed, IsPlaceOf, AreRead, AreFields, value_at, input_value, dims_seen, inputs_seen, event_seen}

dimension_value-plain : (d : Data) → dimension_value (Some (plain d)) ≡ dimension_value (Some d)
dimension_value-plain null = refl
dimension_value-plain (boolean b) = refl
dimension_value-plain (number (unsigned n)) = refl
dimension_value-plain (number (negative z)) = refl
dimension_value-plain (number (float x)) = refl
dimension_value-plain (string s) = refl
dimension_value-plain (array ds) = refl
dimension_value-plain (object ms) = refl

dimension_value-seen : (o : Option Data) → dimension_value (Some (seen o)) ≡ dimension_value o
dimension_value-seen None = refl
dimension_value-seen (Some d) = dimension_value-plain d

number_input-plain : (d : Data) → number_input (Some (plain d)) ≡ number_input (Some d)
number_input-plain null = refl
number_input-plain (boolean b) = refl
number_input-plain (number (unsigned n)) = refl
number_input-plain (number (negative z)) = refl
number_input-plain (number (float x)) = refl
number_input-plain (string s) = refl
number_input-plain (array ds) = refl
number_input-plain (object ms) = refl

number_input-seen : (o : Option Data) → number_input (Some (seen o)) ≡ number_input o
number_input-seen None = refl
number_input-seen (Some d) = number_input-plain d

input_by-seen : (kind : Kind) (o : Option Data) → input_by kind (Some (seen o)) ≡ input_by kind o
input_by-seen Count o = refl
input_by-seen LongSum o = number_input-seen o
input_by-seen LongMin o = number_input-seen o
input_by-seen LongMax o = number_input-seen o

list_none : (format : TimeFormat) (ds : Items) → time_of format (array ds) ≡ None
list_none Iso ds = refl
list_none Millis ds = refl
list_none Posix ds = refl
list_none Auto ds = refl

float_none : (format : TimeFormat) (x : Float) → time_of format (number (float x)) ≡ None
float_none Iso x = refl
float_none Millis x = refl
float_none Posix x = refl
float_none Auto x = refl

object_none : (format : TimeFormat) (ms : Members) → time_of format (object ms) ≡ None
object_none Iso ms = refl
object_none Millis ms = refl
object_none Posix ms = refl
object_none Auto ms = refl

no_time : (x y : Option ℤ) → x ≡ None → y ≡ None → or_refused BadTimestamp (option_and_then in_years x) ≡ or_refused BadTimestamp (option_and_then in_years y)
no_time x y e f = ap (λ o. or_refused BadTimestamp (option_and_then in_years o)) (e ∙ sym f)

event_time-plain : (format : TimeFormat) (d : Data) → event_time format (present (Some (plain d))) ≡ event_time format (present (Some d))
event_time-plain format null = refl
event_time-plain format (boolean b) = refl
event_time-plain format (number (unsigned n)) = refl
event_time-plain format (number (negative z)) = refl
event_time-plain format (number (float x)) = no_time _ _ (list_none format no_items) (float_none format x)
event_time-plain format (string s) = refl
event_time-plain format (array ds) = no_time _ _ (list_none format no_items) (list_none format ds)
event_time-plain format (object ms) = no_time _ _ (list_none format no_items) (object_none format ms)

event_time-seen : (format : TimeFormat) (o : Option Data) → event_time format (present (Some (seen o))) ≡ event_time format (present o)
event_time-seen format None = refl
event_time-seen format (Some d) = event_time-plain format d

-- ---- what is seen, name by name

pub nulls_pushed : (found : List Scalar) → AllByRecursion (λ s. s ≡ Null) found → AllByRecursion (λ s. s ≡ Null) (found ++ Null ∷ [])
nulls_pushed [] all = (refl, tt)
nulls_pushed (s ∷ found) all = (all.0, nulls_pushed found all.1)

-- in an object without members each field is seen as null
pub seen-blank : (names : List (List ℕ)) (found : List Scalar) → AllByRecursion (λ s. s ≡ Null) found → length found ≡ length names → AreSeen names found no_members
seen-blank [] [] all e = tt
seen-blank [] (s ∷ found) all e = absurd (omega (arith, e))
seen-blank (n ∷ names) [] all e = absurd (omega (arith, e))
seen-blank (n ∷ names) (s ∷ found) all e = (ap data_of all.0, seen-blank names found all.1 (omega (arith, e)))

-- a member of a name that no column reads
pub seen-other : (names : List (List ℕ)) (found : List Scalar) (k : List ℕ) (d : Data) (ms : Members) → list_any (bytes_eq k) names ≡ false → AreSeen names found ms → AreSeen names found (put k d ms)
seen-other [] [] k d ms none all = tt
seen-other [] (s ∷ found) k d ms none all = absurd all
seen-other (n ∷ names) [] k d ms none all = absurd all
seen-other (n ∷ names) (s ∷ found) k d ms none all =
    let parts = or_parts (bytes_eq k n) (list_any (bytes_eq k) names) none in
    let other : n ≡ k → ⊥ = λ same. true≢false (sym ((bytes_decides k n).1 (sym same)) ∙ parts.0) in
    (all.0 ∙ ap seen (sym (get_member-put_other n k d ms other)), seen-other names found k d ms parts.1 all.1)

absent : (k : List ℕ) (names : List (List ℕ)) → AllByRecursion (λ n. bytes_eq k n ≡ false) names → list_any (bytes_eq k) names ≡ false
absent k [] all = refl
absent k (n ∷ names) all = rw all.0 (absent k names all.1)

all_at : {X : Type 0} (P : X → Type 0) (xs : List X) (i : ℕ) (x : X) → AllByRecursion P xs → slice_get xs i ≡ Some x → P x
all_at P [] i x all e = cc
all_at P (y ∷ xs) zero x all e = let same : y ≡ x = cc in subst P same all.0
all_at P (y ∷ xs) (suc i) x all e = all_at P xs i x all.1 e

all-first : {X : Type 0} (P : X → Type 0) (xs more : List X) → AllByRecursion P (xs ++ more) → AllByRecursion P xs
all-first P [] more all = tt
all-first P (x ∷ xs) more all = (all.0, all-first P xs more all.1)

none-first : (k : List ℕ) (firsts more : List (List ℕ)) → list_any (bytes_eq k) (firsts ++ more) ≡ false → list_any (bytes_eq k) firsts ≡ false
none-first k [] more none = refl
none-first k (n ∷ firsts) more none =
    let parts = or_parts (bytes_eq k n) (list_any (bytes_eq k) (firsts ++ more)) none in
    rw parts.0 (none-first k firsts more parts.1)

-- a member of a name that isn't kept
pub seen-unkept : (firsts names : List (List ℕ)) (found : List Scalar) (k : List ℕ) (d : Data) (ms : Members) → AreFirst firsts names → list_any (bytes_eq k) names ≡ false → AreSeen firsts found ms → AreSeen firsts found (put k d ms)
seen-unkept firsts names found k d ms first none = seen-other firsts found k d ms (none-first k firsts first.0 (ap (list_any (bytes_eq k)) (sym first.1) ∙ none))

-- a member of a name that is kept; beyond the first ones no column reads it
seen_put : (firsts more : List (List ℕ)) (found : List Scalar) (place : ℕ) (k : List ℕ) (d : Data) (s : Scalar) (ms : Members) → IsDistinct bytes_eq (firsts ++ more) → slice_get (firsts ++ more) place ≡ Some k → plain d ≡ data_of s
    → AreSeen firsts found ms → AreSeen firsts (slice_set found place s) (put k d ms)
unfolding IsDistinct
seen_put [] more [] place k d s ms distinct e is all = tt
seen_put [] more (f ∷ found) place k d s ms distinct e is all = absurd all
seen_put (n ∷ names) more [] place k d s ms distinct e is all = absurd all
seen_put (n ∷ names) more (f ∷ found) zero k d s ms distinct e is all =
    let same : n ≡ k = cc in
    let others : AllByRecursion (λ y. bytes_eq k y ≡ false) names = subst (λ m. AllByRecursion (λ y. bytes_eq m y ≡ false) names) same (all-first (λ y. bytes_eq n y ≡ false) names more distinct.0) in
    (sym is ∙ sym (ap seen (ap (λ m. get_member m (put k d ms)) same ∙ get_member-put k d ms)), seen-other names found k d ms (absent k names others) all.1)
seen_put (n ∷ names) more (f ∷ found) (suc i) k d s ms distinct e is all =
    let apart : bytes_eq n k ≡ false = all_at (λ y. bytes_eq n y ≡ false) (names ++ more) i k distinct.0 e in
    let other : n ≡ k → ⊥ = λ same. true≢false (sym ((bytes_decides n k).1 same) ∙ apart) in
    (all.0 ∙ ap seen (sym (get_member-put_other n k d ms other)), seen_put names more found i k d s ms distinct.1 e is all.1)

pub seen-put : (firsts names : List (List ℕ)) (found : List Scalar) (place : ℕ) (k : List ℕ) (d : Data) (s : Scalar) (ms : Members) → AreFirst firsts names → IsDistinct bytes_eq names → slice_get names place ≡ Some k → plain d ≡ data_of s
    → AreSeen firsts found ms → AreSeen firsts (slice_set found place s) (put k d ms)
seen-put firsts names found place k d s ms first distinct e =
    seen_put firsts first.0 found place k d s ms (subst (IsDistinct bytes_eq) first.1 distinct) (subst (λ l. slice_get l place ≡ Some k) first.1 e)

-- a list that was written back whole
pub written-back : {X : Type 0} (xs ys : List X) (n : ℕ) → length xs ≡ length ys → n ≡ length ys → take n (xs ++ drop (length xs) ys) ≡ xs
written-back xs ys n same all = ap (λ zs. take n (xs ++ zs)) (drop_all (length xs) ys (omega (arith, same))) ∙ ap (take n) (append-nil xs) ∙ take_all n xs (omega (arith, same, all))

-- as many as the names
pub seen-long : (names : List (List ℕ)) (found : List Scalar) (ms : Members) → AreSeen names found ms → length found ≡ length names
seen-long names found ms = AllZip-long (λ name s. data_of s ≡ seen (get_member name ms)) names found

-- what is seen at the place of a name
seen-at : (names : List (List ℕ)) (found : List Scalar) (ms : Members) (place : ℕ) (name : List ℕ) → AreSeen names found ms → slice_get names place ≡ Some name → value_at found place ≡ Some (seen (get_member name ms))
seen-at [] found ms place name all e = cc
seen-at (n ∷ names) [] ms place name all e = absurd all
seen-at (n ∷ names) (s ∷ found) ms zero name all e = let same : n ≡ name = cc in ap Some (all.0 ∙ ap (λ m. seen (get_member m ms)) same)
seen-at (n ∷ names) (s ∷ found) ms (suc i) name all e = seen-at names found ms i name all.1 e

-- ---- the event of what is seen

-- columns that read the same, one by one
each_from-same : {C D A E : Type 0} (reading : C → Option A) (other : D → Option A) (refusal : ℕ → E) (values : List A) (cs : List C) (ds : List D) → AllZip (λ c d. reading c ≡ other d) cs ds
    → each_from reading refusal values cs ≡ each_from other refusal values ds
unfolding each_from
each_from-same reading other refusal values [] [] all = refl
each_from-same reading other refusal values [] (d ∷ ds) all = absurd all
each_from-same reading other refusal values (c ∷ cs) [] all = absurd all
each_from-same reading other refusal values (c ∷ cs) (d ∷ ds) all =
    λ i. or_refused (refusal (length values)) (all.0 i) >>= (λ v. each_from-same reading other refusal (values ++ v ∷ []) cs ds all.1 i)

module _ (names : List (List ℕ)) (found : List Scalar) (ms : Members) (seen_so : AreSeen names found ms) where
  dimension_at : (column : List ℕ) (place : ℕ) → slice_get names place ≡ Some column → dimension_value (get column (object ms)) ≡ dimension_value (value_at found place)
  dimension_at column place e = sym (dimension_value-seen (get_member column ms)) ∙ ap dimension_value (sym (seen-at names found ms place column seen_so e))

  input_of : (kind : Kind) (name : Option (List ℕ)) (place : Option ℕ) → IsPlaceOf names name place → input_by kind (input_field name (object ms)) ≡ input_by kind (input_value found place)
  input_of kind None None e = refl
  input_of kind None (Some place) e = absurd e
  input_of kind (Some name) None e = absurd e
  input_of kind (Some name) (Some place) e = sym (input_by-seen kind (get_member name ms)) ∙ ap (input_by kind) (sym (seen-at names found ms place name seen_so e))

  input_at : (metric : Metric) (input : Input) → (input.kind ≡ metric.kind) × IsPlaceOf names metric.field input.field → metric_input (object ms) metric ≡ input_by input.kind (input_value found input.field)
  input_at metric input h = input_of metric.kind metric.field input.field h.1 ∙ ap (λ k. input_by k (input_value found input.field)) (sym h.0)

  dims-seen : (columns : List (List ℕ)) (places : List ℕ) → AreNamed names columns places → dims_of columns (object ms) ≡ dims_seen places found
  unfolding dims_of dims_seen
  dims-seen columns places named =
      each_from-same (λ name. dimension_value (get name (object ms))) (λ place. dimension_value (value_at found place)) BadDimension [] columns places
      (zip_implied (λ column place. slice_get names place ≡ Some column) (λ name place. dimension_value (get name (object ms)) ≡ dimension_value (value_at found place)) dimension_at columns places named)

  inputs-seen : (metrics : List Metric) (inputs : List Input) → AreRead names metrics inputs → inputs_of metrics (object ms) ≡ inputs_seen inputs found
  unfolding inputs_of inputs_seen
  inputs-seen metrics inputs are =
      each_from-same (metric_input (object ms)) (λ (input : Input). input_by input.kind (input_value found input.field)) BadMetric [] metrics inputs
      (zip_implied (λ (metric : Metric) (input : Input). (input.kind ≡ metric.kind) × IsPlaceOf names metric.field input.field) (λ metric input. metric_input (object ms) metric ≡ input_by input.kind (input_value found input.field)) input_at metrics inputs are)

  time-seen : (format : TimeFormat) (column : List ℕ) (place : ℕ) → slice_get names place ≡ Some column → event_time format (field column (object ms)) ≡ event_time format (present (value_at found place))
  time-seen format column place e = sym (event_time-seen format (get_member column ms)) ∙ ap (λ o. event_time format (present o)) (sym (seen-at names found ms place column seen_so e))

  event-seen : (s : Schema) (seat : ℕ) (places : Places) → AreFields s names places → event_in s seat (object ms) ≡ event_seen s.time_format seat places found
  unfolding event_in event_seen
  event-seen s seat places fields =
      rw (time-seen s.time_format s.time_column places.time fields.0, dims-seen s.dimensions places.dimensions.items fields.1, inputs-seen s.metrics places.inputs.items fields.2) refl

-- the event of a line is that of what columns see in its object
pub event_of-seen : (s : Schema) (seat : ℕ) (bytes : List ℕ) (names : List (List ℕ)) (places : Places) (found : List Scalar) (ms : Members) → object_of bytes ≡ Ok (object ms) → AreFields s names places → AreSeen names found ms
    → event_of s seat bytes ≡ event_seen s.time_format seat places found
unfolding event_of
event_of-seen s seat bytes names places found ms is fields seen_so = rw is (event-seen names found ms seen_so s seat places fields)

pub event_of-refused : (s : Schema) (seat : ℕ) (bytes : List ℕ) (e : Unparseable) → object_of bytes ≡ Err e → event_of s seat bytes ≡ Err e
unfolding event_of
event_of-refused s seat bytes e is = rw is refl
