-- What is read fits the schema.
use Rattle.std.proofs.Common.{◌≡◌, ◌∙◌, sym, refl, ap, subst, ℕ, true, false, List, [], length, ℤ, Option, Some, None, Result, Ok, Err, arith}
use Rattle.std.specs.Prelude.{◌&&◌, int_le, if◌then◌else◌, option_and_then}
use Rattle.serde_json.specs.Data.{Data}
use Rattle.serde_json.specs.Find.{get}
use Rattle.dr_base.specs.declared.event.Event.{Event}
use Rattle.dr_base.specs.Reading.{◌>>=◌}
use Rattle.dr_base.specs.Fields.{field}
use Rattle.dr_time.specs.Instant.{IsInstant, first_instant, last_instant}
use Rattle.dr_schema.specs.declared.metric.Metric.{Metric}
use Rattle.dr_schema.specs.declared.schema.Schema.{Schema}
use Rattle.dr_schema.specs.declared.time_format.TimeFormat.{TimeFormat}
use Rattle.dr_events.specs.declared.unparseable.Unparseable.TheVariants.{BadTimestamp, BadDimension, BadMetric}
use Rattle.dr_events.specs.declared.unparseable.Unparseable.{Unparseable}
use Rattle.dr_events.specs.Refusal.{Gives}
use Rattle.dr_events.specs.Columns.{or_refused}
use Rattle.dr_events.specs.EventTime.{time_of, in_years, event_time}
use Rattle.dr_events.specs.DimensionValue.{dimension_value}
use Rattle.dr_events.specs.MetricInput.{metric_input}
use Rattle.dr_events.specs.EventOf.{object_of, dims_of, inputs_of, event_in, event_of}
use Rattle.dr_schema.specs.Fits.{FitsSchema}
use Rattle.dr_events.proofs.EachColumn.{length-each_from, All-each_from}
use Rattle.dr_events.proofs.WholeInputs.{FitsSigned-metric_input}
use Rattle.dr_events.proofs.EventTimes.{inside}
use Rattle.std.specs.Prelude.{All, FitsSigned, IfOk}
use Rattle.std.specs.Int.{w64}
use Rattle.std.proofs.lemmas.List.Elements.{All-nil}

-- a step that went well, and what follows it
after_step : {A B E : Type 0} {P : Type 0} → (r : Result A E) (f : A → Result B E) (y : B) → (r >>= f) ≡ Ok y → ((x : A) → r ≡ Ok x → f x ≡ Ok y → P) → P
after_step (Ok x) f y h next = next x refl h
after_step (Err e) f y h next = cc

length-dims_of : (names : List (List ℕ)) (d : Data) (dims : List (List ℕ)) → dims_of names d ≡ Ok dims → length dims ≡ length names
unfolding dims_of
length-dims_of names d dims h = let e = length-each_from (λ name. dimension_value (get name d)) BadDimension [] names dims h in omega arith

length-inputs_of : (metrics : List Metric) (d : Data) (inputs : List ℤ) → inputs_of metrics d ≡ Ok inputs → length inputs ≡ length metrics
unfolding inputs_of
length-inputs_of metrics d inputs h = let e = length-each_from (metric_input d) BadMetric [] metrics inputs h in omega arith

All-inputs_of : (metrics : List Metric) (d : Data) (inputs : List ℤ) → inputs_of metrics d ≡ Ok inputs → All (FitsSigned w64) inputs
unfolding inputs_of
All-inputs_of metrics d inputs h = All-each_from (metric_input d) BadMetric (FitsSigned w64) (λ m x e. FitsSigned-metric_input d m x e) [] metrics inputs (All-nil (FitsSigned w64)) h

IsInstant-in_years : (z t : ℤ) → in_years z ≡ Some t → IsInstant t
IsInstant-in_years z t h =
    elim (int_le first_instant z && int_le z last_instant) as (λ b. (int_le first_instant z && int_le z last_instant) ≡ b → (if b then Some z else None) ≡ Some t → IsInstant t) [
      | true ↦ λ e k. let same : z ≡ t = cc in subst IsInstant same (inside z e)
      | false ↦ λ e k. cc
    ]
    refl h

IsInstant-event_time : (format : TimeFormat) (o : Option Data) (t : ℤ) → event_time format o ≡ Ok t → IsInstant t
IsInstant-event_time format None t h = cc
IsInstant-event_time format (Some d) t h =
    elim (time_of format d) as (λ o. or_refused BadTimestamp (option_and_then in_years o) ≡ Ok t → IsInstant t) [
      | None ↦ λ k. cc
      | Some z ↦ λ k. elim (in_years z) as (λ o. in_years z ≡ o → or_refused BadTimestamp o ≡ Ok t → IsInstant t) [ None ↦ λ e j. cc | Some x ↦ λ e j. let same : x ≡ t = cc in IsInstant-in_years z t (e ∙ ap Some same) ] refl k
    ]
    h

FitsSchema-event_in : (s : Schema) (seat : ℕ) (d : Data) (e : Event) → event_in s seat d ≡ Ok e → FitsSchema s e
unfolding event_in
FitsSchema-event_in s seat d e h =
    after_step (event_time s.time_format (field s.time_column d)) _ e h (λ time ht h2.
    after_step (dims_of s.dimensions d) _ e h2 (λ dims hs h3.
    after_step (inputs_of s.metrics d) _ e h3 (λ inputs hi h4.
    let made : Event = record { seat = seat; time = time; dims = dims; inputs = inputs } in
    let same : made ≡ e = cc in
    record {
      dims = ap (λ (x : Event). length x.dims) (sym same) ∙ length-dims_of s.dimensions d dims hs;
      inputs = ap (λ (x : Event). length x.inputs) (sym same) ∙ length-inputs_of s.metrics d inputs hi;
      in_range = subst (λ (x : Event). All (FitsSigned w64) x.inputs) same (All-inputs_of s.metrics d inputs hi);
      time = subst (λ (x : Event). IsInstant x.time) same (IsInstant-event_time s.time_format (field s.time_column d) time ht);
    })))

-- an event that is read fits the schema
pub fits_if_read : (s : Schema) (seat : ℕ) (bytes : List ℕ) (r : Result Event Unparseable) → Gives (λ e. e) r (event_of s seat bytes) → IfOk r (FitsSchema s)
unfolding event_of
fits_if_read s seat bytes (Ok e) h = after_step (object_of bytes) _ e h (λ d is h2. FitsSchema-event_in s seat d e h2)
fits_if_read s seat bytes (Err f) h = tt
