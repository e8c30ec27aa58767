-- What is asked of a load before a file is read, and what it tells in the end.
use Rattle.std.specs.Prelude.{◌≡◌, ◌⊎◌, ℕ, List, ◌++◌, length, true, Result, Ok, Err, IfErr, codes, if◌then◌else◌}
use Rattle.dr_base.specs.Reading.{◌>>=◌, passed}
use Rattle.dr_base.specs.declared.event.Event.{Event}
use Rattle.dr_schema.specs.declared.schema.Schema.{Schema}
use Rattle.dr_spec.specs.SpecOf.{spec_of}
use Rattle.dr_ask.specs.Asked.{Asked}
use Rattle.dr_ask.specs.Matching.{is_matching}
use Rattle.dr_ask.specs.QueryOf.{query_of}
use Rattle.dr_cuts.specs.RawAnswer.{raw_answer}
use Rattle.dr_timeline.specs.declared.ask_error.AskError.TheVariants as ask
use Rattle.dr_counts.specs.CountsLine.{counts_line}
use Rattle.dr_load.specs.Refusal.{is_memory, is_of_files}
use Rattle.dr_load.specs.declared.failure.Failure.{Failure}
use Rattle.dr_load.specs.declared.failure.Failure.TheVariants.{Answer}
use Rattle.dr_load.specs.declared.load_error.LoadError.{LoadError}
use Rattle.dr_load.specs.declared.load_error.LoadError.TheVariants.{Spec, Query, NotMatching}

-- the query is answered by the raw events, whatever is merged
abbrev pub only_matching : Asked → Result Asked LoadError
only_matching q = if is_matching q then Ok q else Err NotMatching

-- the query of a text, which has to match
abbrev pub matching_of : Schema → List ℕ → Result Asked LoadError
matching_of schema query = do
  q ← passed Query (query_of schema query)
  only_matching q

-- the schema and the query, or the first refusal: that of the spec, that of the query, or that it doesn't match
abbrev pub asked_of : List ℕ → List ℕ → Result (Schema × Asked) LoadError
asked_of spec query = do
  schema ← passed Spec (spec_of spec)
  q ← matching_of schema query
  Ok (schema, q)

-- the line of the counts, and the line of the answer
abbrev pub told : ℕ → ℕ → ℕ → List ℕ → List ℕ
told processed unparseable thrown_away answer = ((counts_line processed unparseable thrown_away ++ codes "\n") ++ answer) ++ codes "\n"

-- both of the raw answer over some events, or the refusal of that answer
abbrev pub told_of : Schema → Asked → List Event → ℕ × ℕ → Result (List ℕ) Failure
told_of schema q es counts = do
  answer ← passed Answer (passed ask.Answer (raw_answer schema q es))
  Ok (told (length es) counts.0 counts.1 answer)

-- a text that is told of some events
abbrev pub TellsRaw : Schema → Asked → List ℕ → Type 0
TellsRaw schema q text = (es : List Event) × (counts : ℕ × ℕ) × (told_of schema q es counts ≡ Ok text)

-- a text is told where nothing was refused before a file was read
abbrev pub Tells : Result (Schema × Asked) LoadError → List ℕ → Type 0
Tells (Ok asked) text = TellsRaw asked.0 asked.1 text
Tells (Err e) text = ⊥

-- what is refused before a file is read is the answer, unless memory ran out; where nothing is, no refusal is one of these
abbrev pub RefusesFirst : {X : Type 0} → Result (Schema × Asked) LoadError → Result X LoadError → Type 0
RefusesFirst (Ok asked) result = IfErr result (λ e. is_of_files e ≡ true)
RefusesFirst (Err e) result = (result ≡ Err e) ⊎ ((m : LoadError) × (is_memory m ≡ true) × (result ≡ Err m))
