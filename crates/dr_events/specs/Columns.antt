-- Columns, each of which reads a value of an event.
use Rattle.std.specs.Prelude.{ℕ, List, [], ◌∷◌, ◌++◌, length, Option, Some, None, Result, Ok, Err}
use Rattle.dr_base.specs.Reading.{◌>>=◌}

-- the value, or that refusal where there is none
abbrev pub or_refused : {A E : Type 0} → E → Option A → Result A E
or_refused refusal None = Err refusal
or_refused refusal (Some x) = Ok x

-- these values, and then what each column reads; the first that reads none is refused by its place
unfoldable pub each_from : {C A E : Type 0} → (C → Option A) → (ℕ → E) → List A → List C → Result (List A) E
each_from reading refusal values [] = Ok values
each_from reading refusal values (c ∷ columns) = do
  value ← or_refused (refusal (length values)) (reading c)
  each_from reading refusal (values ++ value ∷ []) columns

-- what each column reads
abbrev pub each : {C A E : Type 0} → (C → Option A) → (ℕ → E) → List C → Result (List A) E
each reading refusal columns = each_from reading refusal [] columns
