-- What becomes of several files together. No public contract cites this file.
use Rattle.std.specs.Prelude.{ℕ, List, [], ◌∷◌, ◌-◌, ◌^◌, Option, Some, None, Result, Ok, Err, map, min, sum}
use Rattle.dr_load.specs.declared.ingested.Ingested.{Ingested}
use Rattle.dr_load.specs.declared.failure.Failure.{Failure}

abbrev or_later : Option Failure → Option Failure → Option Failure
or_later (Some e) later = Some e
or_later None later = later

-- the refusal that ended the first of the files that weren't read whole
abbrev pub first_refusal : List Ingested → Option Failure
first_refusal [] = None
first_refusal (file ∷ files) = or_later file.refusal (first_refusal files)

-- a sum that stays at 2^64 - 1 once it is there
abbrev pub total : List ℕ → ℕ
total ns = min (sum ns) (2 ^ 64 - 1)

abbrev refused_or : Option Failure → ℕ × ℕ → Result (ℕ × ℕ) Failure
refused_or (Some e) counts = Err e
refused_or None counts = Ok counts

-- how many lines were no events and how many events weren't kept, or that refusal
abbrev pub counts_of : List Ingested → Result (ℕ × ℕ) Failure
counts_of files = refused_or (first_refusal files) (total (map (λ f. f.tally.unparseable) files), total (map (λ f. f.tally.thrown_away) files))
