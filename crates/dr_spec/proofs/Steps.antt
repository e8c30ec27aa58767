-- A reading that succeeded, step by step.
use Rattle.std.proofs.Common.{◌≡◌, Result, Ok, Err, refl}
use Rattle.dr_base.specs.Reading.{◌>>=◌, passed}

-- the first step succeeded, and so did the rest with its value
pub through : {A B E : Type 0} (P : Type 0) (r : Result A E) (rest : A → Result B E) (y : B) → (r >>= rest) ≡ Ok y → ((x : A) → r ≡ Ok x → rest x ≡ Ok y → P) → P
through P (Ok x) rest y h next = next x refl h
through P (Err e) rest y h next = cc

-- a reading of a crate below succeeded
pub Ok-passed : {A E F : Type 0} (wrap : E → F) (r : Result A E) (x : A) → passed wrap r ≡ Ok x → r ≡ Ok x
Ok-passed wrap (Ok y) x h = cc
Ok-passed wrap (Err e) x h = cc
