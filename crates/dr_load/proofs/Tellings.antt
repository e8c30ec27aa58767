-- What is told over a snapshot of the node's schema is told of the node's schema.
use Rattle.std.proofs.Common.{◌≡◌, subst, ℕ, Bool, List, Result, Ok, Err, IfOk}
use Rattle.dr_base.specs.Reading.{GivesUnless}
use Rattle.dr_base.specs.declared.event.Event.{Event}
use Rattle.dr_schema.specs.declared.schema.Schema.{Schema}
use Rattle.dr_ask.specs.Asked.{Asked}
use Rattle.dr_load.specs.Load.{told_of, TellsRaw}
use Rattle.dr_load.specs.declared.failure.Failure.{Failure}

pub tells-raw : {Text : Type 0} (items : Text → List ℕ) (lacks : Failure → Bool) (own schema : Schema) (q : Asked) (es : List Event) (counts : ℕ × ℕ) (result : Result Text Failure) → own ≡ schema
    → GivesUnless lacks items result (told_of own q es counts) → IfOk result (λ text. TellsRaw schema q (items text))
tells-raw items lacks own schema q es counts (Err e) same told = tt
tells-raw items lacks own schema q es counts (Ok text) same told = (es, counts, subst (λ s. told_of s q es counts ≡ Ok (items text)) same told)
