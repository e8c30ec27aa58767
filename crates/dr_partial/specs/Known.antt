-- The groups of an image's rows that were found before. No public contract cites this file.
use Rattle.std.specs.Prelude.{ℕ, ℤ, List, [], ◌∷◌, map}
use Rattle.std.specs.List.{AllByRecursion}
use Rattle.dr_base.specs.declared.key.Key.{Key}
use Rattle.dr_base.specs.declared.row.Row.{Row}
use Rattle.dr_agg.specs.Combination.{fold_of}
use Rattle.dr_columns.specs.declared.reading.Reading.{Reading}
use Rattle.dr_columns.specs.Read.{read_at}
use Rattle.dr_image.specs.Table.{Table}
use Rattle.dr_columns.specs.Rows.{key_at}
use Rattle.dr_rollup.specs.Entries.{HasKeyAt}
use Rattle.dr_ask.specs.Asked.{Asked, dimensions_by}
use Rattle.dr_answers.specs.Groups.{grouped_values}
use Rattle.dr_partial.specs.declared.known.Known.{Known}

-- the group of a row in the bucket that starts there
abbrev pub group_in : Asked → Table → ℤ → ℕ → Key
group_in q t bucket i = record { time = bucket; dims = grouped_values (dimensions_by q.shape) (key_at t i).dims }

-- each stands at its place
abbrev pub AreKnown : Asked → Table → List Row → List Known → Type 0
AreKnown q t groups known = AllByRecursion (λ k. HasKeyAt (group_in q t k.bucket k.row) groups k.place) known

-- what is the key at a place stays so
abbrev pub KeepsKeys : List Row → List Row → Type 0
KeepsKeys before after = (k : Key) (place : ℕ) → HasKeyAt k before place → HasKeyAt k after place

-- what is read of a row by each aggregation, alone
abbrev pub folds_read : List Reading → ℕ → List ℤ
folds_read readings i = map (λ r. fold_of r.kind (read_at r i ∷ [])) readings
