-- The laws over the definitions of an answer alone: what of the rows it depends on, that their order doesn't show, and that what
-- is asked twice may be asked once.
use Rattle.std.specs.Prelude.{◌≡◌, ℤ, Bool, List, filter, map}
use Rattle.std.specs.List.{list_any}
use Rattle.std.specs.List.Sorted.{IsPermutation}
use Rattle.dr_base.specs.declared.key.Key.{Key}
use Rattle.dr_base.specs.declared.row.Row.{Row}
use Rattle.dr_ask.specs.Asked.{Asked}
use Rattle.dr_ask.specs.Once.{once}
use Rattle.dr_answers.specs.Answer.{answer}
use Rattle.dr_answers.specs.Fold.{folds}
use Rattle.dr_answers.specs.Groups.{groups}
use Rattle.dr_answers.specs.Spread.{spread}

-- a query's folds over the rows whose keys pass a test
abbrev pub folds_at : Asked → (Key → Bool) → List Row → List ℤ
folds_at q test rows = folds q.aggregations (filter (λ r. test r.key) rows)

-- whatever the test of keys, a row of one list passes where one of the other does, and the query's folds over the rows that pass
-- are the same
pub record Alike (q : Asked) (a b : List Row) : Type 0 where
  pub keys : (test : Key → Bool) → list_any (λ r. test r.key) a ≡ list_any (λ r. test r.key) b
  pub values : (test : Key → Bool) → folds_at q test a ≡ folds_at q test b

-- an answer depends on nothing else
abbrev pub AnswersOfAlikeRows : Type 0
AnswersOfAlikeRows = (q : Asked) (a b : List Row) → Alike q a b → answer q a ≡ answer q b

-- nor does it depend on the order of the rows
abbrev pub AnswersOfRearrangedRows : Type 0
AnswersOfRearrangedRows = (q : Asked) (a b : List Row) → IsPermutation a b → answer q a ≡ answer q b

-- a query may name a dimension or an aggregation more than once: its groups are those of the query that asks each once
abbrev pub GroupsOfOnce : Type 0
GroupsOfOnce = (q : Asked) (rows : List Row) → groups q rows ≡ map (spread q) (groups (once q) rows)
