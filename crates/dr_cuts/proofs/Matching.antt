-- To a matching query the rows over cuts are alike the raw events, each as a row of its own; so they have one answer.
use Rattle.std.proofs.Common.{◌≡◌, ◌∙◌, sym, refl, ap, ℤ, Bool, true, false, List, [], ◌∷◌, map, filter, cond, Option, Some, None, ◌||◌, ◌&&◌, not}
use Rattle.std.specs.List.{list_all, list_any, AllByRecursion}
use Rattle.dr_base.specs.declared.event.Event.{Event}
use Rattle.dr_base.specs.declared.row.Row.{Row}
use Rattle.dr_base.specs.declared.key.Key.{Key}
use Rattle.dr_agg.specs.declared.kind.Kind.{Kind}
use Rattle.dr_agg.specs.declared.kind.Kind.TheVariants.{Count, LongSum, LongMin, LongMax}
use Rattle.dr_agg.specs.Combination.{combine_of, unit_of}
use Rattle.dr_agg.specs.Rollup.{joined}
use Rattle.dr_agg.proofs.ColumnLaws.{combine_of-assoc, combine_of-comm}
use Rattle.dr_agg.proofs.KeyOrder.{same_key}
use Rattle.dr_agg.proofs.FoldLaws.{column-matched, zeros}
use Rattle.dr_schema.specs.declared.schema.Schema.{Schema}
use Rattle.dr_schema.specs.Columns.{kinds_of}
use Rattle.dr_rollup.specs.Unrolled.{unrolled}
use Rattle.dr_ask.specs.declared.aggregation.Aggregation.{Aggregation}
use Rattle.dr_ask.specs.declared.column.Column.{Column}
use Rattle.dr_ask.specs.Asked.{Asked, is_scan}
use Rattle.dr_ask.specs.MadeFor.{IsColumn, MadeFor}
use Rattle.dr_ask.specs.Matching.{matches_optional, matches_in, aggregation_matches, is_matching}
use Rattle.dr_answers.specs.Answer.{answer}
use Rattle.dr_answers.specs.Fold.{reading_in, value_at, folded, folds}
use Rattle.dr_answers.specs.Laws.{Alike}
use Rattle.dr_answers.proofs.AlikeRows.{answer-alike}
use Rattle.dr_cuts.specs.RawAnswer.{raw_answer}
use Rattle.dr_cuts.specs.State.{Cut, AreCuts}
use Rattle.dr_cuts.proofs.CutRows.{cut_rows, total-cut_rows}
use Rattle.dr_cuts.proofs.Totals.{Combines, total, Joins, fold-total, total-filter}

-- ---- tests of keys

or-assoc : (a b c : Bool) → ((a || b) || c) ≡ (a || (b || c))
or-assoc true b c = refl
or-assoc false b c = refl

or-comm : (a b : Bool) → (a || b) ≡ (b || a)
or-comm true true = refl
or-comm true false = refl
or-comm false true = refl
or-comm false false = refl

either : Combines (λ a b. a || b) false
either = record { assoc = or-assoc; comm = or-comm; unit = refl }

any-total : (p : Row → Bool) (rows : List Row) → list_any p rows ≡ total (λ a b. a || b) false p rows
any-total p [] = refl
any-total p (r ∷ rows) = ap (λ b. p r || b) (any-total p rows)

or-same : (a : Bool) → a ≡ (a || a)
or-same true = refl
or-same false = refl

-- rows of one key pass the same tests
Joins-test : (kinds : List Kind) (test : Key → Bool) → Joins (λ a b. a || b) kinds (λ r. test r.key)
Joins-test kinds test x r h = or-same (test x.key) ∙ ap (λ k. test x.key || test k) (sym (same_key r.key x.key h))

pub keys-cut_rows : (schema : Schema) (es : List Event) (cuts : List Cut) → AreCuts schema es cuts → (test : Key → Bool) → list_any (λ r. test r.key) (cut_rows schema es cuts) ≡ list_any (λ r. test r.key) (map (unrolled schema) es)
keys-cut_rows schema es cuts are test =
    any-total (λ r. test r.key) (cut_rows schema es cuts)
    ∙ total-cut_rows either (λ r. test r.key) schema (λ _. Joins-test (kinds_of schema) test) es cuts are
    ∙ sym (any-total (λ r. test r.key) (map (unrolled schema) es))

-- ---- folds over the rows that pass

units : (k : Kind) → combine_of k (unit_of k) (unit_of k) ≡ unit_of k
units Count = sym (zeros Count)
units LongSum = sym (zeros LongSum)
units LongMin = refl
units LongMax = refl

combination : (k : Kind) → Combines (combine_of k) (unit_of k)
combination k = record { assoc = combine_of-assoc k; comm = combine_of-comm k; unit = units k }

-- a column of joined rows is the combination of the two
value-joined : (kinds : List Kind) (kind : Kind) (c : Option Column) → IsColumn kinds c → matches_optional kind c ≡ true → (x r : Row) → value_at c (joined kinds x r) ≡ combine_of kind (value_at c x) (value_at c r)
value-joined kinds kind None at h x r = zeros kind
value-joined kinds kind (Some c) at h x r = column-matched kinds kind c.kind c.place at h x.metrics r.metrics

reading-joined : (kinds : List Kind) (kind : Kind) (c : Option Column) → IsColumn kinds c → matches_in kind c ≡ true → (x r : Row) → reading_in kind c (joined kinds x r) ≡ combine_of kind (reading_in kind c x) (reading_in kind c r)
reading-joined kinds Count c at h x r = cc
reading-joined kinds LongSum c at h x r = value-joined kinds LongSum c at h x r
reading-joined kinds LongMin c at h x r = value-joined kinds LongMin c at h x r
reading-joined kinds LongMax c at h x r = value-joined kinds LongMax c at h x r

abbrev reading : Aggregation → Row → ℤ
reading a r = reading_in a.kind a.column r

-- what a row adds to a fold over the rows whose keys pass a test
abbrev share : Aggregation → (Key → Bool) → Row → ℤ
share a test r = cond (test r.key) (reading a r) (unit_of a.kind)

Joins-share : (kinds : List Kind) (a : Aggregation) (test : Key → Bool) → IsColumn kinds a.column → aggregation_matches a ≡ true → Joins (combine_of a.kind) kinds (share a test)
Joins-share kinds a test at h x r same =
    let e : ℤ = unit_of a.kind in
    let op : ℤ → ℤ → ℤ = combine_of a.kind in
    elim (test x.key) as (λ b. cond b (reading a (joined kinds x r)) e ≡ op (cond b (reading a x) e) (cond b (reading a r) e)) [
      | true ↦ reading-joined kinds a.kind a.column at h x r
      | false ↦ sym (units a.kind)
    ]
    ∙ ap (λ k. op (share a test x) (cond (test k) (reading a r) e)) (sym (same_key r.key x.key same))

-- the fold over the rows that pass is a total of shares
folded-total : (a : Aggregation) (test : Key → Bool) (rows : List Row) → folded a (filter (λ r. test r.key) rows) ≡ total (combine_of a.kind) (unit_of a.kind) (share a test) rows
folded-total a test rows = fold-total (combination a.kind) (reading a) (filter (λ r. test r.key) rows) ∙ total-filter (combination a.kind) (reading a) (λ r. test r.key) rows

folded-cut_rows : (schema : Schema) (a : Aggregation) (test : Key → Bool) (es : List Event) (cuts : List Cut) → AreCuts schema es cuts → (schema.rollup ≡ true → IsColumn (kinds_of schema) a.column × (aggregation_matches a ≡ true))
    → folded a (filter (λ r. test r.key) (cut_rows schema es cuts)) ≡ folded a (filter (λ r. test r.key) (map (unrolled schema) es))
folded-cut_rows schema a test es cuts are h =
    folded-total a test (cut_rows schema es cuts)
    ∙ total-cut_rows (combination a.kind) (share a test) schema (λ on. let g = h on in Joins-share (kinds_of schema) a test g.0 g.1) es cuts are
    ∙ sym (folded-total a test (map (unrolled schema) es))

and-true : (a b : Bool) → (a && b) ≡ true → (a ≡ true) × (b ≡ true)
and-true true b h = (refl, h)
and-true false b h = cc

folds-cut_rows : (schema : Schema) (aggregations : List Aggregation) (test : Key → Bool) (es : List Event) (cuts : List Cut) → AreCuts schema es cuts
    → (schema.rollup ≡ true → AllByRecursion (λ a. IsColumn (kinds_of schema) a.column) aggregations × (list_all aggregation_matches aggregations ≡ true))
    → folds aggregations (filter (λ r. test r.key) (cut_rows schema es cuts)) ≡ folds aggregations (filter (λ r. test r.key) (map (unrolled schema) es))
folds-cut_rows schema [] test es cuts are h = refl
folds-cut_rows schema (a ∷ more) test es cuts are h =
    let first = folded-cut_rows schema a test es cuts are (λ on. let g = h on in (g.0.0, (and-true (aggregation_matches a) (list_all aggregation_matches more) g.1).0)) in
    let others = folds-cut_rows schema more test es cuts are (λ on. let g = h on in (g.0.1, (and-true (aggregation_matches a) (list_all aggregation_matches more) g.1).1)) in
    λ i. first i ∷ others i

matching-all : (q : Asked) (b : Bool) → q.rollup ≡ b → is_matching q ≡ true → b ≡ true → list_all aggregation_matches q.aggregations ≡ true
matching-all q b is h on =
    let matches : (not q.rollup || list_all aggregation_matches q.aggregations) ≡ true = (and-true (not (is_scan q.shape)) (not q.rollup || list_all aggregation_matches q.aggregations) h).1 in
    let e : (not true || list_all aggregation_matches q.aggregations) ≡ true = ap (λ c. not c || list_all aggregation_matches q.aggregations) (sym (is ∙ on)) ∙ matches in e

-- ---- so they are alike

Alike-cut_rows : (schema : Schema) (q : Asked) (es : List Event) (cuts : List Cut) → AreCuts schema es cuts → MadeFor schema q → is_matching q ≡ true → Alike q (cut_rows schema es cuts) (map (unrolled schema) es)
Alike-cut_rows schema q es cuts are made h = record {
  keys = keys-cut_rows schema es cuts are;
  values = λ test. folds-cut_rows schema q.aggregations test es cuts are (λ on. (made.columns, matching-all q schema.rollup made.rollup h on));
}

-- for a matching query, the answer over the rows of cuts is that over the raw events
pub answer-cut_rows : (schema : Schema) (q : Asked) (es : List Event) (cuts : List Cut) → AreCuts schema es cuts → MadeFor schema q → is_matching q ≡ true → answer q (cut_rows schema es cuts) ≡ raw_answer schema q es
answer-cut_rows schema q es cuts are made h = answer-alike q (cut_rows schema es cuts) (map (unrolled schema) es) (Alike-cut_rows schema q es cuts are made h)
