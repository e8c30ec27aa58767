-- The rollup of rows that an image may have is such that there is an image of it.
use Rattle.std.proofs.Common.{◌≡◌, ◌∙◌, refl, ap, ℕ, suc, ℤ, ◌+◌, ◌-◌, ◌^◌, ◌<◌, ◌≤◌, ◌&&◌, Bool, true, false, true≢false, List, [], ◌∷◌, length, drop, FitsSigned, arith, sym}
use Rattle.std.specs.Prelude.{if◌then◌else◌}
use Rattle.std.specs.Int.{w64}
use Rattle.std.specs.List.{AllByRecursion}
use Rattle.std.specs.Ordering.{is_lt, is_le, match_ordering}
use Rattle.std.specs.declared.cmp.Ordering.TheVariants.{Less, Equal, Greater}
use Rattle.std.proofs.lemmas.Int.{SFits-int_wrap, ints, clamps}
use Rattle.std.proofs.lemmas.List.{length-map}
use Rattle.std.proofs.lemmas.List.Elements.{All-from_recursion, recursion_from_All}
use Rattle.dr_base.specs.declared.row.Row.{Row}
use Rattle.dr_base.specs.Order.{key_cmp}
use Rattle.dr_time.specs.Instant.{IsInstant}
use Rattle.dr_agg.specs.declared.kind.Kind.{Kind}
use Rattle.dr_agg.specs.declared.kind.Kind.TheVariants.{Count, LongSum, LongMin, LongMax}
use Rattle.dr_agg.specs.Combination.{combine_of, combine_columns, column}
use Rattle.dr_agg.specs.Rollup.{joined, add_row, rollup_onto, rollup, IsInOrder, IsRising}
use Rattle.dr_agg.proofs.KeyOrder.{greater_back}
use Rattle.dr_agg.proofs.ColumnLaws.{length-combine_columns}
use Rattle.dr_agg.proofs.RollupLaws.{IsRollup-rollup, IsRising-rollup}
use Rattle.dr_schema.specs.declared.schema.Schema.{Schema}
use Rattle.dr_schema.specs.declared.metric.Metric.{Metric}
use Rattle.dr_schema.specs.Columns.{kinds_of}
use Rattle.dr_image.specs.Sealed.{Sealed, HasImage, IsRowOf, each_next, may_follow}
use Rattle.dr_segment.specs.Encoding.{sealed}

-- ---- what holds of each row stays so

all-add_row : (combines : Bool) (kinds : List Kind) (P : Row → Type 0) → ((x r : Row) → P x → P r → P (joined kinds x r)) → (rows : List Row) (r : Row) → AllByRecursion P rows → P r → AllByRecursion P (add_row combines kinds rows r)
unfolding add_row
all-add_row combines kinds P joins [] r all one = (one, tt)
all-add_row combines kinds P joins (x ∷ xs) r all one =
    let more = all-add_row combines kinds P joins xs r all.1 one in
    elim (key_cmp r.key x.key) as (λ o. AllByRecursion P (match_ordering o (r ∷ x ∷ xs) (if combines then joined kinds x r ∷ xs else (x ∷ add_row combines kinds xs r)) (x ∷ add_row combines kinds xs r))) [
      | Less ↦ (one, all)
      | Equal ↦ elim combines as (λ b. AllByRecursion P (if b then joined kinds x r ∷ xs else (x ∷ add_row combines kinds xs r))) [ true ↦ (joins x r all.0 one, all.1) | false ↦ (all.0, more) ]
      | Greater ↦ (all.0, more)
    ]

all-rollup_onto : (combines : Bool) (kinds : List Kind) (P : Row → Type 0) → ((x r : Row) → P x → P r → P (joined kinds x r)) → (rows es : List Row) → AllByRecursion P rows → AllByRecursion P es → AllByRecursion P (rollup_onto combines kinds rows es)
unfolding rollup_onto
all-rollup_onto combines kinds P joins rows [] all each = all
all-rollup_onto combines kinds P joins rows (e ∷ es) all each = all-rollup_onto combines kinds P joins (add_row combines kinds rows e) es (all-add_row combines kinds P joins rows e all each.0) each.1

-- ---- how many rows there are

abbrev pub Counts : Bool → ℕ → List Row → Type 0
Counts combines n rows = (length rows ≤ n) × (1 ≤ n → 1 ≤ length rows) × (combines ≡ false → length rows ≡ n)

counts-add_row : (combines : Bool) (kinds : List Kind) (rows : List Row) (r : Row) → Counts combines (suc (length rows)) (add_row combines kinds rows r)
unfolding add_row
counts-add_row combines kinds [] r = (omega arith, λ some. omega arith, λ apart. omega arith)
counts-add_row combines kinds (x ∷ xs) r =
    let more = counts-add_row combines kinds xs r in
    let behind : Counts combines (suc (suc (length xs))) (x ∷ add_row combines kinds xs r) = (omega (arith, more.0), λ some. omega arith, λ apart. omega (arith, more.2 apart)) in
    elim (key_cmp r.key x.key) as (λ o. Counts combines (suc (suc (length xs))) (match_ordering o (r ∷ x ∷ xs) (if combines then joined kinds x r ∷ xs else (x ∷ add_row combines kinds xs r)) (x ∷ add_row combines kinds xs r))) [
      | Less ↦ (omega arith, λ some. omega arith, λ apart. omega arith)
      | Equal ↦ elim combines as (λ b. combines ≡ b → Counts combines (suc (suc (length xs))) (if b then joined kinds x r ∷ xs else (x ∷ add_row combines kinds xs r)))
          [ true ↦ λ e. (omega arith, λ some. omega arith, λ apart. absurd (true≢false (sym e ∙ apart))) | false ↦ λ e. behind ] refl
      | Greater ↦ behind
    ]

counts-rollup_onto : (combines : Bool) (kinds : List Kind) (rows es : List Row) → Counts combines (length rows + length es) (rollup_onto combines kinds rows es)
unfolding rollup_onto
counts-rollup_onto combines kinds rows [] = (omega arith, λ some. omega arith, λ apart. omega arith)
counts-rollup_onto combines kinds rows (e ∷ es) =
    let one = counts-add_row combines kinds rows e in
    let more = counts-rollup_onto combines kinds (add_row combines kinds rows e) es in
    let some : 1 ≤ length (add_row combines kinds rows e) = one.1 (omega arith) in
    (omega (arith, one.0, more.0), λ h. more.1 (omega (arith, some)), λ apart. omega (arith, one.2 apart, more.2 apart))

-- ---- the order

next_rising : (rows : List Row) → IsRising rows → each_next (may_follow true) rows ≡ true
unfolding each_next
next_rising [] up = refl
next_rising (x ∷ []) up = refl
next_rising (x ∷ y ∷ ys) up = ap (λ o. is_lt o && each_next (may_follow true) (y ∷ ys)) up.0.0 ∙ next_rising (y ∷ ys) up.1

may_stand : (x y : Row) → is_lt (key_cmp y.key x.key) ≡ false → is_le (key_cmp x.key y.key) ≡ true
may_stand x y h =
    elim (key_cmp x.key y.key) as (λ o. key_cmp x.key y.key ≡ o → is_le o ≡ true)
    [ Less ↦ λ t. refl | Equal ↦ λ t. refl | Greater ↦ λ t. absurd (true≢false (sym (ap is_lt (greater_back x.key y.key t)) ∙ h)) ] refl

next_ordered : (rows : List Row) → IsInOrder rows → each_next (may_follow false) rows ≡ true
unfolding each_next
next_ordered [] up = refl
next_ordered (x ∷ []) up = refl
next_ordered (x ∷ y ∷ ys) up = ap (λ b. b && each_next (may_follow false) (y ∷ ys)) (may_stand x y up.0.0) ∙ next_ordered (y ∷ ys) up.1

next-rollup : (combines : Bool) (kinds : List Kind) (es : List Row) → each_next (may_follow combines) (rollup combines kinds es) ≡ true
next-rollup true kinds es = next_rising (rollup true kinds es) (IsRising-rollup kinds es)
next-rollup false kinds es = next_ordered (rollup false kinds es) (IsRollup-rollup false kinds es).ordered

-- ---- the values

combine_of-fits : (k : Kind) (a b : ℤ) → FitsSigned w64 a → FitsSigned w64 b → FitsSigned w64 (combine_of k a b)
combine_of-fits Count a b fa fb = SFits-int_wrap w64 _
combine_of-fits LongSum a b fa fb = SFits-int_wrap w64 _
combine_of-fits LongMin a b fa fb = omega (arith, ints, clamps)
combine_of-fits LongMax a b fa fb = omega (arith, ints, clamps)

column-fits : (xs : List ℤ) → AllByRecursion (FitsSigned w64) xs → FitsSigned w64 (column 0 xs)
column-fits [] all = omega (arith, ints)
column-fits (x ∷ xs) all = all.0

rest-fits : (xs : List ℤ) → AllByRecursion (FitsSigned w64) xs → AllByRecursion (FitsSigned w64) (drop 1 xs)
rest-fits [] all = tt
rest-fits (x ∷ xs) all = all.1

combine_columns-fits : (ks : List Kind) (xs ys : List ℤ) → AllByRecursion (FitsSigned w64) xs → AllByRecursion (FitsSigned w64) ys → AllByRecursion (FitsSigned w64) (combine_columns ks xs ys)
combine_columns-fits [] xs ys fx fy = tt
combine_columns-fits (k ∷ ks) xs ys fx fy =
    (combine_of-fits k (column 0 xs) (column 0 ys) (column-fits xs fx) (column-fits ys fy), combine_columns-fits ks (drop 1 xs) (drop 1 ys) (rest-fits xs fx) (rest-fits ys fy))

-- ---- a row of a schema in a chunk

-- whatever the range and its rows
abbrev pub frame : Schema → ℤ → Sealed
frame schema k = sealed schema k 0 0 []

pub in_frame : (schema : Schema) (k : ℤ) (from to : ℕ) (rows : List Row) (r : Row) → IsRowOf (sealed schema k from to rows) r → IsRowOf (frame schema k) r
in_frame schema k from to rows r p = record { dims = p.dims; texts = p.texts; metrics = p.metrics; in_range = p.in_range; time = p.time; in_chunk = p.in_chunk }

of_frame : (schema : Schema) (k : ℤ) (from to : ℕ) (rows : List Row) (r : Row) → IsRowOf (frame schema k) r → IsRowOf (sealed schema k from to rows) r
of_frame schema k from to rows r p = record { dims = p.dims; texts = p.texts; metrics = p.metrics; in_range = p.in_range; time = p.time; in_chunk = p.in_chunk }

pub all_in : {A : Type 0} (P Q : A → Type 0) → ((x : A) → P x → Q x) → (xs : List A) → AllByRecursion P xs → AllByRecursion Q xs
all_in P Q f [] all = tt
all_in P Q f (x ∷ xs) all = (f x all.0, all_in P Q f xs all.1)

joins_in_frame : (schema : Schema) (k : ℤ) (x r : Row) → IsRowOf (frame schema k) x → IsRowOf (frame schema k) r → IsRowOf (frame schema k) (joined (kinds_of schema) x r)
joins_in_frame schema k x r p q = record {
  dims = p.dims;
  texts = p.texts;
  metrics = length-combine_columns (kinds_of schema) x.metrics r.metrics ∙ length-map schema.metrics (λ (m : Metric). m.kind);
  in_range = All-from_recursion (FitsSigned w64) (combine_columns (kinds_of schema) x.metrics r.metrics)
      (combine_columns-fits (kinds_of schema) x.metrics r.metrics (recursion_from_All (FitsSigned w64) x.metrics p.in_range) (recursion_from_All (FitsSigned w64) r.metrics q.in_range));
  time = p.time;
  in_chunk = p.in_chunk;
}

-- what a sealed range of a schema needs besides its rows
pub record IsFramed (schema : Schema) (k : ℤ) (from to : ℕ) : Type 0 where
  pub some_dimension : 1 ≤ length schema.dimensions
  pub few_dimensions : length schema.dimensions ≤ 64
  pub few_metrics : length schema.metrics ≤ 64
  pub chunk : IsInstant k
  pub from_fits : from < 2 ^ 64
  pub to_fits : to < 2 ^ 64

-- the rollup of rows has an image where the rows are of the schema and the chunk, and as many as the range can have
pub rollup_has_image : (schema : Schema) (k : ℤ) (from to : ℕ) (es : List Row) → IsFramed schema k from to → 1 ≤ length es → length es ≤ to - from → (schema.rollup ≡ false → length es ≡ to - from)
    → AllByRecursion (IsRowOf (frame schema k)) es → HasImage (sealed schema k from to (rollup schema.rollup (kinds_of schema) es))
rollup_has_image schema k from to es framed some few each all =
    let rows : List Row = rollup schema.rollup (kinds_of schema) es in
    let counts = counts-rollup_onto schema.rollup (kinds_of schema) [] es in
    let kept = all-rollup_onto schema.rollup (kinds_of schema) (IsRowOf (frame schema k)) (joins_in_frame schema k) [] es tt all in record {
      some_dimension = framed.some_dimension;
      few_dimensions = framed.few_dimensions;
      few_metrics = framed.few_metrics;
      chunk = framed.chunk;
      from_fits = framed.from_fits;
      to_fits = framed.to_fits;
      some_row = counts.1 (omega (arith, some));
      few_rows = omega (arith, counts.0, few);
      each_event = λ apart. omega (arith, counts.2 apart, each apart);
      rows = All-from_recursion (IsRowOf (sealed schema k from to rows)) rows (all_in (IsRowOf (frame schema k)) (IsRowOf (sealed schema k from to rows)) (of_frame schema k from to rows) rows kept);
      order = next-rollup schema.rollup (kinds_of schema) es;
    }
