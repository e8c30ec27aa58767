-- The times of the groups that a query gives can be printed.
use Rattle.std.proofs.Common.{◌≡◌, refl, ℤ, List, [], ◌∷◌, map, drop, filter, reverse, length, Bool, true, false, Option, Some, None, Ok, Err, inl, arith, subst, suc}
use Rattle.std.specs.Prelude.{ℕ, IfSome, nat_lt, if◌then◌else◌}
use Rattle.std.specs.Int.{int_min}
use Rattle.std.specs.List.{fold, All, AllByRecursion}
use Rattle.std.proofs.lemmas.Int.{ints, by_lt_z}
use Rattle.std.proofs.lemmas.List.Elements.{All-from_recursion, recursion_from_All, All-nil, All-map, All-weaker, All-take, All-drop, All-filter}
use Rattle.std.proofs.lemmas.List.Sorted.{All-permutation, IsPermutation-reverse}
use Rattle.dr_base.specs.declared.row.Row.{Row}
use Rattle.dr_time.specs.declared.interval.Interval.{Interval}
use Rattle.dr_time.specs.Printed.{IsPrintable}
use Rattle.dr_time.specs.Instant.{IsInstant}
use Rattle.dr_time.specs.Interval.{is_empty, first_time}
use Rattle.dr_time.specs.Union.{earlier, union_start}
use Rattle.dr_gran.specs.declared.gran.Gran.{Gran}
use Rattle.dr_gran.specs.Step.{is_all}
use Rattle.dr_gran.specs.Truncation.{truncation}
use Rattle.dr_gran.specs.Buckets.{IsFilled}
use Rattle.dr_gran.proofs.BucketsLemmas.{buckets_of-first}
use Rattle.dr_gran.proofs.TruncationLemmas.{truncation_bounds}
use Rattle.dr_intervals.specs.Printable.{StartsPrintable}
use Rattle.dr_ask.specs.Asked.{Asked, AskedShape, timeseries, group_by, scan}
use Rattle.dr_ask.specs.Once.{once}
use Rattle.dr_answers.specs.declared.result_row.ResultRow.{ResultRow}
use Rattle.dr_answers.specs.declared.answer_error.AnswerError.TheVariants.{ResultTooLarge}
use Rattle.dr_answers.specs.Groups.{filled_in, max_groups}
use Rattle.dr_answers.specs.Spread.{spread}
use Rattle.dr_answers.specs.Given.{given_by, limited, in_order, is_kept, result_cmp}
use Rattle.dr_partial.specs.Partial.{result_row, filled_row, groups_by, groups_from}
use Rattle.dr_finish.specs.Finished.{finished}
use Rattle.dr_answers.proofs.StableOrder.{all-in_order}
use Rattle.dr_finish.proofs.ResultOrder.{result_total}

-- ---- the starts of buckets

-- a time that may be missing can be printed
abbrev IsPrintableTime : Option ℤ → Type 0
IsPrintableTime None = Unit {0}
IsPrintableTime (Some t) = IsPrintable t

printable-earlier : (a b : Option ℤ) → IsPrintableTime a → IsPrintableTime b → IsPrintableTime (earlier a b)
printable-earlier None b p q = q
printable-earlier (Some a) None p q = p
printable-earlier (Some a) (Some b) p q =
    by_lt_z b a
    (λ lt. let least : int_min a b ≡ b = grind (arith, ints) in rw least q)
    (λ le. let least : int_min a b ≡ a = grind (arith, ints) in rw least p)

printable-start : (i : Interval) (e : Bool) → is_empty i ≡ e → StartsPrintable i → IsPrintableTime (first_time i)
printable-start i true h p = rw h tt
printable-start i false h p = rw h p

printable-fold : (a : Option ℤ) (intervals : List Interval) → IsPrintableTime a → AllByRecursion StartsPrintable intervals → IsPrintableTime (fold earlier a (map first_time intervals))
printable-fold a [] p all = p
printable-fold a (i ∷ more) p all = printable-fold (earlier a (first_time i)) more (printable-earlier a (first_time i) p (printable-start i (is_empty i) refl all.0)) all.1

printable-union_start : (intervals : List Interval) → All StartsPrintable intervals → IsPrintableTime (union_start intervals)
printable-union_start intervals all = printable-fold None intervals tt (recursion_from_All StartsPrintable intervals all)

printable-truncation : (g : Gran) (t b : ℤ) → IsInstant t → b ≡ truncation g t → IsPrintable b
printable-truncation g t b instant is =
    let bounds = truncation_bounds g t b instant is in
    inl (bounds.0, omega (arith, ints, bounds.1, instant.1))

printable-at : (g : Gran) (us : List Interval) (t b : ℤ) (all : Bool) → IsInstant t → All StartsPrintable us → (if all then union_start us else Some (truncation g t)) ≡ Some b → IsPrintable b
printable-at g us t b true instant starts is = subst IsPrintableTime is (printable-union_start us starts)
printable-at g us t b false instant starts is = let same : b ≡ truncation g t = cc in printable-truncation g t b instant same

printable-filled : (g : Gran) (us : List Interval) (from to : ℤ) → IsInstant from → IsInstant to → All StartsPrintable us → (b : ℤ) → IsFilled g us from to b → IsPrintable b
printable-filled g us from to low high starts b f =
    let instant : IsInstant f.time = (omega (arith, ints, low.0, f.not_before), omega (arith, ints, high.1, f.not_after)) in
    printable-at g us f.time b (is_all g) instant starts f.bucket_is

printable-filled_in : (q : Asked) (span : Option (ℤ × ℤ)) → IfSome span (λ s. IsInstant s.0 × IsInstant s.1) → All StartsPrintable q.intervals → All IsPrintable (filled_in q span)
printable-filled_in q None instants starts = All-nil IsPrintable
printable-filled_in q (Some span) instants starts =
    let first = buckets_of-first (suc max_groups) q.granularity q.intervals span.0 span.1 instants.0.0 in
    All-weaker (IsFilled q.granularity q.intervals span.0 span.1) IsPrintable (printable-filled q.granularity q.intervals span.0 span.1 instants.0 instants.1 starts)
    (filled_in q (Some span)) (All-from_recursion (IsFilled q.granularity q.intervals span.0 span.1) (filled_in q (Some span)) first.each)

-- ---- the groups of a query

abbrev HasTime : ResultRow → Type 0
HasTime g = IsPrintable g.time

printable-groups_by : (shape : AskedShape) (q : Asked) (span : Option (ℤ × ℤ)) (partial : List Row) → IfSome span (λ s. IsInstant s.0 × IsInstant s.1) → All StartsPrintable q.intervals
    → AllByRecursion (λ g. IsPrintable g.key.time) partial → All HasTime (groups_by shape q span partial)
printable-groups_by (timeseries t) q span partial instants starts rows =
    elim t.skips_empty_buckets as (λ b. All HasTime (if b then map result_row partial else map (filled_row q partial) (filled_in q span))) [
      | true ↦ All-map HasTime result_row partial (All-from_recursion (λ g. IsPrintable g.key.time) partial rows)
      | false ↦ All-map HasTime (filled_row q partial) (filled_in q span) (printable-filled_in q span instants starts)
    ]
printable-groups_by (group_by g) q span partial instants starts rows = All-map HasTime result_row partial (All-from_recursion (λ g. IsPrintable g.key.time) partial rows)
printable-groups_by (scan s) q span partial instants starts rows = All-from_recursion HasTime [] tt

-- ---- those that it gives

all-limited : (P : ResultRow → Type 0) (limit : Option ℕ) (gs : List ResultRow) → All P gs → All P (limited limit gs)
all-limited P None gs all = all
all-limited P (Some limit) gs all = All-take P limit gs all

all-directed : (P : ResultRow → Type 0) (descending : Bool) (gs : List ResultRow) → All P gs → All P (if descending then reverse gs else gs)
all-directed P true gs all = All-permutation P gs (reverse gs) (IsPermutation-reverse gs) all
all-directed P false gs all = all

all-given_by : (P : ResultRow → Type 0) (shape : AskedShape) (gs : List ResultRow) → All P gs → All P (given_by shape gs)
all-given_by P (timeseries t) gs all = all-limited P t.limit (if t.descending then reverse gs else gs) (all-directed P t.descending gs all)
all-given_by P (group_by g) gs all =
    let kept = filter (is_kept g.having) gs in
    let ordered = in_order g.limit_spec.columns kept in
    all-limited P g.limit_spec.limit (drop g.limit_spec.offset ordered)
    (All-drop P g.limit_spec.offset ordered
    (All-from_recursion P ordered (all-in_order (result_cmp g.limit_spec.columns) (result_total g.limit_spec.columns) P kept (recursion_from_All P kept (All-filter (is_kept g.having) P gs all)))))
all-given_by P (scan s) gs all = All-from_recursion P [] tt

given-is : (few : Bool) (xs ys : List ResultRow) → (if few then Err ResultTooLarge else Ok xs) ≡ Ok ys → xs ≡ ys
given-is true xs ys e = cc
given-is false xs ys e = cc

-- the groups that a query gives
pub printable-given : (q : Asked) (span : Option (ℤ × ℤ)) (partial : List Row) (given : List ResultRow) → IfSome span (λ s. IsInstant s.0 × IsInstant s.1) → All StartsPrintable q.intervals
    → AllByRecursion (λ g. IsPrintable g.key.time) partial → finished q span partial ≡ Ok given → AllByRecursion (λ g. IsPrintable g.time) given
printable-given q span partial given instants starts rows is =
    let groups = map (spread q) (groups_from (once q) span partial) in
    let same : given_by q.shape groups ≡ given = given-is (nat_lt max_groups (length groups)) (given_by q.shape groups) given is in
    let all : All HasTime groups = All-map HasTime (spread q) (groups_from (once q) span partial) (printable-groups_by (once q).shape (once q) span partial instants starts rows) in
    recursion_from_All HasTime given (subst (All HasTime) same (all-given_by HasTime q.shape groups all))
