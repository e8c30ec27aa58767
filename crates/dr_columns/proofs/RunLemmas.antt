-- Runs of rows.
use Rattle.std.proofs.Common.{◌≡◌, ◌∙◌, sym, refl, ap, subst, ℕ, zero, suc, ◌+◌, ◌-◌, ◌<◌, ◌≤◌, ℤ, pos, ◌≤ℤ◌, ◌<ℤ◌, int_le, int_lt, Bool, true, false, true≢false, ◌&&◌, if◌then◌else◌, None, Some, unwrap_or, List, [], ◌∷◌, ◌++◌, map, length, get_or, take, drop, arith}
use Rattle.std.specs.List.{All, range_with_len, fold}
use Rattle.std.proofs.lemmas.Int.{ints, by_lt_z}
use Rattle.std.proofs.lemmas.List.{drop_more, drop_all, take-map, drop-map, length-map}
use Rattle.std.proofs.lemmas.List.Elements.{All-get_or}
use Rattle.std.proofs.lemmas.List.FromFn.{map-range_with_len_more, length-map-range_with_len, get_or-map-range_with_len}
use Rattle.jiff_core.proofs.SignedLemmas.{signed_arith}
use Rattle.dr_base.specs.declared.row.Row.{Row}
use Rattle.dr_time.specs.declared.interval.Interval.{Interval}
use Rattle.dr_time.specs.Instant.{IsInstant, first_instant}
use Rattle.dr_time.specs.Union.{union_holds, union_start, union_first_from}
use Rattle.dr_time.specs.Laws.{IsFirstTime}
use Rattle.dr_time.proofs.UnionLemmas.{union_first_from-first}
use Rattle.dr_gran.specs.declared.gran.Gran.{Gran}
use Rattle.dr_gran.specs.Step.{is_all}
use Rattle.dr_gran.specs.Truncation.{truncation, next}
use Rattle.dr_gran.proofs.TruncationLemmas.{IsTruncation-truncation, IsNext-next}
use Rattle.dr_agg.specs.declared.kind.Kind.{Kind}
use Rattle.dr_agg.specs.Combination.{combine_of}
use Rattle.dr_ask.specs.Asked.{Asked}
use Rattle.dr_answers.specs.Groups.{bucket}
use Rattle.dr_image.specs.Words.{long}
use Rattle.dr_image.specs.Table.{Table, row_at, rows_of}
use Rattle.dr_image.specs.Sealed.{IsRowOf}
use Rattle.dr_image.specs.Laws.{sealed_by, IsImageOf}
use Rattle.dr_columns.specs.Rows.{key_at, rows_between}
use Rattle.dr_columns.proofs.ValueLemmas.{key-time}

-- a run of numbers, one by one
pub run : (xs : List ℤ) (from n : ℕ) → from + n ≤ length xs → take n (drop from xs) ≡ map (λ i. get_or xs i (pos 0)) (range_with_len from n)
run xs from zero le = refl
run xs from (suc n) le =
    ap (take (suc n)) (drop_more xs from (pos 0) (omega (arith, le)))
    ∙ ap (λ l. get_or xs from (pos 0) ∷ l) (run xs (from + 1) n (omega (arith, le)))

-- cells as they lie in an image, seen one by one
pub cells-run : (cells : List (List ℕ)) (from to : ℕ) → from ≤ to → to ≤ length cells → map long (take (to - from) (drop from cells)) ≡ map (λ i. get_or (map long cells) i (pos 0)) (range_with_len from (to - from))
cells-run cells from to le within =
    sym (take-map long (to - from) (drop from cells)) ∙ ap (take (to - from)) (sym (drop-map long from cells))
    ∙ run (map long cells) from (to - from) (omega (arith, le, within, length-map cells long))

-- rows with one more
pub one-more : (t : Table) (from to : ℕ) → from ≤ to → rows_between t from (to + 1) ≡ rows_between t from to ++ row_at t to ∷ []
one-more t from to le =
    let n : to + 1 - from ≡ (to - from) + 1 = omega (arith, le) in
    ap (λ k. map (row_at t) (range_with_len from k)) n ∙ map-range_with_len_more (row_at t) from (to - from) to (omega (arith, le))

-- no row
pub none : (t : Table) (from : ℕ) → rows_between t from from ≡ []
none t from = let z : from - from ≡ 0 = omega arith in ap (λ k. map (row_at t) (range_with_len from k)) z

-- two runs, one behind the other
counted : (f : ℕ → Row) (a m n b : ℕ) → a + m ≡ b → map f (range_with_len a m) ++ map f (range_with_len b n) ≡ map f (range_with_len a (m + n))
counted f a zero n b e = let same : b ≡ a = omega (arith, e) in let z : n ≡ 0 + n = omega arith in ap (λ k. map f (range_with_len k n)) same ∙ ap (λ m. map f (range_with_len a m)) z
counted f a (suc m) n b e = let s : suc (m + n) ≡ suc m + n = omega arith in ap (λ l. f a ∷ l) (counted f (a + 1) m n b (omega (arith, e))) ∙ ap (λ k. map f (range_with_len a k)) s

pub joined : (t : Table) (from mid to : ℕ) → from ≤ mid → mid ≤ to → rows_between t from mid ++ rows_between t mid to ≡ rows_between t from to
joined t from mid to le le' =
    let n : (mid - from) + (to - mid) ≡ to - from = omega (arith, le, le') in
    counted (row_at t) from (mid - from) (to - mid) mid (omega (arith, le)) ∙ ap (λ k. map (row_at t) (range_with_len from k)) n

-- ---- combined one by one

pub fold-more : (k : Kind) (read : ℕ → ℤ) (folded v : ℤ) (i to : ℕ) (all : ℤ) → i < to → v ≡ combine_of k folded (read i)
    → fold (combine_of k) folded (map read (range_with_len i (to - i))) ≡ all → fold (combine_of k) v (map read (range_with_len (i + 1) (to - (i + 1)))) ≡ all
fold-more k read folded v i to all lt is h =
    let n : suc (to - (i + 1)) ≡ to - i = omega (arith, lt) in
    ap (λ x. fold (combine_of k) x (map read (range_with_len (i + 1) (to - (i + 1))))) is
    ∙ ap (λ m. fold (combine_of k) folded (map read (range_with_len i m))) n ∙ h

pub fold-all : (k : Kind) (read : ℕ → ℤ) (folded : ℤ) (i to : ℕ) (all : ℤ) → to ≤ i
    → fold (combine_of k) folded (map read (range_with_len i (to - i))) ≡ all → folded ≡ all
fold-all k read folded i to all le h =
    let n : to - i ≡ 0 = omega (arith, le) in
    sym (ap (λ m. fold (combine_of k) folded (map read (range_with_len i m))) n) ∙ h

pub cells-more : (k : Kind) (cells : List (List ℕ)) (folded v all : ℤ) (i : ℕ) → i < length cells → v ≡ combine_of k folded (long (get_or cells i []))
    → fold (combine_of k) folded (map long (drop i cells)) ≡ all → fold (combine_of k) v (map long (drop (i + 1) cells)) ≡ all
cells-more k cells folded v all i lt next h =
    ap (λ x. fold (combine_of k) x (map long (drop (i + 1) cells))) next
    ∙ ap (λ l. fold (combine_of k) folded (map long l)) (sym (drop_more cells i [] lt)) ∙ h

pub cells-all : (k : Kind) (cells : List (List ℕ)) (folded all : ℤ) (i : ℕ) → length cells ≤ i
    → fold (combine_of k) folded (map long (drop i cells)) ≡ all → folded ≡ all
cells-all k cells folded all i le h = sym (ap (λ l. fold (combine_of k) folded (map long l)) (drop_all i cells le)) ∙ h

-- ---- times

pub instant-at : (t : Table) (bytes : List ℕ) (i : ℕ) → IsImageOf bytes (sealed_by t) → i < length t.times → IsInstant (key_at t i).time
instant-at t bytes i image lt =
    let n = length t.times in
    let r = All-get_or (IsRowOf (sealed_by t)) (rows_of t) i (row_at t 0) (omega (arith, lt, length-map-range_with_len (row_at t) 0 n)) image.has.rows in
    let is = get_or-map-range_with_len (row_at t) 0 n i i (row_at t 0) lt (omega arith) in
    subst (λ (x : Row). IsInstant x.key.time) is r.time

-- a time from the start of a bucket on, up to its end, lies in it
pub same-bucket : (g : Gran) (t u : ℤ) → first_instant ≤ℤ truncation g t → first_instant ≤ℤ t → truncation g t ≤ℤ u → u <ℤ next g t → truncation g u ≡ truncation g t
same-bucket g t u first from le lt =
    let at_t = IsTruncation-truncation g t (omega (arith, signed_arith)) in
    let at_u = IsTruncation-truncation g u (omega (arith, signed_arith)) in
    let end = IsNext-next g t (omega (arith, signed_arith)) in
    let below = at_u.greatest (truncation g t) at_t.starts le in
    by_lt_z t (truncation g u)
    (λ after. let past = end.least (truncation g u) at_u.starts after in let within = at_u.not_after in absurd (omega (arith, signed_arith)))
    (λ before. let back = at_t.greatest (truncation g u) at_u.starts before in omega (arith, signed_arith))

pub bucket-all : (q : Asked) (t u : ℤ) → is_all q.granularity ≡ true → bucket q u ≡ bucket q t
bucket-all q t u all = ap (λ b. unwrap_or (if b then union_start q.intervals else Some (truncation q.granularity u)) (pos 0)) all ∙ sym (ap (λ b. unwrap_or (if b then union_start q.intervals else Some (truncation q.granularity t)) (pos 0)) all)

pub bucket-same : (q : Asked) (t u : ℤ) → truncation q.granularity u ≡ truncation q.granularity t → bucket q u ≡ bucket q t
bucket-same q t u same = ap (λ x. unwrap_or (if is_all q.granularity then union_start q.intervals else Some x) (pos 0)) same

-- times of one bucket, by its bounds
pub lies-same : (q : Asked) (t u start end : ℤ) → IsInstant t → start ≡ truncation q.granularity t → end ≡ next q.granularity t → first_instant ≤ℤ start → start ≤ℤ u → u <ℤ end → bucket q u ≡ bucket q t
lies-same q t u start end instant is next_is first low high =
    bucket-same q t u (same-bucket q.granularity t u (subst (λ x. first_instant ≤ℤ x) is first) instant.0 (subst (λ x. x ≤ℤ u) is low) (subst (λ x. u <ℤ x) next_is high))

pub spanned : (start end least greatest u : ℤ) → (int_le start least && int_lt least end) ≡ true → (int_le start greatest && int_lt greatest end) ≡ true → least ≤ℤ u → u ≤ℤ greatest → (start ≤ℤ u) × (u <ℤ end)
spanned start end least greatest u a b low high = (from start end least greatest u a low, to start end least greatest u b high)
  where
    from : (s e a g v : ℤ) → (int_le s a && int_lt a e) ≡ true → a ≤ℤ v → s ≤ℤ v
    from s e a g v h le = grind (arith, ints)

    to : (s e a g v : ℤ) → (int_le s g && int_lt g e) ≡ true → v ≤ℤ g → v <ℤ e
    to s e a g v h le = grind (arith, ints)

-- ---- intervals

from_and_held : (from t : ℤ) (held : Bool) → from ≤ℤ t → held ≡ true → int_le from t && held ≡ true
from_and_held from t held le h = grind (arith, ints)

before : (greatest t u : ℤ) → int_lt greatest t ≡ true → t ≤ℤ u → u ≤ℤ greatest → ⊥
before greatest t u lt le high = true≢false (contra greatest t u lt le high)
  where
    contra : (a b v : ℤ) → int_lt a b ≡ true → b ≤ℤ v → v ≤ℤ a → true ≡ false
    contra a b v h g i = grind (arith, ints)

no_time : (held : Bool) → (held ≡ true → ⊥) → held ≡ false
no_time held never = elim held as (λ b. (b ≡ true → ⊥) → b ≡ false) [ true ↦ λ f. absurd (f refl) | false ↦ λ f. refl ] never

pub none-apart : (us : List Interval) (least u : ℤ) → None ≡ union_first_from least us → least ≤ℤ u → union_holds us u ≡ false
none-apart us least u is low =
    let first = subst (IsFirstTime (λ t. int_le least t && union_holds us t)) (sym is) (union_first_from-first least us) in
    no_time (union_holds us u) (λ h. true≢false (sym (from_and_held least u (union_holds us u) low h) ∙ first u))

pub apart : (us : List Interval) (least greatest u t : ℤ) → Some t ≡ union_first_from least us → least ≤ℤ u → u ≤ℤ greatest → int_lt greatest t ≡ true → union_holds us u ≡ false
apart us least greatest u t is low high later =
    let first = subst (IsFirstTime (λ x. int_le least x && union_holds us x)) (sym is) (union_first_from-first least us) in
    no_time (union_holds us u) (λ h. before greatest t u later (first.1 u (from_and_held least u (union_holds us u) low h)) high)

pub time-from : (t : Table) (i : ℕ) (least : ℤ) → i < length t.times → All (λ x. least ≤ℤ x) t.times → least ≤ℤ (key_at t i).time
time-from t i least lt low = subst (λ x. least ≤ℤ x) (sym (key-time t i)) (All-get_or (λ x. least ≤ℤ x) t.times i (pos 0) lt low)

pub time-bounds : (t : Table) (i : ℕ) (least greatest : ℤ) → i < length t.times → All (λ x. least ≤ℤ x) t.times → All (λ x. x ≤ℤ greatest) t.times
    → (least ≤ℤ (key_at t i).time) × ((key_at t i).time ≤ℤ greatest)
time-bounds t i least greatest lt low high = (
  subst (λ x. least ≤ℤ x) (sym (key-time t i)) (All-get_or (λ x. least ≤ℤ x) t.times i (pos 0) lt low),
  subst (λ x. x ≤ℤ greatest) (sym (key-time t i)) (All-get_or (λ x. x ≤ℤ greatest) t.times i (pos 0) lt high),
)
