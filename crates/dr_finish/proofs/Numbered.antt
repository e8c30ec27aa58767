-- Values of numbers, and groups that are spread over the outputs of a query.
use Rattle.std.proofs.Common.{◌≡◌, ◌∙◌, sym, refl, ap, subst, ℕ, ℤ, zero, suc, ◌+◌, ◌-◌, ◌<◌, ◌≤◌, ◌||◌, List, [], ◌∷◌, ◌++◌, Option, Some, None, Ok, Err, length, map, take, reverse, get_or, Bool, true, false, true≢false, not, ◌==◌, arith, append_assoc}
use Rattle.std.specs.Prelude.{if◌then◌else◌, nat_lt}
use Rattle.std.specs.Cmp.Lexicographic.{slice_cmp}
use Rattle.std.specs.List.{list_any, fold, AllByRecursion}
use Rattle.std.specs.Ordering.{nat_cmp, ordering_index, ordering_then}
use Rattle.std.specs.declared.cmp.Ordering.{Ordering}
use Rattle.std.specs.declared.cmp.Ordering.TheVariants.{Less, Equal, Greater}
use Rattle.std.proofs.lemmas.List.{take-map, map-append, reverse-append, length-append, length-map, take_more}
use Rattle.std.proofs.lemmas.List.Folds.{list_any-append}
use Rattle.dr_outputs.specs.Numbered.{number_at, text_at}
use Rattle.dr_outputs.specs.Numbered.{numbers_by, texts_by}
use Rattle.dr_base.specs.declared.row.Row.{Row}
use Rattle.dr_ask.specs.declared.aggregation.Aggregation.{Aggregation}
use Rattle.dr_ask.specs.declared.dimension.Dimension.{Dimension}
use Rattle.dr_ask.specs.declared.timeseries.Timeseries.{Timeseries}
use Rattle.dr_ask.specs.Asked.{timeseries}
use Rattle.dr_ask.specs.Firsts.{number_in, with_new, firsts, numbers_of, is_same_place, is_same_dimension}
use Rattle.dr_ask.proofs.Firsts.{number_new, number_last, numbers-append, dimension-itself}
use Rattle.dr_answers.specs.declared.result_row.ResultRow.{ResultRow}
use Rattle.dr_answers.specs.declared.answer_error.AnswerError.{AnswerError}
use Rattle.dr_answers.specs.declared.answer_error.AnswerError.TheVariants.{ResultTooLarge}
use Rattle.dr_answers.specs.Given.{limited, given_by}
use Rattle.dr_answers.specs.Groups.{max_groups}
use Rattle.dr_answers.specs.Spread.{spread_over}
use Rattle.dr_partial.specs.Partial.{result_row}
use Rattle.dr_answers.proofs.Alikes.{compared-firsts}
use Rattle.dr_answers.proofs.OnceGroups.{place_same}
use Rattle.dr_finish.specs.Finished.{few_of, few_given}
use Rattle.dr_finish.specs.RowOrder.{numbers_from, spread_row}
use Rattle.dr_base.proofs.Truths.{or_true}

-- ---- each value by its own number

texts_later : (x : List ℕ) (xs : List (List ℕ)) (count first : ℕ) → texts_by (numbers_from count (suc first)) (x ∷ xs) ≡ texts_by (numbers_from count first) xs
texts_later x xs zero first = refl
texts_later x xs (suc count) first = ap (λ l. text_at first xs ∷ l) (texts_later x xs count (suc first))

pub texts-all : (xs : List (List ℕ)) → texts_by (numbers_from (length xs) 0) xs ≡ xs
texts-all [] = refl
texts-all (x ∷ xs) = ap (λ l. x ∷ l) (texts_later x xs (length xs) 0 ∙ texts-all xs)

numbers_later : (x : ℤ) (xs : List ℤ) (count first : ℕ) → numbers_by (numbers_from count (suc first)) (x ∷ xs) ≡ numbers_by (numbers_from count first) xs
numbers_later x xs zero first = refl
numbers_later x xs (suc count) first = ap (λ l. number_at first xs ∷ l) (numbers_later x xs count (suc first))

pub numbers-all : (xs : List ℤ) → numbers_by (numbers_from (length xs) 0) xs ≡ xs
numbers-all [] = refl
numbers-all (x ∷ xs) = ap (λ l. x ∷ l) (numbers_later x xs (length xs) 0 ∙ numbers-all xs)

-- ---- lists of groups

pub map-limited : {A B : Type 0} (f : A → B) (limit : Option ℕ) (xs : List A) → map f (limited limit xs) ≡ limited limit (map f xs)
map-limited f None xs = refl
map-limited f (Some limit) xs = sym (take-map f limit xs)

-- ---- numbers one after another

numbers-push : (count first : ℕ) → numbers_from (suc count) first ≡ numbers_from count first ++ (first + count) ∷ []
numbers-push zero first = ap (λ n. n ∷ []) (omega arith)
numbers-push (suc count) first = ap (λ l. first ∷ l) (numbers-push count (suc first) ∙ ap (λ n. numbers_from count (suc first) ++ n ∷ []) (omega arith))

-- one more of some numbers, each of which is its place
pub taken-more : (ns : List ℕ) (place : ℕ) → place < length ns → get_or ns place 0 ≡ place → take place ns ≡ numbers_from place 0 → take (place + 1) ns ≡ numbers_from (place + 1) 0
taken-more ns place lt same before =
    let behind : place ≡ 0 + place = omega arith in
    let next : suc place ≡ place + 1 = omega arith in
    take_more ns place 0 lt ∙ (λ i. before i ++ (same ∙ behind) i ∷ []) ∙ sym (numbers-push place 0) ∙ ap (λ k. numbers_from k 0) next

-- ---- texts of so many numbers, compared one after another

abbrev pub compared : List (List ℕ) → List (List ℕ) → ℕ → ℕ → Ordering
compared xs ys count first = slice_cmp (slice_cmp nat_cmp) (texts_by (numbers_from count first) xs) (texts_by (numbers_from count first) ys)

-- what a comparison of an order with `Equal` tells
pub is_other : (o : Ordering) (b : Bool) → b ≡ not (ordering_index o == 1) → b ≡ true → o ≡ Equal → ⊥
is_other o b is t e = true≢false (sym t ∙ is ∙ ap (λ p. not (ordering_index p == 1)) e)

pub is_tie : (o : Ordering) (b : Bool) → b ≡ not (ordering_index o == 1) → b ≡ false → o ≡ Equal
is_tie Less b is t = absurd (true≢false (sym is ∙ t))
is_tie Equal b is t = refl
is_tie Greater b is t = absurd (true≢false (sym is ∙ t))

pub then_decided : (o r : Ordering) → (o ≡ Equal → ⊥) → ordering_then o r ≡ o
then_decided Less r h = refl
then_decided Equal r h = absurd (h refl)
then_decided Greater r h = refl

pub texts-differ : (xs ys : List (List ℕ)) (count first : ℕ) (o : Ordering) → first < count → ((rest : ℕ) → first + rest ≡ count → compared xs ys count 0 ≡ compared xs ys rest first)
    → o ≡ slice_cmp nat_cmp (text_at first xs) (text_at first ys) → (o ≡ Equal → ⊥) → o ≡ compared xs ys count 0
texts-differ xs ys count first o lt before is differ =
    sym (before (suc (count - suc first)) (omega arith)
    ∙ ap (λ p. ordering_then p (compared xs ys (count - suc first) (suc first))) (sym is)
    ∙ then_decided o (compared xs ys (count - suc first) (suc first)) differ)

pub texts-tie : (xs ys : List (List ℕ)) (count first : ℕ) (o : Ordering) → ((rest : ℕ) → first + rest ≡ count → compared xs ys count 0 ≡ compared xs ys rest first)
    → o ≡ slice_cmp nat_cmp (text_at first xs) (text_at first ys) → o ≡ Equal → (rest : ℕ) → first + 1 + rest ≡ count → compared xs ys count 0 ≡ compared xs ys rest (first + 1)
texts-tie xs ys count first o before is tie rest sum =
    before (suc rest) (omega arith)
    ∙ ap (λ p. ordering_then p (compared xs ys rest (suc first))) (sym is ∙ tie)
    ∙ ap (compared xs ys rest) (omega arith)

pub texts-end : (xs ys : List (List ℕ)) (count first : ℕ) → count ≤ first → first ≤ count → ((rest : ℕ) → first + rest ≡ count → compared xs ys count 0 ≡ compared xs ys rest first) → Equal ≡ compared xs ys count 0
texts-end xs ys count first past within before = sym (before 0 (omega arith))

-- ---- the texts of dimensions compare as those of the ones that differ

abbrev dimension_number : List Dimension → Dimension → ℕ
dimension_number found d = number_in is_same_dimension found d

number_same : (found : List Dimension) (d e : Dimension) → d.place ≡ e.place → dimension_number found d ≡ dimension_number found e
number_same [] d e same = refl
number_same (x ∷ found) d e same = λ i. if is_same_place (same i) x.place then zero else suc (number_same found d e same i)

-- those that differ have the numbers one after another
number_append : (xs : List Dimension) (x : Dimension) → numbers_from (length (xs ++ x ∷ [])) 0 ≡ numbers_from (length xs) 0 ++ length xs ∷ []
number_append xs x =
    let one : length (xs ++ x ∷ []) ≡ suc (length xs) = length-append xs (x ∷ []) ∙ omega arith in
    ap (λ n. numbers_from n 0) one ∙ numbers-push (length xs) 0 ∙ ap (λ n. numbers_from (length xs) 0 ++ n ∷ []) (omega arith)

each_known : (found xs : List Dimension) → AllByRecursion (λ y. list_any (is_same_dimension y) (found ++ xs) ≡ true) xs
each_known found [] = tt
each_known found (x ∷ xs) = (
  list_any-append (is_same_dimension x) found (x ∷ xs) ∙ ap (λ b. list_any (is_same_dimension x) found || (b || list_any (is_same_dimension x) xs)) (dimension-itself x) ∙ or_true (list_any (is_same_dimension x) found),
  subst (λ l. AllByRecursion (λ y. list_any (is_same_dimension y) l ≡ true) xs) (append_assoc found (x ∷ []) xs) (each_known (found ++ x ∷ []) xs),
)

numbered-more : (found : List Dimension) (x : Dimension) → map (dimension_number found) found ≡ numbers_from (length found) 0
    → map (dimension_number (with_new is_same_dimension found x)) (with_new is_same_dimension found x) ≡ numbers_from (length (with_new is_same_dimension found x)) 0
numbered-more found x before =
    elim (list_any (is_same_dimension x) found) as (λ b. list_any (is_same_dimension x) found ≡ b → map (dimension_number (if b then found else found ++ x ∷ [])) (if b then found else found ++ x ∷ []) ≡ numbers_from (length (if b then found else found ++ x ∷ [])) 0) [
      | true ↦ λ t. before
      | false ↦ λ t.
          map-append (dimension_number (found ++ x ∷ [])) found (x ∷ [])
          ∙ (λ i. (numbers-append is_same_dimension found (x ∷ []) found (each_known [] found) ∙ before) i
          ++ (number_last is_same_dimension dimension-itself found x t ∙ number_new is_same_dimension found x t) i ∷ [])
          ∙ sym (number_append found x)
    ]
    refl

numbered-fold : (found ds : List Dimension) → map (dimension_number found) found ≡ numbers_from (length found) 0
    → map (dimension_number (fold (with_new is_same_dimension) found ds)) (fold (with_new is_same_dimension) found ds) ≡ numbers_from (length (fold (with_new is_same_dimension) found ds)) 0
numbered-fold found [] before = before
numbered-fold found (d ∷ ds) before = numbered-fold (with_new is_same_dimension found d) ds (numbered-more found d before)

texts-mapped : {A : Type 0} (f : A → ℕ) (xs : List (List ℕ)) (all : List A) → texts_by (map f all) xs ≡ map (λ a. text_at (f a) xs) all
texts-mapped f xs [] = refl
texts-mapped f xs (a ∷ more) = ap (λ l. text_at (f a) xs ∷ l) (texts-mapped f xs more)

pub texts-compared : (ds : List Dimension) (xs ys : List (List ℕ))
    → compared xs ys (length (firsts is_same_dimension ds)) 0 ≡ slice_cmp (slice_cmp nat_cmp) (texts_by (numbers_of is_same_dimension ds) xs) (texts_by (numbers_of is_same_dimension ds) ys)
texts-compared ds xs ys =
    let found = firsts is_same_dimension ds in
    let v : List (List ℕ) → Dimension → List ℕ = λ l d. text_at (dimension_number found d) l in
    let alike : (l : List (List ℕ)) (d e : Dimension) → is_same_dimension d e ≡ true → v l d ≡ v l e = λ l d e h. ap (λ n. text_at n l) (number_same found d e (place_same d.place e.place h)) in
    let row : (l : List (List ℕ)) → texts_by (numbers_from (length found) 0) l ≡ map (v l) found = λ l. ap (λ ns. texts_by ns l) (sym (numbered-fold [] ds refl)) ∙ texts-mapped (dimension_number found) l found in
    let all : (l : List (List ℕ)) → map (v l) ds ≡ texts_by (numbers_of is_same_dimension ds) l = λ l. sym (texts-mapped (dimension_number found) l ds) in
    (λ i. slice_cmp (slice_cmp nat_cmp) (row xs i) (row ys i))
    ∙ compared-firsts is_same_dimension (slice_cmp nat_cmp) (v xs) (v ys) (alike xs) (alike ys) ds
    ∙ (λ i. slice_cmp (slice_cmp nat_cmp) (all xs i) (all ys i))

-- ---- one more value

pub numbers-taken : (xs : List ℤ) (ns : List ℕ) (place : ℕ) → place < length ns → numbers_by (take (place + 1) ns) xs ≡ numbers_by (take place ns) xs ++ number_at (get_or ns place 0) xs ∷ []
numbers-taken xs ns place lt = ap (λ l. numbers_by l xs) (take_more ns place 0 lt) ∙ map-append (λ n. number_at n xs) (take place ns) (get_or ns place 0 ∷ [])

-- ---- rows as groups

pub rows-spread : (ds : List Dimension) (aggregations : List Aggregation) (rows : List Row) → map (spread_row ds aggregations) rows ≡ map (spread_over ds aggregations) (map result_row rows)
rows-spread ds aggregations [] = refl
rows-spread ds aggregations (r ∷ rows) = ap (λ l. spread_row ds aggregations r ∷ l) (rows-spread ds aggregations rows)

-- ---- the buckets of a timeseries, given and then spread

map_reverse : {A B : Type 0} (f : A → B) (xs : List A) → map f (reverse xs) ≡ reverse (map f xs)
map_reverse f [] = refl
map_reverse f (x ∷ xs) = ap (map f) (reverse-append (x ∷ []) xs) ∙ map-append f (reverse xs) (x ∷ []) ∙ ap (λ l. l ++ f x ∷ []) (map_reverse f xs) ∙ sym (reverse-append (f x ∷ []) (map f xs))

given-map : (f : ResultRow → ResultRow) (t : Timeseries) (xs : List ResultRow) → map f (given_by (timeseries t) xs) ≡ given_by (timeseries t) (map f xs)
given-map f t xs =
    map-limited f t.limit (if t.descending then reverse xs else xs)
    ∙ ap (limited t.limit) (elim t.descending as (λ b. map f (if b then reverse xs else xs) ≡ (if b then reverse (map f xs) else map f xs)) [ true ↦ map_reverse f xs | false ↦ refl ])

pub few-spread : (f : ResultRow → ResultRow) (t : Timeseries) (groups buckets : List ResultRow) → few_of groups ≡ Ok buckets → few_given (timeseries t) (map f groups) ≡ Ok (map f (given_by (timeseries t) buckets))
few-spread f t groups buckets h =
    ap (λ n. if nat_lt max_groups n then Err ResultTooLarge else Ok (given_by (timeseries t) (map f groups))) (length-map groups f)
    ∙ (elim (nat_lt max_groups (length groups)) as (λ b. (if b then Err ResultTooLarge else Ok groups) ≡ Ok buckets → (if b then Err ResultTooLarge else Ok (given_by (timeseries t) (map f groups))) ≡ Ok (map f (given_by (timeseries t) buckets)))
    [ true ↦ λ e. absurd (cc) | false ↦ λ e. let same : groups ≡ buckets = cc in ap Ok (sym (given-map f t groups) ∙ ap (λ l. map f (given_by (timeseries t) l)) same) ]
    h)

pub many-spread : (f : ResultRow → ResultRow) (t : Timeseries) (groups : List ResultRow) (e : AnswerError) → few_of groups ≡ Err e → few_given (timeseries t) (map f groups) ≡ Err e
many-spread f t groups e h =
    ap (λ n. if nat_lt max_groups n then Err ResultTooLarge else Ok (given_by (timeseries t) (map f groups))) (length-map groups f)
    ∙ (elim (nat_lt max_groups (length groups)) as (λ b. (if b then Err ResultTooLarge else Ok groups) ≡ Err e → (if b then Err ResultTooLarge else Ok (given_by (timeseries t) (map f groups))) ≡ Err e)
    [ true ↦ λ h. cc | false ↦ λ h. absurd (cc) ]
    h)
