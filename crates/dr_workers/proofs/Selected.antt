-- What a query selects of rows that were added to groups and of rows that wait.
use Rattle.std.proofs.Common.{◌≡◌, ◌∙◌, sym, refl, ap, subst, ℕ, ◌+◌, ◌-◌, ◌<◌, true, false, cond, ◌&&◌, arith, Result, Ok, Err, IfOk, OnOk, List, [], ◌∷◌, ◌++◌, map, length, take, slice_get, Some, append_assoc}
use Rattle.std.specs.List.{All, AllByRecursion, range_with_len}
use Rattle.std.proofs.lemmas.List.{append-nil, take_more}
use Rattle.std.proofs.lemmas.List.Elements.{filter-append}
use Rattle.std.proofs.lemmas.Option.{get_or_from_slice_get}
use Rattle.dr_base.specs.declared.row.Row.{Row}
use Rattle.dr_agg.specs.Rollup.{rollup}
use Rattle.dr_intervals.specs.Printable.{StartsPrintable}
use Rattle.dr_time.specs.Printed.{IsPrintable}
use Rattle.dr_time.specs.Union.{union_holds}
use Rattle.dr_image.specs.Table.{Table, row_at, rows_of}
use Rattle.dr_columns.specs.Rows.{key_at}
use Rattle.dr_partial.proofs.ByColumns.{all-between}
use Rattle.dr_ask.specs.declared.query.Query.{Query}
use Rattle.dr_ask.specs.Asked.{Asked}
use Rattle.dr_ask.specs.Once.{asked_once}
use Rattle.dr_answers.specs.Selection.{selects, passes, selected}
use Rattle.dr_partial.specs.Partial.{kinds_in, alone, partial}
use Rattle.dr_workers.specs.Gathered.{AreApart, AreInstants, ArePut, AreGathered}
use Rattle.dr_workers.specs.Shared.{IsFoldOf}
use Rattle.dr_workers.proofs.Rows.{in-first, in-second}

module _ (q : Asked) where
  in-parts : (a b : List Row) → selected q (a ++ b) ≡ selected q a ++ selected q b
  in-parts a b = filter-append (λ (r : Row). selects q r.key) a b

  same-behind : (a x y : List Row) → selected q x ≡ selected q y → selected q (a ++ x) ≡ selected q (a ++ y)
  same-behind a x y is = in-parts a x ∙ ap (λ l. selected q a ++ l) is ∙ sym (in-parts a y)

  same-before : (x y b : List Row) → selected q x ≡ selected q y → selected q (x ++ b) ≡ selected q (y ++ b)
  same-before x y b is = in-parts x b ∙ ap (λ l. l ++ selected q b) is ∙ sym (in-parts y b)

module _ (q : Query) where
  pub put-none : (before : List Row) → ArePut q before [] before
  put-none before = record { same = ap (selected (asked_once q)) (sym (append-nil before)); instants = λ own none. own }

  -- of rows that no interval holds none is selected
  none-selected : (rows : List Row) → AreApart q rows → selected (asked_once q) rows ≡ []
  none-selected [] apart = refl
  none-selected (r ∷ rows) apart =
      ap (λ b. cond (b && passes (asked_once q).filter r.key) (r ∷ selected (asked_once q) rows) (selected (asked_once q) rows)) apart.0 ∙ none-selected rows apart.1

  pub put-nowhere : (before rows : List Row) → AreApart q rows → ArePut q before rows before
  put-nowhere before rows apart = record {
    same = sym (in-parts (asked_once q) before rows ∙ ap (λ l. selected (asked_once q) before ++ l) (none-selected rows apart) ∙ append-nil (selected (asked_once q) before));
    instants = λ own more. own;
  }

  -- the rows of an image
  pub apart-there : (t : Table) (rows : List Row) → rows_of t ≡ rows → ((i : ℕ) → i < length t.times → union_holds q.intervals (key_at t i).time ≡ false) → AreApart q rows
  apart-there t rows is out =
      let all : length t.times - 0 ≡ length t.times = omega arith in
      subst (AreApart q) (ap (λ n. map (row_at t) (range_with_len 0 n)) all ∙ is)
      (all-between (λ (r : Row). union_holds q.intervals r.key.time ≡ false) t 0 (length t.times) (omega arith) (λ i le lt. out i lt))

  pub put-more : (before x between y after : List Row) → ArePut q before x between → ArePut q between y after → ArePut q before (x ++ y) after
  put-more before x between y after first second = record {
    same = second.same ∙ same-before (asked_once q) between (before ++ x) y first.same ∙ ap (selected (asked_once q)) (append_assoc before x y);
    instants = λ own all. second.instants (first.instants own (in-first _ x y all)) (in-second _ x y all);
  }

  pub put-next : (before between after rows : List Row) (i : ℕ) (r : Row) → i < length rows → slice_get rows i ≡ Some r
      → ArePut q before (take i rows) between → ArePut q between (r ∷ []) after → ArePut q before (take (i + 1) rows) after
  put-next before between after rows i r lt at first second =
      subst (λ l. ArePut q before l after) (ap (λ y. take i rows ++ y ∷ []) (sym (get_or_from_slice_get rows i r r at)) ∙ sym (take_more rows i r lt)) (put-more before (take i rows) between (r ∷ []) after first second)

  -- ---- groups, and rows that wait

  -- groups of rows are those of other rows of which the same is selected
  fold-same : (a b groups : List Row) → selected (asked_once q) a ≡ selected (asked_once q) b → IsFoldOf q a groups → IsFoldOf q b groups
  fold-same a b groups is fold = (fold.0 ∙ ap (λ l. rollup true (kinds_in (asked_once q).aggregations) (map (alone (asked_once q)) l)) is, fold.1)

  pub more-wait : (rows groups waiting more after : List Row) → AreInstants more → ArePut q waiting more after → AreGathered q rows groups waiting → AreGathered q (rows ++ more) groups after
  more-wait rows groups waiting more after there put old = record {
    added = old.added;
    fold = old.fold;
    instants = put.instants old.instants there;
    same = same-behind (asked_once q) old.added after (waiting ++ more) put.same ∙ ap (selected (asked_once q)) (sym (append_assoc old.added waiting more)) ∙ same-before (asked_once q) (old.added ++ waiting) rows more old.same;
  }

  pub none-waits : (rows groups waiting : List Row) → waiting ≡ [] → IsFoldOf q rows groups → AreGathered q rows groups waiting
  none-waits rows groups waiting none fold = record {
    added = rows;
    fold = fold;
    instants = subst AreInstants (sym none) tt;
    same = ap (λ l. selected (asked_once q) (rows ++ l)) none ∙ ap (selected (asked_once q)) (append-nil rows);
  }

  pub all-added : (rows groups waiting after : List Row) (old : AreGathered q rows groups waiting) → IsFoldOf q (old.added ++ waiting) after → IsFoldOf q rows after
  all-added rows groups waiting after old fold = fold-same (old.added ++ waiting) rows after old.same fold

  -- ---- calls, of which each may be refused

  pub together-added : {E : Type 0} (result : Result (List Row) E) (groups waiting more put after : List Row) → AreInstants more → ArePut q waiting more put
      → IfOk result (λ p. (rows : List Row) → AreGathered q rows groups put → IsFoldOf q rows p) → OnOk result (after ≡ [])
      → IfOk result (λ p. (rows : List Row) → AreGathered q rows groups waiting → AreGathered q (rows ++ more) p after)
  together-added (Err e) groups waiting more put after there behind value none = tt
  together-added (Ok p) groups waiting more put after there behind value none = λ rows old.
      none-waits (rows ++ more) p after none (value (rows ++ more) (more-wait rows groups waiting more put there behind old))

  pub alone-added : {E : Type 0} (result : Result (List Row) E) (groups waiting between more after : List Row)
      → ((rows : List Row) → AreGathered q rows groups waiting → IsFoldOf q rows between) → after ≡ []
      → IfOk result (λ p. (a : List Row) → between ≡ partial (asked_once q) a → p ≡ partial (asked_once q) (a ++ more))
      → (All StartsPrintable q.intervals → AllByRecursion (λ g. IsPrintable g.key.time) between → IfOk result (λ p. AllByRecursion (λ g. IsPrintable g.key.time) p))
      → IfOk result (λ p. (rows : List Row) → AreGathered q rows groups waiting → AreGathered q (rows ++ more) p after)
  alone-added (Err e) groups waiting between more after before none value printable = tt
  alone-added (Ok p) groups waiting between more after before none value printable = λ rows old.
      let fold = before rows old in
      none-waits (rows ++ more) p after none (value rows fold.0, λ starts. printable starts (fold.1 starts))
