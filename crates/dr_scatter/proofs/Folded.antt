-- Groups over some rows each, put together.
use Rattle.std.proofs.Common.{◌≡◌, ◌∙◌, sym, refl, ap, subst, ◌<◌, List, [], ◌∷◌, ◌++◌, length, Result, Ok, Err, IfOk, arith}
use Rattle.std.proofs.lemmas.List.{append-nil, append_assoc, length-append}
use Rattle.std.specs.List.{All, AllByRecursion}
use Rattle.dr_intervals.specs.Printable.{StartsPrintable}
use Rattle.dr_time.specs.Printed.{IsPrintable}
use Rattle.dr_base.specs.declared.row.Row.{Row}
use Rattle.dr_agg.specs.Rollup.{all_rows}
use Rattle.dr_ask.specs.declared.query.Query.{Query}
use Rattle.dr_ask.specs.Once.{asked_once}
use Rattle.dr_partial.specs.Partial.{partial}
use Rattle.dr_workers.specs.Shared.{IsFoldOf}
use Rattle.dr_scatter.specs.Folds.{AreFoldsOf, IsFoldOfAll}

-- the only one
pub one-fold : (q : Query) (rows : List (List Row)) (before : List (List Row)) (groups : List Row) (parts : List (List Row)) → length parts < 2 → parts ≡ before ++ groups ∷ [] → AreFoldsOf q rows parts → IsFoldOf q (all_rows rows) groups
one-fold q rows before groups parts few are folds = at rows before (subst (AreFoldsOf q rows) are folds) (omega (arith, few, ap length are, length-append before (groups ∷ [])))
  where
    at : (rows before : List (List Row)) → AreFoldsOf q rows (before ++ groups ∷ []) → length before < 1 → IsFoldOf q (all_rows rows) groups
    at [] [] folds less = absurd folds
    at (r ∷ []) [] folds less = subst (λ rs. IsFoldOf q rs groups) (sym (append-nil r)) folds.0
    at (r ∷ s ∷ rows) [] folds less = absurd folds.1
    at rows (p ∷ before) folds less = absurd (omega (arith, less))

pub no-fold : {E : Type 0} (q : Query) (parts : List (List Row)) (r : Result (List Row) E) → length parts ≡ 0
    → IfOk r (λ p. p ≡ partial (asked_once q) []) → (All StartsPrintable q.intervals → IfOk r (λ p. AllByRecursion (λ g. IsPrintable g.key.time) p))
    → IfOk r (IsFoldOfAll q parts)
no-fold q (x ∷ parts) r none value printable = absurd (omega (arith, none))
no-fold q [] (Err e) none value printable = tt
no-fold q [] (Ok p) none value printable = λ rows folds. at rows folds
  where
    at : (rows : List (List Row)) → AreFoldsOf q rows [] → IsFoldOf q (all_rows rows) p
    at [] folds = (value, printable)
    at (r ∷ rows) folds = absurd folds

-- groups in two lists, each over rows of its own
pub record Split (q : Query) (rows a b : List (List Row)) : Type 0 where
  pub first : List (List Row)
  pub second : List (List Row)
  pub folds_first : AreFoldsOf q first a
  pub folds_second : AreFoldsOf q second b
  pub all : all_rows first ++ all_rows second ≡ all_rows rows

split-folds : (q : Query) (rows a b : List (List Row)) → AreFoldsOf q rows (a ++ b) → Split q rows a b
split-folds q rows [] b folds = record { first = []; second = rows; folds_first = tt; folds_second = folds; all = refl }
split-folds q [] (p ∷ a) b folds = absurd folds
split-folds q (r ∷ rows) (p ∷ a) b folds =
    let rest = split-folds q rows a b folds.1 in
    record { first = r ∷ rest.first; second = rest.second; folds_first = (folds.0, rest.folds_first); folds_second = rest.folds_second; all = append_assoc r (all_rows rest.first) (all_rows rest.second) ∙ ap (λ l. r ++ l) rest.all }

pub split-parts : (q : Query) (rows a b parts : List (List Row)) → a ++ b ≡ parts → AreFoldsOf q rows parts → Split q rows a b
split-parts q rows a b parts is folds = split-folds q rows a b (subst (AreFoldsOf q rows) (sym is) folds)

-- ---- groups that are merged

pub told : {E : Type 0} (q : Query) (parts : List (List Row)) (r : Result (List Row) E) (p : List Row) → IfOk r (IsFoldOfAll q parts) → r ≡ Ok p → IsFoldOfAll q parts p
told q parts r p h is = subst (λ x. IfOk x (IsFoldOfAll q parts)) is h

pub both : {E : Type 0} (q : Query) (left right parts : List (List Row)) (x y : List Row) (r : Result (List Row) E) → left ++ right ≡ parts → IsFoldOfAll q left x → IsFoldOfAll q right y
    → IfOk r (λ p. (a b : List Row) → x ≡ partial (asked_once q) a → y ≡ partial (asked_once q) b → p ≡ partial (asked_once q) (a ++ b))
    → (AllByRecursion (λ g. IsPrintable g.key.time) x → AllByRecursion (λ g. IsPrintable g.key.time) y → IfOk r (λ p. AllByRecursion (λ g. IsPrintable g.key.time) p))
    → IfOk r (IsFoldOfAll q parts)
both q left right parts x y (Err e) is of_x of_y value printable = tt
both q left right parts x y (Ok p) is of_x of_y value printable = λ rows folds.
    let s = split-parts q rows left right parts is folds in
    let f = of_x s.first s.folds_first in
    let g = of_y s.second s.folds_second in
    (value (all_rows s.first) (all_rows s.second) f.0 g.0 ∙ ap (partial (asked_once q)) s.all, λ starts. printable (f.1 starts) (g.1 starts))
