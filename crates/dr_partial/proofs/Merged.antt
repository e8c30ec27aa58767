-- The groups of two partial results.
use Rattle.std.proofs.Common.{◌≡◌, ◌∙◌, sym, ap, subst, Bool, true, List, [], ◌∷◌, ◌++◌, map, Result, Ok, Err, IfOk}
use Rattle.std.specs.List.{AllByRecursion, IsDistinct}
use Rattle.std.proofs.lemmas.List.{map-append}
use Rattle.std.proofs.lemmas.List.Elements.{filter-append}
use Rattle.std.proofs.lemmas.List.Sorted.{IsPermutation-append_comm}
use Rattle.dr_base.specs.declared.key.Key.{Key}
use Rattle.dr_base.specs.declared.row.Row.{Row}
use Rattle.dr_agg.specs.declared.kind.Kind.{Kind}
use Rattle.dr_agg.specs.Combination.{FitsColumns}
use Rattle.dr_agg.specs.Rollup.{rollup, rollup_onto, add_row, AllFit}
use Rattle.dr_agg.proofs.RollupLaws.{rollup-append, AllFit-rollup_onto, AllByRecursion-add_row}
use Rattle.dr_rollup.specs.Entries.{same_keys}
use Rattle.dr_rollup.proofs.Rows.{moved-apart}
use Rattle.dr_ask.specs.Asked.{Asked}
use Rattle.dr_answers.specs.Selection.{selects, selected}
use Rattle.dr_partial.specs.Grouped.{IsSound, Adds, in_order}
use Rattle.dr_partial.specs.Partial.{kinds_in, alone, partial, IsPartial}
use Rattle.dr_partial.proofs.Adding.{in_order-rollup}
use Rattle.dr_partial.proofs.ByColumns.{fits-folds}
use Rattle.dr_partial.proofs.Moved.{all-moved, partial-moved}
use Rattle.dr_rollup.proofs.Rows.{onto_append}

-- ---- what is so of the groups of a partial result

fit-alone : (q : Asked) (rows : List Row) → AllFit (kinds_in q.aggregations) (map (alone q) rows)
fit-alone q [] = tt
fit-alone q (r ∷ rows) = (fits-folds q.aggregations (r ∷ []), fit-alone q rows)

pub fit-partial : (q : Asked) (groups : List Row) → IsPartial q (in_order groups) → AllFit (kinds_in q.aggregations) groups
fit-partial q groups is =
    let kinds = kinds_in q.aggregations in
    all-moved (λ (r : Row). FitsColumns kinds r.metrics) groups (in_order groups) (moved-apart [] groups)
    (subst (AllFit kinds) (sym is.1) (AllFit-rollup_onto true kinds [] (map (alone q) (selected q is.0)) tt (fit-alone q (selected q is.0))))

pub sound-partial : (q : Asked) (groups : List Row) → IsDistinct same_keys (map (λ r. r.key) groups) → IsPartial q (in_order groups) → IsSound (kinds_in q.aggregations) groups
sound-partial q groups apart is = record { fits = fit-partial q groups is; apart = apart }

-- ---- groups that are added one by one

pub one-more-group : (kinds : List Kind) (before after : List Row) (g : Row) (rest all : List Row) → Adds kinds before g after
    → rollup_onto true kinds (in_order before) (g ∷ rest) ≡ all → rollup_onto true kinds (in_order after) rest ≡ all
unfolding rollup_onto
one-more-group kinds before after g rest all adds is = ap (λ l. rollup_onto true kinds l rest) adds.groups ∙ is

pub no-more-groups : (kinds : List Kind) (groups all : List Row) → rollup_onto true kinds groups [] ≡ all → groups ≡ all
unfolding rollup_onto
no-more-groups kinds groups all is = is

-- ---- the groups of both

module _ (q : Asked) where
  abbrev kinds : List Kind
  kinds = kinds_in q.aggregations

  both-alone : (a b : List Row) → map (alone q) (selected q a) ++ map (alone q) (selected q b) ≡ map (alone q) (selected q (a ++ b))
  both-alone a b =
      let test : Row → Bool = λ r. selects q r.key in
      sym (ap (map (alone q)) (filter-append test a b) ∙ map-append (alone q) (selected q a) (selected q b))

  merged : (own other a b : List Row) → IsDistinct same_keys (map (λ r. r.key) own) → IsDistinct same_keys (map (λ r. r.key) other) → in_order own ≡ partial q a → in_order other ≡ partial q b
      → rollup_onto true kinds (in_order own) other ≡ partial q (a ++ b)
  merged own other a b d e is also =
      let ea = map (alone q) (selected q a) in
      let eb = map (alone q) (selected q b) in
      let of_own : rollup true kinds own ≡ rollup true kinds ea = sym (in_order-rollup kinds own d) ∙ is in
      let of_other : rollup true kinds other ≡ rollup true kinds eb = sym (in_order-rollup kinds other e) ∙ also in
      ap (λ l. rollup_onto true kinds l other) (in_order-rollup kinds own d)
      ∙ sym (onto_append kinds [] own other)
      ∙ rollup-append true kinds own other
      ∙ (λ j. rollup true kinds (of_own j ++ of_other j))
      ∙ sym (rollup-append true kinds ea eb)
      ∙ ap (rollup true kinds) (both-alone a b)

  pub merged-value : {E : Type 0} (own other x y : List Row) (r : Result (List Row) E) → IsDistinct same_keys (map (λ g. g.key) own) → IsDistinct same_keys (map (λ g. g.key) other)
      → in_order own ≡ x → in_order other ≡ y → IfOk r (λ p. p ≡ rollup_onto true kinds (in_order own) other)
      → IfOk r (λ p. (a b : List Row) → x ≡ partial q a → y ≡ partial q b → p ≡ partial q (a ++ b))
  merged-value own other x y (Ok p) d e is also made = λ a b f g. made ∙ merged own other a b d e (is ∙ f) (also ∙ g)
  merged-value own other x y (Err z) d e is also made = tt

  -- where the other one is the larger
  pub merged-turned : {E : Type 0} (own other x y : List Row) (r : Result (List Row) E) → IsDistinct same_keys (map (λ g. g.key) own) → IsDistinct same_keys (map (λ g. g.key) other)
      → in_order own ≡ x → in_order other ≡ y → IfOk r (λ p. p ≡ rollup_onto true kinds (in_order other) own)
      → IfOk r (λ p. (a b : List Row) → x ≡ partial q a → y ≡ partial q b → p ≡ partial q (a ++ b))
  merged-turned own other x y (Ok p) d e is also made = λ a b f g.
      made ∙ merged other own b a e d (also ∙ g) (is ∙ f) ∙ partial-moved q (b ++ a) (a ++ b) (IsPermutation-append_comm b a)
  merged-turned own other x y (Err z) d e is also made = tt

-- ---- what is so of each key

all-onto : (P : Key → Type 0) (ks : List Kind) (groups es : List Row) → AllByRecursion (λ g. P g.key) groups → AllByRecursion (λ g. P g.key) es → AllByRecursion (λ g. P g.key) (rollup_onto true ks groups es)
unfolding rollup_onto
all-onto P ks groups [] all each = all
all-onto P ks groups (e ∷ es) all each = all-onto P ks (add_row true ks groups e) es (AllByRecursion-add_row true ks P groups e all each.0) each.1

pub merged-all : {E : Type 0} (P : Key → Type 0) (ks : List Kind) (larger smaller x y : List Row) (r : Result (List Row) E) → in_order larger ≡ x → in_order smaller ≡ y
    → IfOk r (λ p. p ≡ rollup_onto true ks (in_order larger) smaller) → AllByRecursion (λ g. P g.key) x → AllByRecursion (λ g. P g.key) y → IfOk r (λ p. AllByRecursion (λ g. P g.key) p)
merged-all P ks larger smaller x y (Ok p) is also made all each =
    subst (AllByRecursion (λ g. P g.key)) (sym made)
    (all-onto P ks (in_order larger) smaller (subst (AllByRecursion (λ g. P g.key)) (sym is) all)
    (all-moved (λ (g : Row). P g.key) smaller (in_order smaller) (moved-apart [] smaller) (subst (AllByRecursion (λ g. P g.key)) (sym also) each)))
merged-all P ks larger smaller x y (Err z) is also made all each = tt
