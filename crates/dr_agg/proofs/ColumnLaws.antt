-- Values and columns of values, combined.
use Rattle.std.proofs.Common.{◌≡◌, ◌∙◌, sym, refl, ap, suc, ℤ, List, [], ◌∷◌, length}
use Rattle.std.specs.Prelude.{drop, FitsSigned}
use Rattle.std.specs.Int.{w64}
use Rattle.dr_agg.specs.declared.kind.Kind.{Kind}
use Rattle.dr_agg.specs.declared.kind.Kind.TheVariants.{Count, LongSum, LongMin, LongMax}
use Rattle.dr_agg.specs.Combination.{combine_of, unit_of, column, combine_columns}
use Rattle.dr_agg.specs.CombinationLaws.{wrapping_sum-assoc, wrapping_sum-comm, wrapping_sum-unit, int_min-assoc, int_min-comm, int_min-unit, int_max-assoc, int_max-comm, int_max-unit}

pub combine_of-assoc : (k : Kind) (a b c : ℤ) → combine_of k (combine_of k a b) c ≡ combine_of k a (combine_of k b c)
combine_of-assoc Count a b c = wrapping_sum-assoc a b c
combine_of-assoc LongSum a b c = wrapping_sum-assoc a b c
combine_of-assoc LongMin a b c = int_min-assoc a b c
combine_of-assoc LongMax a b c = int_max-assoc a b c

pub combine_of-comm : (k : Kind) (a b : ℤ) → combine_of k a b ≡ combine_of k b a
combine_of-comm Count a b = wrapping_sum-comm a b
combine_of-comm LongSum a b = wrapping_sum-comm a b
combine_of-comm LongMin a b = int_min-comm a b
combine_of-comm LongMax a b = int_max-comm a b

pub combine_of-unit : (k : Kind) (a : ℤ) → FitsSigned w64 a → combine_of k (unit_of k) a ≡ a
combine_of-unit Count a fits = wrapping_sum-unit a fits
combine_of-unit LongSum a fits = wrapping_sum-unit a fits
combine_of-unit LongMin a fits = int_min-unit a fits
combine_of-unit LongMax a fits = int_max-unit a fits

-- two values after one, in either order
pub combine_of-exchange : (k : Kind) (a b c : ℤ) → combine_of k (combine_of k a b) c ≡ combine_of k (combine_of k a c) b
combine_of-exchange k a b c = combine_of-assoc k a b c ∙ ap (combine_of k a) (combine_of-comm k b c) ∙ sym (combine_of-assoc k a c b)

pub combine_columns-assoc : (ks : List Kind) (x y z : List ℤ) → combine_columns ks (combine_columns ks x y) z ≡ combine_columns ks x (combine_columns ks y z)
combine_columns-assoc [] x y z = refl
combine_columns-assoc (k ∷ ks) x y z = λ i. combine_of-assoc k (column 0 x) (column 0 y) (column 0 z) i ∷ combine_columns-assoc ks (drop 1 x) (drop 1 y) (drop 1 z) i

pub combine_columns-comm : (ks : List Kind) (x y : List ℤ) → combine_columns ks x y ≡ combine_columns ks y x
combine_columns-comm [] x y = refl
combine_columns-comm (k ∷ ks) x y = λ i. combine_of-comm k (column 0 x) (column 0 y) i ∷ combine_columns-comm ks (drop 1 x) (drop 1 y) i

pub combine_columns-exchange : (ks : List Kind) (x y z : List ℤ) → combine_columns ks (combine_columns ks x y) z ≡ combine_columns ks (combine_columns ks x z) y
combine_columns-exchange ks x y z = combine_columns-assoc ks x y z ∙ ap (combine_columns ks x) (combine_columns-comm ks y z) ∙ sym (combine_columns-assoc ks x z y)

pub length-combine_columns : (ks : List Kind) (x y : List ℤ) → length (combine_columns ks x y) ≡ length ks
length-combine_columns [] x y = refl
length-combine_columns (k ∷ ks) x y = ap suc (length-combine_columns ks (drop 1 x) (drop 1 y))
