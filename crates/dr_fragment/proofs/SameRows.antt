-- Rows with the same key and the same metrics are the same, and of those that are the same the keys compare as equal.
use Rattle.std.proofs.Common.{◌≡◌, ◌∙◌, sym, ap, ℕ, ◌+◌, ◌<◌, List, [], ◌∷◌, ◌++◌, Some, length, take, slice_get}
use Rattle.std.specs.declared.cmp.Ordering.{Ordering}
use Rattle.std.specs.declared.cmp.Ordering.TheVariants.{Equal}
use Rattle.std.proofs.lemmas.List.{take_more}
use Rattle.std.proofs.lemmas.Option.{get_or_from_slice_get}
use Rattle.dr_base.specs.declared.row.Row.{Row}
use Rattle.dr_base.specs.Order.{key_cmp}
use Rattle.dr_agg.proofs.KeyOrder.{same_key, itself}

pub same_row : (a b : Row) → key_cmp a.key b.key ≡ Equal → a.metrics ≡ b.metrics → a ≡ b
same_row a b k m = λ i. record { key = same_key a.key b.key k i; metrics = m i }

-- how the keys of two rows compare that are the same
pub compared : (a b : Row) (o : Ordering) → key_cmp a.key b.key ≡ o → a ≡ b → o ≡ Equal
compared a b o e same = sym e ∙ ap (λ (r : Row). key_cmp a.key r.key) (sym same) ∙ itself a.key

-- the items before a place and the one that stands there
pub one_more_taken : {A : Type 0} (xs : List A) (i : ℕ) (x : A) → i < length xs → slice_get xs i ≡ Some x → take (i + 1) xs ≡ take i xs ++ x ∷ []
one_more_taken xs i x lt at = take_more xs i x lt ∙ ap (λ y. take i xs ++ y ∷ []) (get_or_from_slice_get xs i x x at)
