-- A column whose output stood before decides nothing.
use Rattle.std.proofs.Common.{◌≡◌, ◌++◌, ◌||◌, ℕ, ℤ, Bool, true, false, List, [], ◌∷◌, refl, sym, ap, ◌∙◌, subst}
use Rattle.std.proofs.lemmas.Bool.{eqb-true}
use Rattle.std.specs.List.{list_any}
use Rattle.std.specs.Ordering.{ordering_then}
use Rattle.std.specs.declared.cmp.Ordering.{Ordering}
use Rattle.std.specs.declared.cmp.Ordering.TheVariants.{Less, Equal, Greater}
use Rattle.dr_order.specs.declared.output.Output.{Output}
use Rattle.dr_order.specs.declared.output.Output.TheVariants.{Dimension, Aggregation}
use Rattle.dr_order.specs.declared.order_column.OrderColumn.{OrderColumn}
use Rattle.dr_order.specs.Deciding.{is_output, Decides}
use Rattle.dr_order.specs.Order.{output_cmp, directed, column_cmp, columns_cmp}

pub then_equal : (o : Ordering) → ordering_then o Equal ≡ o
then_equal Less = refl
then_equal Equal = refl
then_equal Greater = refl

pub then_then : (o p q : Ordering) → ordering_then (ordering_then o p) q ≡ ordering_then o (ordering_then p q)
then_then Less p q = refl
then_then Equal p q = refl
then_then Greater p q = refl

-- an order that is equal either way round is equal
straight : (b : Bool) (o : Ordering) → directed b o ≡ Equal → o ≡ Equal
straight false o e = e
straight true Less e = absurd (cc)
straight true Equal e = refl
straight true Greater e = absurd (cc)

directed_equal : (b : Bool) → directed b Equal ≡ Equal
directed_equal false = refl
directed_equal true = refl

module _ (dims : List (List ℕ)) (values : List ℤ) (other_dims : List (List ℕ)) (other_values : List ℤ) where
  same_cmp : (o p : Output) → is_output o p ≡ true → output_cmp p dims values other_dims other_values ≡ output_cmp o dims values other_dims other_values
  same_cmp (Dimension i) (Dimension j) e = rw (eqb-true i j e) refl
  same_cmp (Dimension i) (Aggregation j) e = absurd (cc)
  same_cmp (Aggregation i) (Dimension j) e = absurd (cc)
  same_cmp (Aggregation i) (Aggregation j) e = rw (eqb-true i j e) refl

  -- a column of an output that compares as equal
  ties : (d c : OrderColumn) → is_output d.output c.output ≡ true → column_cmp d dims values other_dims other_values ≡ Equal → column_cmp c dims values other_dims other_values ≡ Equal
  ties d c same e =
      ap (directed c.descending) (same_cmp d.output c.output same ∙ straight d.descending (output_cmp d.output dims values other_dims other_values) e) ∙ directed_equal c.descending

  cmp-push : (cs : List OrderColumn) (c : OrderColumn)
      → columns_cmp (cs ++ c ∷ []) dims values other_dims other_values ≡ ordering_then (columns_cmp cs dims values other_dims other_values) (column_cmp c dims values other_dims other_values)
  cmp-push [] c = then_equal (column_cmp c dims values other_dims other_values)
  cmp-push (d ∷ cs) c =
      ap (ordering_then (column_cmp d dims values other_dims other_values)) (cmp-push cs c)
      ∙ sym (then_then (column_cmp d dims values other_dims other_values) (columns_cmp cs dims values other_dims other_values) (column_cmp c dims values other_dims other_values))

  stood-ties : (ds : List OrderColumn) (c : OrderColumn) → list_any (λ d. is_output d.output c.output) ds ≡ true
      → ordering_then (columns_cmp ds dims values other_dims other_values) (column_cmp c dims values other_dims other_values) ≡ columns_cmp ds dims values other_dims other_values
  stood-ties [] c e = absurd (cc)
  stood-ties (d ∷ ds) c e = at (column_cmp d dims values other_dims other_values) refl (is_output d.output c.output) refl (stood-ties ds c)
    where
      at : (o : Ordering) → column_cmp d dims values other_dims other_values ≡ o → (b : Bool) → is_output d.output c.output ≡ b
          → (list_any (λ d. is_output d.output c.output) ds ≡ true → ordering_then (columns_cmp ds dims values other_dims other_values) (column_cmp c dims values other_dims other_values) ≡ columns_cmp ds dims values other_dims other_values)
          → ordering_then (ordering_then o (columns_cmp ds dims values other_dims other_values)) (column_cmp c dims values other_dims other_values) ≡ ordering_then o (columns_cmp ds dims values other_dims other_values)
      at Less k b h later = refl
      at Greater k b h later = refl
      at Equal k true h later = rw (ties d c h k) (then_equal (columns_cmp ds dims values other_dims other_values))
      at Equal k false h later = later (subst (λ (b : Bool). (b || list_any (λ d. is_output d.output c.output) ds) ≡ true) h e)

pub Decides-none : Decides [] []
unfolding Decides
Decides-none dims values other_dims other_values = refl

pub Decides-stood : (ds cs : List OrderColumn) (c : OrderColumn) → Decides ds cs → list_any (λ d. is_output d.output c.output) ds ≡ true → Decides ds (cs ++ c ∷ [])
unfolding Decides
Decides-stood ds cs c h stood dims values other_dims other_values =
    sym (cmp-push dims values other_dims other_values cs c
    ∙ ap (λ (o : Ordering). ordering_then o (column_cmp c dims values other_dims other_values)) (sym (h dims values other_dims other_values))
    ∙ stood-ties dims values other_dims other_values ds c stood)

pub Decides-push : (ds cs : List OrderColumn) (c : OrderColumn) → Decides ds cs → Decides (ds ++ c ∷ []) (cs ++ c ∷ [])
unfolding Decides
Decides-push ds cs c h dims values other_dims other_values =
    cmp-push dims values other_dims other_values ds c
    ∙ ap (λ (o : Ordering). ordering_then o (column_cmp c dims values other_dims other_values)) (h dims values other_dims other_values)
    ∙ sym (cmp-push dims values other_dims other_values cs c)

pub decided : (ds cs : List OrderColumn) → Decides ds cs → (dims : List (List ℕ)) (values : List ℤ) (other_dims : List (List ℕ)) (other_values : List ℤ)
    → columns_cmp ds dims values other_dims other_values ≡ columns_cmp cs dims values other_dims other_values
unfolding Decides
decided ds cs h = h
