-- Putting members in under names that are all different gives them in the order of the names.
use Rattle.std.proofs.Common.{◌≡◌, ◌∙◌, refl, sym, ap, ℕ, ℤ, ◌+◌, inl, inr, false, true≢false, List, [], ◌∷◌, ◌++◌, drop, map, Option, Some, None, bytes_eq, nat_cmp, Ordering, Less, Equal, Greater, arith}
use Rattle.std.specs.Prelude.{option_map, slice_get}
use Rattle.std.specs.Ordering.{match_ordering, ordering_reverse, is_eq}
use Rattle.std.specs.Cmp.Lexicographic.{slice_cmp}
use Rattle.std.specs.List.{AllByRecursion, IsDistinct}
use Rattle.std.specs.List.Sorted.{IsStrictlySortedBy}
use Rattle.std.specs.Map.{keys_of}
use Rattle.std.specs.BTreeMap.{insert_entry}
use Rattle.std.proofs.lemmas.Cmp.{nat_list_cmp_total, nat_list_eq_equiv}
use Rattle.std.proofs.lemmas.List.{drop_more, drop_all}
use Rattle.std.proofs.lemmas.Map.Keys.{IsDistinct-head, IsDistinct-tail, sorted_tail}
use Rattle.std.proofs.lemmas.Map.Text.{is_eq-slice_cmp}
use Rattle.std.proofs.lemmas.Option.{slice_get_cases}
use Rattle.serde_json.specs.Data.{Data, number, Members, no_members, member, put}
use Rattle.serde_json.specs.Find.{of_integer}
use Rattle.dr_ask.specs.declared.aggregation.Aggregation.{Aggregation}
use Rattle.dr_ask.specs.declared.dimension.Dimension.{Dimension}
use Rattle.dr_ask.specs.Asked.{Asked, dimensions_by}
use Rattle.dr_ask.specs.MadeFor.{outputs}
use Rattle.dr_ask.specs.Outputs.{aggregation_names, dimension_names}
use Rattle.dr_answers.specs.declared.result_row.ResultRow.{ResultRow}
use Rattle.dr_answers.specs.Answer.{dimension_data, with_dims, with_values}
use Rattle.dr_writer.specs.declared.output.Place.{Place}
use Rattle.dr_writer.specs.declared.output.Output.{Output}
use Rattle.dr_writer.specs.Outputs.{dim_at, value_at, with_places, output_of, data_at, with_member, members_at, members_of}

abbrev Entry : Type 0
Entry = List ℕ × Place

abbrev order : List ℕ → List ℕ → Ordering
order = slice_cmp nat_cmp

abbrev put_in : List Entry → List ℕ → Place → List Entry
put_in es n p = insert_entry order es n p

-- the members of a group by some places
abbrev members_by : ResultRow → List Entry → Members
members_by g es = members_at g (map output_of es)

abbrev Rises : List Entry → Type 0
Rises es = IsStrictlySortedBy order (keys_of es)

-- it is put in where there is a value
abbrev with_put : List ℕ → Option Data → Members → Members
with_put n None ms = ms
with_put n (Some d) ms = put n d ms

-- ---- a name below all others goes in front

in_front : (n l : List ℕ) (d : Data) (m : Option Data) (ms : Members) → order n l ≡ Less → put n d ms ≡ member n d ms → put n d (with_member l m ms) ≡ member n d (with_member l m ms)
in_front n l d None ms less rest = rest
in_front n l d (Some e) ms less rest = rw less refl

put-below : (g : ResultRow) (n : List ℕ) (d : Data) (es : List Entry) → AllByRecursion (λ k. order n k ≡ Less) (keys_of es) → put n d (members_by g es) ≡ member n d (members_by g es)
put-below g n d [] below = refl
put-below g n d (e ∷ es) below = in_front n e.0 d (data_at g e.1) (members_by g es) below.0 (put-below g n d es below.1)

below-others : (n l : List ℕ) (ks : List (List ℕ)) → order n l ≡ Less → AllByRecursion (λ k. order l k ≡ Less) ks → AllByRecursion (λ k. order n k ≡ Less) ks
below-others n l [] less above = tt
below-others n l (k ∷ ks) less above = (nat_list_cmp_total.trans n l k less above.0, below-others n l ks less above.1)

-- ---- one more name that isn't there

none-there : (n : List ℕ) (m : Option Data) → with_member n m no_members ≡ with_put n m no_members
none-there n None = refl
none-there n (Some d) = refl

at-front : (n : List ℕ) (m : Option Data) (ms : Members) → ((d : Data) → put n d ms ≡ member n d ms) → with_member n m ms ≡ with_put n m ms
at-front n None ms h = refl
at-front n (Some d) ms h = sym (h d)

past-first : (n l : List ℕ) (m e : Option Data) (ms : Members) → order n l ≡ Greater → with_member l e (with_put n m ms) ≡ with_put n m (with_member l e ms)
past-first n l None e ms greater = refl
past-first n l (Some d) None ms greater = refl
past-first n l (Some d) (Some e) ms greater = rw greater refl

not-equal : (n l : List ℕ) → order n l ≡ Equal → bytes_eq n l ≡ false → ⊥
not-equal n l equal apart = true≢false (sym (ap is_eq equal) ∙ is_eq-slice_cmp n l ∙ apart)

module _ (g : ResultRow) (n : List ℕ) (p : Place) where
  at-place : (e : Entry) (es : List Entry) → Rises (e ∷ es) → bytes_eq n e.0 ≡ false → members_by g (put_in es n p) ≡ with_put n (data_at g p) (members_by g es)
      → (o : Ordering) → order n e.0 ≡ o → members_by g (match_ordering o ((n, p) ∷ e ∷ es) ((e.0, p) ∷ es) (e ∷ put_in es n p)) ≡ with_put n (data_at g p) (members_by g (e ∷ es))
  unfolding IsStrictlySortedBy
  at-place e es rises apart rest Less is = at-front n (data_at g p) (members_by g (e ∷ es)) (λ d. put-below g n d (e ∷ es) (is, below-others n e.0 (keys_of es) is rises.0))
  at-place e es rises apart rest Equal is = absurd (not-equal n e.0 is apart)
  at-place e es rises apart rest Greater is = ap (with_member e.0 (data_at g e.1)) rest ∙ past-first n e.0 (data_at g p) (data_at g e.1) (members_by g es) is

  members-put_in : (es : List Entry) → Rises es → AllByRecursion (λ k. bytes_eq n k ≡ false) (keys_of es) → members_by g (put_in es n p) ≡ with_put n (data_at g p) (members_by g es)
  members-put_in [] rises apart = none-there n (data_at g p)
  members-put_in (e ∷ es) rises apart = at-place e es rises apart.0 (members-put_in es (sorted_tail order e.0 (keys_of es) rises) apart.1) (order n e.0) refl

all-put_in : (P : List ℕ → Type 0) (n : List ℕ) (p : Place) (es : List Entry) → AllByRecursion P (keys_of es) → P n → AllByRecursion P (keys_of (put_in es n p))
all-put_in P n p [] all here = (here, tt)
all-put_in P n p (e ∷ es) all here =
    elim (order n e.0) as (λ o. AllByRecursion P (keys_of (match_ordering o ((n, p) ∷ e ∷ es) ((e.0, p) ∷ es) (e ∷ put_in es n p)))) [
      | Less ↦ (here, all)
      | Equal ↦ all
      | Greater ↦ (all.0, all-put_in P n p es all.1 here)
    ]

rises-at : (n : List ℕ) (p : Place) (e : Entry) (es : List Entry) → Rises (e ∷ es) → Rises (put_in es n p) → (o : Ordering) → order n e.0 ≡ o → Rises (match_ordering o ((n, p) ∷ e ∷ es) ((e.0, p) ∷ es) (e ∷ put_in es n p))
unfolding IsStrictlySortedBy
rises-at n p e es rises rest Less is = ((is, below-others n e.0 (keys_of es) is rises.0), rises)
rises-at n p e es rises rest Equal is = rises
rises-at n p e es rises rest Greater is =
    let above : order e.0 n ≡ Less = nat_list_cmp_total.antisymm e.0 n ∙ ap ordering_reverse is in
    (all-put_in (λ k. order e.0 k ≡ Less) n p es rises.0 above, rest)

rises-put_in : (n : List ℕ) (p : Place) (es : List Entry) → Rises es → Rises (put_in es n p)
unfolding IsStrictlySortedBy
rises-put_in n p [] rises = (tt, tt)
rises-put_in n p (e ∷ es) rises = rises-at n p e es rises (rises-put_in n p es (sorted_tail order e.0 (keys_of es) rises)) (order n e.0) refl

-- ---- the names that are yet to come

abbrev AllApart : List Entry → List (List ℕ) → Type 0
AllApart es ns = AllByRecursion (λ n. AllByRecursion (λ k. bytes_eq n k ≡ false) (keys_of es)) ns

-- names in order, and names to put in
record Ready (es : List Entry) (ns : List (List ℕ)) : Type 0 where
  rises : Rises es
  apart : AllApart es ns
  distinct : IsDistinct bytes_eq ns

apart-put_in : (n : List ℕ) (p : Place) (es : List Entry) (ns : List (List ℕ)) → AllApart es ns → AllByRecursion (λ k. bytes_eq n k ≡ false) ns → AllApart (put_in es n p) ns
apart-put_in n p es [] apart others = tt
apart-put_in n p es (m ∷ ms) apart others =
    (all-put_in (λ k. bytes_eq m k ≡ false) n p es apart.0 (nat_list_eq_equiv.symm m n ∙ others.0), apart-put_in n p es ms apart.1 others.1)

ready-put_in : (n : List ℕ) (p : Place) (es : List Entry) (ns : List (List ℕ)) → Ready es (n ∷ ns) → Ready (put_in es n p) ns
ready-put_in n p es ns r = record {
  rises = rises-put_in n p es r.rises;
  apart = apart-put_in n p es ns r.apart.1 (IsDistinct-head bytes_eq n ns r.distinct);
  distinct = IsDistinct-tail bytes_eq n ns r.distinct;
}

apart-none : (ns : List (List ℕ)) → AllApart [] ns
apart-none [] = tt
apart-none (n ∷ ns) = (tt, apart-none ns)

ready-none : (ns : List (List ℕ)) → IsDistinct bytes_eq ns → Ready [] ns
unfolding IsStrictlySortedBy
ready-none ns distinct = record { rises = tt; apart = apart-none ns; distinct = distinct }

-- ---- one output of a list after another

with_dims-none : (members : Members) (ds : List Dimension) → with_dims members ds [] ≡ members
with_dims-none ms [] = refl
with_dims-none ms (d ∷ ds) = refl

with_values-none : (members : Members) (aggregations : List Aggregation) → with_values members aggregations [] ≡ members
with_values-none ms [] = refl
with_values-none ms (a ∷ more) = refl

dims-more : (members : Members) (d : Dimension) (ds : List Dimension) (dims : List (List ℕ)) (i : ℕ) → with_dims (with_put d.name (option_map dimension_data (slice_get dims i)) members) ds (drop (i + 1) dims) ≡ with_dims members (d ∷ ds) (drop i dims)
dims-more members d ds dims i =
    elim (slice_get_cases dims i).1 [
      | inl w ↦ rw (w.2, drop_more dims i w.0 w.1, w.3) refl
      | inr w ↦ rw (w.1, drop_all i dims w.0, drop_all (i + 1) dims (omega arith)) (with_dims-none members ds)
    ]

values-more : (members : Members) (a : Aggregation) (more : List Aggregation) (values : List ℤ) (i : ℕ) → with_values (with_put a.name (option_map (λ v. number (of_integer v)) (slice_get values i)) members) more (drop (i + 1) values) ≡ with_values members (a ∷ more) (drop i values)
values-more members a more values i =
    elim (slice_get_cases values i).1 [
      | inl w ↦ rw (w.2, drop_more values i w.0 w.1, w.3) refl
      | inr w ↦ rw (w.1, drop_all i values w.0, drop_all (i + 1) values (omega arith)) (with_values-none members more)
    ]

module _ (g : ResultRow) where
  members-dims : (ds : List Dimension) (i : ℕ) (es : List Entry) (ns : List (List ℕ)) → Ready es (dimension_names ds ++ ns)
      → (members_by g (with_places dim_at i es (dimension_names ds)) ≡ with_dims (members_by g es) ds (drop i g.dims)) × Ready (with_places dim_at i es (dimension_names ds)) ns
  members-dims [] i es ns r = (refl, r)
  members-dims (d ∷ ds) i es ns r =
      let rest = members-dims ds (i + 1) (put_in es d.name (dim_at i)) ns (ready-put_in d.name (dim_at i) es (dimension_names ds ++ ns) r) in
      (rest.0 ∙ ap (λ ms. with_dims ms ds (drop (i + 1) g.dims)) (members-put_in g d.name (dim_at i) es r.rises r.apart.0) ∙ dims-more (members_by g es) d ds g.dims i, rest.1)

  members-values : (aggregations : List Aggregation) (i : ℕ) (es : List Entry) → Ready es (aggregation_names aggregations)
      → members_by g (with_places value_at i es (aggregation_names aggregations)) ≡ with_values (members_by g es) aggregations (drop i g.values)
  members-values [] i es r = refl
  members-values (a ∷ more) i es r =
      members-values more (i + 1) (put_in es a.name (value_at i)) (ready-put_in a.name (value_at i) es (aggregation_names more) r)
      ∙ ap (λ ms. with_values ms more (drop (i + 1) g.values)) (members-put_in g a.name (value_at i) es r.rises r.apart.0) ∙ values-more (members_by g es) a more g.values i

-- the members at the outputs in the order of their names are those of the definition
pub members-in_order : (q : Asked) (g : ResultRow) (es : List Entry) (os : List Output) → IsDistinct bytes_eq (outputs q) → es ≡ with_places value_at 0 (with_places dim_at 0 [] (dimension_names (dimensions_by q.shape))) (aggregation_names q.aggregations)
    → os ≡ map output_of es → members_at g os ≡ members_of q g
members-in_order q g es os distinct is_es is_os =
    let dims = members-dims g (dimensions_by q.shape) 0 [] (aggregation_names q.aggregations) (ready-none (outputs q) distinct) in
    let placed = with_places dim_at 0 [] (dimension_names (dimensions_by q.shape)) in
    ap (members_at g) is_os ∙ ap (members_by g) is_es ∙ members-values g q.aggregations 0 placed dims.1 ∙ ap (λ ms. with_values ms q.aggregations g.values) dims.0
