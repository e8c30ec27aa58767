-- Texts that ascend, each once.
use Rattle.std.proofs.Common.{◌≡◌, ◌∙◌, sym, refl, ap, ℕ, zero, suc, ◌<◌, Bool, true, false, ◌||◌, cond, List, [], ◌∷◌, length, get_or, bytes_eq, arith, true≢false}
use Rattle.std.specs.List.{list_any, AllByRecursion}
use Rattle.std.specs.declared.cmp.Ordering.{Ordering}
use Rattle.std.specs.declared.cmp.Ordering.TheVariants.{Less, Equal, Greater}
use Rattle.std.specs.Ordering.{nat_cmp, is_lt, ordering_reverse}
use Rattle.std.specs.Cmp.Lexicographic.{slice_cmp, nat_list_cmp_total, nat_list_eq_equiv, bytes_decides}
use Rattle.std.specs.FinMap.{nat_cmp-IsAntisymmetric, slice_cmp-IsAntisymmetric}
use Rattle.std.proofs.lemmas.Cmp.{tied_itself}
use Rattle.std.proofs.lemmas.Bool.{and_parts, and_from}
use Rattle.dr_image.specs.Sealed.{each_next}
use Rattle.dr_image.specs.Opening.{is_below}
use Rattle.dr_image.specs.Image.{with_value, dictionary_of, number_in}

abbrev cmp : List ℕ → List ℕ → Ordering
cmp a b = slice_cmp nat_cmp a b

pub less_from : (o : Ordering) → is_lt o ≡ true → o ≡ Less
less_from Less h = refl
less_from Equal h = absurd (true≢false (sym h))
less_from Greater h = absurd (true≢false (sym h))

pub below_through : (a b c : List ℕ) → is_below a b ≡ true → is_below b c ≡ true → is_below a c ≡ true
below_through a b c ab bc = ap is_lt (nat_list_cmp_total.trans a b c (less_from (cmp a b) ab) (less_from (cmp b c) bc))

pub below_not_same : (a b : List ℕ) → is_below a b ≡ true → bytes_eq a b ≡ false
below_not_same a b less =
    elim (bytes_eq a b) as (λ t. bytes_eq a b ≡ t → t ≡ false)
    [ true ↦ λ e. let same : a ≡ b = (bytes_decides a b).0 e in absurd (true≢false (sym less ∙ ap (λ x. is_below x b) same ∙ ap is_lt (tied_itself nat_list_cmp_total b))) | false ↦ λ e. refl ]
    refl

pub same_itself : (a : List ℕ) → bytes_eq a a ≡ true
same_itself a = nat_list_eq_equiv.refl a

pub same_back : (a b : List ℕ) → bytes_eq a b ≡ false → bytes_eq b a ≡ false
same_back a b h = nat_list_eq_equiv.symm b a ∙ h

-- every text is above
abbrev pub AllAbove : List ℕ → List (List ℕ) → Type 0
AllAbove x ys = AllByRecursion (λ y. is_below x y ≡ true) ys

above_through : (x y : List ℕ) (ys : List (List ℕ)) → is_below x y ≡ true → AllAbove y ys → AllAbove x ys
above_through x y [] less all = tt
above_through x y (z ∷ zs) less all = (below_through x y z less all.0, above_through x y zs less all.1)

-- the first of texts that ascend is below the others
pub first_below : (x : List ℕ) (xs : List (List ℕ)) → each_next is_below (x ∷ xs) ≡ true → AllAbove x xs
unfolding each_next
first_below x [] up = tt
first_below x (y ∷ ys) up =
    let p = and_parts _ _ up in
    (p.0, above_through x y ys p.0 (first_below y ys p.1))

pub rest_ascends : (x : List ℕ) (xs : List (List ℕ)) → each_next is_below (x ∷ xs) ≡ true → each_next is_below xs ≡ true
unfolding each_next
rest_ascends x [] up = refl
rest_ascends x (y ∷ ys) up = (and_parts _ _ up).1

-- a text below all isn't there
pub not_above : (t : List ℕ) (xs : List (List ℕ)) → AllAbove t xs → list_any (bytes_eq t) xs ≡ false
not_above t [] all = refl
not_above t (x ∷ xs) all = ap (λ b. b || list_any (bytes_eq t) xs) (below_not_same t x all.0) ∙ not_above t xs all.1

first_there : (t : List ℕ) (ts : List (List ℕ)) → list_any (bytes_eq t) (t ∷ ts) ≡ true
first_there t ts = ap (λ b. b || list_any (bytes_eq t) ts) (same_itself t)

-- texts that ascend are told by which they are
pub same_ascending : (xs ys : List (List ℕ)) → each_next is_below xs ≡ true → each_next is_below ys ≡ true → ((t : List ℕ) → list_any (bytes_eq t) xs ≡ list_any (bytes_eq t) ys) → xs ≡ ys
same_ascending [] [] ox oy alike = refl
same_ascending [] (y ∷ ys) ox oy alike = absurd (true≢false (sym (first_there y ys) ∙ sym (alike y)))
same_ascending (x ∷ xs) [] ox oy alike = absurd (true≢false (sym (first_there x xs) ∙ alike x))
same_ascending (x ∷ xs) (y ∷ ys) ox oy alike =
    elim (cmp x y) as (λ o. cmp x y ≡ o → (x ∷ xs) ≡ (y ∷ ys)) [
      | Less ↦ λ t. absurd (true≢false (sym (first_there x xs) ∙ alike x ∙ not_above x (y ∷ ys) (ap is_lt t, above_through x y ys (ap is_lt t) (first_below y ys oy))))
      | Equal ↦ λ t.
          let same : x ≡ y = slice_cmp-IsAntisymmetric nat_cmp-IsAntisymmetric x y t in
          let rest : (u : List ℕ) → list_any (bytes_eq u) xs ≡ list_any (bytes_eq u) ys = λ u.
          elim (bytes_eq u x) as (λ b. bytes_eq u x ≡ b → list_any (bytes_eq u) xs ≡ list_any (bytes_eq u) ys) [
            | true ↦ λ e.
                let is_x : u ≡ x = (bytes_decides u x).0 e in
                let out_x : list_any (bytes_eq u) xs ≡ false = ap (λ v. list_any (bytes_eq v) xs) is_x ∙ not_above x xs (first_below x xs ox) in
                let out_y : list_any (bytes_eq u) ys ≡ false = ap (λ v. list_any (bytes_eq v) ys) (is_x ∙ same) ∙ not_above y ys (first_below y ys oy) in
                out_x ∙ sym out_y
            | false ↦ λ e.
                let e' : bytes_eq u y ≡ false = ap (bytes_eq u) (sym same) ∙ e in
                sym (ap (λ b. b || list_any (bytes_eq u) xs) e) ∙ alike u ∙ ap (λ b. b || list_any (bytes_eq u) ys) e'
          ]
          refl in
          λ i. same i ∷ same_ascending xs ys (rest_ascends x xs ox) (rest_ascends y ys oy) rest i
      | Greater ↦ λ t.
          let less : cmp y x ≡ Less = nat_list_cmp_total.antisymm y x ∙ ap ordering_reverse t in
          absurd (true≢false (sym (first_there y ys) ∙ sym (alike y) ∙ not_above y (x ∷ xs) (ap is_lt less, above_through y x xs (ap is_lt less) (first_below x xs ox))))
    ]
    refl

-- ---- the dictionary of texts

next_from : (x y : List ℕ) (ys : List (List ℕ)) → is_below x y ≡ true → each_next is_below (y ∷ ys) ≡ true → each_next is_below (x ∷ y ∷ ys) ≡ true
unfolding each_next
next_from x y ys less up = and_from _ _ less up

abbrev put : List ℕ → List ℕ → List (List ℕ) → Bool → Bool → List (List ℕ)
put v w ws less same = cond less (v ∷ w ∷ ws) (cond same (w ∷ ws) (w ∷ with_value v ws))

put_is : (v w : List ℕ) (ws : List (List ℕ)) → with_value v (w ∷ ws) ≡ put v w ws (is_below v w) (bytes_eq v w)
unfolding with_value
put_is v w ws = refl

above_of : (v w : List ℕ) → is_below v w ≡ false → bytes_eq v w ≡ false → is_below w v ≡ true
above_of v w not_less not_same =
    elim (cmp v w) as (λ o. cmp v w ≡ o → is_below w v ≡ true) [
      | Less ↦ λ t. absurd (true≢false (sym (ap is_lt t) ∙ not_less))
      | Equal ↦ λ t. absurd (true≢false (sym ((bytes_decides v w).1 (slice_cmp-IsAntisymmetric nat_cmp-IsAntisymmetric v w t)) ∙ not_same))
      | Greater ↦ λ t. ap is_lt (nat_list_cmp_total.antisymm w v ∙ ap ordering_reverse t)
    ]
    refl

-- a text below stays below the first
stays_below : (x v : List ℕ) (ws : List (List ℕ)) → is_below x v ≡ true → each_next is_below (x ∷ ws) ≡ true → each_next is_below (with_value v ws) ≡ true → each_next is_below (x ∷ with_value v ws) ≡ true
unfolding with_value
stays_below x v [] less up more = next_from x v [] less more
stays_below x v (w ∷ ws) less up more =
    elim (is_below v w) as (λ b. each_next is_below (put v w ws b (bytes_eq v w)) ≡ true → each_next is_below (x ∷ put v w ws b (bytes_eq v w)) ≡ true) [
      | true ↦ λ up'. next_from x v (w ∷ ws) less up'
      | false ↦
          elim (bytes_eq v w) as (λ s. each_next is_below (put v w ws false s) ≡ true → each_next is_below (x ∷ put v w ws false s) ≡ true)
          [ true ↦ λ up'. up | false ↦ λ up'. next_from x w (with_value v ws) (first_below x (w ∷ ws) up).0 up' ]
    ]
    more

one_ascends : (v : List ℕ) → each_next is_below (v ∷ []) ≡ true
unfolding each_next
one_ascends v = refl

with_value_ascends : (v : List ℕ) (ws : List (List ℕ)) → each_next is_below ws ≡ true → each_next is_below (with_value v ws) ≡ true
unfolding with_value
with_value_ascends v [] up = one_ascends v
with_value_ascends v (w ∷ ws) up =
    elim (is_below v w) as (λ b. is_below v w ≡ b → each_next is_below (put v w ws b (bytes_eq v w)) ≡ true) [
      | true ↦ λ less. next_from v w ws less up
      | false ↦ λ not_less.
          elim (bytes_eq v w) as (λ s. bytes_eq v w ≡ s → each_next is_below (put v w ws false s) ≡ true) [
            | true ↦ λ same. up
            | false ↦ λ not_same. stays_below w v ws (above_of v w not_less not_same) up (with_value_ascends v ws (rest_ascends w ws up))
          ]
          refl
    ]
    refl

pub dictionary_ascends : (vs : List (List ℕ)) → each_next is_below (dictionary_of vs) ≡ true
unfolding dictionary_of each_next
dictionary_ascends [] = refl
dictionary_ascends (v ∷ vs) = with_value_ascends v (dictionary_of vs) (dictionary_ascends vs)

-- a text is there where it was put, or was before
any_with_value : (t v : List ℕ) (ws : List (List ℕ)) → list_any (bytes_eq t) (with_value v ws) ≡ (bytes_eq t v || list_any (bytes_eq t) ws)
unfolding with_value
any_with_value t v [] = refl
any_with_value t v (w ∷ ws) =
    elim (is_below v w) as (λ b. list_any (bytes_eq t) (put v w ws b (bytes_eq v w)) ≡ (bytes_eq t v || (bytes_eq t w || list_any (bytes_eq t) ws))) [
      | true ↦ refl
      | false ↦
          elim (bytes_eq v w) as (λ s. bytes_eq v w ≡ s → list_any (bytes_eq t) (put v w ws false s) ≡ (bytes_eq t v || (bytes_eq t w || list_any (bytes_eq t) ws))) [
            | true ↦ λ same. twice (bytes_eq t w) (list_any (bytes_eq t) ws) ∙ ap (λ x. bytes_eq t x || (bytes_eq t w || list_any (bytes_eq t) ws)) (sym ((bytes_decides v w).0 same))
            | false ↦ λ _. ap (λ b. bytes_eq t w || b) (any_with_value t v ws) ∙ swapped (bytes_eq t w) (bytes_eq t v) (list_any (bytes_eq t) ws)
          ]
          refl
    ]
  where
    twice : (a b : Bool) → (a || b) ≡ (a || (a || b))
    twice true b = refl
    twice false b = refl

    swapped : (a b c : Bool) → (a || (b || c)) ≡ (b || (a || c))
    swapped true true c = refl
    swapped true false c = refl
    swapped false true c = refl
    swapped false false c = refl

pub any_dictionary : (t : List ℕ) (vs : List (List ℕ)) → list_any (bytes_eq t) (dictionary_of vs) ≡ list_any (bytes_eq t) vs
unfolding dictionary_of
any_dictionary t [] = refl
any_dictionary t (v ∷ vs) = any_with_value t v (dictionary_of vs) ∙ ap (λ b. bytes_eq t v || b) (any_dictionary t vs)

-- texts that ascend and are those of a list are its dictionary
pub dictionary_is : (ds vs : List (List ℕ)) → each_next is_below ds ≡ true → ((t : List ℕ) → list_any (bytes_eq t) ds ≡ list_any (bytes_eq t) vs) → ds ≡ dictionary_of vs
dictionary_is ds vs up alike = same_ascending ds (dictionary_of vs) up (dictionary_ascends vs) (λ t. alike t ∙ sym (any_dictionary t vs))

-- ---- places

pub above_at : (x : List ℕ) (ys : List (List ℕ)) (n : ℕ) → AllAbove x ys → n < length ys → is_below x (get_or ys n []) ≡ true
above_at x [] n all lt = absurd (omega arith)
above_at x (y ∷ ys) zero all lt = all.0
above_at x (y ∷ ys) (suc n) all lt = above_at x ys n all.1 (omega arith)

-- a text has the place at which it stands among texts that ascend
pub number_at_place : (ds : List (List ℕ)) (n : ℕ) (t : List ℕ) → each_next is_below ds ≡ true → n < length ds → get_or ds n [] ≡ t → number_in ds t ≡ n
unfolding number_in
number_at_place [] n t up lt is = absurd (omega arith)
number_at_place (d ∷ ds) zero t up lt is = ap (λ b. cond b 0 (suc (number_in ds t))) ((bytes_decides t d).1 (sym is))
number_at_place (d ∷ ds) (suc n) t up lt is =
    let differs : bytes_eq t d ≡ false = same_back d t (ap (bytes_eq d) (sym is) ∙ below_not_same d (get_or ds n []) (above_at d ds n (first_below d ds up) (omega arith))) in
    ap (λ b. cond b 0 (suc (number_in ds t))) differs ∙ ap suc (number_at_place ds n t (rest_ascends d ds up) (omega arith) is)

-- and a text that is there stands at its place
pub record IsPlaced (ds : List (List ℕ)) (t : List ℕ) : Type 0 where
  pub inside : number_in ds t < length ds
  pub is : get_or ds (number_in ds t) [] ≡ t

pub placed : (ds : List (List ℕ)) (t : List ℕ) → list_any (bytes_eq t) ds ≡ true → IsPlaced ds t
unfolding number_in
placed [] t there = absurd (true≢false (sym there))
placed (d ∷ ds) t there =
    let p : (number_in (d ∷ ds) t < suc (length ds)) × (get_or (d ∷ ds) (number_in (d ∷ ds) t) [] ≡ t) = elim (bytes_eq t d) as (λ b. bytes_eq t d ≡ b → (b || list_any (bytes_eq t) ds) ≡ true → (cond b 0 (suc (number_in ds t)) < suc (length ds)) × (get_or (d ∷ ds) (cond b 0 (suc (number_in ds t))) [] ≡ t)) [
      | true ↦ λ e _. (omega arith, sym ((bytes_decides t d).0 e))
      | false ↦ λ e more. let p = placed ds t more in let inside = p.inside in (omega arith, p.is)
    ]
    refl
    there in
    record { inside = p.0; is = p.1 }
