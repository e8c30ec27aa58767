-- A stable sort puts values in order.
use Rattle.std.proofs.Common.{◌≡◌, ◌∙◌, sym, refl, ap, subst, ℕ, suc, ◌+◌, ◌<◌, ◌&&◌, not, Bool, true, false, cond, List, [], ◌∷◌, ◌++◌, length, get_or, arith, append_assoc, filter}
use Rattle.std.specs.List.{fold, AllByRecursion}
use Rattle.std.specs.List.Sorted.{IsSortedBy, IsStableBy, ties}
use Rattle.std.specs.Cmp.{IsTotalOrder}
use Rattle.std.specs.declared.cmp.Ordering.{Ordering}
use Rattle.std.specs.declared.cmp.Ordering.TheVariants.{Less, Equal, Greater}
use Rattle.std.specs.Ordering.{is_lt, is_eq, match_ordering, ordering_reverse}
use Rattle.std.proofs.lemmas.Cmp.{tied_itself, tied_back}
use Rattle.std.proofs.lemmas.List.{append-nil}
use Rattle.std.proofs.lemmas.List.Elements.{filter-append}
use Rattle.std.proofs.lemmas.List.Sorted.{sorted_far, ranks_by}
use Rattle.dr_answers.specs.InOrder.{put_by, in_order_by}

module _ {A : Type 0} (cmp : A → A → Ordering) (total : IsTotalOrder cmp) where
  -- the values that compare as equal with one
  abbrev alike : A → List A → List A
  alike q gs = filter (λ g. is_eq (cmp q g)) gs

  -- no later group comes before an earlier one
  abbrev IsInOrder : List A → Type 0
  IsInOrder [] = Unit {0}
  IsInOrder (g ∷ gs) = AllByRecursion (λ h. is_lt (cmp h g) ≡ false) gs × IsInOrder gs

  implied : (P Q : A → Type 0) → ((g : A) → P g → Q g) → (gs : List A) → AllByRecursion P gs → AllByRecursion Q gs
  implied P Q f [] all = tt
  implied P Q f (g ∷ gs) all = (f g all.0, implied P Q f gs all.1)

  less_back : (a b : A) → cmp a b ≡ Less → cmp b a ≡ Greater
  less_back a b h = total.antisymm b a ∙ ap ordering_reverse h

  greater_back : (a b : A) → cmp a b ≡ Greater → cmp b a ≡ Less
  greater_back a b h = total.antisymm b a ∙ ap ordering_reverse h

  -- what is before another isn't alike with what isn't before that
  before_differs : (q x y : A) → cmp q x ≡ Less → is_lt (cmp y x) ≡ false → is_eq (cmp q y) ≡ false
  before_differs q x y less h =
      elim (cmp q y) as (λ o. cmp q y ≡ o → is_eq o ≡ false)
      [ Less ↦ λ t. refl | Equal ↦ λ t. ap is_lt (sym less) ∙ ap is_lt (total.congr q y x t) ∙ h | Greater ↦ λ t. refl ] refl

  -- what isn't before a value isn't before one that is before that
  not_before : (r x y : A) → cmp r x ≡ Less → is_lt (cmp y x) ≡ false → is_lt (cmp y r) ≡ false
  not_before r x y less h =
      elim (cmp y r) as (λ o. cmp y r ≡ o → is_lt o ≡ false)
      [ Less ↦ λ t. ap is_lt (sym (total.trans y r x t less)) ∙ h | Equal ↦ λ t. refl | Greater ↦ λ t. refl ] refl

  -- ---- a list in order is known by what is alike in it

  alike_equal : (q x : A) (xs : List A) → cmp q x ≡ Equal → alike q (x ∷ xs) ≡ x ∷ alike q xs
  alike_equal q x xs t = ap (λ o. cond (is_eq o) (x ∷ alike q xs) (alike q xs)) t

  alike_none : (q : A) (xs : List A) → AllByRecursion (λ x. is_eq (cmp q x) ≡ false) xs → alike q xs ≡ []
  alike_none q [] all = refl
  alike_none q (x ∷ xs) all = ap (λ b. cond b (x ∷ alike q xs) (alike q xs)) all.0 ∙ alike_none q xs all.1

  none_before : (q x : A) (xs : List A) → IsInOrder (x ∷ xs) → cmp q x ≡ Less → alike q (x ∷ xs) ≡ []
  none_before q x xs ord t =
      ap (λ o. cond (is_eq o) (x ∷ alike q xs) (alike q xs)) t
      ∙ alike_none q xs (implied (λ y. is_lt (cmp y x) ≡ false) (λ y. is_eq (cmp q y) ≡ false) (λ y h. before_differs q x y t h) xs ord.0)

  same_rest : (b : Bool) (x y : A) (xs ys : List A) → cond b (x ∷ xs) xs ≡ cond b (y ∷ ys) ys → xs ≡ ys
  same_rest true x y xs ys e = cc
  same_rest false x y xs ys e = e

  same_values : (a b : List A) → IsInOrder a → IsInOrder b → ((q : A) → alike q a ≡ alike q b) → a ≡ b
  same_values [] [] oa ob e = refl
  same_values [] (y ∷ ys) oa ob e = let h : [] ≡ y ∷ alike y ys = e y ∙ alike_equal y y ys (tied_itself total y) in cc
  same_values (x ∷ xs) [] oa ob e = let h : x ∷ alike x xs ≡ [] = sym (alike_equal x x xs (tied_itself total x)) ∙ e x in cc
  same_values (x ∷ xs) (y ∷ ys) oa ob e =
      elim (cmp x y) as (λ o. cmp x y ≡ o → (x ∷ xs) ≡ (y ∷ ys)) [
        | Less ↦ λ t. let h : x ∷ alike x xs ≡ [] = sym (alike_equal x x xs (tied_itself total x)) ∙ e x ∙ none_before x y ys ob t in cc
        | Equal ↦ λ t.
            let h : x ∷ alike x xs ≡ y ∷ alike x ys = sym (alike_equal x x xs (tied_itself total x)) ∙ e x ∙ alike_equal x y ys t in
            let same : x ≡ y = cc in
            let rest : (q : A) → alike q xs ≡ alike q ys = λ q.
            same_rest (is_eq (cmp q x)) x y (alike q xs) (alike q ys) (e q ∙ ap (λ (z : A). cond (is_eq (cmp q z)) (y ∷ alike q ys) (alike q ys)) (sym same)) in
            λ i. same i ∷ same_values xs ys oa.1 ob.1 rest i
        | Greater ↦ λ t. let h : y ∷ alike y ys ≡ [] = sym (alike_equal y y ys (tied_itself total y)) ∙ sym (e y) ∙ none_before y x xs oa (greater_back x y t) in cc
      ]
      refl

  -- ---- one more value

  all-put : (P : A → Type 0) (gs : List A) (g : A) → AllByRecursion P gs → P g → AllByRecursion P (put_by cmp gs g)
  all-put P [] g all one = (one, tt)
  all-put P (h ∷ hs) g all one =
      let more = all-put P hs g all.1 one in
      elim (cmp g h) as (λ o. AllByRecursion P (match_ordering o (g ∷ h ∷ hs) (h ∷ put_by cmp hs g) (h ∷ put_by cmp hs g)))
      [ Less ↦ (one, all) | Equal ↦ (all.0, more) | Greater ↦ (all.0, more) ]

  IsInOrder-put : (gs : List A) (g : A) → IsInOrder gs → IsInOrder (put_by cmp gs g)
  IsInOrder-put [] g ord = (tt, tt)
  IsInOrder-put (h ∷ hs) g ord =
      let behind : is_lt (cmp g h) ≡ false → IsInOrder (h ∷ put_by cmp hs g) =
      λ e. (all-put (λ k. is_lt (cmp k h) ≡ false) hs g ord.0 e, IsInOrder-put hs g ord.1) in
      elim (cmp g h) as (λ o. cmp g h ≡ o → IsInOrder (match_ordering o (g ∷ h ∷ hs) (h ∷ put_by cmp hs g) (h ∷ put_by cmp hs g))) [
        | Less ↦ λ t. ((ap is_lt (less_back g h t), implied (λ y. is_lt (cmp y h) ≡ false) (λ y. is_lt (cmp y g) ≡ false) (λ y e. not_before g h y t e) hs ord.0), ord)
        | Equal ↦ λ t. behind (ap is_lt t)
        | Greater ↦ λ t. behind (ap is_lt t)
      ]
      refl

  -- a value that is put before others which come after it
  put_first : (q g h : A) (hs : List A) → IsInOrder (h ∷ hs) → cmp g h ≡ Less → alike q (g ∷ h ∷ hs) ≡ alike q (h ∷ hs) ++ alike q (g ∷ [])
  put_first q g h hs ord less =
      elim (cmp q g) as (λ o. cmp q g ≡ o → cond (is_eq o) (g ∷ alike q (h ∷ hs)) (alike q (h ∷ hs)) ≡ alike q (h ∷ hs) ++ cond (is_eq o) (g ∷ []) []) [
        | Less ↦ λ t. sym (append-nil (alike q (h ∷ hs)))
        | Equal ↦ λ t. let none : alike q (h ∷ hs) ≡ [] = none_before q h hs ord (total.congr q g h t ∙ less) in ap (λ l. g ∷ l) none ∙ ap (λ l. l ++ g ∷ []) (sym none)
        | Greater ↦ λ t. sym (append-nil (alike q (h ∷ hs)))
      ]
      refl

  alike-put : (q : A) (gs : List A) (g : A) → IsInOrder gs → alike q (put_by cmp gs g) ≡ alike q gs ++ alike q (g ∷ [])
  alike-put q [] g ord = refl
  alike-put q (h ∷ hs) g ord =
      let more = alike-put q hs g ord.1 in
      let behind : alike q (h ∷ put_by cmp hs g) ≡ alike q (h ∷ hs) ++ alike q (g ∷ []) =
      elim (is_eq (cmp q h)) as (λ b. cond b (h ∷ alike q (put_by cmp hs g)) (alike q (put_by cmp hs g)) ≡ cond b (h ∷ alike q hs) (alike q hs) ++ alike q (g ∷ []))
      [ true ↦ ap (λ l. h ∷ l) more | false ↦ more ] in
      elim (cmp g h) as (λ o. cmp g h ≡ o → alike q (match_ordering o (g ∷ h ∷ hs) (h ∷ put_by cmp hs g) (h ∷ put_by cmp hs g)) ≡ alike q (h ∷ hs) ++ alike q (g ∷ []))
      [ Less ↦ λ t. put_first q g h hs ord t | Equal ↦ λ t. behind | Greater ↦ λ t. behind ] refl

  -- ---- values put in one by one

  IsInOrder-fold : (done gs : List A) → IsInOrder done → IsInOrder (fold (put_by cmp) done gs)
  IsInOrder-fold done [] ord = ord
  IsInOrder-fold done (g ∷ gs) ord = IsInOrder-fold (put_by cmp done g) gs (IsInOrder-put done g ord)

  alike-fold : (q : A) (done gs : List A) → IsInOrder done → alike q (fold (put_by cmp) done gs) ≡ alike q done ++ alike q gs
  alike-fold q done [] ord = sym (append-nil (alike q done))
  alike-fold q done (g ∷ gs) ord =
      alike-fold q (put_by cmp done g) gs (IsInOrder-put done g ord)
      ∙ ap (λ l. l ++ alike q gs) (alike-put q done g ord)
      ∙ append_assoc (alike q done) (alike q (g ∷ [])) (alike q gs)
      ∙ ap (λ l. alike q done ++ l) (sym (filter-append (λ h. is_eq (cmp q h)) (g ∷ []) gs))

  all-fold : (P : A → Type 0) (done gs : List A) → AllByRecursion P done → AllByRecursion P gs → AllByRecursion P (fold (put_by cmp) done gs)
  all-fold P done [] all each = all
  all-fold P done (g ∷ gs) all each = all-fold P (put_by cmp done g) gs (all-put P done g all each.0) each.1

  -- what holds of each value holds of each once they are in order
  pub all-in_order : (P : A → Type 0) (gs : List A) → AllByRecursion P gs → AllByRecursion P (in_order_by cmp gs)
  all-in_order P gs each = all-fold P [] gs tt each

  -- ---- a stable sort

  next : (k : ℕ) → suc k + 1 ≡ suc (k + 1)
  next k = omega arith

  all_from_places : (P : A → Type 0) (xs : List A) (d : A) → ((k : ℕ) → k < length xs → P (get_or xs k d)) → AllByRecursion P xs
  all_from_places P [] d each = tt
  all_from_places P (x ∷ xs) d each = (each 0 (omega arith), all_from_places P xs d (λ k lt. each (suc k) (omega arith)))

  IsInOrder-from_sorted : (xs : List A) → IsSortedBy (λ a b. is_lt (cmp a b)) xs → IsInOrder xs
  IsInOrder-from_sorted [] up = tt
  IsInOrder-from_sorted (x ∷ xs) up = (
    all_from_places (λ y. is_lt (cmp y x) ≡ false) xs x (λ k lt. sorted_far (λ a b. is_lt (cmp a b)) (ranks_by total (λ (g : A). g)) (x ∷ xs) up 0 (suc k) x (omega arith) (omega arith)),
    IsInOrder-from_sorted xs (λ k d low lt. subst (λ n. is_lt (cmp (get_or (x ∷ xs) n d) (get_or xs k d)) ≡ false) (next k) (up (suc k) d (omega arith) (omega arith))),
  )

  tied : (q g : A) → ties (λ a b. is_lt (cmp a b)) q g ≡ is_eq (cmp q g)
  tied q g =
      elim (cmp q g) as (λ o. cmp q g ≡ o → (not (is_lt o) && not (is_lt (cmp g q))) ≡ is_eq o) [
        | Less ↦ λ t. refl
        | Equal ↦ λ t. ap (λ o. not (is_lt o)) (tied_back total q g t)
        | Greater ↦ λ t. ap (λ o. not (is_lt o)) (greater_back q g t)
      ]
      refl

  same_test : (p q : A → Bool) → ((g : A) → p g ≡ q g) → (gs : List A) → filter p gs ≡ filter q gs
  same_test p q e [] = refl
  same_test p q e (g ∷ gs) = λ i. cond (e g i) (g ∷ same_test p q e gs i) (same_test p q e gs i)

  alike-stable : (xs ys : List A) → IsStableBy (λ a b. is_lt (cmp a b)) xs ys → (q : A) → alike q ys ≡ alike q xs
  alike-stable xs ys stable q =
      let p : A → Bool = ties (λ a b. is_lt (cmp a b)) q in
      sym (same_test p (λ g. is_eq (cmp q g)) (tied q) ys) ∙ stable q ∙ same_test p (λ g. is_eq (cmp q g)) (tied q) xs

  -- values that were sorted, those alike in their order, are the values in order
  pub in_order-sorted : (xs ys : List A) → IsSortedBy (λ a b. is_lt (cmp a b)) ys → IsStableBy (λ a b. is_lt (cmp a b)) xs ys → ys ≡ in_order_by cmp xs
  in_order-sorted xs ys up stable =
      same_values ys (in_order_by cmp xs) (IsInOrder-from_sorted ys up) (IsInOrder-fold [] xs tt)
      (λ q. alike-stable xs ys stable q ∙ sym (alike-fold q [] xs tt))
