-- Rows that are added to those that are told of, test by test.
use Rattle.std.proofs.Common.{◌≡◌, ◌∙◌, sym, refl, ap, subst, ℕ, ◌+◌, ◌<◌, ◌≤◌, ◌||◌, Bool, true, false, List, [], ◌∷◌, ◌++◌, length, get_or, take, map, arith}
use Rattle.std.specs.List.{list_any}
use Rattle.std.proofs.Math.ListN.{get_or-map}
use Rattle.std.proofs.lemmas.List.{take_more, take_all, length-map, get_or_default}
use Rattle.std.proofs.lemmas.List.Folds.{list_any-append}
use Rattle.dr_rowindex.specs.Orders.{Adds}

or_false : (b : Bool) → (b || false) ≡ b
or_false true = refl
or_false false = refl

module _ {V : Type 0} (values : List V) where
  pub adds-none : (f : V → Bool) (set : List Bool) → ((v : V) → f v ≡ false) → Adds f values set set
  adds-none f set fails = record { count = refl; each = λ i v lt. sym (ap (λ b. get_or set i false || b) (fails (get_or values i v)) ∙ or_false (get_or set i false)) }

  pub adds-both : (f g h : V → Bool) (a b c : List Bool) → Adds f values a b → Adds g values b c → ((v : V) → h v ≡ (f v || g v)) → Adds h values a c
  adds-both f g h a b c first second is = record {
    count = second.count ∙ first.count;
    each = λ i v lt.
        second.each i v lt ∙ ap (λ x. x || g (get_or values i v)) (first.each i v lt)
        ∙ regroups (get_or a i false) (f (get_or values i v)) (g (get_or values i v)) ∙ ap (λ x. get_or a i false || x) (sym (is (get_or values i v)));
  }
    where
      regroups : (x y z : Bool) → ((x || y) || z) ≡ (x || (y || z))
      regroups true y z = refl
      regroups false y z = refl

  pub adds-same : (f g : V → Bool) (a b : List Bool) → ((v : V) → f v ≡ g v) → Adds f values a b → Adds g values a b
  adds-same f g a b same was = record { count = was.count; each = λ i v lt. was.each i v lt ∙ ap (λ x. get_or a i false || x) (same (get_or values i v)) }

  -- one more of some things of which one is to hold
  pub one-more : {X : Type 0} (p : X → V → Bool) (xs : List X) (i : ℕ) (x : X) (a b c : List Bool) → i < length xs → x ≡ get_or xs i x
      → Adds (λ v. list_any (λ y. p y v) (take i xs)) values a b → Adds (p x) values b c → Adds (λ v. list_any (λ y. p y v) (take (i + 1) xs)) values a c
  one-more p xs i x a b c lt is first second =
      adds-both (λ v. list_any (λ y. p y v) (take i xs)) (p x) (λ v. list_any (λ y. p y v) (take (i + 1) xs)) a b c first second
      (λ v. ap (list_any (λ y. p y v)) (take_more xs i x lt ∙ ap (λ y. take i xs ++ y ∷ []) (sym is)) ∙ list_any-append (λ y. p y v) (take i xs) (x ∷ [])
      ∙ ap (λ z. list_any (λ y. p y v) (take i xs) || z) (or_false (p x v)))

  pub all-of : {X : Type 0} (p : X → V → Bool) (xs : List X) (i : ℕ) (a b : List Bool) → length xs ≤ i
      → Adds (λ v. list_any (λ y. p y v) (take i xs)) values a b → Adds (λ v. list_any (λ y. p y v) xs) values a b
  all-of p xs i a b le was = subst (λ l. Adds (λ v. list_any (λ y. p y v) l) values a b) (take_all i xs le) was

-- a member of a list that another one was made from, one by one
pub mapped-at : {X Y : Type 0} (f : X → Y) (xs : List X) (ys : List Y) (i : ℕ) (x : X) (y : Y) → map f xs ≡ ys → i < length xs → x ≡ get_or xs i x → y ≡ f x → (i < length ys) × (y ≡ get_or ys i y)
mapped-at f xs ys i x y made lt is same =
    let long : i < length (map f xs) = omega (arith, lt, length-map xs f) in
    subst (λ l. (i < length l) × (y ≡ get_or l i y)) made
    (long, same ∙ ap f is ∙ sym (get_or-map f xs i x) ∙ get_or_default (map f xs) i (f x) y long)
