-- The span of rows is known by their keys.
use Rattle.std.proofs.Common.{◌≡◌, ◌∙◌, sym, refl, ap, subst, ℤ, Bool, true, List, [], ◌∷◌, map, Option, Some, None, ◌||◌, arith}
use Rattle.std.specs.Int.{int_min, int_max}
use Rattle.std.specs.List.{list_any, fold, AllByRecursion}
use Rattle.std.specs.declared.cmp.Ordering.TheVariants.{Less, Equal, Greater}
use Rattle.std.specs.Ordering.{is_eq, eq_by_cmp}
use Rattle.std.proofs.lemmas.Int.{ints, clamps}
use Rattle.dr_base.specs.declared.key.Key.{Key}
use Rattle.dr_base.specs.declared.row.Row.{Row}
use Rattle.dr_base.specs.Order.{key_cmp}
use Rattle.dr_agg.specs.CombinationLaws.{int_min-assoc, int_min-comm, int_max-assoc, int_max-comm}
use Rattle.dr_agg.proofs.KeyOrder.{same_key, itself}
use Rattle.dr_answers.specs.Span.{wider, span}
use Rattle.dr_base.proofs.Truths.{or_true}

int_min-same : (a : ℤ) → int_min a a ≡ a
int_min-same a = omega (arith, ints, clamps)

int_max-same : (a : ℤ) → int_max a a ≡ a
int_max-same a = omega (arith, ints, clamps)

wider-assoc : (a b c : Option (ℤ × ℤ)) → wider (wider a b) c ≡ wider a (wider b c)
wider-assoc None b c = refl
wider-assoc (Some a) None c = refl
wider-assoc (Some a) (Some b) None = refl
wider-assoc (Some a) (Some b) (Some c) = λ i. Some (int_min-assoc a.0 b.0 c.0 i, int_max-assoc a.1 b.1 c.1 i)

wider-comm : (a b : Option (ℤ × ℤ)) → wider a b ≡ wider b a
wider-comm None None = refl
wider-comm None (Some b) = refl
wider-comm (Some a) None = refl
wider-comm (Some a) (Some b) = λ i. Some (int_min-comm a.0 b.0 i, int_max-comm a.1 b.1 i)

wider-same : (a : Option (ℤ × ℤ)) → wider a a ≡ a
wider-same None = refl
wider-same (Some a) = λ i. Some (int_min-same a.0 i, int_max-same a.1 i)

wider-none : (a : Option (ℤ × ℤ)) → wider a None ≡ a
wider-none None = refl
wider-none (Some a) = refl

-- a row's own span
abbrev at : Row → Option (ℤ × ℤ)
at r = Some (r.key.time, r.key.time)

abbrev from : Option (ℤ × ℤ) → List Row → Option (ℤ × ℤ)
from s rows = fold wider s (map at rows)

from-wider : (s : Option (ℤ × ℤ)) (rows : List Row) → from s rows ≡ wider s (span rows)
from-wider s [] = sym (wider-none s)
from-wider s (r ∷ rows) = from-wider (wider s (at r)) rows ∙ wider-assoc s (at r) (span rows) ∙ ap (wider s) (sym (from-wider (at r) rows))

-- what a span holds it goes on to hold
abbrev Holds : Option (ℤ × ℤ) → Row → Type 0
Holds s r = wider s (at r) ≡ s

Holds-wider : (s t : Option (ℤ × ℤ)) (r : Row) → Holds t r → Holds (wider s t) r
Holds-wider s t r h = wider-assoc s t (at r) ∙ ap (wider s) h

Holds-from : (s : Option (ℤ × ℤ)) (r : Row) (rows : List Row) → Holds s r → Holds (from s rows) r
Holds-from s r rows h = ap (λ t. wider t (at r)) (from-wider s rows) ∙ wider-assoc s (span rows) (at r) ∙ ap (wider s) (wider-comm (span rows) (at r)) ∙ sym (wider-assoc s (at r) (span rows)) ∙ ap (λ t. wider t (span rows)) h ∙ sym (from-wider s rows)

Holds-each : (s : Option (ℤ × ℤ)) (rows : List Row) → AllByRecursion (Holds (from s rows)) rows
Holds-each s [] = tt
Holds-each s (r ∷ rows) = (Holds-from (wider s (at r)) r rows (wider-assoc s (at r) (at r) ∙ ap (wider s) (wider-same (at r))), Holds-each (wider s (at r)) rows)

-- a span that holds each row of a list isn't widened by them
from-held : (s : Option (ℤ × ℤ)) (rows : List Row) → AllByRecursion (Holds s) rows → from s rows ≡ s
from-held s [] h = refl
from-held s (r ∷ rows) h = ap (λ t. from t rows) h.0 ∙ from-held s rows h.1

-- rows of one key are held alike
Holds-key : (s : Option (ℤ × ℤ)) (r : Row) (rows : List Row) → AllByRecursion (Holds s) rows → list_any (λ x. eq_by_cmp key_cmp r.key x.key) rows ≡ true → Holds s r
Holds-key s r [] all any = cc
Holds-key s r (x ∷ rows) all any =
    elim (key_cmp r.key x.key) as (λ o. key_cmp r.key x.key ≡ o → (is_eq o || list_any (λ x. eq_by_cmp key_cmp r.key x.key) rows) ≡ true → Holds s r) [
      | Less ↦ λ t h. Holds-key s r rows all.1 h
      | Equal ↦ λ t h. subst (λ (k : Key). wider s (Some (k.time, k.time)) ≡ s) (sym (same_key r.key x.key t)) all.0
      | Greater ↦ λ t h. Holds-key s r rows all.1 h
    ] refl any

-- each row's key is among the keys
abbrev Has : List Row → Key → Type 0
Has rows k = list_any (λ x. eq_by_cmp key_cmp k x.key) rows ≡ true

Has-each : (all rows : List Row) → ((k : Key) → Has rows k → Has all k) → AllByRecursion (λ r. Has all r.key) rows
Has-each all [] h = tt
Has-each all (r ∷ rows) h = (
  h r.key (ap (λ o. is_eq o || list_any (λ x. eq_by_cmp key_cmp r.key x.key) rows) (itself r.key)),
  Has-each all rows (λ k there. h k (ap (λ b. eq_by_cmp key_cmp k r.key || b) there ∙ or_true (eq_by_cmp key_cmp k r.key))),
)

held : (s : Option (ℤ × ℤ)) (a b : List Row) → AllByRecursion (Holds s) a → AllByRecursion (λ r. Has a r.key) b → AllByRecursion (Holds s) b
held s a [] all each = tt
held s a (r ∷ b) all each = (Holds-key s r a all each.0, held s a b all each.1)

-- rows whose keys are among those of others have no wider span
span-within : (a b : List Row) → ((k : Key) → Has b k → Has a k) → wider (span a) (span b) ≡ span a
span-within a b h = sym (from-wider (span a) b) ∙ from-held (span a) b (held (span a) a b (Holds-each None a) (Has-each a b h))

pub same_span : (a b : List Row) → ((test : Key → Bool) → list_any (λ r. test r.key) a ≡ list_any (λ r. test r.key) b) → span a ≡ span b
same_span a b h =
    sym (span-within a b (λ k there. h (eq_by_cmp key_cmp k) ∙ there))
    ∙ wider-comm (span a) (span b)
    ∙ span-within b a (λ k there. sym (h (eq_by_cmp key_cmp k)) ∙ there)
