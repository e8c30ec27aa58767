-- The place of a name among distinct ones.
use Rattle.std.proofs.Common.{◌≡◌, ◌∙◌, sym, refl, ap, ℕ, zero, suc, List, [], ◌∷◌, ◌++◌, map, length, get_or, Option, Some, None, is_some, false, bytes_eq}
use Rattle.std.specs.Prelude.{IfSome, IfNone, slice_get, if◌then◌else◌}
use Rattle.std.specs.List.{position, list_any}
use Rattle.std.specs.Cmp.Lexicographic.{bytes_decides}
use Rattle.std.proofs.lemmas.List.Quantifiers.{position-Some}
use Rattle.std.proofs.lemmas.Option.{slice_get-get_or}
use Rattle.std.proofs.lemmas.List.{map-append}
use Rattle.indexmap.specs.IndexSet.{insert_key}
use Rattle.dr_dict.proofs.Texts.{some-position, list_any-map}

pub place-found : (names : List (List ℕ)) (k : List ℕ) (r : Option ℕ) → r ≡ position (bytes_eq k) names → IfSome r (λ i. slice_get names i ≡ Some k)
place-found names k None e = tt
place-found names k (Some i) e = let p = position-Some (bytes_eq k) names i k (sym e) in slice_get-get_or names i k p.0 ∙ ap Some (sym ((bytes_decides k (get_or names i k)).0 p.1))

pub place-none : (names : List (List ℕ)) (k : List ℕ) (r : Option ℕ) → r ≡ position (bytes_eq k) names → IfNone r (list_any (bytes_eq k) names ≡ false)
place-none names k None e = sym (some-position (bytes_eq k) names) ∙ ap is_some (sym e)
place-none names k (Some i) e = tt

pub place-last : (names : List (List ℕ)) (k : List ℕ) → slice_get (names ++ k ∷ []) (length names) ≡ Some k
place-last [] k = refl
place-last (n ∷ names) k = place-last names k

pub name-at : {K : Type 0} (f : K → List ℕ) (ks : List K) (place : ℕ) (k : K) (name : List ℕ) → Some k ≡ slice_get ks place → f k ≡ name → slice_get (map f ks) place ≡ Some name
name-at f [] place k name e same = cc
name-at f (x ∷ ks) zero k name e same = let is : k ≡ x = cc in ap Some (ap f (sym is) ∙ same)
name-at f (x ∷ ks) (suc i) k name e same = name-at f ks i k name e same

-- a new key that a set takes in, as a name
pub name-inserted : {K : Type 0} (f : K → List ℕ) (ks : List K) (k : K) → list_any (bytes_eq (f k)) (map f ks) ≡ false → map f (insert_key (λ a b. bytes_eq (f a) (f b)) ks k) ≡ map f ks ++ f k ∷ []
name-inserted f ks k new = ap (λ b. map f (if b then ks else ks ++ k ∷ [])) (list_any-map f (bytes_eq (f k)) ks ∙ new) ∙ map-append f ks (k ∷ [])
