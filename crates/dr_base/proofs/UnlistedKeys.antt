-- Keys one after the other, as a loop goes over them.
use Rattle.std.proofs.Common.{◌≡◌, refl, ap, ℕ, suc, Bool, true, false, List, [], ◌∷◌, length, map, Some, None, ◌||◌, eqb, bytes_eq, arith}
use Rattle.std.specs.Prelude.{String, string_bytes, IsTrue, ◌↔◌}
use Rattle.std.proofs.Math.Dec.{eqb-suc-zero}
use Rattle.std.specs.List.{list_any}
use Rattle.std.specs.declared.alloc.Global.{Global}
use Rattle.serde_json.specs.declared.value.Value.{Value}
use Rattle.serde_json.specs.View.{view, items_view, members_view}
use Rattle.dr_base.specs.Unlisted.{unlisted, is_lenient, is_empty_list, is_empty_object}

abbrev Entry : Type 0
Entry = String Global × Value

list_any-map : {A B : Type 0} (p : B → Bool) (f : A → B) (xs : List A) → list_any p (map f xs) ≡ list_any (λ x. p (f x)) xs
list_any-map p f [] = refl
list_any-map p f (x ∷ xs) = ap (λ b. p (f x) || b) (list_any-map p f xs)

pub is_empty_list-items_view : (vs : List Value) → eqb (length vs) 0 ≡ is_empty_list (items_view vs)
is_empty_list-items_view [] = refl
is_empty_list-items_view (v ∷ vs) = eqb-suc-zero (length vs)

pub is_empty_object-members_view : (b : Bool) (ms : List Entry) → (IsTrue b ↔ (length ms ≡ 0)) → b ≡ is_empty_object (members_view ms)
is_empty_object-members_view true [] h = refl
is_empty_object-members_view false [] h = let e : false ≡ true = h.1 refl in cc
is_empty_object-members_view true (m ∷ ms) h = let e : suc (length ms) ≡ 0 = h.0 refl in absurd (omega arith)
is_empty_object-members_view false (m ∷ ms) h = refl

-- a key that passes
pub unlisted-passes : {A : Type 0} (f : A → List ℕ) (listed : List A) (e : Entry) (s t : List Entry) → s ≡ e ∷ t → (list_any (λ x. bytes_eq (string_bytes e.0) (f x)) listed || is_lenient (view e.1)) ≡ true
    → unlisted (map f listed) (members_view s) ≡ unlisted (map f listed) (members_view t)
unfolding unlisted
unlisted-passes f listed e s t is test = rw (is, list_any-map (bytes_eq (string_bytes e.0)) f listed, test) refl

-- a key that doesn't
pub unlisted-stops : {A : Type 0} (f : A → List ℕ) (listed : List A) (e : Entry) (s t : List Entry) → s ≡ e ∷ t → (list_any (λ x. bytes_eq (string_bytes e.0) (f x)) listed || is_lenient (view e.1)) ≡ false
    → unlisted (map f listed) (members_view s) ≡ Some (string_bytes e.0)
unfolding unlisted
unlisted-stops f listed e s t is test = rw (is, list_any-map (bytes_eq (string_bytes e.0)) f listed, test) refl

pub unlisted-ends : {A : Type 0} (f : A → List ℕ) (listed : List A) (s : List Entry) → s ≡ [] → unlisted (map f listed) (members_view s) ≡ None
unfolding unlisted
unlisted-ends f listed s is = rw is refl
