-- Where the dimensions of an image begin.
use Rattle.std.proofs.Common.{◌≡◌, ◌∙◌, sym, refl, ap, subst, ℕ, zero, suc, ◌+◌, ◌-◌, ◌<◌, ◌≤◌, false, List, length, drop, get_or, set, arith, ◌⊎◌, inl, inr}
use Rattle.std.specs.Prelude.{nat_le, ◌==◌, ◌&&◌}
use Rattle.std.proofs.lemmas.Bool.{and_left, le-leb, lt-leb, cases_eq}
use Rattle.std.proofs.lemmas.List.{drop-drop, length-drop, length-set, get_or-set_same, get_or-set_other}
use Rattle.dr_image.specs.Layout.{Part, part_of, parts_of, part_size, parts_fill, behind}
use Rattle.dr_image.specs.Starts.{IsStart}

pub behind_more : (d n : ℕ) (bytes : List ℕ) → behind (suc d) n bytes ≡ drop (part_size n (behind d n bytes)) (behind d n bytes)
unfolding behind
behind_more zero n bytes = refl
behind_more (suc d) n bytes = behind_more d n (drop (part_size n bytes) bytes)

pub get_or-parts_of : (dims d n : ℕ) (bytes : List ℕ) (x : Part) → d < dims → get_or (parts_of dims n bytes) d x ≡ part_of n (behind d n bytes)
unfolding parts_of behind
get_or-parts_of zero d n bytes x lt = absurd (omega arith)
get_or-parts_of (suc dims) zero n bytes x lt = refl
get_or-parts_of (suc dims) (suc d) n bytes x lt = get_or-parts_of dims d n (drop (part_size n bytes) bytes) x (omega arith)

pub length-parts_of : (dims n : ℕ) (bytes : List ℕ) → length (parts_of dims n bytes) ≡ dims
unfolding parts_of
length-parts_of zero n bytes = refl
length-parts_of (suc dims) n bytes = ap suc (length-parts_of dims n (drop (part_size n bytes) bytes))

-- the first d dimensions have begun, and the next one begins at a place
pub record Begun (bytes : List ℕ) (at n dims d place : ℕ) (starts : List ℕ) : Type 0 where
  pub room : place + 32 ≤ length bytes
  pub long : length starts ≡ 64
  pub is : drop place bytes ≡ behind d n (drop at bytes)
  pub rest : parts_fill (dims - d) n (drop place bytes) ≡ parts_fill dims n (drop at bytes)
  pub each : (k : ℕ) → k < d → IsStart bytes at n k (get_or starts k 0)

fill-step : (left n place : ℕ) (bytes : List ℕ)
    → parts_fill (suc left) n (drop place bytes) ≡ (nat_le (part_size n (drop place bytes) + 32) (length (drop place bytes)) && parts_fill left n (drop (part_size n (drop place bytes)) (drop place bytes)))
unfolding parts_fill
fill-step left n place bytes = refl

each_more : (bytes : List ℕ) (at n d place : ℕ) (starts : List ℕ) → ((k : ℕ) → k < d → IsStart bytes at n k (get_or starts k 0)) → IsStart bytes at n d place → d < length starts
    → (k : ℕ) → k < d + 1 → IsStart bytes at n k (get_or (set starts d place) k 0)
each_more bytes at n d place starts each here long k below = at_last (cases_eq k d)
  where
    at_last : (k ≡ d) ⊎ (k ≡ d → ⊥) → IsStart bytes at n k (get_or (set starts d place) k 0)
    at_last (inl e) = let f : get_or (set starts d place) k 0 ≡ place = ap (λ j. get_or (set starts d place) j 0) e ∙ get_or-set_same starts d place 0 long in
        subst (λ (j : ℕ). IsStart bytes at n j (get_or (set starts d place) k 0)) (sym e) (subst (λ (j : ℕ). IsStart bytes at n d j) (sym f) here)
    at_last (inr ne) = subst (λ (j : ℕ). IsStart bytes at n k j) (sym (get_or-set_other starts d k place 0 ne)) (each k (omega arith))

-- no room for the next one
pub fills_not : (bytes : List ℕ) (at n dims d place : ℕ) (starts : List ℕ) → Begun bytes at n dims d place starts → d < dims
    → length bytes < place + part_size n (drop place bytes) + 32 → false ≡ parts_fill dims n (drop at bytes)
fills_not bytes at n dims d place starts begun lt short =
    let left : ℕ = dims - (d + 1) in
    let e : dims - d ≡ suc left = omega arith in
    let room = begun.room in
    sym (sym begun.rest ∙ ap (λ k. parts_fill k n (drop place bytes)) e ∙ fill-step left n place bytes
    ∙ and_left _ _ (lt-leb (part_size n (drop place bytes) + 32) (length (drop place bytes)) (omega (arith, length-drop place bytes))))

-- one more
pub begun_more : (bytes : List ℕ) (at n dims d place size : ℕ) (starts : List ℕ) → Begun bytes at n dims d place starts → d < dims → dims ≤ 64
    → size ≡ part_size n (drop place bytes) → 8 ≤ size → place + size + 32 ≤ length bytes
    → Begun bytes at n dims (d + 1) (place + size) (set starts d place)
begun_more bytes at n dims d place size starts begun lt few is some room =
    let left : ℕ = dims - (d + 1) in
    let e : dims - d ≡ suc left = omega arith in
    let x : List ℕ = drop place bytes in
    let on : drop (part_size n x) x ≡ drop (place + size) bytes = ap (λ k. drop k x) (sym is) ∙ drop-drop size place bytes in
    let back = sym begun.is in
    let next : drop (part_size n (behind d n (drop at bytes))) (behind d n (drop at bytes)) ≡ drop (place + size) bytes = (λ i. drop (part_size n (back i)) (back i)) ∙ on in
    let more : behind (suc d) n (drop at bytes) ≡ drop (place + size) bytes = behind_more d n (drop at bytes) ∙ next in
    let long = begun.long in
    record {
      room = omega arith;
      long = length-set starts d place ∙ begun.long;
      is = sym more ∙ ap (λ k. behind k n (drop at bytes)) (omega arith);
      rest = sym (sym begun.rest ∙ ap (λ k. parts_fill k n x) e ∙ fill-step left n place bytes
          ∙ ap (λ b. b && parts_fill left n (drop (part_size n x) x)) (le-leb (part_size n x + 32) (length x) (omega (arith, length-drop place bytes)))
          ∙ ap (parts_fill left n) on);
      each = λ k below. each_more bytes at n d place starts begun.each (record { is = begun.is; front = omega arith; inside = omega arith }) (omega arith) k below;
    }

-- the digest alone is left
pub begun_all : (bytes : List ℕ) (at n dims d place : ℕ) (starts : List ℕ) → Begun bytes at n dims d place starts → dims ≤ d
    → (length bytes - place == 32) ≡ parts_fill dims n (drop at bytes)
unfolding parts_fill
begun_all bytes at n dims d place starts begun le =
    let e : dims - d ≡ 0 = omega arith in
    sym (sym begun.rest ∙ ap (λ k. parts_fill k n (drop place bytes)) e ∙ ap (λ k. k == 32) (length-drop place bytes))

pub begun_none : (bytes : List ℕ) (at n dims : ℕ) (starts : List ℕ) → at + 32 ≤ length bytes → length starts ≡ 64 → Begun bytes at n dims 0 at starts
unfolding behind
begun_none bytes at n dims starts room long = record { room = room; long = long; is = refl; rest = ap (λ k. parts_fill k n (drop at bytes)) (omega arith); each = λ k below. absurd (omega arith) }

-- eight bytes at least
pub part_size_some : (n : ℕ) (bytes : List ℕ) → 8 ≤ part_size n bytes
unfolding part_size
part_size_some n bytes = omega arith
