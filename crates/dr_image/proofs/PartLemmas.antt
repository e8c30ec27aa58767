-- A dimension in the bytes of an image.
use Rattle.std.proofs.Common.{◌≡◌, ◌∙◌, sym, refl, ap, ℕ, ◌+◌, ◌*◌, List, take, drop, arith}
use Rattle.std.specs.Int.{w32}
use Rattle.std.proofs.lemmas.List.{drop-drop}
use Rattle.dr_image.specs.Words.{word_at, words}
use Rattle.dr_image.specs.Layout.{part_of, part_with}

-- a number behind a place
pub front : (at : ℕ) (bytes : List ℕ) → word_at w32 0 (drop at bytes) ≡ word_at w32 at bytes
unfolding word_at
front at bytes = refl

pub second : (at : ℕ) (bytes : List ℕ) → word_at w32 4 (drop at bytes) ≡ word_at w32 (at + 4) bytes
unfolding word_at
second at bytes = rw (drop-drop 4 at bytes) refl

-- the dimension at a place
pub part_of_at : (n at v t : ℕ) (bytes : List ℕ) → v ≡ word_at w32 at bytes → t ≡ word_at w32 (at + 4) bytes
    → part_with v t n (drop (at + 8) bytes) ≡ part_of n (drop at bytes)
unfolding part_of
part_of_at n at v t bytes values texts =
    let v' : v ≡ word_at w32 0 (drop at bytes) = values ∙ sym (front at bytes) in
    let t' : t ≡ word_at w32 4 (drop at bytes) = texts ∙ sym (second at bytes) in
    let on : drop (at + 8) bytes ≡ drop 8 (drop at bytes) = sym (drop-drop 8 at bytes) in
    λ i. part_with (v' i) (t' i) n (on i)

pub part_with_at : (n at v t : ℕ) (bytes : List ℕ)
    → part_with v t n (drop at bytes) ≡ record {
      ends = words v (drop at bytes);
      texts = take t (drop (at + 4 * v) bytes);
      numbers = words n (drop (at + 4 * v + t) bytes);
      list_ends = words v (drop (at + 4 * v + t + 4 * n) bytes);
      rows = words n (drop (at + 4 * v + t + 4 * n + 4 * v) bytes);
    }
part_with_at n at v t bytes =
    let texts : drop (4 * v) (drop at bytes) ≡ drop (at + 4 * v) bytes = drop-drop (4 * v) at bytes in
    let numbers : drop (4 * v + t) (drop at bytes) ≡ drop (at + 4 * v + t) bytes = drop-drop (4 * v + t) at bytes ∙ ap (λ k. drop k bytes) (omega arith) in
    let list_ends : drop (4 * v + t + 4 * n) (drop at bytes) ≡ drop (at + 4 * v + t + 4 * n) bytes = drop-drop (4 * v + t + 4 * n) at bytes ∙ ap (λ k. drop k bytes) (omega arith) in
    let rows : drop (8 * v + t + 4 * n) (drop at bytes) ≡ drop (at + 4 * v + t + 4 * n + 4 * v) bytes = drop-drop (8 * v + t + 4 * n) at bytes ∙ ap (λ k. drop k bytes) (omega arith) in
    λ i. record { ends = words v (drop at bytes); texts = take t (texts i); numbers = words n (numbers i); list_ends = words v (list_ends i); rows = words n (rows i) }
