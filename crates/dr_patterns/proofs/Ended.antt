-- Texts from their end on, character by character.
use Rattle.std.proofs.Common.{◌≡◌, ◌≢◌, ◌∙◌, sym, refl, ap, subst, ℕ, ◌==◌, nat_lt, Bool, true, false, cond, List, [], ◌∷◌, ◌++◌, length, take, reverse, true≢false}
use Rattle.std.specs.Str.{chars, IsUtf8}
use Rattle.std.specs.Ordering.{nat_cmp, ordering_then}
use Rattle.std.specs.declared.cmp.Ordering.{Ordering}
use Rattle.std.specs.declared.cmp.Ordering.TheVariants.{Less, Equal, Greater}
use Rattle.std.specs.Cmp.Lexicographic.{slice_cmp}
use Rattle.std.proofs.lemmas.Bool.{eqb-true}
use Rattle.std.proofs.lemmas.Cmp.{nat_cmp_total, tied_itself}
use Rattle.std.proofs.lemmas.List.{reverse-append, reverse-reverse, take_at}
use Rattle.std.proofs.lemmas.Str.{encodes-append, encodes-chars, chars-append, chars-nil, IsUtf8-take, IsUtf8-encode, IsCharBoundary-at_seam}
use Rattle.std.specs.Char.{IsScalar}
use lib.Utf8.{encode, encodes}
use Rattle.dr_like.proofs.NoBytes.{no_bytes}
use Rattle.dr_like.proofs.Texts.{chars-push}
use Rattle.dr_patterns.specs.Begun.{begins}
use Rattle.dr_patterns.proofs.Begun.{begins-front, front-begins}

-- ---- whether a text ends with another one

pub end-there : (e t front : List ℕ) → IsUtf8 front → t ≡ front ++ e → begins (reverse (chars e)) (reverse (chars t)) ≡ true
end-there e t front utf8 is =
    ap (λ x. begins (reverse (chars e)) (reverse x)) (ap chars is ∙ chars-append front e utf8) ∙ ap (begins (reverse (chars e))) (reverse-append (chars front) (chars e))
    ∙ begins-front (reverse (chars e)) (reverse (chars front))

pub end-missing : (e t : List ℕ) → IsUtf8 e → IsUtf8 t → ((front : List ℕ) → t ≢ front ++ e) → begins (reverse (chars e)) (reverse (chars t)) ≡ false
end-missing e t e_utf8 t_utf8 other = at (begins (reverse (chars e)) (reverse (chars t))) refl
  where
    at : (b : Bool) → begins (reverse (chars e)) (reverse (chars t)) ≡ b → b ≡ false
    at false is = refl
    at true is =
        let front = front-begins (reverse (chars e)) (reverse (chars t)) is in
        let letters : chars t ≡ reverse front.0 ++ chars e =
        sym (reverse-reverse (chars t)) ∙ ap reverse front.1 ∙ reverse-append (reverse (chars e)) front.0 ∙ ap (λ x. reverse front.0 ++ x) (reverse-reverse (chars e)) in
        let whole : t ≡ encodes (reverse front.0) ++ e =
        sym (encodes-chars t t_utf8) ∙ ap encodes letters ∙ encodes-append (reverse front.0) (chars e) ∙ ap (λ x. encodes (reverse front.0) ++ x) (encodes-chars e e_utf8) in
        absurd (other (encodes (reverse front.0)) whole)

-- ---- the order from the end on

reverse-push : (xs : List ℕ) (x : ℕ) → reverse (xs ++ x ∷ []) ≡ x ∷ reverse xs
reverse-push xs x = reverse-append xs (x ∷ [])

both-pushed : (left right xs ys : List ℕ) (x y : ℕ) → left ≡ xs ++ x ∷ [] → right ≡ ys ++ y ∷ [] → slice_cmp nat_cmp (reverse left) (reverse right) ≡ ordering_then (nat_cmp x y) (slice_cmp nat_cmp (reverse xs) (reverse ys))
both-pushed left right xs ys x y a b =
    ap (λ l. slice_cmp nat_cmp (reverse l) (reverse right)) a ∙ ap (λ l. slice_cmp nat_cmp l (reverse right)) (reverse-push xs x)
    ∙ ap (λ r. slice_cmp nat_cmp (x ∷ reverse xs) (reverse r)) b ∙ ap (slice_cmp nat_cmp (x ∷ reverse xs)) (reverse-push ys y)

decided : (less same : Bool) (o : Ordering) → same ≡ false → ordering_then (cond less Less (cond same Equal Greater)) o ≡ cond less Less (cond same Equal Greater)
decided true same o other = refl
decided false true o other = absurd (true≢false other)
decided false false o other = refl

module _ (left right : List ℕ) where
  pub order-differs : (xs ys : List ℕ) (x y : ℕ) → left ≡ xs ++ x ∷ [] → right ≡ ys ++ y ∷ [] → x ≢ y → slice_cmp nat_cmp (reverse left) (reverse right) ≡ nat_cmp x y
  order-differs xs ys x y a b other = both-pushed left right xs ys x y a b ∙ decided (nat_lt x y) (x == y) (slice_cmp nat_cmp (reverse xs) (reverse ys)) (at (x == y) refl)
    where
      at : (e : Bool) → (x == y) ≡ e → e ≡ false
      at false is = refl
      at true is = absurd (other (eqb-true x y is))

  pub order-same : (xs ys : List ℕ) (x y : ℕ) → left ≡ xs ++ x ∷ [] → right ≡ ys ++ y ∷ [] → x ≡ y → slice_cmp nat_cmp (reverse left) (reverse right) ≡ slice_cmp nat_cmp (reverse xs) (reverse ys)
  order-same xs ys x y a b same =
      both-pushed left right xs ys x y a b ∙ ap (λ z. ordering_then (nat_cmp x z) (slice_cmp nat_cmp (reverse xs) (reverse ys))) (sym same)
      ∙ ap (λ o. ordering_then o (slice_cmp nat_cmp (reverse xs) (reverse ys))) (tied_itself nat_cmp_total x)

  pub order-right_ends : (xs : List ℕ) (x : ℕ) → left ≡ xs ++ x ∷ [] → right ≡ [] → slice_cmp nat_cmp (reverse left) (reverse right) ≡ Greater
  order-right_ends xs x a b = ap (λ l. slice_cmp nat_cmp (reverse l) (reverse right)) a ∙ ap (λ l. slice_cmp nat_cmp l (reverse right)) (reverse-push xs x) ∙ ap (λ r. slice_cmp nat_cmp (x ∷ reverse xs) (reverse r)) b

  pub order-left_ends : (ys : List ℕ) (y : ℕ) → left ≡ [] → right ≡ ys ++ y ∷ [] → slice_cmp nat_cmp (reverse left) (reverse right) ≡ Less
  order-left_ends ys y a b = ap (λ l. slice_cmp nat_cmp (reverse l) (reverse right)) a ∙ ap (λ r. slice_cmp nat_cmp [] (reverse r)) b ∙ ap (slice_cmp nat_cmp []) (reverse-push ys y)

  pub order-both_end : left ≡ [] → right ≡ [] → slice_cmp nat_cmp (reverse left) (reverse right) ≡ Equal
  order-both_end a b = ap (λ l. slice_cmp nat_cmp (reverse l) (reverse right)) a ∙ ap (λ r. slice_cmp nat_cmp [] (reverse r)) b

-- ---- a text without its last character

pub utf8_before : (bs xs : List ℕ) (c : ℕ) → IsUtf8 bs → IsScalar c → bs ≡ xs ++ encode c → IsUtf8 xs
utf8_before bs xs c utf8 scalar is =
    subst IsUtf8 (ap (take (length xs)) is ∙ take_at xs (encode c) (length xs) (λ i. length xs))
    (IsUtf8-take bs (length xs) utf8 (IsCharBoundary-at_seam bs xs (encode c) is (IsUtf8-encode c scalar)))

pub chars_before : (bs xs : List ℕ) (c : ℕ) → IsUtf8 bs → IsScalar c → bs ≡ xs ++ encode c → chars bs ≡ chars xs ++ c ∷ []
chars_before bs xs c utf8 scalar is = chars-push bs xs c utf8 (utf8_before bs xs c utf8 scalar is) is

pub no_chars : (bs : List ℕ) → length bs ≡ 0 → chars bs ≡ []
no_chars bs none = ap chars (no_bytes bs none) ∙ chars-nil
