-- The first place of a literal in a text, by bytes and by characters.
use Rattle.std.proofs.Common.{◌≡◌, refl, sym, ap, ◌∙◌, subst, arith, ℕ, ◌+◌, ◌<◌, ◌≤◌, Bool, true, false, List, [], ◌∷◌, ◌++◌, length, take, drop, append-nil}
use Rattle.std.specs.Str.{chars, IsUtf8, IsCharBoundary}
use Rattle.std.specs.Str.Pattern.{LacksTextAt}
use Rattle.std.proofs.lemmas.List.{drop_at, drop-drop, drop_all, length-append, length-take}
use Rattle.std.proofs.lemmas.Str.{encodes-append, encodes-chars, length-encode, len_utf8_bounds, IsUtf8-take}
use lib.Utf8.{encode, encodes}
use Rattle.dr_like.specs.Letters.{Lacks}
use Rattle.dr_like.specs.Like.{behind_some_run, fits}
use Rattle.dr_like.proofs.Texts.{chars-cut}
use Rattle.dr_like.proofs.Patterns.{later-more, literal-first}

-- the bytes n stand at the start of no text that a test f lets pass
module _ (n : List ℕ) (f : List ℕ → Bool) (fails : (x : List ℕ) → LacksTextAt n (encodes x) 0 → f x ≡ false) where
  behind_one : (c : ℕ) (cs : List ℕ) (k : ℕ) → LacksTextAt n (encodes (c ∷ cs)) (length (encode c) + k) → LacksTextAt n (encodes cs) k
  behind_one c cs k lacks = λ rest is. lacks rest (sym (drop-drop k (length (encode c)) (encode c ++ encodes cs)) ∙ ap (drop k) (drop_at (encode c) (encodes cs) (length (encode c)) refl) ∙ is)

  -- no place in the front of a text passes
  skips : (front here : List ℕ) → ((k : ℕ) → k < length (encodes front) → LacksTextAt n (encodes (front ++ here)) k) → behind_some_run f (front ++ here) ≡ behind_some_run f here
  skips [] here lacks = refl
  skips (c ∷ cs) here lacks =
      let some : 0 < length (encode c) = omega (arith, length-encode c, (len_utf8_bounds c).0) in
      let parts = length-append (encode c) (encodes cs) in
      later-more f c (cs ++ here) (fails (c ∷ (cs ++ here)) (lacks 0 (omega (arith, some, parts))))
      ∙ skips cs here (λ k less. behind_one c (cs ++ here) k (lacks (length (encode c) + k) (omega (arith, less, parts))))

module _ (n : List ℕ) (utf8 : IsUtf8 n) (runs : Lacks 37 (chars n)) (gaps : Lacks 95 (chars n)) (more : List ℕ) where
  abbrev f : List ℕ → Bool
  f = fits (chars n ++ more)

  fails : (x : List ℕ) → LacksTextAt n (encodes x) 0 → f x ≡ false
  fails x lacks = at (f x) refl
    where
      at : (b : Bool) → f x ≡ b → f x ≡ false
      at false is = is
      at true is =
          let first = literal-first (chars n) more x runs gaps is in
          absurd (lacks (encodes first.0) (ap encodes first.1 ∙ encodes-append (chars n) first.0 ∙ ap (λ l. l ++ encodes first.0) (encodes-chars n utf8)))

  pub place-found : (s : List ℕ) (i : ℕ) → IsUtf8 s → IsCharBoundary s i → ((k : ℕ) → k < i → LacksTextAt n s k) → behind_some_run f (chars s) ≡ behind_some_run f (chars (drop i s))
  place-found s i u cut before =
      let front : IsUtf8 (take i s) = IsUtf8-take s i u cut in
      let parts : chars s ≡ chars (take i s) ++ chars (drop i s) = chars-cut s i front in
      let whole : s ≡ encodes (chars (take i s) ++ chars (drop i s)) = sym (encodes-chars s u) ∙ ap encodes parts in
      let short : length (encodes (chars (take i s))) ≤ i = omega (arith, ap length (encodes-chars (take i s) front), length-take i s) in
      ap (behind_some_run f) parts ∙ skips n f fails (chars (take i s)) (chars (drop i s)) (λ k less. subst (λ b. LacksTextAt n b k) whole (before k (omega (arith, less, short))))

  pub place-none : (s : List ℕ) → IsUtf8 s → ((k : ℕ) → k ≤ length s → LacksTextAt n s k) → behind_some_run f (chars s) ≡ false
  place-none s u nowhere =
      let whole : s ≡ encodes (chars s ++ []) = sym (encodes-chars s u) ∙ ap encodes (sym (append-nil (chars s))) in
      let long : length (encodes (chars s)) ≡ length s = ap length (encodes-chars s u) in
      let end : LacksTextAt n (encodes []) 0 = λ rest is. nowhere (length s) (omega arith) rest (drop_all (length s) s (omega arith) ∙ is) in
      ap (behind_some_run f) (sym (append-nil (chars s))) ∙ skips n f fails (chars s) [] (λ k less. subst (λ b. LacksTextAt n b k) whole (nowhere k (omega (arith, less, long)))) ∙ fails [] end
