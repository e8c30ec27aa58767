-- A text that was added to a set: what is found then, and what stays.
use Rattle.std.proofs.Common.{◌≡◌, ◌∙◌, sym, refl, ap, Bool, true, false, not, ◌||◌, ◌&&◌, ◌≤◌, ℕ, List, [], ◌∷◌, ◌++◌, length, take, bytes_eq, arith}
use Rattle.std.specs.List.{list_any}
use Rattle.std.specs.Cmp.Lexicographic.{bytes_decides}
use Rattle.std.proofs.lemmas.List.{length-append, take-append-le}
use Rattle.std.proofs.lemmas.List.Folds.{list_any-append}
use Rattle.dr_base.proofs.Truths.{or_ends}

-- a text that is among them already lets no other through
there_already : (texts : List (List ℕ)) (text value : List ℕ) → list_any (bytes_eq text) texts ≡ true → list_any (bytes_eq value) texts ≡ (list_any (bytes_eq value) texts || bytes_eq value text)
there_already texts text value there = at (bytes_eq value text) refl
  where
    or_none : (b : Bool) → b ≡ (b || false)
    or_none true = refl
    or_none false = refl

    at : (b : Bool) → bytes_eq value text ≡ b → list_any (bytes_eq value) texts ≡ (list_any (bytes_eq value) texts || b)
    at false is = or_none (list_any (bytes_eq value) texts)
    at true is =
        let same : value ≡ text = (bytes_decides value text).0 is in
        let found : list_any (bytes_eq value) texts ≡ true = ap (λ v. list_any (bytes_eq v) texts) same ∙ there in
        found ∙ sym (ap (λ b. b || true) found)

-- what is found once a text was added, where it is new
pub found-added : (old new : List (List ℕ)) (text value : List ℕ) (is_new : Bool) → is_new ≡ not (list_any (bytes_eq text) old) → (is_new ≡ true → new ≡ old ++ text ∷ []) → (is_new ≡ false → new ≡ old)
    → list_any (bytes_eq value) new ≡ (list_any (bytes_eq value) old || bytes_eq value text)
found-added old new text value true is added same = ap (list_any (bytes_eq value)) (added refl) ∙ list_any-append (bytes_eq value) old (text ∷ []) ∙ or_ends (list_any (bytes_eq value) old) (bytes_eq value text)
found-added old new text value false is added same = ap (list_any (bytes_eq value)) (same refl) ∙ there_already old text value (there (list_any (bytes_eq text) old) is)
  where
    there : (b : Bool) → false ≡ not b → b ≡ true
    there true h = refl
    there false h = h

-- the first texts stay where they are
pub stays-first : (base old new : List (List ℕ)) (text : List ℕ) (is_new : Bool) → (is_new ≡ true → new ≡ old ++ text ∷ []) → (is_new ≡ false → new ≡ old) → length base ≤ length old → take (length base) old ≡ base
    → (length base ≤ length new) × (take (length base) new ≡ base)
stays-first base old new text true added same within first =
    let more = ap length (added refl) ∙ length-append old (text ∷ []) in
    ((omega (arith, within, more)), ap (take (length base)) (added refl) ∙ take-append-le (length base) old (text ∷ []) within ∙ first)
stays-first base old new text false added same within first =
    let as_before = ap length (same refl) in
    ((omega (arith, within, as_before)), ap (take (length base)) (same refl) ∙ first)

-- a text that is among two lists where it is among the first and is the next of the second
pub found-held : (held : List (List ℕ)) (text value : List ℕ) (before rest : Bool) (there : Bool) → list_any (bytes_eq text) held ≡ there
    → ((before || (bytes_eq value text && there)) || (list_any (bytes_eq value) held && rest)) ≡ (before || (list_any (bytes_eq value) held && (bytes_eq value text || rest)))
found-held held text value before rest there is = at (bytes_eq value text) refl
  where
    other : (b h r : Bool) → ((b || false) || (h && r)) ≡ (b || (h && r))
    other true h r = refl
    other false h r = refl

    same : (b h r : Bool) → ((b || h) || (h && r)) ≡ (b || (h && true))
    same true h r = refl
    same false true r = refl
    same false false r = refl

    at : (e : Bool) → bytes_eq value text ≡ e → ((before || (e && there)) || (list_any (bytes_eq value) held && rest)) ≡ (before || (list_any (bytes_eq value) held && (e || rest)))
    at false h = other before (list_any (bytes_eq value) held) rest
    at true h =
        let one : value ≡ text = (bytes_decides value text).0 h in
        let held_so : list_any (bytes_eq value) held ≡ there = ap (λ v. list_any (bytes_eq v) held) one ∙ is in
        (λ k. (before || there) || (held_so k && rest)) ∙ same before there rest ∙ sym (λ k. before || (held_so k && true))
