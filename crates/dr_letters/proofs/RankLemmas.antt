-- Codes with ranks.
use Rattle.std.proofs.Common.{inl, inr, ◌≡◌, ◌∙◌, sym, refl, ap, subst, ℕ, ◌+◌, ◌<◌, ◌≤◌, Bool, true, false, cond, ◌==◌, List, [], ◌∷◌, ◌++◌, length, get_or, length-append, Some, None, Option, IsSome, ◌⊎◌, arith}
use Rattle.std.proofs.Math.ListN.{get_or-append}
use Rattle.std.proofs.Math.Seq.{get_or-append_seam}
use Rattle.std.proofs.lemmas.Bool.{cases_lt}
use Rattle.std.specs.List.{All}
use Rattle.std.proofs.lemmas.Bool.Decides.{nat_tests}
use Rattle.std.specs.Ordering.{nat_cmp}
use Rattle.std.specs.Cmp.{unsigned_tied}
use Rattle.std.specs.BTreeMap.{BTreeMap, is_at}
use Rattle.dr_rowindex.specs.declared.row_set.RowSet.{RowSet}
use Rattle.dr_letters.specs.declared.text_letter.TextLetter.{TextLetter}
use Rattle.dr_letters.specs.Ranks.{AreApart, AreRanked, AreRanksOf, HasSets, digit, rank_of}

some-same : (a b : ℕ) → Some a ≡ Some b → a ≡ b
some-same a b is = cc is

pub same-code : (a b : ℕ) → is_at (nat_cmp a) b ≡ true → a ≡ b
same-code a b is = let same : (a == b) ≡ true = sym (unsigned_tied a b) ∙ is in grind (arith, nat_tests)

-- a code more has the next rank
pub ranked-more : (ranks ranks' : BTreeMap ℕ ℕ) (codes codes' : List ℕ) (code : ℕ) → ((n : ℕ) → rank_of ranks' n ≡ cond (is_at (nat_cmp code) n) (Some (length codes)) (rank_of ranks n))
    → ((n : ℕ) → is_at (nat_cmp code) n ≡ true → code ≡ n) → codes' ≡ codes ++ code ∷ [] → AreRanked ranks codes → AreRanked ranks' codes'
ranked-more ranks ranks' codes codes' code updates same is was n r has = at (is_at (nat_cmp code) n) refl
  where
    long : length codes' ≡ length codes + 1
    long = ap length is ∙ length-append codes (code ∷ [])

    at : (b : Bool) → is_at (nat_cmp code) n ≡ b → (r < length codes') × (get_or codes' r 0 ≡ n)
    at true here =
        let last : length codes ≡ r = some-same (length codes) r (sym (updates n ∙ ap (λ b. cond b (Some (length codes)) (rank_of ranks n)) here) ∙ has) in
        (omega (arith, last, long), ap (λ l. get_or l r 0) is ∙ ap (λ k. get_or (codes ++ code ∷ []) k 0) (sym last) ∙ get_or-append_seam codes code [] 0 ∙ same n here)
    at false other =
        let old = was n r (sym (updates n ∙ ap (λ b. cond b (Some (length codes)) (rank_of ranks n)) other) ∙ has) in
        (omega (arith, old.0, long), ap (λ l. get_or l r 0) is ∙ get_or-append codes (code ∷ []) 0 r old.0 ∙ old.1)

-- ---- a code that had no rank

module _ (ranks ranks' : BTreeMap ℕ ℕ) (code rank : ℕ) (updates : (n : ℕ) → rank_of ranks' n ≡ cond (is_at (nat_cmp code) n) (Some rank) (rank_of ranks n)) where
  itself : is_at (nat_cmp code) code ≡ true
  itself = let same : (code == code) ≡ true = grind (arith, nat_tests) in unsigned_tied code code ∙ same

  pub rank-there : rank_of ranks' code ≡ Some rank
  rank-there = updates code ∙ ap (λ b. cond b (Some rank) (rank_of ranks code)) itself

  pub rank-kept : rank_of ranks code ≡ None → (n k : ℕ) → rank_of ranks n ≡ Some k → rank_of ranks' n ≡ Some k
  rank-kept none n k has = at (is_at (nat_cmp code) n) refl
    where
      at : (b : Bool) → is_at (nat_cmp code) n ≡ b → rank_of ranks' n ≡ Some k
      at true here = absurd (cc (sym none ∙ ap (rank_of ranks) (same-code code n here) ∙ has))
      at false other = updates n ∙ ap (λ b. cond b (Some rank) (rank_of ranks n)) other ∙ has

  pub rank-only : (n k : ℕ) → rank_of ranks' n ≡ Some k → (rank_of ranks n ≡ Some k) ⊎ (n ≡ code)
  rank-only n k has = at (is_at (nat_cmp code) n) refl
    where
      at : (b : Bool) → is_at (nat_cmp code) n ≡ b → (rank_of ranks n ≡ Some k) ⊎ (n ≡ code)
      at true here = inr (sym (same-code code n here))
      at false other = inl (sym (updates n ∙ ap (λ b. cond b (Some rank) (rank_of ranks n)) other) ∙ has)

-- ---- letters one by one

-- the ranks of some letters stay, and that of the next is the last
pub ranks-more : (ranks ranks' : BTreeMap ℕ ℕ) (letters : List TextLetter) (own own' : List ℕ) (i rank : ℕ) → length own ≡ i → own' ≡ own ++ rank ∷ []
    → ((n k : ℕ) → rank_of ranks n ≡ Some k → rank_of ranks' n ≡ Some k) → ((l : TextLetter) → rank_of ranks' (get_or letters i l).code ≡ Some rank)
    → ((k r : ℕ) (l : TextLetter) → k < i → rank_of ranks (get_or letters k l).code ≡ Some (get_or own k r))
    → (k r : ℕ) (l : TextLetter) → k < i + 1 → rank_of ranks' (get_or letters k l).code ≡ Some (get_or own' k r)
ranks-more ranks ranks' letters own own' i rank long is kept here was k r l lt = elim (cases_lt k i) [
  | inl less ↦ kept (get_or letters k l).code (get_or own k r) (was k r l less) ∙ ap Some (sym (ap (λ x. get_or x k r) is ∙ get_or-append own (rank ∷ []) r k (omega (arith, less, long))))
  | inr other ↦ (let last : length own ≡ k = omega (arith, other, lt, long) in
      ap (λ j. rank_of ranks' (get_or letters j l).code) (sym last ∙ long) ∙ here l ∙ ap Some (sym (ap (λ x. get_or x k r) is ∙ ap (λ j. get_or (own ++ rank ∷ []) j r) (sym last) ∙ get_or-append_seam own rank [] r)))
]

-- so a rank of a letter is less than there are codes
pub ranks-few : (ranks : BTreeMap ℕ ℕ) (letters : List TextLetter) (own codes : List ℕ) → AreRanked ranks codes → AreRanksOf ranks letters own → All (λ r. r < length codes) own
ranks-few ranks letters own codes are each i d lt =
    let other : TextLetter = record { row = 0; code = 0 } in
    (are (get_or letters i other).code (get_or own i d) (each.each i d other (omega (arith, lt, each.count)))).0

-- and no two codes have the same
pub ranks-apart : (ranks : BTreeMap ℕ ℕ) (codes : List ℕ) → AreRanked ranks codes → length codes ≤ 18446744073709551615 → AreApart ranks
ranks-apart ranks codes are few = record {
  small = λ n r has. omega (arith, (are n r has).0, few);
  apart = λ n m r one two. sym ((are n r one).1) ∙ (are m r two).1;
}

pub ranks-some : (ranks : BTreeMap ℕ ℕ) (letters : List TextLetter) (own : List ℕ) → AreRanksOf ranks letters own → All (λ (l : TextLetter). IsSome (rank_of ranks l.code)) letters
ranks-some ranks letters own each i d lt = subst IsSome (sym (each.each i 0 d lt)) refl

some_has : (o : Option ℕ) → IsSome o → (r : ℕ) × (o ≡ Some r)
some_has None has = absurd (cc has)
some_has (Some r) has = (r, refl)

pub ranks-only : (ranks : BTreeMap ℕ ℕ) (test : ℕ → Bool) (n : ℕ) → ((r : ℕ) → rank_of ranks n ≡ Some r → test n ≡ true) → IsSome (rank_of ranks n) → test n ≡ true
ranks-only ranks test n each has = let some = some_has (rank_of ranks n) has in each some.0 some.1

pub sets-for : (ranks : BTreeMap ℕ ℕ) (codes : List ℕ) (count most divisor base : ℕ) (sets : List RowSet) → AreRanked ranks codes → most ≡ length codes → All (λ s. length s ≡ count) sets → ((r : ℕ) → r < most → digit divisor base r < length sets)
    → HasSets count ranks divisor base sets
sets-for ranks codes count most divisor base sets are is rows digits = record { rows = rows; within = λ n r has. digits r (omega (arith, (are n r has).0, is)) }
