-- Rows that are written one by one are written in their batches.
use Rattle.std.proofs.Common.{◌≡◌, ◌∙◌, sym, refl, ap, ℕ, suc, ◌+◌, ◌==◌, Bool, true, false, cond, List, [], ◌∷◌, ◌++◌, length, append_assoc, arith}
use Rattle.std.proofs.Math.Dec.{eqb-suc-zero}
use Rattle.std.proofs.lemmas.List.{append-nil, length-append}
use Rattle.std.specs.List.{flat_map}
use Rattle.json.specs.Token.{Token}
use Rattle.dr_base.specs.declared.row.Row.{Row}
use Rattle.dr_scan.specs.Entries.{batches, batches_from}
use Rattle.dr_scan.specs.Written.{at_end, before_row, count_with, rows_on}

module _ (front back : List Token) (row : Row → List Token) (size : ℕ) where
  -- an entry with these rows
  abbrev whole : List Row → List Token
  whole rows = front ++ (flat_map row rows ++ back)

  abbrev on : ℕ → List Row → List Token
  on count rows = rows_on front back row size count rows

  rows-append : (rows : List Row) (r : Row) → flat_map row (rows ++ r ∷ []) ≡ flat_map row rows ++ row r
  rows-append [] r = append-nil (row r)
  rows-append (s ∷ ss) r = ap (λ t. row s ++ t) (rows-append ss r) ∙ sym (append_assoc (row s) (flat_map row ss) (row r))

  -- the end of an entry that has a row
  ended : (n : ℕ) → at_end back (suc n) ≡ back
  ended n = ap (λ (b : Bool). cond b [] back) (eqb-suc-zero n)

  -- before a row behind others
  before : (n : ℕ) → before_row front back size (suc n) ≡ cond (suc n == size) (back ++ front) []
  before n = ap (λ (b : Bool). cond b front (cond (suc n == size) (back ++ front) [])) (eqb-suc-zero n)

  counted : (n : ℕ) → count_with size (suc n) ≡ cond (suc n == size) 1 (suc n + 1)
  counted n = ap (λ (b : Bool). cond b 1 (cond (suc n == size) 1 (suc n + 1))) (eqb-suc-zero n)

  step : (n : ℕ) (r : Row) (rs : List Row) (b : Bool) → (suc n == size) ≡ b → on (suc n) (r ∷ rs) ≡ cond b (back ++ front) [] ++ (row r ++ on (cond b 1 (suc n + 1)) rs)
  step n r rs b is =
      ap (λ (t : List Token). t ++ (row r ++ on (count_with size (suc n)) rs)) (before n ∙ ap (λ (c : Bool). cond c (back ++ front) []) is)
      ∙ ap (λ (k : ℕ). cond b (back ++ front) [] ++ (row r ++ on k rs)) (counted n ∙ ap (λ (c : Bool). cond c 1 (suc n + 1)) is)

  full : (a r t : List Token) → front ++ (a ++ ((back ++ front) ++ (r ++ t))) ≡ (front ++ (a ++ back)) ++ (front ++ ((r ++ []) ++ t))
  full a r t = simp (append_assoc, append-nil)

  begun-on : (b : Row) (bs rest : List Row) → front ++ (flat_map row (b ∷ bs) ++ on (suc (length bs)) rest) ≡ flat_map whole (batches_from size (b ∷ bs) rest)
  begun-on b bs [] = ap (λ t. front ++ (flat_map row (b ∷ bs) ++ t)) (ended (length bs)) ∙ sym (append-nil (whole (b ∷ bs)))
  begun-on b bs (r ∷ rs) = at (suc (length bs) == size) refl (begun-on r [] rs) (begun-on b (bs ++ r ∷ []) rs)
    where
      at : (c : Bool) → (suc (length bs) == size) ≡ c
          → front ++ (flat_map row (r ∷ []) ++ on 1 rs) ≡ flat_map whole (batches_from size (r ∷ []) rs)
          → front ++ (flat_map row (b ∷ (bs ++ r ∷ [])) ++ on (suc (length (bs ++ r ∷ []))) rs) ≡ flat_map whole (batches_from size (b ∷ (bs ++ r ∷ [])) rs)
          → front ++ (flat_map row (b ∷ bs) ++ on (suc (length bs)) (r ∷ rs)) ≡ flat_map whole (batches_from size (b ∷ bs) (r ∷ rs))
      at true is new more =
          ap (λ t. front ++ (flat_map row (b ∷ bs) ++ t)) (step (length bs) r rs true is)
          ∙ full (flat_map row (b ∷ bs)) (row r) (on 1 rs)
          ∙ ap (λ t. whole (b ∷ bs) ++ t) new
          ∙ ap (λ (c : Bool). flat_map whole (cond c ((b ∷ bs) ∷ batches_from size (r ∷ []) rs) (batches_from size (b ∷ (bs ++ r ∷ [])) rs))) (sym is)
      at false is new more =
          ap (λ t. front ++ (flat_map row (b ∷ bs) ++ t)) (step (length bs) r rs false is)
          ∙ ap (λ t. front ++ t) (sym (append_assoc (flat_map row (b ∷ bs)) (row r) (on (suc (length bs) + 1) rs)))
          ∙ ap (λ t. front ++ (t ++ on (suc (length bs) + 1) rs)) (sym (rows-append (b ∷ bs) r))
          ∙ ap (λ (k : ℕ). front ++ (flat_map row (b ∷ (bs ++ r ∷ [])) ++ on k rs)) (long bs)
          ∙ more
          ∙ ap (λ (c : Bool). flat_map whole (cond c ((b ∷ bs) ∷ batches_from size (r ∷ []) rs) (batches_from size (b ∷ (bs ++ r ∷ [])) rs))) (sym is)
        where
          long : (bs : List Row) → suc (length bs) + 1 ≡ suc (length (bs ++ r ∷ []))
          long bs = omega (arith, length-append bs (r ∷ []))

  pub rows_on-batches : (rows : List Row) → on 0 rows ≡ flat_map whole (batches size rows)
  rows_on-batches [] = refl
  rows_on-batches (r ∷ rs) = ap (λ t. front ++ (t ++ on 1 rs)) (sym (append-nil (row r))) ∙ begun-on r [] rs
