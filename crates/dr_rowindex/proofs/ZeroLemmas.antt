-- Words without a bit, and sets of no rows.
use Rattle.std.proofs.Common.{inl, inr, ◌≡◌, ◌∙◌, sym, refl, ap, ℕ, zero, suc, ◌+◌, ◌<◌, ◌≤◌, ◌/◌, ◌%◌, ◌&&◌, ◌||◌, not, eqb, Bool, true, false, List, length, get_or, set, arith}
use Rattle.std.specs.Int.RustNames.{bit_or}
use Rattle.std.proofs.lemmas.Bool.{cases_lt}
use Rattle.std.proofs.lemmas.Nat.{le_or_l, le_or_r}
use Rattle.std.proofs.lemmas.List.{get_or-set_other, get_or_past}
use Rattle.dr_bits.proofs.BitLemmas.{bit-zero}
use Rattle.dr_rowindex.specs.Truths.{truths, has_bit, Joined}
use Rattle.dr_rowindex.specs.Zeros.{AreZero}
use Rattle.dr_rowindex.proofs.TruthLemmas.{truth-at, truth-behind}

-- the words up to a place have no bit that isn't gathered
abbrev pub AreGathered : (k gathered : ℕ) → List ℕ → Type 0
AreGathered k gathered words = gathered ≡ 0 → (i : ℕ) → i < k → get_or words i 0 ≡ 0

pub gathered-more : (k gathered v : ℕ) (words : List ℕ) → k < length words → AreGathered k gathered words → AreGathered (k + 1) (bit_or gathered (get_or (set words k v) k 0)) (set words k v)
gathered-more k gathered v words lt was none i below =
    let here : get_or (set words k v) k 0 ≡ 0 = omega (arith, none, le_or_r gathered (get_or (set words k v) k 0)) in
    elim (cases_lt i k) [
      | inl less ↦ get_or-set_other words k i v 0 (λ e. absurd (omega (arith, e, less))) ∙ was (omega (arith, none, le_or_l gathered (get_or (set words k v) k 0))) i less
      | inr le ↦ (let same : i ≡ k = omega (arith, below, le) in ap (λ j. get_or (set words k v) j 0) same ∙ here)
    ]

pub all-gathered : (k gathered : ℕ) (words : List ℕ) → length words ≤ k → AreGathered k gathered words → gathered ≡ 0 → AreZero words
all-gathered k gathered words le was none i = elim (cases_lt i k) [
  | inl less ↦ was none i less
  | inr more ↦ get_or_past words i 0 (omega (arith, more, le))
]

pub nothing-left : (gathered : ℕ) → not (eqb gathered 0) ≡ false → gathered ≡ 0
nothing-left zero none = refl
nothing-left (suc n) none = absurd (grind (arith, none))

-- ---- sets

pub zero-truth : (words : List ℕ) (count i : ℕ) → AreZero words → get_or (truths words count) i false ≡ false
zero-truth words count i zeros = elim (cases_lt i count) [
  | inl less ↦ truth-at words count i less ∙ ap (λ w. has_bit w (i % 64)) (zeros (i / 64)) ∙ bit-zero (i % 64)
  | inr more ↦ sym (truth-behind words count i more)
]

-- nothing is left of a set of no rows
pub none-kept : (op : Bool → Bool → Bool) (self others : List Bool) (words : List ℕ) (count : ℕ) → truths words count ≡ self → AreZero words → ((b : Bool) → op false b ≡ false) → Joined op others self self
none-kept op self others words count is zeros kept = record {
  count = refl;
  each = λ i lt.
      let none : get_or self i false ≡ false = ap (λ l. get_or l i false) (sym is) ∙ zero-truth words count i zeros in
      none ∙ sym (ap (λ b. op b (get_or others i false)) none ∙ kept (get_or others i false));
}

-- a set of no rows changes nothing
pub none-joined : (op : Bool → Bool → Bool) (self others : List Bool) (words : List ℕ) (count : ℕ) → truths words count ≡ others → AreZero words → op true false ≡ true → op false false ≡ false → Joined op others self self
none-joined op self others words count is zeros some none = record {
  count = refl;
  each = λ i lt. sym (ap (op (get_or self i false)) (ap (λ l. get_or l i false) (sym is) ∙ zero-truth words count i zeros) ∙ same (get_or self i false));
}
  where
    same : (b : Bool) → op b false ≡ b
    same true = some
    same false = none

-- nor where it is asked for the rows of four others
pub none-of-four : (self a b c d : List Bool) (words : List ℕ) (count : ℕ) → truths words count ≡ self → AreZero words
    → (i : ℕ) → i < length self → get_or self i false ≡ ((((get_or self i false && get_or a i false) && get_or b i false) && get_or c i false) && get_or d i false)
none-of-four self a b c d words count is zeros i lt =
    let none : get_or self i false ≡ false = ap (λ l. get_or l i false) (sym is) ∙ zero-truth words count i zeros in
    none ∙ sym (ap (λ x. (((x && get_or a i false) && get_or b i false) && get_or c i false) && get_or d i false) none)

-- nor is any added where the first has none
pub none-added : (self o a b c d : List Bool) (words : List ℕ) (count : ℕ) → truths words count ≡ o → AreZero words
    → (i : ℕ) → i < length self → get_or self i false ≡ (get_or self i false || ((((get_or o i false && get_or a i false) && get_or b i false) && get_or c i false) && get_or d i false))
none-added self o a b c d words count is zeros i lt =
    let none : get_or o i false ≡ false = ap (λ l. get_or l i false) (sym is) ∙ zero-truth words count i zeros in
    alone (get_or self i false) ∙ ap (λ x. get_or self i false || ((((x && get_or a i false) && get_or b i false) && get_or c i false) && get_or d i false)) (sym none)
  where
    alone : (x : Bool) → x ≡ (x || false)
    alone true = refl
    alone false = refl

pub none-added-two : (self o a b : List Bool) (words : List ℕ) (count : ℕ) → truths words count ≡ o → AreZero words
    → (i : ℕ) → i < length self → get_or self i false ≡ (get_or self i false || ((get_or o i false && get_or a i false) && get_or b i false))
none-added-two self o a b words count is zeros i lt =
    let none : get_or o i false ≡ false = ap (λ l. get_or l i false) (sym is) ∙ zero-truth words count i zeros in
    alone (get_or self i false) ∙ ap (λ x. get_or self i false || ((x && get_or a i false) && get_or b i false)) (sym none)
  where
    alone : (x : Bool) → x ≡ (x || false)
    alone true = refl
    alone false = refl
