-- Truths that are kept as the bits of words.
use Rattle.std.proofs.Common.{inl, inr, ◌≡◌, ◌∙◌, sym, refl, ap, subst, ℕ, ◌+◌, ◌*◌, ◌/◌, ◌%◌, ◌<◌, ◌≤◌, ◌≢◌, ◌&&◌, ◌||◌, Bool, true, false, List, length, get_or, set, replicate, arith, Option, Some, None, MatchOption}
use Rattle.std.proofs.lemmas.Bool.{cases_eq, cases_lt}
use Rattle.std.proofs.lemmas.List.{length-set, get_or-set_same, get_or-set_other, get_or-replicate, get_or_past, length-replicate, ext_get_or}
use Rattle.std.proofs.lemmas.List.FromFn.{length-map-range_with_len, get_or-map-range_with_len}
use Rattle.std.proofs.lemmas.Nat.{div_below, mod_below, div-add-mod'}
use Rattle.std.specs.Int.RustNames.{bit_and, bit_or}
use Rattle.dr_bits.proofs.BitLemmas.{bit-and, bit-or}
use Rattle.dr_rowindex.specs.Truths.{truths, truth_in, has_bit, Joined}

pub length-truths : (words : List ℕ) (count : ℕ) → length (truths words count) ≡ count
unfolding truths
length-truths words count = length-map-range_with_len (truth_in words) 0 count

pub truth-at : (words : List ℕ) (count i : ℕ) → i < count → get_or (truths words count) i false ≡ truth_in words i
unfolding truths
truth-at words count i lt = get_or-map-range_with_len (truth_in words) 0 count i i false lt (omega arith)

pub truth-behind : (words : List ℕ) (count i : ℕ) → count ≤ i → false ≡ get_or (truths words count) i false
truth-behind words count i le = sym (get_or_past (truths words count) i false (omega (arith, le, length-truths words count)))

-- the word of a row is one that there is
pub word-within : (count i words : ℕ) → i < count → words ≡ count / 64 + 1 → i / 64 < words
word-within count i words lt is =
    let whole = div-add-mod' count 64 in
    let rest = mod_below count 64 (omega arith) in
    let below : i < (count / 64 + 1) * 64 = omega (arith, lt, whole, rest) in
    omega (arith, is, div_below i 64 (count / 64 + 1) (omega arith) below)

pub place-within : (i : ℕ) → i % 64 < 64
place-within i = mod_below i 64 (omega arith)

-- the truths of words that were paired one by one with others
pub joined : (f : ℕ → ℕ → ℕ) (op : Bool → Bool → Bool) (others before after : List ℕ) (count : ℕ)
    → ((w v k : ℕ) → has_bit (f w v) k ≡ op (has_bit w k) (has_bit v k))
    → length before ≡ count / 64 + 1
    → ((k : ℕ) → k < length before → get_or after k 0 ≡ f (get_or before k 0) (get_or others k 0))
    → Joined op (truths others count) (truths before count) (truths after count)
joined f op others before after count law long each = record {
  count = length-truths after count ∙ sym (length-truths before count);
  each = λ i lt.
      let lt' : i < count = omega (arith, lt, length-truths before count) in
      let k = i / 64 in
      truth-at after count i lt' ∙ ap (λ w. has_bit w (i % 64)) (each k (word-within count i (length before) lt' long))
      ∙ law (get_or before k 0) (get_or others k 0) (i % 64)
      ∙ ap (λ b. op b (has_bit (get_or others k 0) (i % 64))) (sym (truth-at before count i lt'))
      ∙ ap (op (get_or (truths before count) i false)) (sym (truth-at others count i lt'));
}

-- two places in one word that are one
same-place : (i j : ℕ) → j / 64 ≡ i / 64 → j % 64 ≡ i % 64 → j ≡ i
same-place i j d m = omega (arith, d, m, div-add-mod' i 64, div-add-mod' j 64)

-- one bit more
pub inserted : (words : List ℕ) (count i v : ℕ) → i < count → length words ≡ count / 64 + 1 → has_bit v (i % 64) ≡ true
    → ((j : ℕ) → j ≢ i % 64 → has_bit v j ≡ has_bit (get_or words (i / 64) 0) j)
    → truths (set words (i / 64) v) count ≡ set (truths words count) i true
inserted words count i v lt long is others =
    ext_get_or false (truths after count) (set before i true) (length-truths after count ∙ sym (length-set before i true ∙ length-truths words count)) each
  where
    after : List ℕ
    after = set words (i / 64) v

    before : List Bool
    before = truths words count

    within : i / 64 < length words
    within = word-within count i (length words) lt long

    other : (j : ℕ) → j < count → (j ≡ i → ⊥) → truth_in after j ≡ truth_in words j
    other j lt' apart = elim (cases_eq (j / 64) (i / 64)) [
      | inl same ↦ (ap (λ k. has_bit (get_or after k 0) (j % 64)) same ∙ ap (λ w. has_bit w (j % 64)) (get_or-set_same words (i / 64) v 0 within)
          ∙ others (j % 64) (λ m. apart (same-place i j same m)) ∙ ap (λ k. has_bit (get_or words k 0) (j % 64)) (sym same))
      | inr differs ↦ ap (λ w. has_bit w (j % 64)) (get_or-set_other words (i / 64) (j / 64) v 0 differs)
    ]

    each : (j : ℕ) → j < length (truths after count) → get_or (truths after count) j false ≡ get_or (set before i true) j false
    each j lt' =
        let within_count : j < count = omega (arith, lt', length-truths after count) in
        truth-at after count j within_count ∙ elim (cases_eq j i) [
          | inl same ↦ (subst (λ k. truth_in after k ≡ get_or (set before i true) k false) (sym same)
              (ap (λ w. has_bit w (i % 64)) (get_or-set_same words (i / 64) v 0 within) ∙ is
              ∙ sym (get_or-set_same before i true false (omega (arith, lt, length-truths words count)))))
          | inr differs ↦ (other j within_count differs ∙ sym (truth-at words count j within_count) ∙ sym (get_or-set_other before i j true false differs))
        ]

-- words that are all the same
pub alike : (words : List ℕ) (count w : ℕ) (b : Bool) → words ≡ replicate (count / 64 + 1) w → ((k : ℕ) → k < 64 → has_bit w k ≡ b) → truths words count ≡ replicate count b
alike words count w b are has =
    ext_get_or false (truths words count) (replicate count b) (length-truths words count ∙ sym (length-replicate count b)) (λ i lt.
    let lt' : i < count = omega (arith, lt, length-truths words count) in
    truth-at words count i lt'
    ∙ ap (λ v. has_bit v (i % 64)) (ap (λ l. get_or l (i / 64) 0) are ∙ get_or-replicate (count / 64 + 1) (i / 64) w 0 (word-within count i (count / 64 + 1) lt' refl))
    ∙ has (i % 64) (place-within i) ∙ sym (get_or-replicate count i b false lt'))

-- ---- two sets of the same rows

pub same-count : (self other : List Bool) (ws vs : List ℕ) (n m : ℕ) → truths ws n ≡ self → truths vs m ≡ other → length other ≡ length self → m ≡ n
same-count self other ws vs n m is is' long =
    sym (length-truths vs m) ∙ ap length is' ∙ long ∙ sym (ap length is) ∙ length-truths ws n

pub same-words : (self other : List Bool) (ws vs xs ys : List ℕ) (n m : ℕ) → truths ws n ≡ self → truths vs m ≡ other → length other ≡ length self
    → length ws ≡ n / 64 + 1 → length vs ≡ m / 64 + 1 → xs ≡ ws → ys ≡ vs → length ys ≡ length xs
same-words self other ws vs xs ys n m is is' long a b x y =
    ap length y ∙ b ∙ ap (λ k. k / 64 + 1) (same-count self other ws vs n m is is' long) ∙ sym a ∙ sym (ap length x)

pub joined-sets : (f : ℕ → ℕ → ℕ) (op : Bool → Bool → Bool) (self other : List Bool) (ws vs xs ys after : List ℕ) (n m : ℕ)
    → ((w v k : ℕ) → has_bit (f w v) k ≡ op (has_bit w k) (has_bit v k))
    → truths ws n ≡ self → truths vs m ≡ other → length other ≡ length self → length ws ≡ n / 64 + 1 → xs ≡ ws → ys ≡ vs
    → ((k : ℕ) → k < length xs → get_or after k 0 ≡ f (get_or xs k 0) (get_or ys k 0))
    → Joined op other self (truths after n)
joined-sets f op self other ws vs xs ys after n m law is is' long a x y each =
    subst (λ o. Joined op o self (truths after n)) (ap (truths vs) (sym (same-count self other ws vs n m is is' long)) ∙ is')
    (subst (λ s. Joined op (truths vs n) s (truths after n)) is
    (joined f op vs ws after n law a (λ k lt.
    each k (subst (λ l. k < length l) (sym x) lt) ∙ ap (λ l. f (get_or l k 0) (get_or ys k 0)) x ∙ ap (λ l. f (get_or ws k 0) (get_or l k 0)) y)))

pub row-within : (self : List Bool) (words : List ℕ) (count row : ℕ) → truths words count ≡ self → row < length self → row < count
row-within self words count row is lt = omega (arith, lt, sym (ap length is) ∙ length-truths words count)

-- ---- five sets of the same rows

abbrev pub met : (ws aws bws cws dws : List ℕ) → ℕ → ℕ
met ws aws bws cws dws k = bit_and (bit_and (bit_and (bit_and (get_or ws k 0) (get_or aws k 0)) (get_or bws k 0)) (get_or cws k 0)) (get_or dws k 0)

-- words that are read from elsewhere
pub met-same : (ws aws bws cws dws xs as' bs cs ds after : List ℕ) → xs ≡ ws → as' ≡ aws → bs ≡ bws → cs ≡ cws → ds ≡ dws → ((k : ℕ) → k < length xs → get_or after k 0 ≡ met xs as' bs cs ds k)
    → (k : ℕ) → k < length ws → get_or after k 0 ≡ met ws aws bws cws dws k
met-same ws aws bws cws dws xs as' bs cs ds after x a b c d each k lt =
    each k (subst (λ l. k < length l) (sym x) lt)
    ∙ ap (λ l. met l as' bs cs ds k) x ∙ ap (λ l. met ws l bs cs ds k) a ∙ ap (λ l. met ws aws l cs ds k) b ∙ ap (λ l. met ws aws bws l ds k) c ∙ ap (λ l. met ws aws bws cws l k) d

bit_seen : (self : List Bool) (ws : List ℕ) (n m i : ℕ) → truths ws m ≡ self → m ≡ n → i < n → has_bit (get_or ws (i / 64) 0) (i % 64) ≡ get_or self i false
bit_seen self ws n m i is same lt = sym (truth-at ws m i (omega (arith, lt, same))) ∙ ap (λ l. get_or l i false) is

-- a bit of words that were met
met_seen : (self a b c d : List Bool) (ws aws bws cws dws : List ℕ) (n ns na nb nc nd : ℕ) → truths ws ns ≡ self
    → truths aws na ≡ a → truths bws nb ≡ b → truths cws nc ≡ c → truths dws nd ≡ d → ns ≡ n → na ≡ n → nb ≡ n → nc ≡ n → nd ≡ n
    → (i : ℕ) → i < n → has_bit (met ws aws bws cws dws (i / 64)) (i % 64) ≡ ((((get_or self i false && get_or a i false) && get_or b i false) && get_or c i false) && get_or d i false)
met_seen self a b c d ws aws bws cws dws n ns na nb nc nd is isa isb isc isd ss sa sb sc sd i lt =
    let q = i / 64 in
    let r = i % 64 in
    let w0 = get_or ws q 0 in
    let w1 = get_or aws q 0 in
    let w2 = get_or bws q 0 in
    let w3 = get_or cws q 0 in
    let w4 = get_or dws q 0 in
    bit-and (bit_and (bit_and (bit_and w0 w1) w2) w3) w4 r
    ∙ ap (λ x. x && has_bit w4 r) (bit-and (bit_and (bit_and w0 w1) w2) w3 r ∙ ap (λ x. x && has_bit w3 r) (bit-and (bit_and w0 w1) w2 r ∙ ap (λ x. x && has_bit w2 r) (bit-and w0 w1 r)))
    ∙ ap (λ x. (((x && has_bit w1 r) && has_bit w2 r) && has_bit w3 r) && has_bit w4 r) (bit_seen self ws n ns i is ss lt)
    ∙ ap (λ x. (((get_or self i false && x) && has_bit w2 r) && has_bit w3 r) && has_bit w4 r) (bit_seen a aws n na i isa sa lt)
    ∙ ap (λ x. (((get_or self i false && get_or a i false) && x) && has_bit w3 r) && has_bit w4 r) (bit_seen b bws n nb i isb sb lt)
    ∙ ap (λ x. (((get_or self i false && get_or a i false) && get_or b i false) && x) && has_bit w4 r) (bit_seen c cws n nc i isc sc lt)
    ∙ ap (λ x. (((get_or self i false && get_or a i false) && get_or b i false) && get_or c i false) && x) (bit_seen d dws n nd i isd sd lt)

pub four-sets : (self a b c d : List Bool) (ws aws bws cws dws after : List ℕ) (n na nb nc nd : ℕ) → truths ws n ≡ self
    → truths aws na ≡ a → truths bws nb ≡ b → truths cws nc ≡ c → truths dws nd ≡ d → na ≡ n → nb ≡ n → nc ≡ n → nd ≡ n → length ws ≡ n / 64 + 1
    → ((k : ℕ) → k < length ws → get_or after k 0 ≡ met ws aws bws cws dws k)
    → (i : ℕ) → i < length self → get_or (truths after n) i false ≡ ((((get_or self i false && get_or a i false) && get_or b i false) && get_or c i false) && get_or d i false)
four-sets self a b c d ws aws bws cws dws after n na nb nc nd is isa isb isc isd sa sb sc sd long each i lt =
    let lt' : i < n = omega (arith, lt, sym (ap length is) ∙ length-truths ws n) in
    truth-at after n i lt'
    ∙ ap (λ w. has_bit w (i % 64)) (each (i / 64) (word-within n i (length ws) lt' long))
    ∙ met_seen self a b c d ws aws bws cws dws n n na nb nc nd is isa isb isc isd refl sa sb sc sd i lt'

-- ---- what five sets have together is added to a sixth

abbrev pub added : (ws ows aws bws cws dws : List ℕ) → ℕ → ℕ
added ws ows aws bws cws dws k = bit_or (get_or ws k 0) (met ows aws bws cws dws k)

pub added-same : (ws ows aws bws cws dws xs os as' bs cs ds after : List ℕ) → xs ≡ ws → os ≡ ows → as' ≡ aws → bs ≡ bws → cs ≡ cws → ds ≡ dws → ((k : ℕ) → k < length xs → get_or after k 0 ≡ added xs os as' bs cs ds k)
    → (k : ℕ) → k < length ws → get_or after k 0 ≡ added ws ows aws bws cws dws k
added-same ws ows aws bws cws dws xs os as' bs cs ds after x o a b c d each k lt =
    each k (subst (λ l. k < length l) (sym x) lt) ∙ ap (λ l. bit_or (get_or l k 0) (met os as' bs cs ds k)) x
    ∙ ap (bit_or (get_or ws k 0)) (ap (λ l. met l as' bs cs ds k) o ∙ ap (λ l. met ows l bs cs ds k) a ∙ ap (λ l. met ows aws l cs ds k) b ∙ ap (λ l. met ows aws bws l ds k) c ∙ ap (λ l. met ows aws bws cws l k) d)

pub sets-added : (self o a b c d : List Bool) (ws ows aws bws cws dws after : List ℕ) (n ne na nb nc nd : ℕ) → truths ws n ≡ self
    → truths ows ne ≡ o → truths aws na ≡ a → truths bws nb ≡ b → truths cws nc ≡ c → truths dws nd ≡ d → ne ≡ n → na ≡ n → nb ≡ n → nc ≡ n → nd ≡ n → length ws ≡ n / 64 + 1
    → ((k : ℕ) → k < length ws → get_or after k 0 ≡ added ws ows aws bws cws dws k)
    → (i : ℕ) → i < length self → get_or (truths after n) i false ≡ (get_or self i false || ((((get_or o i false && get_or a i false) && get_or b i false) && get_or c i false) && get_or d i false))
sets-added self o a b c d ws ows aws bws cws dws after n ne na nb nc nd is iso isa isb isc isd se sa sb sc sd long each i lt =
    let lt' : i < n = omega (arith, lt, sym (ap length is) ∙ length-truths ws n) in
    truth-at after n i lt'
    ∙ ap (λ w. has_bit w (i % 64)) (each (i / 64) (word-within n i (length ws) lt' long))
    ∙ bit-or (get_or ws (i / 64) 0) (met ows aws bws cws dws (i / 64)) (i % 64)
    ∙ ap (λ x. x || has_bit (met ows aws bws cws dws (i / 64)) (i % 64)) (bit_seen self ws n n i is refl lt')
    ∙ ap (λ x. get_or self i false || x) (met_seen o a b c d ows aws bws cws dws n ne na nb nc nd iso isa isb isc isd se sa sb sc sd i lt')

-- ---- what three sets have together is added to a fourth

abbrev pub added_three : (ws ows aws bws : List ℕ) → ℕ → ℕ
added_three ws ows aws bws k = bit_or (get_or ws k 0) (bit_and (bit_and (get_or ows k 0) (get_or aws k 0)) (get_or bws k 0))

pub added_three-same : (ws ows aws bws xs os as' bs after : List ℕ) → xs ≡ ws → os ≡ ows → as' ≡ aws → bs ≡ bws → ((k : ℕ) → k < length xs → get_or after k 0 ≡ added_three xs os as' bs k)
    → (k : ℕ) → k < length ws → get_or after k 0 ≡ added_three ws ows aws bws k
added_three-same ws ows aws bws xs os as' bs after x o a b each k lt =
    each k (subst (λ l. k < length l) (sym x) lt) ∙ ap (λ l. added_three l os as' bs k) x ∙ ap (λ l. added_three ws l as' bs k) o ∙ ap (λ l. added_three ws ows l bs k) a ∙ ap (λ l. added_three ws ows aws l k) b

pub three-added : (self o a b : List Bool) (ws ows aws bws after : List ℕ) (n ne na nb : ℕ) → truths ws n ≡ self
    → truths ows ne ≡ o → truths aws na ≡ a → truths bws nb ≡ b → ne ≡ n → na ≡ n → nb ≡ n → length ws ≡ n / 64 + 1
    → ((k : ℕ) → k < length ws → get_or after k 0 ≡ added_three ws ows aws bws k)
    → (i : ℕ) → i < length self → get_or (truths after n) i false ≡ (get_or self i false || ((get_or o i false && get_or a i false) && get_or b i false))
three-added self o a b ws ows aws bws after n ne na nb is iso isa isb se sa sb long each i lt =
    let lt' : i < n = omega (arith, lt, sym (ap length is) ∙ length-truths ws n) in
    let q = i / 64 in
    let r = i % 64 in
    let w0 = get_or ows q 0 in
    let w1 = get_or aws q 0 in
    let w2 = get_or bws q 0 in
    truth-at after n i lt'
    ∙ ap (λ w. has_bit w r) (each q (word-within n i (length ws) lt' long))
    ∙ bit-or (get_or ws q 0) (bit_and (bit_and w0 w1) w2) r
    ∙ ap (λ x. x || has_bit (bit_and (bit_and w0 w1) w2) r) (bit_seen self ws n n i is refl lt')
    ∙ ap (λ x. get_or self i false || x) (bit-and (bit_and w0 w1) w2 r ∙ ap (λ x. x && has_bit w2 r) (bit-and w0 w1 r)
    ∙ ap (λ x. (x && has_bit w1 r) && has_bit w2 r) (bit_seen o ows n ne i iso se lt')
    ∙ ap (λ x. (get_or o i false && x) && has_bit w2 r) (bit_seen a aws n na i isa sa lt')
    ∙ ap (λ x. (get_or o i false && get_or a i false) && x) (bit_seen b bws n nb i isb sb lt'))

-- ---- what five sets have together is put for a sixth

pub put-same : (ws ows aws bws cws dws xs os as' bs cs ds after : List ℕ) → xs ≡ ws → os ≡ ows → as' ≡ aws → bs ≡ bws → cs ≡ cws → ds ≡ dws → ((k : ℕ) → k < length xs → get_or after k 0 ≡ met os as' bs cs ds k)
    → (k : ℕ) → k < length ws → get_or after k 0 ≡ met ows aws bws cws dws k
put-same ws ows aws bws cws dws xs os as' bs cs ds after x o a b c d each k lt =
    each k (subst (λ l. k < length l) (sym x) lt)
    ∙ ap (λ l. met l as' bs cs ds k) o ∙ ap (λ l. met ows l bs cs ds k) a ∙ ap (λ l. met ows aws l cs ds k) b ∙ ap (λ l. met ows aws bws l ds k) c ∙ ap (λ l. met ows aws bws cws l k) d

pub sets-put : (self o a b c d : List Bool) (ws ows aws bws cws dws after : List ℕ) (n ne na nb nc nd : ℕ) → truths ws n ≡ self
    → truths ows ne ≡ o → truths aws na ≡ a → truths bws nb ≡ b → truths cws nc ≡ c → truths dws nd ≡ d → ne ≡ n → na ≡ n → nb ≡ n → nc ≡ n → nd ≡ n → length ws ≡ n / 64 + 1
    → ((k : ℕ) → k < length ws → get_or after k 0 ≡ met ows aws bws cws dws k)
    → (i : ℕ) → i < length self → get_or (truths after n) i false ≡ ((((get_or o i false && get_or a i false) && get_or b i false) && get_or c i false) && get_or d i false)
sets-put self o a b c d ws ows aws bws cws dws after n ne na nb nc nd is iso isa isb isc isd se sa sb sc sd long each i lt =
    let lt' : i < n = omega (arith, lt, sym (ap length is) ∙ length-truths ws n) in
    truth-at after n i lt'
    ∙ ap (λ w. has_bit w (i % 64)) (each (i / 64) (word-within n i (length ws) lt' long))
    ∙ met_seen o a b c d ows aws bws cws dws n ne na nb nc nd iso isa isb isc isd se sa sb sc sd i lt'

-- the first bit from one on is the first row that is told to be in the set
pub first-row : (words : List ℕ) (count row : ℕ) (self : List Bool) (found : Option ℕ) → truths words count ≡ self
    → MatchOption found ((k : ℕ) → row ≤ k → k < count → truth_in words k ≡ false) (λ k. (row ≤ k) × (k < count) × (truth_in words k ≡ true) × ((j : ℕ) → row ≤ j → j < k → truth_in words j ≡ false))
    → MatchOption found ((k : ℕ) → row ≤ k → get_or self k false ≡ false) (λ k. (row ≤ k) × (k < length self) × (get_or self k false ≡ true) × ((j : ℕ) → row ≤ j → j < k → get_or self j false ≡ false))
first-row words count row self None same is = λ k le. ap (λ l. get_or l k false) (sym same) ∙ elim (cases_lt k count) [
  | inl lt ↦ truth-at words count k lt ∙ is k le lt
  | inr ge ↦ sym (truth-behind words count k ge)
]
first-row words count row self (Some k) same is =
    let long : length self ≡ count = ap length (sym same) ∙ length-truths words count in (
      is.0,
      omega (arith, is.1, long),
      ap (λ l. get_or l k false) (sym same) ∙ truth-at words count k is.1 ∙ is.2,
      λ j le lt. ap (λ l. get_or l j false) (sym same) ∙ truth-at words count j (omega (arith, lt, is.1)) ∙ is.3 j le lt,
    )
