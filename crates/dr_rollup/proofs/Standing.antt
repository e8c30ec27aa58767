-- Where keys stand.
use Rattle.std.proofs.Common.{inl, inr, ◌≡◌, ◌∙◌, sym, ap, refl, subst, ℕ, zero, suc, ◌+◌, ◌<◌, Bool, true, false, true≢false, Some, is_some, unwrap_or, cond, List, [], ◌∷◌, ◌++◌, map, length, ℤ, slice_get, arith}
use Rattle.std.specs.Prelude.{◌⊎◌}
use Rattle.std.specs.Ordering.{is_eq}
use Rattle.dr_base.specs.declared.key.Key.{Key}
use Rattle.dr_base.specs.declared.row.Row.{Row}
use Rattle.dr_agg.specs.declared.kind.Kind.{Kind}
use Rattle.dr_agg.specs.Combination.{combine_columns}
use Rattle.dr_rollup.specs.Unrolled.{contributions}
use Rattle.dr_rollup.proofs.Flat.{member}
use Rattle.dr_rollup.specs.Entries.{same_keys, NoneHas, HasKeyAt, Combines}
use Rattle.std.specs.BTreeMap.{BTreeMap, get, is_at}
use Rattle.dr_base.specs.Order.{key_cmp}
use Rattle.dr_slots.specs.declared.table.Table.{Table}
use Rattle.dr_rollup.specs.Hashes.{key_hash}
use Rattle.dr_slots.specs.Table.{Finds, KeepsFound}
use Rattle.dr_rollup.specs.Placed.{StandsAt, IsNew, AreFoundIn}
use Rattle.dr_rollup.proofs.Growing.{keys_set}
use Rattle.dr_rollup.proofs.Keys.{equal_keys}
use Rattle.dr_agg.proofs.KeyOrder.{itself}

there : (keys : List Key) (p : ℕ) → p < length keys → (k : Key) × (slice_get keys p ≡ Some k)
there [] p less = absurd (omega (arith, less))
there (k ∷ keys) zero less = (k, refl)
there (k ∷ keys) (suc p) less = there keys p (omega (arith, less))

pub stands-within : (keys : List Key) (k : Key) (p : ℕ) → StandsAt keys k p → p < length keys
stands-within [] k p at = absurd (true≢false (sym (ap is_some at)))
stands-within (x ∷ keys) k zero at = omega arith
stands-within (x ∷ keys) k (suc p) at = let less = stands-within keys k p at in omega (arith, less)

-- what is told of the key at a place
pub is-there : (keys : List Key) (k : Key) (p : ℕ) (b : Bool) → p < length keys → ((j : Key) → slice_get keys p ≡ Some j → b ≡ same_keys k j) → b ≡ true → StandsAt keys k p
is-there keys k p b less tells is = let j = there keys p less in subst (λ i. StandsAt keys i p) (sym (equal_keys k j.0 (sym (tells j.0 j.1) ∙ is))) j.1

pub isn't-there : (keys : List Key) (k : Key) (p : ℕ) (b : Bool) → ((j : Key) → slice_get keys p ≡ Some j → b ≡ same_keys k j) → b ≡ false → StandsAt keys k p → ⊥
isn't-there keys k p b tells is at = true≢false (sym (ap is_eq (itself k)) ∙ sym (tells k at) ∙ is)

-- ---- a key more

last-or-before : (keys : List Key) (k j : Key) (i : ℕ) → StandsAt (keys ++ k ∷ []) j i → StandsAt keys j i ⊎ (k ≡ j)
last-or-before [] k j zero at = inr (ap (λ o. unwrap_or o k) at)
last-or-before [] k j (suc i) at = absurd (true≢false (sym (ap is_some at)))
last-or-before (x ∷ keys) k j zero at = inl at
last-or-before (x ∷ keys) k j (suc i) at = last-or-before keys k j i at

stands-still : (keys : List Key) (k j : Key) (i : ℕ) → StandsAt keys j i → StandsAt (keys ++ k ∷ []) j i
stands-still [] k j i at = absurd (true≢false (sym (ap is_some at)))
stands-still (x ∷ keys) k j zero at = at
stands-still (x ∷ keys) k j (suc i) at = stands-still keys k j i at

stands-last : (keys : List Key) (k : Key) → StandsAt (keys ++ k ∷ []) k (length keys)
stands-last [] k = refl
stands-last (x ∷ keys) k = stands-last keys k

pub found-kept : (keys : List Key) (old new : Table) (far : BTreeMap Key ℕ) → KeepsFound old new → AreFoundIn keys old far → AreFoundIn keys new far
found-kept keys old new far keeps found = λ k i at. by k (found k i at)
  where
    by : (k : Key) → (place : ℕ) × StandsAt keys k place × (Finds old (key_hash k) place ⊎ (get key_cmp far k ≡ Some place)) → (place : ℕ) × StandsAt keys k place × (Finds new (key_hash k) place ⊎ (get key_cmp far k ≡ Some place))
    by k (place, stands, inl near) = (place, stands, inl (keeps (key_hash k) place near))
    by k (place, stands, inr behind) = (place, stands, inr behind)

pub found-longer : (keys : List Key) (k : Key) (table : Table) (far : BTreeMap Key ℕ) → Finds table (key_hash k) (length keys) ⊎ (get key_cmp far k ≡ Some (length keys)) → AreFoundIn keys table far → AreFoundIn (keys ++ k ∷ []) table far
found-longer keys k table far here found = λ j i at. by j i (last-or-before keys k j i at)
  where
    still : (j : Key) → (place : ℕ) × StandsAt keys j place × (Finds table (key_hash j) place ⊎ (get key_cmp far j ≡ Some place)) → (place : ℕ) × StandsAt (keys ++ k ∷ []) j place × (Finds table (key_hash j) place ⊎ (get key_cmp far j ≡ Some place))
    still j it = (it.0, stands-still keys k j it.0 it.1, it.2)

    by : (j : Key) (i : ℕ) → StandsAt keys j i ⊎ (k ≡ j) → (place : ℕ) × StandsAt (keys ++ k ∷ []) j place × (Finds table (key_hash j) place ⊎ (get key_cmp far j ≡ Some place))
    by j i (inl before) = still j (found j i before)
    by j i (inr is) = subst (λ x. (place : ℕ) × StandsAt (keys ++ k ∷ []) x place × (Finds table (key_hash x) place ⊎ (get key_cmp far x ≡ Some place))) is (length keys, stands-last keys k, here)

pub found-behind : (keys : List Key) (k : Key) (table : Table) (old new : BTreeMap Key ℕ) (place : ℕ) → ((q : Key) → get key_cmp new q ≡ cond (is_at (key_cmp k) q) (Some place) (get key_cmp old q)) → IsNew keys k → AreFoundIn keys table old → AreFoundIn keys table new
found-behind keys k table old new place updates fresh found = λ j i at. by j (found j i at)
  where
    other : (j : Key) (p : ℕ) → StandsAt keys j p → is_at (key_cmp k) j ≡ false
    other j p stands = elim (is_at (key_cmp k) j) as (λ b. is_at (key_cmp k) j ≡ b → b ≡ false) [ true ↦ λ same. absurd (fresh p (subst (λ x. StandsAt keys x p) (sym (equal_keys k j same)) stands)) | false ↦ λ same. refl ] refl

    by : (j : Key) → (p : ℕ) × StandsAt keys j p × (Finds table (key_hash j) p ⊎ (get key_cmp old j ≡ Some p)) → (p : ℕ) × StandsAt keys j p × (Finds table (key_hash j) p ⊎ (get key_cmp new j ≡ Some p))
    by j (p, stands, inl near) = (p, stands, inl near)
    by j (p, stands, inr behind) = (p, stands, inr (updates j ∙ ap (λ b. cond b (Some place) (get key_cmp old j)) (other j p stands) ∙ behind))

pub below-or-at : (p n : ℕ) → p < n + 1 → (p < n) ⊎ (p ≡ n)
below-or-at zero zero less = inr refl
below-or-at zero (suc n) less = inl (omega arith)
below-or-at (suc p) zero less = absurd (omega (arith, less))
below-or-at (suc p) (suc n) less = by (below-or-at p n (omega (arith, less)))
  where
    by : (p < n) ⊎ (p ≡ n) → (suc p < suc n) ⊎ (suc p ≡ suc n)
    by (inl before) = inl (omega (arith, before))
    by (inr here) = inr (ap suc here)

pub is-new : (k : Key) (rows : List Row) → NoneHas k rows → IsNew (map (λ r. r.key) rows) k
is-new k [] none place at = true≢false (sym (ap is_some at))
is-new k (r ∷ rows) none zero at = true≢false (sym (ap is_eq (itself k)) ∙ ap (same_keys k) (sym (ap (λ o. unwrap_or o k) at)) ∙ none.0)
is-new k (r ∷ rows) none (suc place) at = is-new k rows none.1 place at

pub keys-further : (rows : List Row) (r : Row) → map (λ x. x.key) (rows ++ r ∷ []) ≡ map (λ x. x.key) rows ++ r.key ∷ []
keys-further [] r = refl
keys-further (x ∷ rows) r = ap (λ l. x.key ∷ l) (keys-further rows r)

pub keys-counted : (rows : List Row) → length (map (λ x. x.key) rows) ≡ length rows
keys-counted [] = refl
keys-counted (x ∷ rows) = ap suc (keys-counted rows)

pub keys-combined : (kinds : List Kind) (inputs : List ℤ) (rows next : List Row) (p : ℕ) → p < length rows → Combines kinds inputs rows p next → map (λ x. x.key) next ≡ map (λ x. x.key) rows
keys-combined kinds inputs rows next p lt all =
    let r = member rows p lt in
    ap (map (λ x. x.key)) (all r.0 r.1) ∙ keys_set rows p r.0 (combine_columns kinds r.0.metrics (contributions kinds inputs)) r.1

-- a row at a place where a key stands
pub has-key-at : (k : Key) (rows : List Row) (p : ℕ) → StandsAt (map (λ x. x.key) rows) k p → HasKeyAt k rows p
has-key-at k [] p at = absurd (true≢false (sym (ap is_some at)))
has-key-at k (r ∷ rows) zero at = (r, refl, ap (λ o. unwrap_or o k) at)
has-key-at k (r ∷ rows) (suc p) at = has-key-at k rows p at

pub none-has : (k : Key) (rows : List Row) → IsNew (map (λ x. x.key) rows) k → NoneHas k rows
none-has k [] fresh = tt
none-has k (r ∷ rows) fresh = (elim (same_keys k r.key) as (λ b. same_keys k r.key ≡ b → b ≡ false) [ true ↦ λ same. absurd (fresh zero (ap Some (sym (equal_keys k r.key same)))) | false ↦ λ same. refl ] refl, none-has k rows (λ p at. fresh (suc p) at))

pub key-there : (rows : List Row) (p : ℕ) (k : Key) (r : Row) → slice_get (map (λ x. x.key) rows) p ≡ Some k → slice_get rows p ≡ Some r → k ≡ r.key
key-there [] p k r at there = absurd (true≢false (sym (ap is_some at)))
key-there (x ∷ rows) zero k r at there = sym (ap (λ o. unwrap_or o k) at) ∙ ap (λ o. (unwrap_or o r).key) there
key-there (x ∷ rows) (suc p) k r at there = key-there rows p k r at there

pub found-same : (keys : List Key) (table : Table) (old new : BTreeMap Key ℕ) → ((q : Key) → get key_cmp new q ≡ get key_cmp old q) → AreFoundIn keys table old → AreFoundIn keys table new
found-same keys table old new same found = λ j i at. by j (found j i at)
  where
    by : (j : Key) → (p : ℕ) × StandsAt keys j p × (Finds table (key_hash j) p ⊎ (get key_cmp old j ≡ Some p)) → (p : ℕ) × StandsAt keys j p × (Finds table (key_hash j) p ⊎ (get key_cmp new j ≡ Some p))
    by j (p, stands, inl near) = (p, stands, inl near)
    by j (p, stands, inr behind) = (p, stands, inr (same j ∙ behind))
