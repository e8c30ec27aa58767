-- Keys that are the same.
use Rattle.std.proofs.Common.{ℤ, ◌≡◌, ◌∙◌, sym, refl, ap, ℕ, Bool, true, false, ◌&&◌, List, bytes_eq, subst, true≢false}
use Rattle.std.specs.Ordering.{int_eq, is_eq}
use Rattle.std.specs.Cmp.Lexicographic.{pointwise}
use Rattle.std.specs.declared.cmp.Ordering.{Ordering}
use Rattle.std.specs.declared.cmp.Ordering.TheVariants.{Less, Equal, Greater}
use Rattle.dr_base.specs.declared.key.Key.{Key}
use Rattle.dr_base.specs.Order.{key_cmp}
use Rattle.dr_base.proofs.Equality.{keys_decide}
use Rattle.dr_agg.proofs.KeyOrder.{same_key, itself}
use Rattle.dr_rollup.specs.Entries.{same_keys}

itself_too : (k : Key) → same_keys k k ≡ true
itself_too k = ap is_eq (itself k)

decided : (o : Ordering) → is_eq o ≡ true → o ≡ Equal
decided Less h = absurd (true≢false (sym h))
decided Equal h = refl
decided Greater h = absurd (true≢false (sym h))

pub equal_keys : (a b : Key) → same_keys a b ≡ true → a ≡ b
equal_keys a b h = same_key a b (decided (key_cmp a b) h)

-- the time is that of the key, and the dimension values are its own
abbrev pub same_parts : ℤ → List (List ℕ) → Key → Bool
same_parts time dims k = int_eq time k.time && pointwise bytes_eq dims k.dims

-- parts are those of a key just where keys are the same
pub parts-same_keys : (k j : Key) → same_parts k.time k.dims j ≡ same_keys k j
parts-same_keys k j =
    elim (same_parts k.time k.dims j) as (λ b. same_parts k.time k.dims j ≡ b → b ≡ same_keys k j) [
      | true ↦ λ h. sym (subst (λ x. same_keys k x ≡ true) ((keys_decide k j).0 h) (itself_too k))
      | false ↦ λ h. elim (same_keys k j) as (λ b. same_keys k j ≡ b → false ≡ b) [
        | true ↦ λ g. absurd (true≢false (sym ((keys_decide k j).1 (equal_keys k j g)) ∙ h))
        | false ↦ λ g. refl
      ] refl
    ] refl
