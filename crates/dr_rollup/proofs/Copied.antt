-- A map that is copied key by key.
use Rattle.std.proofs.Common.{◌≡◌, ◌∙◌, sym, ap, refl, ℕ, Bool, true, false, cond, Option, None, Some, is_some, true≢false, List, [], ◌∷◌, ◌++◌, map, Bor}
use Rattle.std.specs.Map.{lookup}
use Rattle.std.specs.BTreeMap.{is_at}
use Rattle.dr_base.specs.declared.key.Key.{Key}
use Rattle.dr_base.specs.Order.{key_cmp}
use Rattle.dr_rollup.proofs.Keys.{equal_keys}
use Rattle.dr_rollup.proofs.Rows.{same_keys-comm}

abbrev first : Option ℕ → Option ℕ → Option ℕ
first None b = b
first (Some a) b = Some a

first-none : (a : Option ℕ) → first a None ≡ a
first-none None = refl
first-none (Some a) = refl

pushed : (test : Key → Bool) (es : List (Bor Key × Bor ℕ)) (e : Bor Key × Bor ℕ) → lookup test (map (λ x. (x.0.now, x.1.now)) (es ++ e ∷ [])) ≡ first (lookup test (map (λ x. (x.0.now, x.1.now)) es)) (cond (test e.0.now) (Some e.1.now) None)
pushed test [] e = refl
pushed test (x ∷ es) e = elim (test x.0.now) as (λ b. cond b (Some x.1.now) (lookup test (map (λ y. (y.0.now, y.1.now)) (es ++ e ∷ []))) ≡ first (cond b (Some x.1.now) (lookup test (map (λ y. (y.0.now, y.1.now)) es))) (cond (test e.0.now) (Some e.1.now) None)) [ true ↦ refl | false ↦ pushed test es e ]

-- behind a new key
pub with-new : (es : List (Bor Key × Bor ℕ)) (e : Bor Key × Bor ℕ) (q : Key) (old new : Key → Option ℕ)
    → ((k : Key) → old k ≡ lookup (is_at (key_cmp k)) (map (λ x. (x.0.now, x.1.now)) es)) → old e.0.now ≡ None
    → ((k : Key) → new k ≡ cond (is_at (key_cmp e.0.now) k) (Some e.1.now) (old k))
    → new q ≡ lookup (is_at (key_cmp q)) (map (λ x. (x.0.now, x.1.now)) (es ++ e ∷ []))
with-new es e q old new same none updates = updates q ∙ by (is_at (key_cmp e.0.now) q) refl ∙ sym (pushed (is_at (key_cmp q)) es e)
  where
    by : (b : Bool) → is_at (key_cmp e.0.now) q ≡ b → cond (is_at (key_cmp e.0.now) q) (Some e.1.now) (old q) ≡ first (lookup (is_at (key_cmp q)) (map (λ x. (x.0.now, x.1.now)) es)) (cond (is_at (key_cmp q) e.0.now) (Some e.1.now) None)
    by true is =
        ap (λ b. cond b (Some e.1.now) (old q)) is
        ∙ sym (ap (λ o. first o (cond (is_at (key_cmp q) e.0.now) (Some e.1.now) None)) (sym (same q) ∙ ap old (sym (equal_keys e.0.now q is)) ∙ none) ∙ ap (λ b. cond b (Some e.1.now) None) (same_keys-comm q e.0.now ∙ is))
    by false is =
        ap (λ b. cond b (Some e.1.now) (old q)) is ∙ same q
        ∙ sym (ap (λ b. first (lookup (is_at (key_cmp q)) (map (λ x. (x.0.now, x.1.now)) es)) (cond b (Some e.1.now) None)) (same_keys-comm q e.0.now ∙ is) ∙ first-none _)

-- behind a key that is there
pub with-known : (es : List (Bor Key × Bor ℕ)) (e : Bor Key × Bor ℕ) (q : Key) (old : Key → Option ℕ)
    → ((k : Key) → old k ≡ lookup (is_at (key_cmp k)) (map (λ x. (x.0.now, x.1.now)) es)) → is_some (old e.0.now) ≡ true
    → old q ≡ lookup (is_at (key_cmp q)) (map (λ x. (x.0.now, x.1.now)) (es ++ e ∷ []))
with-known es e q old same some = by (is_at (key_cmp q) e.0.now) refl (old q) refl ∙ sym (pushed (is_at (key_cmp q)) es e)
  where
    by : (b : Bool) → is_at (key_cmp q) e.0.now ≡ b → (o : Option ℕ) → old q ≡ o → old q ≡ first (lookup (is_at (key_cmp q)) (map (λ x. (x.0.now, x.1.now)) es)) (cond (is_at (key_cmp q) e.0.now) (Some e.1.now) None)
    by true is None there = absurd (true≢false (sym some ∙ ap is_some (ap old (sym (equal_keys q e.0.now is)) ∙ there)))
    by true is (Some w) there = there ∙ sym (ap (λ o. first o (cond (is_at (key_cmp q) e.0.now) (Some e.1.now) None)) (sym (same q) ∙ there))
    by false is o there = same q ∙ sym (ap (λ b. first (lookup (is_at (key_cmp q)) (map (λ x. (x.0.now, x.1.now)) es)) (cond b (Some e.1.now) None)) is ∙ first-none _)
