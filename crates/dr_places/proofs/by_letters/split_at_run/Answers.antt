use Rattle.std.proofs.Common.{◌≡◌, ◌≢◌, ◌∙◌, subst, ℕ, zero, suc, ◌+◌, ◌<◌, ◌==◌, false, List, [], ◌∷◌, length, get_or, take, arith}
use Rattle.std.proofs.lemmas.Bool.Decides.{nat_tests}
use Rattle.std.proofs.lemmas.List.{get_or_default}
use Rattle.dr_like.specs.Letters.{Lacks}
use Rattle.dr_places.proofs.by_letters.split_at_run.Goals as goal

one-other : (c : ℕ) → c ≢ 37 → (c == 37) ≡ false
one-other c other = grind (arith, nat_tests, other)

-- one letter more that is no run
lacks-more : (k : ℕ) (cs : List ℕ) → k < length cs → (get_or cs k 0 == 37) ≡ false → Lacks 37 (take k cs) → Lacks 37 (take (suc k) cs)
lacks-more k [] lt other lacks = absurd (omega (arith, lt))
lacks-more zero (c ∷ cs) lt other lacks = (other, lacks)
lacks-more (suc k) (c ∷ cs) lt other lacks = (lacks.0, lacks-more k cs (omega (arith, lt)) other lacks.1)

pub loop-k-preserved : goal.loop-k-preserved
loop-k-preserved c =
    let pattern = c.args.pattern.now in
    let k = c.loop-k.k in
    let next : suc k ≡ k + 1 = omega arith in
    let lt : k < length pattern = omega (arith, c.loop-k-test.true, c.loop-k.auto.k-end) in
    let letter = c.index-pattern-k.is ∙ get_or_default pattern k c.index-pattern-k.result 0 lt in
    subst (λ n. Lacks 37 (take n pattern)) next (lacks-more k pattern lt (one-other (get_or pattern k 0) (λ is. c.if-pattern-k-eq37.false (letter ∙ is))) c.loop-k.invariant)
