use Rattle.std.proofs.Common.{◌≡◌, ◌∙◌, sym, refl, ap, ◌+◌, ◌-◌, ◌^◌, ◌≤◌, ℕ, List, [], ◌∷◌, length, map, sum, arith}
use Rattle.std.specs.Prelude.{None, min}
use Rattle.std.specs.Vec.Iter.{into_iter_items}
use Rattle.dr_load.specs.Totals.{first_refusal, total}
use Rattle.dr_load.specs.declared.ingested.Ingested.{Ingested}
use Rattle.dr_load.proofs.totals.counts_of.Goals as goal

no-more : {X : Type 0} (xs : List X) → length xs ≡ 0 → xs ≡ []
no-more [] none = refl
no-more (x ∷ xs) none = absurd (omega (arith, none))

-- a count to which nothing is added any more
whole : (n : ℕ) (f : Ingested → ℕ) (files : List Ingested) → files ≡ [] → n ≤ 2 ^ 64 - 1 → min (n + sum (map f files)) (2 ^ 64 - 1) ≡ n
whole n f files none most = rw none (omega (arith, most))

pub returns : goal.returns
returns c =
    let at = c.loop-file in
    let none = c.in-None.ensures.steps in
    let empty : into_iter_items at.file-iterator ≡ [] = no-more _ (sym at.invariant.0 ∙ none.0) in
    let first : first_refusal c.args.told.items ≡ None = sym at.invariant.1 ∙ ap first_refusal empty in
    let u : total (map (λ f. f.tally.unparseable) c.args.told.items) ≡ at.unparseable = sym at.invariant.2 ∙ whole at.unparseable (λ f. f.tally.unparseable) (into_iter_items at.file-iterator) empty at.invariant.4 in
    let t : total (map (λ f. f.tally.thrown_away) c.args.told.items) ≡ at.thrown_away = sym at.invariant.3 ∙ whole at.thrown_away (λ f. f.tally.thrown_away) (into_iter_items at.file-iterator) empty at.invariant.5 in
    rw (first, u, t) refl
