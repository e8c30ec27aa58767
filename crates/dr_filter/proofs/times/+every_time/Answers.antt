use Rattle.std.proofs.Common.{◌≡◌, ◌∙◌, ◌&&◌, sym, refl, ℕ, zero, suc, ℤ, List, [], ◌∷◌, take, drop}
use Rattle.std.proofs.lemmas.Result.{IfOk-weaker}
use Rattle.dr_base.proofs.Truths.{and_regroups}
use Rattle.dr_time.specs.declared.interval.Interval.{Interval}
use Rattle.dr_time.specs.Union.{union_holds}
use Rattle.dr_filter.specs.Times.{every_held, is_held}
use Rattle.dr_filter.proofs.times.+every_time.Goals as goal

-- all of both halves hold a time where all hold it
halves-held : (t : ℤ) (n : ℕ) (us : List (List Interval)) → (every_held t (take n us) && every_held t (drop n us)) ≡ every_held t us
halves-held t zero us = refl
halves-held t (suc n) [] = refl
halves-held t (suc n) (u ∷ us) =
    sym (and_regroups (union_holds u t) (every_held t (take n us)) (every_held t (drop n us))) ∙ (λ k. union_holds u t && halves-held t n us k)

pub returns : goal.returns
returns t c =
    let us = c.args.unions.now in
    IfOk-weaker c.both_of.result _ (λ times. (t : ℤ) → is_held t times ≡ every_held t us)
    (λ times is time. is time ∙ (λ k. c.in_ok-front.ensures time k && c.in_ok-behind.ensures time k)
    ∙ (λ k. every_held time (c.split_at.ensures.front k) && every_held time (c.split_at.ensures.back k))
    ∙ halves-held time _ us)
    c.both_of.ensures
