use Rattle.std.proofs.Common.{rules, FitsSigned, to_z, of_z, ◌≡◌, ◌∙◌, ◌&&◌, ◌∷◌, [], ◌+◌, ◌<◌, ◌≤◌, length, not, true, ℤ, Bool, Some, None, sym, ap, subst, drop, get_or, pos}
use Rattle.std.specs.Int.{w128}
use Rattle.std.proofs.lemmas.Int.{to_z-of_z}
use Rattle.std.proofs.lemmas.List.{drop_more, drop_all}
use Rattle.dr_rowindex.specs.Orders.{Adds, reached, lies_between}
use Rattle.dr_rowindex.proofs.AddLemmas.{adds-both}
use Rattle.dr_having.specs.Steps.{Steps, is_among, turned_by}
use Rattle.dr_having.proofs.StepLemmas.{IsBelow, next-below, next-added, next-turned, last-added}
use Rattle.dr_having.proofs.number_steps.NumberSteps.insert_among.Goals as goal

pub loop-cut-preserved : goal.loop-cut-preserved
loop-cut-preserved c =
    let steps = c.args.self.now in
    let k = c.loop-cut.cut-index in
    let from = c.loop-cut.from in
    let within = c.loop-cut.within in
    let among : ℤ → Bool = λ n. is_among steps n in
    let same : c.as_slice-cut-items.result.now ≡ steps.cuts = c.as_slice-cut-items.ensures.value ∙ ap (λ (s : Steps). s.cuts) c.self.view_is in
    let seen = get_or c.as_slice-cut-items.result.now k (pos 0) in
    let fits : FitsSigned w128 seen = search rules in
    let cut : ℤ = to_z w128 (of_z w128 seen) in
    let left = drop_more steps.cuts k (pos 0) (subst (λ cs. k < length cs) same c.loop-cut-test.true) ∙ ap (λ d. d ∷ drop (k + 1) steps.cuts) (sym (to_z-of_z w128 seen fits ∙ ap (λ cs. get_or cs k (pos 0)) same)) in
    let below = subst (IsBelow from) left c.loop-cut.invariant.1.1 in
    let is : (n : ℤ) → reached from n ≡ true → turned_by within (cut ∷ drop (k + 1) steps.cuts) n ≡ among n = λ n h. ap (λ cs. turned_by within cs n) (sym left) ∙ c.loop-cut.invariant.1.0 n h in
    let added : Adds (λ n. within && lies_between from (Some cut) n) c.args.order.now c.loop-cut.set c.insert_where.new.set = c.insert_where.ensures in (
      adds-both c.args.order.now (λ n. not (reached from n) && among n) (λ n. within && lies_between from (Some cut) n) (λ n. not (reached (Some cut) n) && among n)
          c.args.set.now c.loop-cut.set c.insert_where.new.set c.loop-cut.invariant.0 added (next-added from within cut (drop (k + 1) steps.cuts) among below is),
      (next-turned from within cut (drop (k + 1) steps.cuts) among below is, next-below from cut (drop (k + 1) steps.cuts) below),
    )

pub returns : goal.returns
returns c =
    let steps = c.args.self.now in
    let k = c.loop-cut.cut-index in
    let from = c.loop-cut.from in
    let within = c.loop-cut.within in
    let among : ℤ → Bool = λ n. is_among steps n in
    let same : c.as_slice-cut-items.result.now ≡ steps.cuts = c.as_slice-cut-items.ensures.value ∙ ap (λ (s : Steps). s.cuts) c.self.view_is in
    let none = drop_all k steps.cuts (subst (λ cs. length cs ≤ k) same c.loop-cut-test.false) in
    let is : (n : ℤ) → reached from n ≡ true → turned_by within [] n ≡ among n = λ n h. ap (λ cs. turned_by within cs n) (sym none) ∙ c.loop-cut.invariant.1.0 n h in
    let added : Adds (λ n. within && lies_between from None n) c.args.order.now c.loop-cut.set c.insert_where-2.new.set = c.insert_where-2.ensures in
    adds-both c.args.order.now (λ n. not (reached from n) && among n) (λ n. within && lies_between from None n) among
    c.args.set.now c.loop-cut.set c.insert_where-2.new.set c.loop-cut.invariant.0 added (last-added from within among is)
