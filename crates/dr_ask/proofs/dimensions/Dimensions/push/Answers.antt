use Rattle.std.proofs.Common.{◌≡◌, ◌∙◌, sym, ap, map, [], ◌∷◌, ◌++◌}
use Rattle.dr_ask.specs.Firsts.{number_in, with_new, firsts, is_same_dimension}
use Rattle.dr_ask.proofs.Firsts.{firsts-push, numbers-push, dimension-itself}
use Rattle.dr_ask.proofs.dimensions.Dimensions.push.Goals as goal

pub invariant_of-self-2 : goal.invariant_of-self-2
invariant_of-self-2 c =
    let xs = c.self.inside.all.items in
    let found = c.self.inside.distinct.items in
    let x = c.args.dimension in
    let are : found ≡ firsts is_same_dimension xs = c.self.invariant.0 in
    let one = firsts-push is_same_dimension xs x in
    let each = numbers-push is_same_dimension dimension-itself xs x in
    let next : with_new is_same_dimension found x ≡ firsts is_same_dimension (xs ++ x ∷ []) = ap (λ f. with_new is_same_dimension f x) are ∙ sym one in
    rw (c.push-2.ensures.items, c.unwrap-2.ensures, c.in_ok-reserve.ensures.items, c.push.ensures.items, c.unwrap.ensures, c.in_ok-reserve-2.ensures.items, c.in_ok-number.ensures.ok, c.in_ok-number.ensures.number) (
      next,
      ap (λ l. l ++ number_in is_same_dimension found x ∷ []) c.self.invariant.1
          ∙ ap (λ f. map (number_in is_same_dimension f) xs ++ number_in is_same_dimension f x ∷ []) are
          ∙ sym each
          ∙ ap (λ f. map (number_in is_same_dimension f) (xs ++ x ∷ [])) (sym next),
    )
