use Rattle.std.proofs.Common.{refl, subst}
use Rattle.dr_node.specs.Acting.{IsActed}
use Rattle.dr_node.specs.Kept.{Held}
use Rattle.dr_node.proofs.Acts.{kept-acted, alike-acted}
use Rattle.dr_node.proofs.kept.Kept.apply.Goals as goal

pub invariant_of-self : goal.invariant_of-self
invariant_of-self g c =
    let books = c.self.inside.books in
    let old : Held = record { timeline = c.self.inside.timeline; mine = g.B.Books.mine books; floor = g.B.Books.floor books } in
    kept-acted g.B.Books.schema g.B.Books.seats old c.act-answer.new.timeline c.self.invariant c.act-answer.ensures.step c.in_order.ensures.cuts c.in_order.ensures.few c.versions_are_publications.ensures

pub returns : goal.returns
returns g c =
    let books = c.self.inside.books in
    let old : Held = record { timeline = c.self.inside.timeline; mine = g.B.Books.mine books; floor = g.B.Books.floor books } in
    let new : Held = record { timeline = c.act-answer.new.timeline; mine = g.B.Books.mine books; floor = g.B.Books.floor books } in
    subst (λ (h : Held). IsActed g.B.Books.schema g.B.Books.seats (g.T.Act.does c.args.act) c.act-answer.result h new) c.self.view_is (record {
      was_kept = c.self.invariant;
      is_kept = invariant_of-self g c;
      mine = refl;
      floor = refl;
      done = c.act-answer.ensures.does;
      alike = alike-acted old.timeline new.timeline c.answers_over_cuts.ensures c.act-answer.ensures.step c.self.invariant.cuts c.in_order.ensures.cuts;
    })
