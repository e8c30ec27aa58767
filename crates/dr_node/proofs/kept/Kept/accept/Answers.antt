use Rattle.std.proofs.Common.{◌≡◌, ◌∙◌, ap, ◌<◌, ◌≤◌, ◌+◌, ◌-◌, ◌++◌, ◌∷◌, [], length, arith, subst, length-append}
use Rattle.std.proofs.lemmas.Option.{slice_get_within}
use Rattle.dr_cuts.specs.State.{State}
use Rattle.dr_timeline.specs.declared.stats.Stats.{Stats}
use Rattle.dr_node.specs.Kept.{Held, IsKept}
use Rattle.dr_node.proofs.Keeping.{kept-seen, kept-accepted, accepted-stream}
use Rattle.dr_node.proofs.kept.Kept.accept.Goals as goal

pub invariant_of-self-2 : goal.invariant_of-self-2
invariant_of-self-2 g c =
    let t = c.self.inside.timeline in
    let books = c.self.inside.books in
    let p = g.B.Books.place c.args.share.now in
    let f = g.B.Books.own_floor c.args.share.now in
    let h : Held = record { timeline = t; mine = g.B.Books.mine books; floor = g.B.Books.floor books } in
    let at-most : f + 0 ≤ length t.stream = let l = c.self.invariant.floor p f c.add.ensures.floor_was in omega arith in
    let k0 = kept-seen g.B.Books.schema g.B.Books.seats h p (g.B.Books.own_mine c.args.share.now) f 0 c.self.invariant c.add.ensures.mine_was c.add.ensures.floor_was at-most in
    let k1 : IsKept g.B.Books.schema g.B.Books.seats (record { timeline = t; mine = g.B.Books.mine c.add.new.self; floor = g.B.Books.floor c.add.new.self }) = rw (c.add.ensures.mine, c.add.ensures.floor) k0 in
    let q = g.B.Books.place c.add.new.share in
    let m1 = g.B.Books.own_mine c.add.new.share in
    let f1 = g.B.Books.own_floor c.add.new.share in
    let there = slice_get_within (g.B.Books.mine c.add.new.self) q m1 c.add-2.ensures.mine_was in
    let within : q < g.B.Books.seats = subst (λ n. q < n) ((g.met.B.Books g.world.𝓛 g.world.𝓜 g.world.𝓡 ((λ s x. x), (λ x. x), (λ x. x), λ x. x)).mine_length c.add.new.self) there in
    let t1 = c.accept_shared.new.self in
    let stream : t1.stream ≡ t.stream ++ c.args.event ∷ [] = ap (λ (s : State). s.stream) c.in_ok-accept_shared.ensures.ok ∙ accepted-stream t c.args.event in
    let long : length t1.stream ≡ length t.stream + 1 = ap length stream ∙ length-append t.stream (c.args.event ∷ []) in
    let count : c.stats-count.result.processed ≡ length t1.stream = ap (λ (s : Stats). s.processed) c.stats-count.ensures in
    let floor = c.requires.floor in
    let same = c.add.ensures.own_floor in
    let most : f1 + (c.stats-count.result.processed - c.args.floor) ≤ length t.stream + 1 = omega arith in
    let k2 = kept-accepted g.B.Books.schema g.B.Books.seats (record { timeline = t; mine = g.B.Books.mine c.add.new.self; floor = g.B.Books.floor c.add.new.self }) t1 c.args.event q m1 f1 (c.stats-count.result.processed - c.args.floor) k1 c.add-2.ensures.mine_was c.add-2.ensures.floor_was c.in_ok-accept_shared.ensures.ok c.in_order.ensures.cuts c.in_order.ensures.few c.versions_are_publications.ensures (c.add.ensures.place ∙ c.requires.place) within most in
    rw (c.add-2.ensures.mine, c.add-2.ensures.floor) k2

pub overflow_sub-count : goal.overflow_sub-count
overflow_sub-count g c =
    let t = c.self.inside.timeline in
    let l = c.self.invariant.floor (g.B.Books.place c.args.share.now) (g.B.Books.own_floor c.args.share.now) c.add.ensures.floor_was in
    let t1 = c.accept_shared.new.self in
    let stream : t1.stream ≡ t.stream ++ c.args.event ∷ [] = ap (λ (s : State). s.stream) c.in_ok-accept_shared.ensures.ok ∙ accepted-stream t c.args.event in
    let long : length t1.stream ≡ length t.stream + 1 = ap length stream ∙ length-append t.stream (c.args.event ∷ []) in
    let count : c.stats-count.result.processed ≡ length t1.stream = ap (λ (s : Stats). s.processed) c.stats-count.ensures in
    let floor = c.requires.floor in
    omega arith

pub returns-clause-more : goal.returns-clause-more
returns-clause-more g c =
    let t = c.self.inside.timeline in
    let l = c.self.invariant.floor (g.B.Books.place c.args.share.now) (g.B.Books.own_floor c.args.share.now) c.add.ensures.floor_was in
    let t1 = c.accept_shared.new.self in
    let stream : t1.stream ≡ t.stream ++ c.args.event ∷ [] = ap (λ (s : State). s.stream) c.in_ok-accept_shared.ensures.ok ∙ accepted-stream t c.args.event in
    let long : length t1.stream ≡ length t.stream + 1 = ap length stream ∙ length-append t.stream (c.args.event ∷ []) in
    let count : c.stats-count.result.processed ≡ length t1.stream = ap (λ (s : Stats). s.processed) c.stats-count.ensures in
    let floor = c.requires.floor in
    omega arith

pub returns-clause-seen : goal.returns-clause-seen
returns-clause-seen g c =
    let most : c.args.floor < c.stats-count.result.processed = returns-clause-more g c in
    let floor = c.requires.floor in
    let one = c.add.ensures.own_floor in
    let two = c.add-2.ensures.own_floor in
    omega arith

pub invariant_of-self : goal.invariant_of-self
invariant_of-self g c =
    let t = c.self.inside.timeline in
    let books = c.self.inside.books in
    let p = g.B.Books.place c.args.share.now in
    let f = g.B.Books.own_floor c.args.share.now in
    let h : Held = record { timeline = t; mine = g.B.Books.mine books; floor = g.B.Books.floor books } in
    let at-most : f + 0 ≤ length t.stream = let l = c.self.invariant.floor p f c.add.ensures.floor_was in omega arith in
    let k0 = kept-seen g.B.Books.schema g.B.Books.seats h p (g.B.Books.own_mine c.args.share.now) f 0 c.self.invariant c.add.ensures.mine_was c.add.ensures.floor_was at-most in
    rw (c.in_err-accept_shared.ensures.err, c.add.ensures.mine, c.add.ensures.floor) k0
