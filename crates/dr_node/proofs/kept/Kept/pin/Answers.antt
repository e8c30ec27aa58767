use Rattle.std.proofs.Common.{◌≡◌, ◌∙◌, ap, ◌≤◌, ◌+◌, ◌-◌, List, length, arith}
use Rattle.dr_base.specs.declared.event.Event.{Event}
use Rattle.dr_cuts.specs.Segments.{Pinned}
use Rattle.dr_node.specs.Seats.{marked}
use Rattle.dr_node.specs.Kept.{Held, IsKept}
use Rattle.dr_node.proofs.Keeping.{kept-seen}
use Rattle.dr_node.proofs.kept.Kept.pin.Goals as goal

pub returns-clause-floor : goal.returns-clause-floor
returns-clause-floor g c =
    let es : c.in_ok-snapshot.snapshot.stream ≡ c.self.inside.timeline.stream = ap (λ (s : Pinned). s.stream) c.in_ok-snapshot.ensures.pinned in
    let l = c.self.invariant.floor (g.B.Books.place c.args.share.now) (g.B.Books.own_floor c.args.share.now) c.add.ensures.floor_was in
    let floor = c.requires.floor in
    rw es (omega arith)

pub overflow_sub-count : goal.overflow_sub-count
overflow_sub-count g c =
    let es : c.in_ok-snapshot.snapshot.stream ≡ c.self.inside.timeline.stream = ap (λ (s : Pinned). s.stream) c.in_ok-snapshot.ensures.pinned in
    let l = c.self.invariant.floor (g.B.Books.place c.args.share.now) (g.B.Books.own_floor c.args.share.now) c.add.ensures.floor_was in
    let floor = c.requires.floor in
    let count : c.event_count-count.result ≡ length c.self.inside.timeline.stream = c.event_count-count.ensures ∙ ap length es in
    omega arith

pub returns-clause-own : goal.returns-clause-own
returns-clause-own g c =
    let es : c.in_ok-snapshot.snapshot.stream ≡ c.self.inside.timeline.stream = ap (λ (s : Pinned). s.stream) c.in_ok-snapshot.ensures.pinned in
    let p = g.B.Books.place c.args.share.now in
    ap (λ (xs : List Event). length (marked p xs)) es ∙ c.self.invariant.mine p (g.B.Books.own_mine c.args.share.now) c.add.ensures.mine_was

pub returns-clause-seen : goal.returns-clause-seen
returns-clause-seen g c =
    let floor = c.requires.floor in
    let one = c.add.ensures.own_floor in
    let two = c.add-2.ensures.own_floor in
    let count = c.event_count-count.ensures in
    let most = returns-clause-floor g c in
    omega arith

pub invariant_of-self-2 : goal.invariant_of-self-2
invariant_of-self-2 g c =
    let t = c.self.inside.timeline in
    let books = c.self.inside.books in
    let p = g.B.Books.place c.args.share.now in
    let f = g.B.Books.own_floor c.args.share.now in
    let l = c.self.invariant.floor p f c.add.ensures.floor_was in
    let h : Held = record { timeline = t; mine = g.B.Books.mine books; floor = g.B.Books.floor books } in
    let k0 = kept-seen g.B.Books.schema g.B.Books.seats h p (g.B.Books.own_mine c.args.share.now) f 0 c.self.invariant c.add.ensures.mine_was c.add.ensures.floor_was (omega arith) in
    let k1 : IsKept g.B.Books.schema g.B.Books.seats (record { timeline = t; mine = g.B.Books.mine c.add.new.self; floor = g.B.Books.floor c.add.new.self }) = rw (c.add.ensures.mine, c.add.ensures.floor) k0 in
    let q = g.B.Books.place c.add.new.share in
    let f1 = g.B.Books.own_floor c.add.new.share in
    let es : c.in_ok-snapshot.snapshot.stream ≡ t.stream = ap (λ (s : Pinned). s.stream) c.in_ok-snapshot.ensures.pinned in
    let count : c.event_count-count.result ≡ length t.stream = c.event_count-count.ensures ∙ ap length es in
    let floor = c.requires.floor in
    let same = c.add.ensures.own_floor in
    let most : f1 + (c.event_count-count.result - c.args.floor) ≤ length t.stream = omega arith in
    let k2 = kept-seen g.B.Books.schema g.B.Books.seats (record { timeline = t; mine = g.B.Books.mine c.add.new.self; floor = g.B.Books.floor c.add.new.self }) q (g.B.Books.own_mine c.add.new.share) f1 (c.event_count-count.result - c.args.floor) k1 c.add-2.ensures.mine_was c.add-2.ensures.floor_was most in
    rw (c.in_ok-snapshot.ensures.same, c.add-2.ensures.mine, c.add-2.ensures.floor) k2

pub invariant_of-self : goal.invariant_of-self
invariant_of-self g c =
    let t = c.self.inside.timeline in
    let books = c.self.inside.books in
    let p = g.B.Books.place c.args.share.now in
    let f = g.B.Books.own_floor c.args.share.now in
    let l = c.self.invariant.floor p f c.add.ensures.floor_was in
    let h : Held = record { timeline = t; mine = g.B.Books.mine books; floor = g.B.Books.floor books } in
    let k0 = kept-seen g.B.Books.schema g.B.Books.seats h p (g.B.Books.own_mine c.args.share.now) f 0 c.self.invariant c.add.ensures.mine_was c.add.ensures.floor_was (omega arith) in
    rw (c.in_err-snapshot.ensures.same, c.add.ensures.mine, c.add.ensures.floor) k0
