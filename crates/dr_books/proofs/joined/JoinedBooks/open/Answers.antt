use Rattle.std.proofs.lemmas.List.{replicate-append-replicate}
use Rattle.dr_books.proofs.Openings.{both_opened}
use Rattle.dr_books.proofs.joined.JoinedBooks.open.Goals as goal

pub returns-clause-mine : goal.returns-clause-mine
returns-clause-mine g c = rw (c.in_ok-first.ensures.mine, c.in_ok-second.ensures.mine) (replicate-append-replicate g.A.Books.seats g.B.Books.seats 0)

pub returns-clause-floor : goal.returns-clause-floor
returns-clause-floor g c = rw (c.in_ok-first.ensures.floor, c.in_ok-second.ensures.floor) (replicate-append-replicate g.A.Books.seats g.B.Books.seats 0)

pub returns-clause-shares : goal.returns-clause-shares
returns-clause-shares g c = both_opened g.A.Books.seats g.A.Books.place g.A.Books.own_mine g.A.Books.own_floor g.A.Books.is_whole g.B.Books.place g.B.Books.own_mine g.B.Books.own_floor g.B.Books.is_whole g.B.Books.seats c.in_ok-first.shares.items c.in_ok-second.other_shares.items c.in_ok-shares.shares.items c.in_ok-first.ensures.shares c.in_ok-second.ensures.shares c.in_ok-shares.ensures
