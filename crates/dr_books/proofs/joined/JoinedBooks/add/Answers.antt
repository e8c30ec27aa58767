use Rattle.std.proofs.Common.{sym}
use Rattle.dr_books.proofs.Placed.{set-behind}
use Rattle.dr_books.proofs.joined.JoinedBooks.add.Goals as goal

pub returns-in-Second-clause-mine : goal.returns-in-Second-clause-mine
returns-in-Second-clause-mine g c = rw (c.in-Second.is, c.add-in-Second.ensures.mine) (sym (set-behind (g.A.Books.mine c.args.self.now.first) (g.B.Books.mine c.args.self.now.second) _ _ _ (sym (g.met.A.Books.mine_length c.args.self.now.first))))

pub returns-in-Second-clause-floor : goal.returns-in-Second-clause-floor
returns-in-Second-clause-floor g c = rw (c.in-Second.is, c.add-in-Second.ensures.floor) (sym (set-behind (g.A.Books.floor c.args.self.now.first) (g.B.Books.floor c.args.self.now.second) _ _ _ (sym (g.met.A.Books.floor_length c.args.self.now.first))))
