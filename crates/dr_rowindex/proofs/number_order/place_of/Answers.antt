use Rattle.std.proofs.Common.{rules, ◌≡◌, pos, int_lt, get_or, arith}
use Rattle.std.proofs.lemmas.Fn.{always_returns_same}
use Rattle.dr_rowindex.proofs.NumberLemmas.{numbers-parted}
use Rattle.dr_rowindex.proofs.number_order.place_of.Goals as goal

pub returns-clause-before : goal.returns-clause-before
returns-clause-before c j r lt =
    let numbers = c.args.numbers.now in
    let number = c.args.number in
    let parts = c.partition_point.ensures.partitioned (λ r. int_lt (get_or numbers r (pos 0)) number) (always_returns_same _ (λ a r. r ≡ int_lt (get_or numbers a.0.now (pos 0)) number) _ (λ a r f called. search rules)) in
    (parts (numbers-parted numbers c.args.rows.now number c.requires)).0 j r (omega arith) lt

pub returns-clause-behind : goal.returns-clause-behind
returns-clause-behind c j r le lt =
    let numbers = c.args.numbers.now in
    let number = c.args.number in
    let parts = c.partition_point.ensures.partitioned (λ r. int_lt (get_or numbers r (pos 0)) number) (always_returns_same _ (λ a r. r ≡ int_lt (get_or numbers a.0.now (pos 0)) number) _ (λ a r f called. search rules)) in
    (parts (numbers-parted numbers c.args.rows.now number c.requires)).1 j r le lt
