use Rattle.std.proofs.Common.{sym, subst, get_or}
use Rattle.dr_letters.specs.Pieces.{asks_each, Gains}
use Rattle.dr_letters.proofs.PieceLemmas.{asks-longer, gains-later, gains-none, those-behind}
use Rattle.dr_letters.proofs.letter_rows.LetterRows.insert_asked.Goals as goal

-- where no text has one of those that are looked at first
pub returns-then-not-may_have_each-clause-found : goal.returns-then-not-may_have_each-clause-found
returns-then-not-may_have_each-clause-found c =
    let texts = c.args.self.now.0 in
    let letters = c.args.letters.now in
    let asked = asks_each c.args.spare letters in
    subst (Gains asked texts c.args.behind.now c.args.found.now) (sym (c.inserts_few.ensures.none c.if-inserts_few.false))
    (gains-none asked texts c.args.behind.now c.args.found.now (λ i t lt. asks-longer c.args.spare letters c.min-some.result (get_or texts i t) (c.may_have_each.ensures c.if-not-may_have_each.true i t lt)))

pub returns-clause-found : goal.returns-clause-found
returns-clause-found c =
    let texts = c.args.self.now.0 in
    let letters = c.args.letters.now in
    let k = c.put_first-k.result in
    let set = c.put_first-k.new.set in
    let found = c.inserts_few.new.found in
    let after = c.insert_more.new.found in
    subst (λ b. Gains (asks_each c.args.spare letters) texts c.args.behind.now b after) (c.inserts_few.ensures.none c.if-inserts_few.false)
    (gains-later c.args.spare letters k texts c.args.behind.now set found after c.put_first-k.ensures.kept
    (subst (λ l. Gains (asks_each c.args.spare l) texts set found after) (those-behind letters k) c.insert_more.ensures.found))
