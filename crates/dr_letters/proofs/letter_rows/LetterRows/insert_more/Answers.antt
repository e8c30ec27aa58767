use Rattle.std.proofs.Common.{subst, drop, get_or, ◌≡◌, false}
use Rattle.dr_letters.specs.Pieces.{asks_each, Gains}
use Rattle.dr_letters.proofs.PieceLemmas.{gains-behind-none, gains-later, gains-none, those-behind}
use Rattle.dr_letters.proofs.letter_rows.LetterRows.insert_more.Goals as goal
use Rattle.dr_letters.proofs.letter_rows.LetterRows.insert_more.Goals.{then-has_none-via-then-has_none, then-has_none-via-else-has_none+then-not-may_go_on}

-- where no text is left, and where none has the others
pub returns-then-has_none-clause-found : goal.returns-then-has_none-clause-found
returns-then-has_none-clause-found c =
    let texts = c.args.self.now.0 in
    let letters = c.args.letters.now in
    let k = c.keep_first-k.result in
    let set = c.keep_first-k.new.set in
    let found = c.args.found.now in
    gains-later c.args.spare letters k texts c.args.set.now set found found c.keep_first-k.ensures.kept
    (elim c.then-has_none.branch [
      | then-has_none-via-then-has_none w ↦ gains-behind-none (asks_each c.args.spare (drop k letters)) texts set found (c.has_none.ensures w.if-has_none.true)
      | then-has_none-via-else-has_none+then-not-may_go_on w ↦ gains-none (asks_each c.args.spare (drop k letters)) texts set found
          (λ i t lt. subst (λ l. asks_each c.args.spare l (get_or texts i t) ≡ false) (those-behind letters k) (w.may_go_on.ensures w.if-not-may_go_on.true i t lt))
    ])

pub returns-clause-found : goal.returns-clause-found
returns-clause-found c =
    let texts = c.args.self.now.0 in
    let letters = c.args.letters.now in
    let k = c.keep_first-k.result in
    let set = c.keep_first-k.new.set in
    let after = c.insert_rest.new.found in
    gains-later c.args.spare letters k texts c.args.set.now set c.args.found.now after c.keep_first-k.ensures.kept
    (subst (λ l. Gains (asks_each c.args.spare l) texts set c.args.found.now after) (those-behind letters k) c.insert_rest.ensures.found)

-- where fewer texts are left than letters, each is asked by itself
pub returns-then-are_at_most-clause-found : goal.returns-then-are_at_most-clause-found
returns-then-are_at_most-clause-found c =
    let texts = c.args.self.now.0 in
    let letters = c.args.letters.now in
    let k = c.keep_first-k.result in
    let set = c.keep_first-k.new.set in
    let after = c.insert_each.new.found in
    gains-later c.args.spare letters k texts c.args.set.now set c.args.found.now after c.keep_first-k.ensures.kept
    (subst (λ l. Gains (asks_each c.args.spare l) texts set c.args.found.now after) (those-behind letters k) c.insert_each.ensures)
