use Rattle.std.proofs.Common.{◌∙◌, subst, ap, length, drop}
use Rattle.dr_letters.specs.Codes.{Keeps}
use Rattle.dr_letters.specs.Pieces.{asks_each, Gains}
use Rattle.dr_letters.proofs.PieceLemmas.{gains-kept, gains-later, those-behind}
use Rattle.dr_letters.proofs.letter_rows.LetterRows.insert_rest.Goals as goal

pub returns-then-inserts_few-clause-found : goal.returns-then-inserts_few-clause-found
returns-then-inserts_few-clause-found c =
    let texts = c.args.self.now.0 in
    let letters = c.args.letters.now in
    let k = c.keep_first-k.result in
    let set = c.keep_first-k.new.set in
    let after = c.inserts_few.new.found in
    gains-later c.args.spare letters k texts c.args.set.now set c.args.found.now after c.keep_first-k.ensures.kept
    (subst (λ l. Gains (asks_each c.args.spare l) texts set c.args.found.now after) (those-behind letters k) (c.inserts_few.ensures.some c.if-inserts_few.true))

pub returns-clause-found : goal.returns-clause-found
returns-clause-found c =
    let texts = c.args.self.now.0 in
    let letters = c.args.letters.now in
    let k = c.keep_first-k.result in
    let set = c.keep_first-k.new.set in
    let found = c.inserts_few.new.found in
    let same = c.inserts_few.ensures.none c.if-inserts_few.false in
    let keeps = subst (λ l. Keeps (asks_each c.args.spare l) texts set c.keep_each.new.set) (those-behind letters k) c.keep_each.ensures in
    subst (λ b. Gains (asks_each c.args.spare letters) texts c.args.set.now b c.or.new.self) same
    (gains-later c.args.spare letters k texts c.args.set.now set found c.or.new.self c.keep_first-k.ensures.kept
    (gains-kept (asks_each c.args.spare (drop k letters)) texts set c.keep_each.new.set found c.or.new.self (c.keep_first-k.ensures.kept.count ∙ c.requires.set) (ap length same ∙ c.requires.found) keeps c.or.ensures))
