use Rattle.std.proofs.Common.{rules, ◌≡◌, IfOk}
use Rattle.std.specs.Str.{chars}
use Rattle.std.proofs.lemmas.Str.{chars_from_encodes}
use Rattle.dr_places.proofs.LetterLemmas.{characters-of}
use Rattle.dr_places.proofs.letters.letters_of.Goals as goal

pub returns-clause-letters : goal.returns-clause-letters
returns-clause-letters c = search (rules, chars_from_encodes)

pub returns-clause-characters : goal.returns-clause-characters
returns-clause-characters c =
    let items : IfOk c.collect.result (λ v. v.items ≡ chars c.args.text.now) = search (rules, chars_from_encodes) in
    characters-of c.args.text.now c.collect.result c.utf8.text items
