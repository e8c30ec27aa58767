use Rattle.std.proofs.Common.{rules}
use Rattle.std.proofs.lemmas.List.{take_rest}
use Rattle.dr_requests.proofs.WordLemmas.{split_first, split_none}
use Rattle.dr_requests.proofs.words.split_word.Goals as goal

pub returns-in-Some : goal.returns-in-Some
returns-in-Some c =
    let found = split_first c.args.text.now c.in-Some.i (search rules) (search rules) (search rules) in
    record { word = rw found; rest = rw (found, take_rest) }

pub returns-in-None : goal.returns-in-None
returns-in-None c =
    let none = split_none c.args.text.now (search rules) in
    record { word = rw none; rest = rw none }
