use Rattle.std.proofs.Common.{ap, sym, subst, length, map, drop, ◌<◌, ◌-◌, ◌==◌, ◌+◌, arith}
use Rattle.std.specs.Str.{chars}
use Rattle.dr_letters.specs.Codes.{code_at}
use Rattle.dr_letters.specs.Pieces.{MeetsTwo, asks}
use Rattle.dr_letters.specs.Places.{IsPlace}
use Rattle.dr_letters.proofs.RowLemmas.{meets-mapped, same_code}
use Rattle.dr_letters.proofs.letter_rows.LetterRows.pair_at.Goals as goal

pub returns : goal.returns
returns c =
    let texts = c.self.inside.texts in
    let k = c.args.asked.now.place - c.args.spare in
    let letter = c.args.asked.now.letter in
    let codes = map (λ t. code_at k (chars t)) texts in
    let lt : k < length c.self.inside.places.items = omega (arith, c.requires.0, c.requires.1, ap (λ v. v.1) c.self.view_is) in
    let place = subst (IsPlace codes) (sym c.index.ensures) (c.self.invariant.0 k c.index.result.now lt) in
    let r = c.in_ok-sets.sets in
    let own = subst (λ m. MeetsTwo (λ n. n == m) codes r.0.now r.1.now) (ap (λ m. m + 1) c.from.ensures) (c.in_ok-sets.ensures codes place) in
    let meets = meets-mapped (λ n. n == letter + 1) (λ t. code_at k (chars t)) (asks c.args.spare c.args.asked.now) texts r.0.now r.1.now (λ t. same_code letter (drop k (chars t)) c.if-asked-eq95.false) own in
    rw (sym c.self.view_is) meets
