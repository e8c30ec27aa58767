use Rattle.std.proofs.Common.{◌==◌, ◌&&◌, not}
use Rattle.dr_letters.specs.Codes.{is_common}
use Rattle.dr_letters.proofs.RareLemmas.{is_other}
use Rattle.dr_letters.proofs.place_letters.PlaceLetters.few_with.Goals as goal

pub returns-in-Some-clause-told : goal.returns-in-Some-clause-told
returns-in-Some-clause-told c = λ codes place.
    let p = c.args.self.now in
    let passes = is_other p.common.items c.args.code (p.rare_own c.args.code c.in-Some.ensures.ranked) c.requires in
    c.in-Some.ensures.told (λ n. not (is_common p.common.items n) && not (n == 0)) codes place.rare passes

pub returns-in-None-clause-told : goal.returns-in-None-clause-told
returns-in-None-clause-told c = λ rare codes place.
    let p = c.args.self.now in
    c.in-None.ensures.told (λ n. not (is_common p.common.items n) && not (n == 0)) codes place.rare (is_other p.common.items c.args.code rare c.requires)
