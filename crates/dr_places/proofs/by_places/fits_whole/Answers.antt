use Rattle.std.proofs.Common.{◌∙◌, ap, length, arith}
use Rattle.std.specs.Str.{chars}
use Rattle.dr_places.specs.Places.{begins}
use Rattle.dr_places.proofs.BeginLemmas.{whole-stands, whole-misses}
use Rattle.dr_places.proofs.by_places.fits_whole.Goals as goal

pub returns-then-len-count : goal.returns-then-len-count
returns-then-len-count c =
    whole-misses (chars c.args.pattern.now) c.args.places.now c.requires.lacks
    (λ same. omega (arith, same, c.if-len-count.true, ap length c.in_ok-put_letters_of.ensures, c.len.ensures, c.count.ensures))

pub returns : goal.returns
returns c =
    let text = c.args.places.now in
    let letters = c.as_slice.ensures.value ∙ c.in_ok-put_letters_of.ensures in
    c.stands.ensures.same ∙ ap (λ l. begins l text) letters
    ∙ whole-stands (chars c.args.pattern.now) text c.requires.lacks (omega (arith, c.if-len-count.false, ap length c.in_ok-put_letters_of.ensures, c.len.ensures, c.count.ensures))
