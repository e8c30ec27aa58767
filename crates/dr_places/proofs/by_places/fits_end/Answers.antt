use Rattle.std.proofs.Common.{◌≡◌, ◌∙◌, ap, ◌-◌, length, drop, arith}
use Rattle.std.specs.Str.{chars}
use Rattle.dr_places.specs.Places.{begins}
use Rattle.dr_places.proofs.BeginLemmas.{end-stands, end-short}
use Rattle.dr_places.proofs.by_places.fits_end.Goals as goal

pub returns-then-len-count : goal.returns-then-len-count
returns-then-len-count c =
    end-short (chars c.args.pattern.now) c.args.places.now c.args.from c.requires.lacks (omega (arith, c.if-len-count.true, ap length c.in_ok-put_letters_of.ensures, c.len.ensures, c.count.ensures))

pub returns : goal.returns
returns c =
    let p = chars c.args.pattern.now in
    let text = c.args.places.now in
    let letters = c.as_slice.ensures.value ∙ c.in_ok-put_letters_of.ensures in
    let place : c.count-2.result - c.len-2.result ≡ length text - length p = omega (arith, c.count-2.ensures, c.len-2.ensures, ap length c.in_ok-put_letters_of.ensures) in
    c.stands.ensures.same ∙ ap (λ l. begins l (drop (c.count-2.result - c.len-2.result) text)) letters ∙ ap (λ n. begins p (drop n text)) place
    ∙ end-stands p text c.args.from c.requires.lacks (omega (arith, c.if-len-count.false, ap length c.in_ok-put_letters_of.ensures, c.len.ensures, c.count.ensures, c.requires.from))
